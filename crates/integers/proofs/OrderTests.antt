-- What the answers of `<` and `<=` on whole numbers say.
use Rattle.std.specs.Cmp.{int_ranks}
use Rattle.std.specs.Ordering.{MatchOrdering, int_cmp, is_lt, is_le}
use Rattle.std.proofs.lemmas.Int.{ints}
use Rattle.std.proofs.Common.{◌≡◌, ◌↔◌, true, false, int_lt, Decides, ℤ, ◌≤ℤ◌, ◌<ℤ◌, Ordering, Less, Equal, Greater, arith}

-- ---- as Bool

-- the test of order of two numbers
pub int_lt-Decides : (a b : ℤ) → Decides (int_lt a b) (a <ℤ b)
int_lt-Decides a b = (λ e. omega (arith, ints), λ h. grind (arith, ints))

-- the test fails exactly where the order is the other one
pub int_lt-false : (a b : ℤ) → (int_lt a b ≡ false) ↔ (b ≤ℤ a)
int_lt-false a b = (λ e. omega (arith, ints), λ h. grind (arith, ints))

-- ---- as an order

-- where `<` is true
pub is_lt-true : (x y : ℤ) → is_lt (int_cmp x y) ≡ true → x <ℤ y
is_lt-true x y = step (int_cmp x y) (int_ranks x y)
  where
    step : (o : Ordering) → MatchOrdering o (x <ℤ y) (x ≡ y) (y <ℤ x) → is_lt o ≡ true → x <ℤ y
    step Less r e = r
    step Equal r e = absurd (cc e)
    step Greater r e = absurd (cc e)

-- where `<` is false
pub is_lt-false : (x y : ℤ) → is_lt (int_cmp x y) ≡ false → y ≤ℤ x
is_lt-false x y = step (int_cmp x y) (int_ranks x y)
  where
    step : (o : Ordering) → MatchOrdering o (x <ℤ y) (x ≡ y) (y <ℤ x) → is_lt o ≡ false → y ≤ℤ x
    step Less r e = absurd (cc e)
    step Equal r e = omega (arith, ints)
    step Greater r e = omega (arith, ints)

-- where `<=` is true
pub is_le-true : (x y : ℤ) → is_le (int_cmp x y) ≡ true → x ≤ℤ y
is_le-true x y = step (int_cmp x y) (int_ranks x y)
  where
    step : (o : Ordering) → MatchOrdering o (x <ℤ y) (x ≡ y) (y <ℤ x) → is_le o ≡ true → x ≤ℤ y
    step Less r e = omega (arith, ints)
    step Equal r e = omega (arith, ints)
    step Greater r e = absurd (cc e)

-- where `<=` is false
pub is_le-false : (x y : ℤ) → is_le (int_cmp x y) ≡ false → y <ℤ x
is_le-false x y = step (int_cmp x y) (int_ranks x y)
  where
    step : (o : Ordering) → MatchOrdering o (x <ℤ y) (x ≡ y) (y <ℤ x) → is_le o ≡ false → y <ℤ x
    step Less r e = absurd (cc e)
    step Equal r e = absurd (cc e)
    step Greater r e = r
