-- The greatest common divisor of a list, found number by number.
use Prim.Native.Nat.{◌∣◌}
use Rattle.std.specs.Int.{IsGcd}
use Rattle.std.proofs.lemmas.Nat.Gcd.{dvd_trans}
use Rattle.std.proofs.Common.{◌≡◌, ◌↔◌, ℕ, ◌+◌, ◌<◌, ◌≤◌, length, get_or, drop, List, ℤ, pos, unsigned_abs, sym, subst, ◌∙◌}
use Rattle.std.proofs.lemmas.List.{drop_all, get_or_default}
use Rattle.integers.specs.Divisibility.{DividesAll, IsGcdOfAll}
use Rattle.integers.proofs.Divisibility.{DividesAll-nil, DividesAll-one, DividesAll-drop_more, IsGcdOfAll-divisors}

-- the common divisors of the list, once its numbers before the place i have the divisor g
pub record HasSoFar (xs : List ℤ) (i g : ℕ) : Type 0 where
  pub divisors : (d : ℕ) → DividesAll d xs ↔ (d ∣ g) × DividesAll d (drop i xs)

-- one number more
pub HasSoFar-next : (xs : List ℤ) (i : ℕ) (x g h : ℤ) → i < length xs → x ≡ get_or xs i x → IsGcd (unsigned_abs g) (unsigned_abs x) (unsigned_abs h)
    → HasSoFar xs i (unsigned_abs g) → HasSoFar xs (i + 1) (unsigned_abs h)
HasSoFar-next xs i x g h below read gcd has = record { divisors = λ d. (to d, from d) }
  where
    is : x ≡ get_or xs i (pos 0)
    is = read ∙ get_or_default xs i x (pos 0) below

    to : (d : ℕ) → DividesAll d xs → (d ∣ unsigned_abs h) × DividesAll d (drop (i + 1) xs)
    to d all =
        let both = (has.divisors d).0 all in
        let more = (DividesAll-drop_more d i xs below).0 both.1 in
        (gcd.2 d both.0 (subst (λ z. d ∣ unsigned_abs z) (sym is) more.0), more.1)

    from : (d : ℕ) → (d ∣ unsigned_abs h) × DividesAll d (drop (i + 1) xs) → DividesAll d xs
    from d p =
        (has.divisors d).1 (dvd_trans d p.0 gcd.0, (DividesAll-drop_more d i xs below).1 (subst (λ z. d ∣ unsigned_abs z) is (dvd_trans d p.0 gcd.1), p.1))

-- at the list's end the divisor is that of all
pub HasSoFar-all : (xs : List ℤ) (i g : ℕ) → length xs ≤ i → HasSoFar xs i g → IsGcdOfAll xs g
HasSoFar-all xs i g end has =
    (IsGcdOfAll-divisors xs g).1 (λ d. (
      λ all. ((has.divisors d).0 all).0,
      λ p. (has.divisors d).1
          (p, subst (DividesAll d) (sym (drop_all i xs end)) (DividesAll-nil d)),
    ))

-- the divisor 1 is final
pub HasSoFar-one : (xs : List ℤ) (i g : ℕ) → g ≡ 1 → HasSoFar xs i g → IsGcdOfAll xs g
HasSoFar-one xs i g e has = (subst (λ n. DividesAll n xs) (sym e) (DividesAll-one xs), λ d all. ((has.divisors d).0 all).0)
