-- A fraction has one nearest whole number.
use Rattle.std.proofs.Common.{◌≡◌, ℕ, zero, suc, ◌+◌, ◌*◌, ◌<◌, ◌≤◌, refl, subst, ap, sym, ◌∙◌, arith, ℤ, pos, negsuc, neg_ℤ, ◌+ℤ◌, ◌-ℤ◌, ◌*ℤ◌, ◌<ℤ◌, ◌≤ℤ◌, unsigned_abs, ◌⊎◌, inl, inr}
use Rattle.std.proofs.lemmas.Int.{ints, unsigned_abs-mul}
use Rattle.integers.specs.Fraction.{Fraction}
use Rattle.integers.proofs.Divisibility.{pos-unsigned_abs}
use Rattle.integers.proofs.Laws.{lin}
use Rattle.integers.proofs.Order.{cancel_eq, mul_le, lt_cases, le_of_lt}
use Rattle.integers.proofs.Ring.{con, neg, ◌⊕◌, ◌⊖◌, ◌⊗◌, ◌≗◌, ring2}
use Rattle.frac128.specs.Decimal.{IsNearest}

-- a bound on twice a size, as two bounds
twice_below : (z : ℤ) (d : ℕ) → 2 * unsigned_abs z ≤ d → ((z +ℤ z) ≤ℤ pos d) × (neg_ℤ (pos d) ≤ℤ (z +ℤ z))
twice_below (pos n) d h = (omega (arith, ints), omega (arith, ints))
twice_below (negsuc n) d h = (omega (arith, ints), omega (arith, ints))

-- and its size
size_of_half : (z : ℤ) (d : ℕ) → (z +ℤ z ≡ pos d) ⊎ (z +ℤ z ≡ neg_ℤ (pos d)) → 2 * unsigned_abs z ≡ d
size_of_half (pos n) d (inl h) = omega (arith, ints)
size_of_half (pos n) d (inr h) = omega (arith, ints)
size_of_half (negsuc n) d (inl h) = omega (arith, ints)
size_of_half (negsuc n) d (inr h) = omega (arith, ints)

twice_size : (z : ℤ) (d : ℕ) → (z +ℤ z ≡ pos d) ⊎ (z +ℤ z ≡ neg_ℤ (pos d)) → unsigned_abs z + unsigned_abs z ≡ d
twice_size z d h = omega (arith, size_of_half z d h)

-- the size of the number after one below 0
size_of_next : (a : ℕ) → unsigned_abs (negsuc a +ℤ pos 1) ≡ a
size_of_next zero = refl
size_of_next (suc a) = let is : negsuc (suc a) +ℤ pos 1 ≡ negsuc a = omega (arith, ints) in ap unsigned_abs is

-- halfway below 0
below_zero : (x : ℤ) (a d : ℕ) → x +ℤ x ≡ negsuc a *ℤ pos d +ℤ negsuc a *ℤ pos d +ℤ pos d → x +ℤ x ≡ neg_ℤ (pos (a * d + a * d + d))
below_zero x a d e =
    let same : pos (suc a) *ℤ pos d +ℤ pos (suc a) *ℤ pos d -ℤ pos d ≡ pos (a * d + a * d + d) = omega (arith, ints) in
    e ∙ ring2 (λ b d. neg b ⊗ d ⊕ neg b ⊗ d ⊕ d ≗ neg (b ⊗ d ⊕ b ⊗ d ⊖ d)) refl (pos (suc a)) (pos d) ∙ ap neg_ℤ same

-- halfway between k and the next number, the size is above that of one of the two
halfway : (x k : ℤ) (d : ℕ) → 0 < d → x +ℤ x ≡ k *ℤ pos d +ℤ k *ℤ pos d +ℤ pos d → unsigned_abs x ≤ unsigned_abs k * d
    → unsigned_abs x ≤ unsigned_abs (k +ℤ pos 1) * d → ⊥
halfway x (pos a) d some e p q =
    let twice : x +ℤ x ≡ pos (a * d + a * d + d) = e in
    let size : unsigned_abs x + unsigned_abs x ≡ a * d + a * d + d = twice_size x (a * d + a * d + d) (inl twice) in
    omega (arith, size, p)
halfway x (negsuc a) d some e p q =
    let size = twice_size x (a * d + a * d + d) (inr (below_zero x a d e)) in
    let least : unsigned_abs x ≤ a * d = subst (λ n. unsigned_abs x ≤ n * d) (size_of_next a) q in
    omega (arith, size, least)

-- no nearest number is below another
module _ (s : ℕ) (num k l : ℤ) (d : ℕ) (some : 0 < d) (h : IsNearest s (record { num = num; den = pos d }) k)
    (j : IsNearest s (record { num = num; den = pos d }) l) (less : k <ℤ l) where
  positive : pos 0 <ℤ pos d
  positive = omega (arith, ints)

  next_below : ((k +ℤ pos 1) *ℤ pos d) ≤ℤ (l *ℤ pos d)
  next_below = mul_le (k +ℤ pos 1) l (pos d) (omega (arith, ints)) (omega (arith, ints))

  next_is : (k +ℤ pos 1) *ℤ pos d ≡ k *ℤ pos d +ℤ pos d
  next_is = ring2 (λ k d. (k ⊕ con (pos 1)) ⊗ d ≗ k ⊗ d ⊕ d) refl k (pos d)

  both_halves : (l *ℤ pos d ≡ k *ℤ pos d +ℤ pos d) × (pos s *ℤ num +ℤ pos s *ℤ num ≡ k *ℤ pos d +ℤ k *ℤ pos d +ℤ pos d)
  both_halves =
      let a = twice_below (pos s *ℤ num -ℤ k *ℤ pos d) d h.near in
      let b = twice_below (pos s *ℤ num -ℤ l *ℤ pos d) d j.near in
      (omega (arith, lin, a.0, b.1, next_below, next_is), omega (arith, lin, a.0, b.1, next_below, next_is))

  next : l ≡ k +ℤ pos 1
  next = cancel_eq l (k +ℤ pos 1) (pos d) positive (both_halves.0 ∙ sym next_is)

  size : unsigned_abs (pos s *ℤ num) ≡ s * unsigned_abs num
  size = unsigned_abs-mul (pos s) num

  apart : ⊥
  apart =
      let e = both_halves in
      let low = h.away (size_of_half (pos s *ℤ num -ℤ k *ℤ pos d) d (inl (omega (arith, lin, e.1)))) in
      let high = j.away (size_of_half (pos s *ℤ num -ℤ l *ℤ pos d) d (inr (omega (arith, lin, e.0, e.1)))) in
      halfway (pos s *ℤ num) k d some e.1 (omega (arith, size, low))
      (subst (λ z. unsigned_abs (pos s *ℤ num) ≤ unsigned_abs z * d) next (omega (arith, size, high)))

-- the fraction is rounded to one number
one_over : (s : ℕ) (num k l : ℤ) (d : ℕ) → 0 < d → IsNearest s (record { num = num; den = pos d }) k → IsNearest s (record { num = num; den = pos d }) l → k ≡ l
one_over s num k l d some h j = elim (lt_cases k l) [
  | inl below ↦ absurd (apart s num k l d some h j below)
  | inr rest ↦ elim rest [ inl same ↦ same | inr above ↦ absurd (apart s num l k d some j h above) ]
]

pub one_nearest : (s : ℕ) (f : Fraction) (k l : ℤ) → pos 0 <ℤ f.den → IsNearest s f k → IsNearest s f l → k ≡ l
one_nearest s f k l positive h j =
    let e = sym (pos-unsigned_abs f.den (le_of_lt (pos 0) f.den positive)) in
    let At : ℤ → ℤ → Type 0 = λ z m. IsNearest s (record { num = f.num; den = z }) m in
    one_over s f.num k l (unsigned_abs f.den) (omega (arith, ints, e)) (subst (λ z. At z k) e h) (subst (λ z. At z l) e j)
