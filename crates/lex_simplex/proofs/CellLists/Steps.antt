-- Row steps on cells: where each product and difference is in the range.
use lib.IntN.{*ℤ-zero}
use Rattle.std.proofs.lemmas.List.Elements.{All-nil, All-cons, All-head, All-tail}
use Rattle.std.proofs.Common.{◌≡◌, ◌↔◌, ℕ, zero, suc, ◌<◌, length, set, All, List, [], ◌∷◌, ℤ, pos, ◌-ℤ◌, ◌*ℤ◌, neg_ℤ, refl, sym, subst, arith}
use Rattle.integers.specs.Vector.{scale, row_step}
use Rattle.integers.proofs.Ring.{con, neg, ◌⊖◌, ◌⊗◌, ◌≗◌, ring2, ring3}
use Rattle.frac128.specs.Range.{IsInRange}
use Rattle.frac128.proofs.Numbers.{in_range-neg, in_range-zero}
use Rattle.lex_simplex.specs.Steps.{CellFits, StepFits}

-- a row step of lists of one length fits where all its products and differences do
pub StepFits-all : (p q : ℤ) (xs ys : List ℤ) → length xs ≡ length ys
    → StepFits p q xs ys ↔ (All IsInRange (scale p xs) × All IsInRange (scale q ys) × All IsInRange (row_step p q xs ys))
StepFits-all p q [] [] same = (λ h. (All-nil IsInRange, All-nil IsInRange, All-nil IsInRange), λ h. tt)
StepFits-all p q [] (y ∷ ys) same = absurd (omega arith)
StepFits-all p q (x ∷ xs) [] same = absurd (omega arith)
StepFits-all p q (x ∷ xs) (y ∷ ys) same = let rest = StepFits-all p q xs ys (omega arith) in (
  λ h. let parts = rest.0 h.1 in (
    All-cons IsInRange (p *ℤ x) (scale p xs) h.0.0 parts.0,
    All-cons IsInRange (q *ℤ y) (scale q ys) h.0.1 parts.1,
    All-cons IsInRange (p *ℤ x -ℤ q *ℤ y) (row_step p q xs ys) h.0.2 parts.2,
  ),
  λ h. (
    (
      All-head IsInRange (p *ℤ x) (scale p xs) h.0,
      All-head IsInRange (q *ℤ y) (scale q ys) h.1,
      All-head IsInRange (p *ℤ x -ℤ q *ℤ y) (row_step p q xs ys) h.2,
    ),
    rest.1 (
      All-tail IsInRange (p *ℤ x) (scale p xs) h.0,
      All-tail IsInRange (q *ℤ y) (scale q ys) h.1,
      All-tail IsInRange (p *ℤ x -ℤ q *ℤ y) (row_step p q xs ys) h.2,
    ),
  ),
)

-- the step of 0 and 0 fits
zero_fits : (p q : ℤ) → CellFits p q (pos 0) (pos 0)
zero_fits p q = (
  in_range-zero (p *ℤ pos 0) (*ℤ-zero p),
  in_range-zero (q *ℤ pos 0) (*ℤ-zero q),
  in_range-zero (p *ℤ pos 0 -ℤ q *ℤ pos 0) (ring2 (λ p q. p ⊗ con (pos 0) ⊖ q ⊗ con (pos 0) ≗ con (pos 0)) refl p q),
)

-- the step of a number and 0 fits where its one product does
pub first_fits : (p q x : ℤ) → CellFits p q x (pos 0) ↔ IsInRange (p *ℤ x)
first_fits p q x = (
  λ h. h.0,
  λ h. (h, in_range-zero (q *ℤ pos 0) (*ℤ-zero q), subst IsInRange (ring3 (λ p q x. p ⊗ x ≗ p ⊗ x ⊖ q ⊗ con (pos 0)) refl p q x) h),
)

-- the step of 0 and a number with the other sign fits where its one product does
pub second_fits : (p q y : ℤ) → CellFits p q (pos 0) (neg_ℤ y) ↔ IsInRange (q *ℤ y)
second_fits p q y = (
  λ h. subst IsInRange (sym difference) h.2,
  λ h. (in_range-zero (p *ℤ pos 0) (*ℤ-zero p), subst IsInRange product ((in_range-neg (q *ℤ y)).1 h), subst IsInRange difference h),
)
  where
    difference : q *ℤ y ≡ p *ℤ pos 0 -ℤ q *ℤ neg_ℤ y
    difference = ring3 (λ p q y. q ⊗ y ≗ p ⊗ con (pos 0) ⊖ q ⊗ neg y) refl p q y

    product : neg_ℤ (q *ℤ y) ≡ q *ℤ neg_ℤ y
    product = ring2 (λ q y. neg (q ⊗ y) ≗ q ⊗ neg y) refl q y

-- a row step with two numbers changed fits where their step and the rest of it do
pub StepFits-set : (p q : ℤ) (xs ys : List ℤ) (e : ℕ) (x y : ℤ) → e < length xs → e < length ys
    → StepFits p q (set xs e x) (set ys e y) ↔ (CellFits p q x y × StepFits p q (set xs e (pos 0)) (set ys e (pos 0)))
StepFits-set p q [] ys e x y h k = absurd (omega arith)
StepFits-set p q (a ∷ xs) [] e x y h k = absurd (omega arith)
StepFits-set p q (a ∷ xs) (b ∷ ys) zero x y h k = (λ f. (f.0, (zero_fits p q, f.1)), λ f. (f.0, f.1.1))
StepFits-set p q (a ∷ xs) (b ∷ ys) (suc e) x y h k = let rest = StepFits-set p q xs ys e x y (omega arith) (omega arith) in (
  λ f. let parts = rest.0 f.1 in (parts.0, (f.0, parts.1)),
  λ f. (f.1.0, rest.1 (f.0, f.1.1)),
)
