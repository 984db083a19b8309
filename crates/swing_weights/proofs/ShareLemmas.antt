-- Shares of a sum: they sum to 1, and none is below 0 where nothing that is shared is.
use Rattle.std.proofs.Common.{◌≡◌, ℤ, pos, ◌*ℤ◌, ◌<ℤ◌, ◌≤ℤ◌, List, [], ◌∷◌, length, drop, get_or, refl, ap, subst, sym, ◌∙◌, arith}
use Rattle.std.proofs.lemmas.List.Elements.{All-nil, All-cons, All-head, All-tail}
use Rattle.integers.specs.Vector.{scale, int_sum, AreNonNegative}
use Rattle.integers.proofs.Order.{mul_nonneg, le_of_lt, nonneg_of_mul, cancel_eq}
use Rattle.integers.proofs.Ring.{◌⊗◌, ◌≗◌, ring2}
use Rattle.integers.proofs.VectorLaws.{int_sum-scale}
use Rattle.swing_weights.specs.Weights.{swings, AreShares}

pub shares_sum : (w k : List ℤ) (d : ℤ) → AreShares w k d → int_sum k ≡ d
shares_sum w k d h =
    let t = int_sum (swings w) in
    cancel_eq (int_sum k) d t h.sum_pos (ring2 (λ a t. a ⊗ t ≗ t ⊗ a) refl (int_sum k) t ∙ sym (int_sum-scale t k) ∙ ap int_sum h.each ∙ int_sum-scale d (swings w))

nonneg_from : (t d : ℤ) (k xs : List ℤ) → pos 0 <ℤ t → pos 0 <ℤ d → AreNonNegative xs → scale t k ≡ scale d xs → AreNonNegative k
nonneg_from t d [] xs pt pd h e = All-nil (λ x. pos 0 ≤ℤ x)
nonneg_from t d (y ∷ k) [] pt pd h e = absurd (omega (arith, ap length e))
nonneg_from t d (y ∷ k) (x ∷ xs) pt pd h e =
    let above = mul_nonneg d x (le_of_lt (pos 0) d pd) (All-head (λ x. pos 0 ≤ℤ x) x xs h) in
    let head : y *ℤ t ≡ d *ℤ x = ring2 (λ y t. y ⊗ t ≗ t ⊗ y) refl y t ∙ ap (λ zs. get_or zs 0 (pos 0)) e in
    All-cons (λ x. pos 0 ≤ℤ x) y k (nonneg_of_mul y t pt (subst (λ z. pos 0 ≤ℤ z) (sym head) above))
    (nonneg_from t d k xs pt pd (All-tail (λ x. pos 0 ≤ℤ x) x xs h) (ap (drop 1) e))

pub shares_nonneg : (w k : List ℤ) (d : ℤ) → pos 0 <ℤ d → AreNonNegative (swings w) → AreShares w k d → AreNonNegative k
shares_nonneg w k d pd h s = nonneg_from (int_sum (swings w)) d k (swings w) s.sum_pos pd h s.each
