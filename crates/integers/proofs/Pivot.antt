-- The exchange of a row's quantity with one of its columns, as the equations of a tableau see it.
-- A row (D, B, T) says of a quantity q that D q = B n + T·u, where u lists the columns' quantities and n is the denominator of all.
use Rattle.std.proofs.Common.{◌≡◌, ◌↔◌, ℕ, ◌<◌, length, get_or, set, List, ℤ, pos, negsuc, ◌+ℤ◌, ◌-ℤ◌, ◌*ℤ◌, neg_ℤ, ◌<ℤ◌, [], ◌∷◌, refl, ap₂, ◌∙◌, arith}
use Rattle.integers.specs.Vector.{dot, scale, row_step}
use Rattle.integers.proofs.Order.{cancel_eq}
use Rattle.integers.proofs.Ring.{con, neg, ◌⊕◌, ◌⊖◌, ◌⊗◌, ◌≗◌, ◌✶◌, ◌⇐◌, ring2, ring7, combine7, combine8, combine12}
use Rattle.integers.proofs.Vector.{dot-scale, dot-row_step, dot-set_both}
use Rattle.integers.proofs.VectorLaws.{length-row_step, length-scale, get_or-row_step, get_or-scale}

-- another row, once the column e stands for the pivot row's quantity r
pub pivot_keeps : (T P us : List ℤ) (e : ℕ) (D q B R r C n : ℤ) → e < length T → e < length us → D *ℤ q ≡ B *ℤ n +ℤ dot T us → R *ℤ r ≡ C *ℤ n +ℤ dot P us
    → (get_or P e (pos 0) *ℤ D) *ℤ q ≡ (get_or P e (pos 0) *ℤ B -ℤ get_or T e (pos 0) *ℤ C) *ℤ n +ℤ dot
    (set (row_step (get_or P e (pos 0)) (get_or T e (pos 0)) T P) e (get_or T e (pos 0) *ℤ R)) (set us e r)
pivot_keeps T P us e D q B R r C n in_row in_us row pivot =
    let a : ℤ = get_or P e (pos 0) in
    let b : ℤ = get_or T e (pos 0) in
    let step : List ℤ = row_step a b T P in
    let in_step : e < length step = omega (arith, length-row_step a b T P) in
    let new = dot-set_both step us e (b *ℤ R) r in_step in_us in
    let here : get_or step e (pos 0) ≡ pos 0 = get_or-row_step a b T P e ∙ ring2 (λ a b. a ⊗ b ⊖ b ⊗ a ≗ con (pos 0)) refl a b in
    let apart = dot-row_step a b T P us in
    let value : dot (set step e (b *ℤ R)) (set us e r) ≡ a *ℤ dot T us -ℤ b *ℤ dot P us +ℤ (b *ℤ R) *ℤ r =
    new ∙ ap₂ (λ x y. x -ℤ y *ℤ get_or us e (pos 0) +ℤ (b *ℤ R) *ℤ r) apart here
    ∙ ring7 (λ a b t p R r u. a ⊗ t ⊖ b ⊗ p ⊖ con (pos 0) ⊗ u ⊕ b ⊗ R ⊗ r ≗ a ⊗ t ⊖ b ⊗ p ⊕ b ⊗ R ⊗ r) refl a b (dot T us) (dot P us) R r
    (get_or us e (pos 0)) in
    combine12 (λ D q B n t R r C p a b x. (a ⊗ D) ⊗ q ≗ (a ⊗ B ⊖ b ⊗ C) ⊗ n ⊕ x
    ⇐ a ✶ (D ⊗ q ≗ B ⊗ n ⊕ t) ∷ neg b ✶ (R ⊗ r ≗ C ⊗ n ⊕ p) ∷ con (negsuc 0) ✶ (x ≗ a ⊗ t ⊖ b ⊗ p ⊕ (b ⊗ R) ⊗ r) ∷ []) refl D q B n (dot T us) R r C
    (dot P us) a b (dot (set step e (b *ℤ R)) (set us e r)) row pivot value

-- the pivot row itself, solved for the quantity of the column e
pub pivot_row : (P us : List ℤ) (e : ℕ) (R r C n : ℤ) → e < length P → e < length us → R *ℤ r ≡ C *ℤ n +ℤ dot P us
    → get_or P e (pos 0) *ℤ get_or us e (pos 0) ≡ neg_ℤ C *ℤ n +ℤ dot (set (scale (negsuc 0) P) e R) (set us e r)
pivot_row P us e R r C n in_row in_us pivot =
    let a : ℤ = get_or P e (pos 0) in
    let u : ℤ = get_or us e (pos 0) in
    let minus : List ℤ = scale (negsuc 0) P in
    let in_minus : e < length minus = omega (arith, length-scale (negsuc 0) P) in
    let value : dot (set minus e R) (set us e r) ≡ negsuc 0 *ℤ dot P us -ℤ negsuc 0 *ℤ a *ℤ u +ℤ R *ℤ r =
    dot-set_both minus us e R r in_minus in_us ∙ ap₂ (λ x y. x -ℤ y *ℤ u +ℤ R *ℤ r) (dot-scale (negsuc 0) P us) (get_or-scale (negsuc 0) P e) in
    combine8 (λ a u R r C n p x. a ⊗ u ≗ neg C ⊗ n ⊕ x
    ⇐ neg (con (pos 1)) ✶ (R ⊗ r ≗ C ⊗ n ⊕ p) ∷ con (negsuc 0) ✶ (x ≗ con (negsuc 0) ⊗ p ⊖ con (negsuc 0) ⊗ a ⊗ u ⊕ R ⊗ r) ∷ []) refl a u R r C n (dot P us)
    (dot (set minus e R) (set us e r)) pivot value

-- a common positive factor of a row goes, and the converse
pub divided_row : (T us : List ℤ) (k D q B n : ℤ) → pos 0 <ℤ k → ((k *ℤ D) *ℤ q ≡ (k *ℤ B) *ℤ n +ℤ dot (scale k T) us) ↔ (D *ℤ q ≡ B *ℤ n +ℤ dot T us)
divided_row T us k D q B n p = (
  λ h. cancel_eq (D *ℤ q) (B *ℤ n +ℤ dot T us) k p
      (combine7 (λ k D q B n t s. D ⊗ q ⊗ k ≗ (B ⊗ n ⊕ t) ⊗ k ⇐ con (pos 1) ✶ ((k ⊗ D) ⊗ q ≗ (k ⊗ B) ⊗ n ⊕ s) ∷ con (pos 1) ✶ (s ≗ k ⊗ t) ∷ []) refl k D q B n
      (dot T us) (dot (scale k T) us) h (dot-scale k T us)),
  λ h. combine7 (λ k D q B n t s. (k ⊗ D) ⊗ q ≗ (k ⊗ B) ⊗ n ⊕ s ⇐ k ✶ (D ⊗ q ≗ B ⊗ n ⊕ t) ∷ con (negsuc 0) ✶ (s ≗ k ⊗ t) ∷ []) refl k D q B n (dot T us)
      (dot (scale k T) us) h (dot-scale k T us),
)
