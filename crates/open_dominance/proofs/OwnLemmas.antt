-- A criterion with an anchored scale: its references differ on the least scale, and its closure has a scale.
use Rattle.std.specs.Result.{is_err}
use Rattle.std.proofs.Common.{◌≡◌, ℕ, ◌-◌, ◌<◌, ℤ, pos, ◌*ℤ◌, ◌<ℤ◌, List, [], ◌∷◌, length, refl, sym, subst, subst₂, Result, Ok, Err, IsTrue, arith}
use Rattle.std.proofs.lemmas.List.Elements.{All-get_or}
use Rattle.frac128.specs.declared.number.TooWide.{TooWide}
use Rattle.integers.specs.Fraction.{Fraction, IsFraction, AreFractions, IsWriting, over, common_den, common_nums, fraction_of}
use Rattle.integers.proofs.Fractions.{SameFractions-trans, AreFractions-over}
use Rattle.integers.proofs.Order.{mul_pos, cancel_eq}
use Rattle.integers.proofs.Ring.{neg, ◌⊗◌, ◌≗◌, ◌✶◌, ◌⇐◌, combine7}
use Rattle.integers.proofs.Writings.{common_writing, common_den_pos, IsWriting-at, IsWriting-length}
use Rattle.judgement_matrix.specs.Matrix.{IsPair}
use Rattle.judgement_matrix.specs.Scale.{value_at}
use Rattle.judgement_matrix.specs.Values.{fraction_at}
use Rattle.judgement_matrix.proofs.ScaleLemmas.{values_fall, IsLeastScale-unique}
use Rattle.model_core.specs.State.{CriterionState}
use Rattle.open_dominance.specs.Gap.{references_of, HasClosureScale, HasAnchoredScale}
use Rattle.open_dominance.proofs.ClosureLemmas.{scale_in_closure}
use Rattle.open_dominance.proofs.LineLemmas.{anchored_is_open}
use Rattle.value_scale.specs.Anchor.{IsFlat}
use Rattle.value_scale.specs.Basic.{AreLeastValues}
use Rattle.value_scale.proofs.AnchorLaws.{anchored_exists}

pub closure_of_anchored : (c : CriterionState) → HasAnchoredScale c → HasClosureScale c
closure_of_anchored c h =
    let open_one = anchored_is_open c.matrix (references_of c) h.least h.den h.anchored h.over h.is_least.is_met h.is_anchored h.reached in
    (h.anchored, (h.over, scale_in_closure c.matrix (references_of c) h.anchored h.over open_one))

-- two numbers over n that one fraction is
equal_numbers : (x y a b p q n : ℤ) → pos 0 <ℤ b → pos 0 <ℤ q → x *ℤ b ≡ a *ℤ n → y *ℤ q ≡ p *ℤ n → a *ℤ q ≡ p *ℤ b → x ≡ y
equal_numbers x y a b p q n pb pq is_x is_y flat =
    cancel_eq x y (b *ℤ q) (mul_pos b q pb pq)
    (combine7 (λ x y a b p q n. x ⊗ (b ⊗ q) ≗ y ⊗ (b ⊗ q) ⇐ q ✶ (x ⊗ b ≗ a ⊗ n) ∷ neg b ✶ (y ⊗ q ≗ p ⊗ n) ∷ n ✶ (a ⊗ q ≗ p ⊗ b) ∷ []) refl
    x y a b p q n is_x is_y flat)

not_flat : (c : CriterionState) → IsPair c.matrix.size c.good c.neutral → HasAnchoredScale c → (values : List Fraction) → AreFractions values
    → AreLeastValues c.matrix values → ¬ IsFlat values c.good c.neutral
not_flat c refs h values pv least flat =
    let w = common_nums values in
    let n = common_den values in
    let written = common_writing values pv in
    let same = IsLeastScale-unique c.matrix h.least w h.den n h.is_least (least w n written) in
    let pd = h.is_least.is_met.scale.den_pos in
    let pn = common_den_pos values pv in
    let by_least : IsWriting values h.least h.den =
    record { den_pos = pd; same = SameFractions-trans (over h.least h.den) (over w n) values (AreFractions-over h.least h.den pd) (AreFractions-over w n pn) pv same written.same } in
    let long = IsWriting-length values h.least h.den by_least in
    let each = h.is_least.is_met.scale.each in
    let good_in : c.good - 1 < length values = omega (arith, refs, long, each) in
    let neutral_in : c.neutral - 1 < length values = omega (arith, refs, long, each) in
    let at_good = IsWriting-at values h.least h.den (c.good - 1) (pos 0) (fraction_of (pos 0)) good_in by_least in
    let at_neutral = IsWriting-at values h.least h.den (c.neutral - 1) (pos 0) (fraction_of (pos 0)) neutral_in by_least in
    let equal = equal_numbers (value_at h.least c.good) (value_at h.least c.neutral) (fraction_at values c.good).num (fraction_at values c.good).den
    (fraction_at values c.neutral).num (fraction_at values c.neutral).den h.den
    (All-get_or IsFraction values (c.good - 1) (fraction_of (pos 0)) good_in pv) (All-get_or IsFraction values (c.neutral - 1) (fraction_of (pos 0)) neutral_in pv)
    at_good at_neutral flat in
    let fall = values_fall c.matrix h.least h.den c.good c.neutral h.is_least.is_met refs in
    (anchored_exists h.least h.den c.good c.neutral pd (subst (λ k. IsPair k c.good c.neutral) (sym each) refs) fall).0
    (h.anchored, h.over, h.is_anchored) equal

pub not_flat_at : (c : CriterionState) → IsPair c.matrix.size c.good c.neutral → HasAnchoredScale c → (values : List Fraction) → AreFractions values
    → AreLeastValues c.matrix values → (g n : ℕ) → g ≡ c.good → n ≡ c.neutral → ¬ IsFlat values g n
not_flat_at c refs h values pv least g n good neutral flat = not_flat c refs h values pv least (subst₂ (λ x y. IsFlat values x y) good neutral flat)

-- an error of a formula
pub error_of : {X : Type 0} (r : Result X TooWide) → IsTrue (is_err r) → r ≡ Err (record {})
error_of (Ok x) h = absurd (let e = h in cc)
error_of (Err e) h = refl
