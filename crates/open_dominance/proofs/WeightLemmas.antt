-- The weights of a scale that meets the weighting matrix are an open weighting.
use Rattle.std.proofs.Common.{◌≡◌, ℕ, zero, suc, ◌+◌, ◌-◌, ◌≤◌, ℤ, pos, ◌*ℤ◌, ◌≤ℤ◌, ◌<ℤ◌, List, [], ◌∷◌, ◌++◌, length, take, get_or, refl, sym, ap, ap₂, subst, ◌∙◌, arith}
use lib.ListN.{length-append}
use Rattle.std.proofs.Math.Seq.{get_or-append_seam}
use Rattle.std.proofs.lemmas.List.{get_or-take, length-take, length-take-le}
use Rattle.std.proofs.lemmas.List.Elements.{All-from_get_or}
use Rattle.integers.specs.Vector.{scale, int_sum, AreNonNegative}
use Rattle.integers.proofs.Laws.{lin}
use Rattle.integers.proofs.Order.{mul_pos, le_of_lt}
use Rattle.integers.proofs.Ring.{con, ◌⊗◌, ◌≗◌, ring1}
use Rattle.integers.proofs.VectorLaws.{length-scale, scale-append}
use Rattle.judgement_matrix.specs.Matrix.{Judgements}
use Rattle.judgement_matrix.specs.Scale.{IsMetInUnit, IsMetBy}
use Rattle.judgement_matrix.proofs.MixLemmas.{IsMetInUnit-scale}
use Rattle.judgement_matrix.proofs.ScaleLemmas.{values_fall}
use Rattle.swing_weights.specs.Weights.{swings, AreShares}
use Rattle.swing_weights.proofs.ShareLemmas.{shares_sum, shares_nonneg}
use Rattle.open_dominance.specs.Open.{IsOpenWeighting}

-- ---- lists that end with 0

pub all_but_last : (n : ℕ) (w : List ℤ) → length w ≡ suc n → take n w ++ get_or w n (pos 0) ∷ [] ≡ w
all_but_last n [] each = absurd (omega (arith, each))
all_but_last zero (x ∷ []) each = refl
all_but_last zero (x ∷ y ∷ w) each = absurd (omega (arith, each))
all_but_last (suc n) (x ∷ w) each = ap (λ zs. x ∷ zs) (all_but_last n w (omega (arith, each)))

some : (w : List ℤ) → pos 0 <ℤ int_sum (swings w) → 1 ≤ length w
some [] h = absurd (omega (arith, lin, h))
some (x ∷ w) h = omega arith

-- ---- weights

swings_nonneg : (m : Judgements) (w : List ℤ) (n : ℤ) → IsMetBy m w n → AreNonNegative (swings w)
swings_nonneg m w n h =
    let each = h.scale.each in
    All-from_get_or (λ x. pos 0 ≤ℤ x) (swings w) (pos 0) (λ i l.
    let long = length-take (length w - 1) w in
    let fall = values_fall m w n (i + 1) m.size h (omega (arith, each, long, l)) in
    let last = h.scale.last in
    let up : i + 1 - 1 ≡ i = omega arith in
    let same = rw up at fall in
    let at = get_or-take (length w - 1) w i (pos 0) (omega (arith, long, l)) in
    omega (arith, lin, same, last, at))

pub least_weights_open : (m : Judgements) (w : List ℤ) (n : ℤ) (k : List ℤ) (d : ℤ) → IsMetBy m w n → pos 0 <ℤ d → AreShares w k d → IsOpenWeighting m k d
least_weights_open m w n k d met pd h = record {
  weights = record {
    scale = record {
      den_pos = pd;
      each = omega (arith, length-append k (pos 0 ∷ []), count, each, low);
      last = ap (λ i. get_or (k ++ pos 0 ∷ []) i (pos 0)) place ∙ get_or-append_seam k (pos 0) [] (pos 0);
    };
    nonneg = shares_nonneg w k d pd (swings_nonneg m w n met) h;
    sum = shares_sum w k d h;
  };
  opened = record {
    factor = t;
    unit = d *ℤ n;
    factor_pos = h.sum_pos;
    unit_pos = mul_pos d n pd met.scale.den_pos;
    meets = subst (λ z. IsMetInUnit m (d *ℤ n) z) (sym same) (IsMetInUnit-scale m d n w (le_of_lt (pos 0) d pd) met.meets);
  };
}
  where
    t : ℤ
    t = int_sum (swings w)

    each : length w ≡ m.size
    each = met.scale.each

    low : 1 ≤ length w
    low = some w h.sum_pos

    count : length k ≡ length w - 1
    count = sym (length-scale t k) ∙ ap length h.each ∙ length-scale d (swings w) ∙ length-take-le (length w - 1) w (omega arith)

    place : m.size - 1 ≡ length k
    place = omega (arith, count, each)

    last : get_or w (length w - 1) (pos 0) ≡ pos 0
    last = ap (λ i. get_or w (i - 1) (pos 0)) each ∙ met.scale.last

    none : (c : ℤ) → scale c (pos 0 ∷ []) ≡ pos 0 ∷ []
    none c = ap (λ z. z ∷ []) (ring1 (λ c. c ⊗ con (pos 0) ≗ con (pos 0)) refl c)

    same : scale t (k ++ pos 0 ∷ []) ≡ scale d w
    same =
        scale-append t k (pos 0 ∷ []) ∙ ap₂ (λ x y. x ++ y) h.each (none t ∙ sym (none d)) ∙ sym (scale-append d (swings w) (pos 0 ∷ []))
        ∙ ap (λ z. scale d z) (ap (λ z. swings w ++ z ∷ []) (sym last) ∙ all_but_last (length w - 1) w (omega (arith, low)))
