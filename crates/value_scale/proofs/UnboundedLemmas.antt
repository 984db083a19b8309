-- Only the first element has no upper end.
use Rattle.std.proofs.Common.{◌≡◌, ◌≢◌, ℕ, ◌+◌, ◌-◌, ◌≤◌, ℤ, pos, negsuc, ◌*ℤ◌, ◌≤ℤ◌, ◌<ℤ◌, List, None, refl, subst₂, ◌∙◌, arith}
use Rattle.std.proofs.lemmas.Int.{ints}
use Rattle.std.proofs.lemmas.List.{get_or-set_same, get_or-set_other}
use Rattle.std.specs.Int.Signed.{lt_z_yes}
use Rattle.integers.specs.Fraction.{Fraction, IsFraction, FractionAtMost, fraction_of}
use Rattle.integers.specs.Vector.{scale}
use Rattle.integers.proofs.Laws.{lin, one-*ℤ, *ℤ-one}
use Rattle.integers.proofs.Order.{mul_le}
use Rattle.integers.proofs.Ring.{◌⊗◌, ◌≗◌, ring2}
use Rattle.integers.proofs.VectorLaws.{length-scale, get_or-scale}
use Rattle.judgement_matrix.specs.Matrix.{Judgements}
use Rattle.judgement_matrix.specs.Scale.{value_at, IsMetBy}
use Rattle.judgement_matrix.proofs.ScaleLemmas.{values_fall}
use Rattle.value_scale.specs.Slack.{replaced, IsSlack, IsAllowed}

-- a number that is large enough
record IsLarge (a b k : ℤ) : Type 0 where
  nonneg : pos 0 ≤ℤ k
  at_least : a ≤ℤ k
  above : b <ℤ k

large : (a b : ℤ) → (k : ℤ) × IsLarge a b k
large (pos i) (pos j) = (pos (i + j + 1), record { nonneg = omega (arith, ints); at_least = omega (arith, ints); above = omega (arith, ints) })
large (pos i) (negsuc j) = (pos i, record { nonneg = omega (arith, ints); at_least = omega (arith, ints); above = omega (arith, ints) })
large (negsuc i) (pos j) = (pos (j + 1), record { nonneg = omega (arith, ints); at_least = omega (arith, ints); above = omega (arith, ints) })
large (negsuc i) (negsuc j) = (pos 0, record { nonneg = omega (arith, ints); at_least = omega (arith, ints); above = omega (arith, ints) })

-- a positive multiple is no less
times : (k d : ℤ) → pos 0 ≤ℤ k → pos 0 <ℤ d → k ≤ℤ (k *ℤ d)
times k d nonneg p =
    let least : pos 1 ≤ℤ d = omega (arith, lin, p) in
    subst₂ (λ a b. a ≤ℤ b) (one-*ℤ k) (ring2 (λ d k. d ⊗ k ≗ k ⊗ d) refl d k) (mul_le (pos 1) d k nonneg least)

-- an element below the first has an upper end
pub bounded_below_first : (m : Judgements) (w : List ℤ) (n : ℤ) (x : ℕ) (low : Fraction) → IsMetBy m w n → 2 ≤ x → x ≤ m.size → IsFraction low
    → ¬ IsSlack m w n x (record { low = low; high = None })
bounded_below_first m w n x low met least within pl slack =
    let found = large low.num (value_at w (x - 1)) in
    let k = found.0 in
    let is = found.1 in
    let t : Fraction = fraction_of k in
    let one : pos 0 <ℤ pos 1 = lt_z_yes tt in
    let reaches : FractionAtMost low t = omega (arith, lin, times k low.den is.nonneg pl, is.at_least, *ℤ-one low.num) in
    let allowed : IsAllowed m w n x t = (slack t one).1 (reaches, tt) in
    let apart : x - 1 - 1 ≢ x - 1 = λ h. absurd (omega arith) in
    let here : value_at (replaced w n x t) x ≡ k *ℤ n = get_or-set_same (scale (pos 1) w) (x - 1) (k *ℤ n) (pos 0)
    (omega (arith, length-scale (pos 1) w, met.scale.each)) in
    let there : value_at (replaced w n x t) (x - 1) ≡ value_at w (x - 1) =
    get_or-set_other (scale (pos 1) w) (x - 1) (x - 1 - 1) (k *ℤ n) (pos 0) apart ∙ get_or-scale (pos 1) w (x - 1 - 1) ∙ one-*ℤ (value_at w (x - 1)) in
    let falls : (k *ℤ n) ≤ℤ value_at w (x - 1) = rw (here, there) at (values_fall m (replaced w n x t) (n *ℤ pos 1) (x - 1) x allowed
    (omega arith, omega arith, within)) in
    absurd (omega (arith, lin, falls, times k n is.nonneg met.scale.den_pos, is.above))
