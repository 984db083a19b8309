-- Values of a scale that meets a matrix: how many they are, and that they never rise.
use lib.IntN.{zero-*ℤ}
use Rattle.std.proofs.Common.{◌≡◌, ◌-◌, ◌≤◌, ℤ, pos, ◌*ℤ◌, ◌≤ℤ◌, ◌<ℤ◌, List, length, sym, ap, ◌∙◌, arith}
use Rattle.std.proofs.lemmas.List.Elements.{All-get_or}
use Rattle.integers.specs.Fraction.{Fraction, IsFraction, AreFractions, FractionAtMost, SameFraction, fraction_of, common_nums, common_den}
use Rattle.integers.proofs.Order.{mul_le, le_of_lt, zero_of_mul}
use Rattle.integers.proofs.Fractions.{SameFraction-sym}
use Rattle.integers.proofs.FractionOrder.{FractionAtMost-same_left, FractionAtMost-same_right}
use Rattle.integers.proofs.Writings.{IsWriting-length, IsWriting-at, common_writing}
use Rattle.judgement_matrix.specs.Matrix.{Judgements}
use Rattle.judgement_matrix.specs.Scale.{value_at}
use Rattle.judgement_matrix.proofs.ScaleLemmas.{values_fall}
use Rattle.judgement_matrix.specs.Values.{fraction_at}
use Rattle.value_scale.specs.Anchor.{NeverRise}
use Rattle.value_scale.specs.Basic.{AreLeastValues}
use Rattle.value_scale.specs.Slack.{MeetValues}

-- as many values as elements
pub values_each : (m : Judgements) (fs : List Fraction) → AreFractions fs → MeetValues m fs → length fs ≡ m.size
values_each m fs are met =
    let writing = common_writing fs are in
    let is_met = met (common_nums fs) (common_den fs) writing in
    sym (IsWriting-length fs (common_nums fs) (common_den fs) writing) ∙ is_met.scale.each

-- numbers over one denominator
at_most_over : (a b n : ℤ) → pos 0 <ℤ n → a ≤ℤ b → FractionAtMost (record { num = a; den = n }) (record { num = b; den = n })
at_most_over a b n p h = mul_le a b n (le_of_lt (pos 0) n p) h

-- no value is above one before it
pub met_never_rise : (m : Judgements) (fs : List Fraction) → AreFractions fs → MeetValues m fs → NeverRise fs
met_never_rise m fs are met p q pair =
    let n = common_den fs in
    let w = common_nums fs in
    let writing = common_writing fs are in
    let each = values_each m fs are met in
    let falls = values_fall m w n p q (met w n writing) (rw (← each) pair) in
    let nought = fraction_of (pos 0) in
    let f = fraction_at fs q in
    let g = fraction_at fs p in
    let pf : IsFraction f = All-get_or IsFraction fs (q - 1) nought (omega arith) are in
    let pg : IsFraction g = All-get_or IsFraction fs (p - 1) nought (omega arith) are in
    let low : SameFraction (record { num = value_at w q; den = n }) f = IsWriting-at fs w n (q - 1) (pos 0) nought (omega arith) writing in
    let high : SameFraction (record { num = value_at w p; den = n }) g = IsWriting-at fs w n (p - 1) (pos 0) nought (omega arith) writing in
    let over = at_most_over (value_at w q) (value_at w p) n writing.den_pos falls in
    FractionAtMost-same_left f (record { num = value_at w q; den = n }) g pf writing.den_pos pg
    (SameFraction-sym (record { num = value_at w q; den = n }) f low)
    (FractionAtMost-same_right (record { num = value_at w q; den = n }) (record { num = value_at w p; den = n }) g writing.den_pos writing.den_pos pg over high)

-- the last value is 0
pub last_is_zero : (m : Judgements) (fs : List Fraction) → 1 ≤ m.size → AreFractions fs → MeetValues m fs → (fraction_at fs m.size).num ≡ pos 0
last_is_zero m fs some are met =
    let n = common_den fs in
    let w = common_nums fs in
    let writing = common_writing fs are in
    let is_met = met w n writing in
    let each = values_each m fs are met in
    let nought = fraction_of (pos 0) in
    let last : SameFraction (record { num = value_at w m.size; den = n }) (fraction_at fs m.size) =
    IsWriting-at fs w n (m.size - 1) (pos 0) nought (omega arith) writing in
    zero_of_mul (fraction_at fs m.size).num n writing.den_pos
    (sym last ∙ ap (λ z. z *ℤ (fraction_at fs m.size).den) is_met.scale.last ∙ zero-*ℤ (fraction_at fs m.size).den)

-- the values of the least scale meet the matrix
pub least_meet : (m : Judgements) (fs : List Fraction) → AreLeastValues m fs → MeetValues m fs
least_meet m fs least w n writing = (least w n writing).is_met
