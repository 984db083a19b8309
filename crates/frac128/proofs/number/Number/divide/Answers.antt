use mir.Syntax.{w128}
use Rattle.std.proofs.Common.{rules, ◌≡◌, ℤ, pos, ◌+ℤ◌, ◌-ℤ◌, ◌*ℤ◌, ◌<ℤ◌, int_div, int_rem, FitsSigned, to_z, of_z, sym, ap, ◌∙◌}
use Rattle.std.proofs.lemmas.Int.{to_z-of_z, quot_fits, quot_rem_is}
use Rattle.frac128.proofs.Numbers.{lowered}
use Rattle.frac128.proofs.number.Number.divide.Goals as goal

-- the truncated quotient is one too large where the rest is negative
pub returns-then-rest-lt0-clause-whole : goal.returns-then-rest-lt0-clause-whole
returns-then-rest-lt0-clause-whole c =
    let a : ℤ = c.self.inside.value in
    let d : ℤ = c.divisor.inside.value in
    let a_fits : FitsSigned w128 a = search rules in
    let d_fits : FitsSigned w128 d = search rules in
    let positive : pos 0 <ℤ d = search rules in
    let q : ℤ = to_z w128 (of_z w128 (int_div (to_z w128 (of_z w128 a)) (to_z w128 (of_z w128 d)))) in
    let r : ℤ = to_z w128 (of_z w128 (int_rem (to_z w128 (of_z w128 a)) (to_z w128 (of_z w128 d)))) in
    let whole : q *ℤ d +ℤ r ≡ a = quot_rem_is w128 a d a_fits d_fits (quot_fits w128 a d a_fits positive) in
    let floor_fits : FitsSigned w128 (q -ℤ pos 1) = search rules in
    let rest_fits : FitsSigned w128 (r +ℤ d) = search rules in
    let floor_is : to_z w128 (of_z w128 (q -ℤ pos 1)) ≡ q -ℤ pos 1 = to_z-of_z w128 (q -ℤ pos 1) floor_fits in
    let rest_is : to_z w128 (of_z w128 (r +ℤ to_z w128 (of_z w128 d))) ≡ r +ℤ d =
    ap (λ z. to_z w128 (of_z w128 (r +ℤ z))) (to_z-of_z w128 d d_fits) ∙ to_z-of_z w128 (r +ℤ d) rest_fits in
    rw (← c.self.view_is, ← c.divisor.view_is) (lowered a d q r (to_z w128 (of_z w128 (q -ℤ pos 1))) (to_z w128 (of_z w128 (r +ℤ to_z w128 (of_z w128 d))))
    whole floor_is rest_is)

-- the truncated quotient is rounded down already
pub returns-else-rest-lt0-clause-whole : goal.returns-else-rest-lt0-clause-whole
returns-else-rest-lt0-clause-whole c =
    let a : ℤ = c.self.inside.value in
    let d : ℤ = c.divisor.inside.value in
    let a_fits : FitsSigned w128 a = search rules in
    let d_fits : FitsSigned w128 d = search rules in
    let positive : pos 0 <ℤ d = search rules in
    let whole = quot_rem_is w128 a d a_fits d_fits (quot_fits w128 a d a_fits positive) in
    rw (← c.self.view_is, ← c.divisor.view_is) (sym whole)
