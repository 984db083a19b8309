use Rattle.frac128.proofs.DecimalLemmas.{rounds_down, rounds_up, rounds_over}
use Rattle.std.proofs.Common.{◌^◌, ◌/◌, ◌%◌, sym, arith}
use Rattle.std.proofs.Math.Nat.{div-add-mod'}
use Rattle.frac128.proofs.decimals.rounded.Goals as goal

pub returns-then-left-den-clause-half_up : goal.returns-then-left-den-clause-half_up
returns-then-left-den-clause-half_up c =
    let a = c.args in
    let d = c.digits_behind-part in
    rounds_down (10 ^ a.places) a.num a.den (a.num / a.den) (a.num % a.den) d.result.0 d.result.1 (sym (div-add-mod' a.num a.den)) d.ensures.split
    d.ensures.below c.if-left-den.true

pub returns-then-part-power-clause-half_up : goal.returns-then-part-power-clause-half_up
returns-then-part-power-clause-half_up c =
    let a = c.args in
    let d = c.digits_behind-part in
    rounds_up (10 ^ a.places) a.num a.den (a.num / a.den) (a.num % a.den) d.result.0 d.result.1 (sym (div-add-mod' a.num a.den)) d.ensures.split d.ensures.below
    c.if-left-den.false

pub returns-else-part-power-clause-half_up : goal.returns-else-part-power-clause-half_up
returns-else-part-power-clause-half_up c =
    let a = c.args in
    let d = c.digits_behind-part in
    rounds_over (10 ^ a.places) a.num a.den (a.num / a.den) (a.num % a.den) d.result.0 d.result.1 (sym (div-add-mod' a.num a.den)) d.ensures.split
    d.ensures.below c.if-left-den.false (omega (arith, c.power.ensures, d.ensures.part, c.if-part-power.false))
