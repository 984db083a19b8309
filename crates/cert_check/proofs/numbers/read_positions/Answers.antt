use Rattle.std.proofs.Common.{arith}
use Rattle.cert_check.specs.Reading.{IsPrintedPlace}
use Rattle.cert_check.proofs.NumberLemmas.{one_position}
use Rattle.cert_check.proofs.WordLemmas.{Found-some}
use Rattle.cert_check.proofs.numbers.read_positions.Goals as goal

pub returns-else-p-q : goal.returns-else-p-q
returns-else-p-q c = λ pair h.
    let upper = Found-some (IsPrintedPlace c.args.upper.now) c.in_ok-p.field-0 c.in-Some.p c.in_ok-p.ensures c.in-Some.is in
    let lower = Found-some (IsPrintedPlace c.args.lower.now) c.in_ok-q.field-0 c.in-Some-2.q c.in_ok-q.ensures c.in-Some-2.is in
    let p_is = one_position c.args.upper.now c.in-Some.p pair.0 upper.1 (omega arith) upper.2 h.1 in
    let q_is = one_position c.args.lower.now c.in-Some-2.q pair.1 lower.1 (omega arith) lower.2 h.2 in
    omega arith
