use Rattle.std.proofs.Common.{pos, arith}
use Rattle.std.proofs.lemmas.Int.{ints}
use Rattle.cert_check.specs.Reading.{IsPrintedWhole}
use Rattle.cert_check.proofs.NumberLemmas.{position_is}
use Rattle.cert_check.proofs.WordLemmas.{Found-some, Found-none}
use Rattle.cert_check.proofs.numbers.read_position.Goals as goal

pub returns-in_default : goal.returns-in_default
returns-in_default c = λ place h.
    Found-none (IsPrintedWhole c.args.word.now) c.in_ok-number.field-0 c.in_ok-number.ensures c.in_default.is (pos place) (omega arith, h.2)

pub returns-then-number-lt1 : goal.returns-then-number-lt1
returns-then-number-lt1 c = λ place h.
    let read = Found-some (IsPrintedWhole c.args.word.now) c.in_ok-number.field-0 c.in-Some.number c.in_ok-number.ensures c.in-Some.is in
    let same = position_is c.args.word.now c.in-Some.number place read.0 read.1 h.1 h.2 in
    omega (arith, ints)

pub returns-then-number-gt255 : goal.returns-then-number-gt255
returns-then-number-gt255 c = λ place h.
    let read = Found-some (IsPrintedWhole c.args.word.now) c.in_ok-number.field-0 c.in-Some.number c.in_ok-number.ensures c.in-Some.is in
    let same = position_is c.args.word.now c.in-Some.number place read.0 read.1 h.1 h.2 in
    omega (arith, ints)
