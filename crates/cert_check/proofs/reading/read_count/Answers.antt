use Rattle.std.proofs.Common.{pos, arith}
use Rattle.std.proofs.lemmas.Int.{ints}
use Rattle.cert_check.specs.Reading.{IsPrintedWhole}
use Rattle.cert_check.proofs.NumberLemmas.{one_whole}
use Rattle.cert_check.proofs.WordLemmas.{Found-some, Found-none}
use Rattle.cert_check.proofs.reading.read_count.Goals as goal

pub returns-in_default : goal.returns-in_default
returns-in_default c = λ count h.
    Found-none (IsPrintedWhole c.args.word.now) c.in_ok-count.field-0 c.in_ok-count.ensures c.in_default.is (pos count) (omega arith, h.1)

pub returns-then-count-lt0 : goal.returns-then-count-lt0
returns-then-count-lt0 c = λ count h.
    let read = Found-some (IsPrintedWhole c.args.word.now) c.in_ok-count.field-0 c.in-Some.count c.in_ok-count.ensures c.in-Some.is in
    let same = one_whole c.args.word.now c.in-Some.count (pos count) read.0 (let small = h.0 in omega arith) read.1 h.1 in
    omega (arith, ints)
