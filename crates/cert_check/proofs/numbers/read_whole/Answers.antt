use Rattle.std.proofs.Common.{◌∙◌, sym, ap, of_z}
use Rattle.std.specs.Int.{w128}
use Rattle.cert_check.specs.Reading.{IsPrintedValue}
use Rattle.cert_check.proofs.NumberLemmas.{whole, IsValue-whole, whole_text, whole_den}
use Rattle.cert_check.proofs.WordLemmas.{Found-some, Found-none}
use Rattle.cert_check.proofs.numbers.read_whole.Goals as goal

pub returns-in_default : goal.returns-in_default
returns-in_default c = λ z h.
    Found-none (IsPrintedValue c.args.word.now) c.in_ok-value.field-0 c.in_ok-value.ensures c.in_default.is (whole z)
    (IsValue-whole z h.0, h.1 ∙ sym (whole_text z))

pub returns-else-den-eq1 : goal.returns-else-den-eq1
returns-else-den-eq1 c = λ z h.
    let read = Found-some (IsPrintedValue c.args.word.now) c.in_ok-value.field-0 c.in-Some.value c.in_ok-value.ensures c.in-Some.is in
    let one = whole_den c.args.word.now c.in-Some.value z read.0 h.0 read.1 h.1 in
    c.if-den-eq1.false (ap (of_z w128) (c.den.ensures.value ∙ one))
