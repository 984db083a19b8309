use Rattle.cert_check.proofs.NumberLemmas.{value_read, printed_otherwise}
use Rattle.std.proofs.Common.{◌∙◌}
use Rattle.cert_check.proofs.numbers.read_value.Goals as goal

pub returns-in_default : goal.returns-in_default
returns-in_default c = λ value h.
    c.in_default.not-Ok value (value_read c.args.word.now c.read_frac.result value h.0 h.1
    c.read_frac.ensures.ok c.read_frac.ensures.bad_number c.read_frac.ensures.too_wide)

pub returns : goal.returns
returns c = λ value h.
    let read = value_read c.args.word.now c.read_frac.result value h.0 h.1 c.read_frac.ensures.ok c.read_frac.ensures.bad_number c.read_frac.ensures.too_wide in
    printed_otherwise c.args.word.now c.as_bytes.result.now c.read_frac.result c.in-Ok.value value c.in-Ok.is read
    (c.as_bytes.ensures.value ∙ c.in_ok-text.ensures.text) h.1
    (λ same. let yes = c.is_same.ensures.1 same in let no = c.if-is_same.false in cc)
