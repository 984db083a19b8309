use Rattle.std.proofs.Common.{◌∙◌}
use Rattle.cert_check.specs.Reading.{words, IsPrintedPair, IsPrintedCross}
use Rattle.cert_check.proofs.EntryTexts.{no_lower, no_zero, no_cross}
use Rattle.cert_check.proofs.WordLemmas.{Found-none}
use Rattle.cert_check.proofs.reading.read_entry.Goals as goal

pub returns-in_default-2 : goal.returns-in_default-2
returns-in_default-2 c =
    no_lower (words c.args.line.now) c.in-Some.kind.now (words c.in-Some.rest.now) c.in-Some.ensures
    (c.is_same.ensures.0 c.if-is_same.true ∙ c.as_bytes.ensures.value)
    (Found-none (IsPrintedPair (words c.in-Some.rest.now)) c.in_ok-p.field-0 c.in_ok-p.ensures c.in_default-2.is)

pub returns-in_default-3 : goal.returns-in_default-3
returns-in_default-3 c =
    no_zero (words c.args.line.now) c.in-Some.kind.now (words c.in-Some.rest.now) c.in-Some.ensures
    (c.is_same-2.ensures.0 c.if-is_same-2.true ∙ c.as_bytes-2.ensures.value)
    (Found-none (IsPrintedPair (words c.in-Some.rest.now)) c.in_ok-p-2.field-0 c.in_ok-p-2.ensures c.in_default-3.is)

pub returns-in_default-4 : goal.returns-in_default-4
returns-in_default-4 c =
    no_cross (words c.args.line.now) c.in-Some.kind.now (words c.in-Some.rest.now) c.in-Some.ensures
    (c.is_same-3.ensures.0 c.if-is_same-3.true ∙ c.as_bytes-3.ensures.value)
    (Found-none (IsPrintedCross (words c.in-Some.rest.now)) c.in_ok-p-3.field-0 c.in_ok-p-3.ensures c.in_default-4.is)
