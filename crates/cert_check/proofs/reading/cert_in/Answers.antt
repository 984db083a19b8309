use Rattle.std.proofs.Common.{subst, sym}
use Rattle.cert_check.specs.Reading.{words, IsPrintedHead, AreEntries}
use Rattle.cert_check.proofs.HeadTexts.{other_head_line, IsFault-from_entries, IsTextOf-from_entries}
use Rattle.cert_check.proofs.WordLemmas.{Found-some, Found-none}
use Rattle.cert_check.proofs.reading.cert_in.Goals as goal

pub returns-in_default-2 : goal.returns-in_default-2
returns-in_default-2 c =
    other_head_line c.args.bytes.now c.in-Some.line.now c.in-Some.rest.now c.in-Some.ensures.0 c.in-Some.ensures.1
    (Found-none (IsPrintedHead (words c.in-Some.line.now)) c.in_ok-head.field-0 c.in_ok-head.ensures c.in_default-2.is)

pub returns-in-Ok : goal.returns-in-Ok
returns-in-Ok c =
    IsTextOf-from_entries c.args.bytes.now c.in-Some.line.now c.in-Some.rest.now c.in-Some-2.head c.cert_of.result c.in-Some.ensures.0
    (Found-some (IsPrintedHead (words c.in-Some.line.now)) c.in_ok-head.field-0 c.in-Some-2.head c.in_ok-head.ensures c.in-Some-2.is)
    (subst (AreEntries c.in-Some.rest.now c.in-Some-2.head.count) (sym c.cert_of.ensures.on) c.in-Ok.ensures) c.cert_of.ensures.claim c.cert_of.ensures.den

pub returns-in-Err : goal.returns-in-Err
returns-in-Err c =
    IsFault-from_entries c.args.bytes.now c.in-Some.line.now c.in-Some.rest.now c.in-Some-2.head c.in-Some.ensures.0
    (Found-some (IsPrintedHead (words c.in-Some.line.now)) c.in_ok-head.field-0 c.in-Some-2.head c.in_ok-head.ensures c.in-Some-2.is)
    c.in-Err.fault c.in-Err.ensures
