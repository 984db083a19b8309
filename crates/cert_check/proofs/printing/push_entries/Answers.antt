use Rattle.std.proofs.Common.{pos}
use Rattle.std.specs.Prelude.{string_bytes}
use Rattle.judgement_matrix.specs.declared.tag.Tag.TheVariants.{Lower}
use Rattle.cert_check.proofs.PrintingLemmas.{entries-next}
use Rattle.cert_check.proofs.printing.push_entries.Goals as goal

pub loop-entry-preserved : goal.loop-entry-preserved
loop-entry-preserved c =
    entries-next (string_bytes c.args.out.now) (string_bytes c.loop-entry.out) (string_bytes c.push_entry.new.out) c.args.on.now c.loop-entry.entry-index
    (Lower 0 0, pos 0) c.loop-entry-test.true
    c.loop-entry.invariant c.in_ok-push_entry.ensures
