use Rattle.session_edits.specs.Groups.{placed_entry}
use Rattle.session_edits.proofs.PieceLemmas.{pieces-push}
use Rattle.session_edits.proofs.groups.placed_entries.Goals as goal

pub loop-at-preserved : goal.loop-at-preserved
loop-at-preserved c =
    let m = c.args.model.now in
    pieces-push (placed_entry m) m.criteria c.loop-at.at c.criterion.result.now c.loop-at.entries.items c.push_placed.new.entries.items
    c.loop-at.invariant c.criterion.ensures.criterion c.in_ok-push_placed.ensures
