use Rattle.std.proofs.Common.{ℕ, Option, ap, ◌∙◌}
use Rattle.std.specs.Option.{option_map}
use Rattle.session_edits.specs.Groups.{group_entry, group_name}
use Rattle.session_state.proofs.ResultLemmas.{places-push}
use Rattle.session_edits.proofs.groups.group_entries.Goals as goal

pub loop-at-preserved : goal.loop-at-preserved
loop-at-preserved c =
    let m = c.args.model.now in
    let above = c.in_ok-above.ensures ∙ ap (λ (g : Option ℕ). option_map (group_name m) g) c.parent.ensures in
    let name = c.in_ok-copy.ensures ∙ c.name.ensures in
    places-push (group_entry m) m.groups c.loop-at.at c.group-group.result.now (c.in_ok-copy.field-0, c.in_ok-above.above)
    c.loop-at.entries.items c.push.new.self.items c.loop-at.invariant c.group-group.ensures.group (λ i. (name i, above i))
    c.in_ok-push.ensures.items
