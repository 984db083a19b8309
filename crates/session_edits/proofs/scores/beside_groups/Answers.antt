use Rattle.std.proofs.Common.{◌<◌, length, refl, subst, sym, ◌∙◌}
use Rattle.std.specs.List.{zip}
use Rattle.std.proofs.lemmas.Option.{slice_get_read}
use Rattle.session_edits.specs.Scores.{group_names}
use Rattle.session_edits.proofs.ScoreLemmas.{beside-push}
use Rattle.session_edits.proofs.scores.beside_groups.Goals as goal

pub loop-group-preserved : goal.loop-group-preserved
loop-group-preserved c =
    let m = c.args.model.now in
    let i = c.loop-group.group in
    let parts = c.args.parts.now in
    let within : i < length parts = subst (λ k. i < k) (c.groups-group-end.ensures.each ∙ sym c.requires) c.loop-group-test.true in
    let there = slice_get_read parts (length parts) i c.index-parts-group.result refl within c.index-parts-group.is in
    let name = c.in_ok-copy.ensures ∙ c.name.ensures in
    beside-push (λ group. group.name) m.groups parts i c.group.result.now c.index-parts-group.result (c.in_ok-copy.field-0, c.index-parts-group.result)
    c.loop-group.named.items c.push.new.self.items (zip (group_names m) parts) c.loop-group.invariant c.group.ensures.group there
    (λ k. (name k, c.index-parts-group.result)) c.in_ok-push.ensures.items
