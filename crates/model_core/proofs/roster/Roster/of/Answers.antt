use Rattle.std.proofs.Common.{◌≡◌, ◌<◌, length, refl, Some, slice_get, ap, ◌∙◌, rules}
use Rattle.std.proofs.lemmas.Option.{slice_get_read}
use Rattle.model_core.specs.Lists.{find}
use Rattle.model_core.proofs.RosterLemmas.{find-before}
use Rattle.model_core.proofs.roster.Roster.of.Goals as goal

pub push_copy-requires : goal.push_copy-requires
push_copy-requires g c =
    let name = g.T.Named.name in
    let within : c.loop-item.item-index < length c.args.items.now = search rules in
    let there : slice_get c.args.items.now c.loop-item.item-index ≡ Some c.item-item.result =
    slice_get_read c.args.items.now (length c.args.items.now) c.loop-item.item-index c.item-item.result refl within c.item-item.is in
    ap (λ xs. find name xs (name c.item-item.result)) c.loop-item.invariant
    ∙ find-before name c.args.items.now c.loop-item.item-index c.item-item.result c.requires there
