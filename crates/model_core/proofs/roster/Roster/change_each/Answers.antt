use Rattle.std.proofs.Common.{◌<◌, length, ap, ◌∙◌, rules}
use Rattle.model_core.specs.Lists.{changed_at}
use Rattle.model_core.proofs.KeepLemmas.{length-changed}
use Rattle.model_core.proofs.RosterLemmas.{changed_more}
use Rattle.model_core.proofs.roster.Roster.change_each.Goals as goal

pub loop-at-preserved : goal.loop-at-preserved
loop-at-preserved g c =
    let f = g.C.Change.after c.args.change in
    let at = c.loop-at.at in
    let within : at < length c.args.self.now = search rules in
    record {
      each = ap length c.change.ensures ∙ length-changed f _ at ∙ c.loop-at.invariant.each;
      changed = c.change.ensures ∙ ap (λ xs. changed_at f xs at) c.loop-at.invariant.changed ∙ changed_more f c.args.self.now at within;
    }
