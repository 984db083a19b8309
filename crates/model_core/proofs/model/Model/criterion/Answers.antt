use Rattle.std.proofs.Common.{◌<◌, length, subst}
use Rattle.std.specs.Option.{IfSome}
use Rattle.model_core.proofs.KeepLemmas.{placed_read}
use Rattle.model_core.proofs.model.Model.criterion.Goals as goal

pub returns-clause-placed : goal.returns-clause-placed
returns-clause-placed c =
    subst (λ m. IfSome c.get.result.now.group (λ g. g < length m.groups)) c.self.view_is (placed_read _ c.self.invariant c.args.at _ c.get.ensures)
