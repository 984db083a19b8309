use Rattle.model_core.proofs.KeepLemmas.{above_read}
use Rattle.model_core.proofs.model.Model.group.Goals as goal

pub returns-clause-parent : goal.returns-clause-parent
returns-clause-parent c = above_read _ c.self.invariant c.args.at _ c.get.ensures
