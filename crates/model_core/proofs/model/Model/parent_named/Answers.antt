use Rattle.std.proofs.Common.{Some, sym, ap, ◌∙◌}
use Rattle.model_core.specs.Edits.{group_named}
use Rattle.model_core.proofs.model.Model.parent_named.Goals as goal

pub returns-in-Some-clause-place : goal.returns-in-Some-clause-place
returns-in-Some-clause-place c =
    c.group_named.ensures.place ∙ ap (group_named c.args.self.now) (ap Some c.as_bytes.ensures.value ∙ sym c.in-Some.is)
