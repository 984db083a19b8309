use Rattle.std.proofs.Common.{◌<◌, Some, slice_set, ap, ◌∙◌, rules}
use Rattle.model_core.proofs.RowLemmas.{take-set}
use Rattle.model_core.proofs.row.Row.set.Goals as goal

pub returns : goal.returns
returns c =
    let within : c.args.at < c.self.inside.width = search rules in
    take-set c.self.inside.width c.self.inside.places c.args.at (Some c.args.element) within
    ∙ ap (λ row. slice_set row c.args.at (Some c.args.element)) c.self.view_is
