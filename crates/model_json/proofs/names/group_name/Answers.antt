use Rattle.std.proofs.Common.{◌≡◌, Some}
use Rattle.model_core.specs.Finding.{find_group}
use Rattle.model_json.proofs.FindLemmas.{copied, find-own}
use Rattle.model_json.proofs.names.group_name.Goals as goal

pub returns : goal.returns
returns c =
    copied c.copy.result c.name.result.now (λ name. find_group c.args.model.now name ≡ Some c.args.at) c.copy.ensures
    (rw c.name.ensures (find-own (λ x. x.name) c.args.model.now.groups c.args.at c.group.result.now c.groups.ensures.apart c.group.ensures.group))
