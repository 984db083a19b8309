use Rattle.std.proofs.Common.{◌≡◌, Some}
use Rattle.model_core.specs.Finding.{find_criterion}
use Rattle.model_json.proofs.FindLemmas.{copied, find-own}
use Rattle.model_json.proofs.names.criterion_name.Goals as goal

pub returns : goal.returns
returns c =
    copied c.copy.result c.name.result.now (λ name. find_criterion c.args.model.now name ≡ Some c.args.at) c.copy.ensures
    (rw c.name.ensures.value
    (find-own (λ x. x.name) c.args.model.now.criteria c.args.at c.criterion.result.now c.criteria.ensures.apart c.criterion.ensures.criterion))
