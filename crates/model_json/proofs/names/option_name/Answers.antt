use Rattle.std.proofs.Common.{◌≡◌, Some}
use Rattle.model_core.specs.Finding.{find_option}
use Rattle.model_json.proofs.FindLemmas.{copied, find-own}
use Rattle.model_json.proofs.names.option_name.Goals as goal

pub returns : goal.returns
returns c =
    copied c.copy.result c.option.result.now (λ name. find_option c.args.model.now name ≡ Some c.args.at) c.copy.ensures
    (find-own (λ x. x) c.args.model.now.options c.args.at c.option.result.now c.options.ensures.apart c.option.ensures)
