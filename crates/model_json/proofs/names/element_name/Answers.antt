use Rattle.std.proofs.Common.{◌≡◌, Some}
use Rattle.model_core.specs.Finding.{find_element}
use Rattle.model_json.proofs.FindLemmas.{copied, find-element}
use Rattle.model_json.proofs.names.element_name.Goals as goal

pub returns : goal.returns
returns c =
    copied c.copy.result c.element.result.now (λ name. find_element c.args.criterion.now name ≡ Some c.args.at) c.copy.ensures
    (find-element c.args.criterion.now c.args.at c.element.result.now c.elements.ensures.apart c.requires.0 c.element.ensures)
