use Rattle.std.proofs.Common.{◌≡◌, Some}
use Rattle.model_core.specs.Finding.{find_element}
use Rattle.model_json.proofs.FindLemmas.{copied, found-there}
use Rattle.model_json.proofs.criteria.reference_name.Goals as goal

pub returns : goal.returns
returns c =
    copied c.copy.result c.index.result.now (λ name. find_element c.args.parts.now name ≡ Some c.args.at) c.copy.ensures
    (found-there _ c.args.parts.now c.args.at c.index.result.now c.parts.view_is c.parts.invariant.apart c.requires.0 c.requires.1 c.index.ensures)
