use Rattle.model_json.proofs.WholeLoads.{loads_whole}
use Rattle.model_json.proofs.laws.loaded_models_are_whole.Goals as goal

pub returns : goal.returns
returns c = loads_whole
