use Rattle.model_json.specs.Reading.{option_of}
use Rattle.model_json.proofs.Loops.{Left}
use Rattle.model_json.proofs.options.read_options.Given as goal

abbrev pub invariant-values : goal.invariant-values
invariant-values l = Left option_of l.fn.model l.values l.i l.model
