use Rattle.model_json.specs.Reading.{criterion_of}
use Rattle.model_json.proofs.Loops.{Left}
use Rattle.model_json.proofs.reading.read_criteria.Given as goal

abbrev pub invariant-values : goal.invariant-values
invariant-values l = Left (criterion_of l.grouped) l.fn.model l.values l.i l.model
