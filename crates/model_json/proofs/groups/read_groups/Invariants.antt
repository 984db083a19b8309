use Rattle.model_json.specs.Reading.{group_of}
use Rattle.model_json.proofs.Loops.{Left}
use Rattle.model_json.proofs.groups.read_groups.Given as goal

abbrev pub invariant-values : goal.invariant-values
invariant-values l = Left group_of l.fn.model l.values l.i l.model
