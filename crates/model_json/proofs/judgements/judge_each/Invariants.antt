use Rattle.std.proofs.Common.{◌≡◌}
use Rattle.model_json.specs.Reading.{judgement_of}
use Rattle.model_json.proofs.Loops.{Left}
use Rattle.model_json.proofs.judgements.judge_each.Given as goal

abbrev pub invariant-values : goal.invariant-values
invariant-values l = record {
  left : Left (judgement_of l.criterion) l.initial.matrix l.values l.j l.matrix;
  size : l.matrix.size ≡ l.initial.matrix.size;
}
