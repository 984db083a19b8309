use Rattle.std.proofs.Common.{arith, ◌∙◌}
use Rattle.std.proofs.lemmas.Result.{err_from_is_err_and}
use Rattle.model_json.specs.Reading.{judgement_of}
use Rattle.model_json.proofs.Loops.{goes_on, ends, is_done}
use Rattle.model_json.proofs.judgements.judge_each.Goals as goal

pub values-preserved : goal.values-preserved
values-preserved c = record {
  left = goes_on (judgement_of c.args.criterion) c.args.matrix.now c.args.values.now c.values.j c.values.matrix c.values.invariant.left
      c.index-values-j.result c.values-test.true c.index-values-j.is c.judge.new.matrix c.in_ok-judge.ensures.read;
  size = c.judge.ensures.size ∙ c.values.invariant.size;
}

pub returns-in_err-judge-clause-read : goal.returns-in_err-judge-clause-read
returns-in_err-judge-clause-read c =
    let p = err_from_is_err_and c.from_residual.result c.from_residual.ensures.1 in
    rw (p.1, p.2) (ends (judgement_of c.args.criterion) c.args.matrix.now c.args.values.now c.values.j c.values.matrix c.values.invariant.left
    c.index-values-j.result c.values-test.true c.index-values-j.is c.in_err-judge.field-0.0 c.in_err-judge.ensures.read)

pub returns-clause-read : goal.returns-clause-read
returns-clause-read c =
    is_done (judgement_of c.args.criterion) c.args.matrix.now c.args.values.now c.values.j c.values.matrix c.values.invariant.left (omega arith)
