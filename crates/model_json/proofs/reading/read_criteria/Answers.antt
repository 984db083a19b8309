use Rattle.std.proofs.Common.{arith}
use Rattle.std.proofs.lemmas.Result.{err_from_is_err_and}
use Rattle.model_json.specs.Reading.{criterion_of}
use Rattle.model_json.proofs.Loops.{goes_on, ends, is_done}
use Rattle.model_json.proofs.reading.read_criteria.Goals as goal

pub returns-in_err-read_criterion : goal.returns-in_err-read_criterion
returns-in_err-read_criterion c =
    let p = err_from_is_err_and c.from_residual.result c.from_residual.ensures.1 in
    let at = ends (criterion_of c.args.grouped) c.args.model.now c.args.values.now c.values.i c.values.model c.values.invariant in
    rw (p.1, p.2) (at c.index-values-i.result c.values-test.true c.index-values-i.is c.in_err-read_criterion.field-0.0 c.in_err-read_criterion.ensures)

pub values-preserved : goal.values-preserved
values-preserved c =
    let at = goes_on (criterion_of c.args.grouped) c.args.model.now c.args.values.now c.values.i c.values.model c.values.invariant in
    at c.index-values-i.result c.values-test.true c.index-values-i.is c.read_criterion.new.model c.in_ok-read_criterion.ensures

pub returns : goal.returns
returns c = is_done (criterion_of c.args.grouped) c.args.model.now c.args.values.now c.values.i c.values.model c.values.invariant (omega arith)
