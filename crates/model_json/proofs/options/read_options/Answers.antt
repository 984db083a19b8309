use Rattle.std.proofs.Common.{arith}
use Rattle.std.proofs.lemmas.Result.{err_from_is_err_and}
use Rattle.model_json.specs.Reading.{option_of}
use Rattle.model_json.proofs.Loops.{goes_on, ends, is_done}
use Rattle.model_json.proofs.options.read_options.Goals as goal

pub returns-in_err-read_option : goal.returns-in_err-read_option
returns-in_err-read_option c =
    let p = err_from_is_err_and c.from_residual.result c.from_residual.ensures.1 in
    let at = ends option_of c.args.model.now c.args.values.now c.values.i c.values.model c.values.invariant in
    rw (p.1, p.2) (at c.index-values-i.result c.values-test.true c.index-values-i.is c.in_err-read_option.field-0.0 c.in_err-read_option.ensures)

pub values-preserved : goal.values-preserved
values-preserved c =
    let at = goes_on option_of c.args.model.now c.args.values.now c.values.i c.values.model c.values.invariant in
    at c.index-values-i.result c.values-test.true c.index-values-i.is c.read_option.new.model c.in_ok-read_option.ensures

pub returns : goal.returns
returns c = is_done option_of c.args.model.now c.args.values.now c.values.i c.values.model c.values.invariant (omega arith)
