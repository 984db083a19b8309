use Rattle.std.proofs.Common.{arith}
use Rattle.std.proofs.lemmas.Result.{err_from_is_err_and}
use Rattle.model_json.proofs.WeightingLemmas.{ranked_goes_on, ranked_ends, ranked_done}
use Rattle.model_json.proofs.weighting.ranked_names.Goals as goal

pub returns-in_err-criterion : goal.returns-in_err-criterion
returns-in_err-criterion c =
    let p = err_from_is_err_and c.from_residual.result c.from_residual.ensures.1 in
    let at = ranked_ends c.args.model.now c.args.values.now c.values.i c.values.names.items c.values.invariant in
    rw (p.1, p.2) (at c.index-values-i.result c.values-test.true c.index-values-i.is c.in_err-criterion.field-0.0 c.in_err-criterion.ensures.place)

pub values-preserved : goal.values-preserved
values-preserved c =
    let at = ranked_goes_on c.args.model.now c.args.values.now c.values.i c.values.names.items c.values.invariant c.index-values-i.result c.values-test.true c.index-values-i.is in
    rw c.in_ok-push.ensures.items
    (at c.in_ok-criterion_name.field-0 c.in_ok-criterion.criterion c.in_ok-criterion.ensures.place c.in_ok-criterion_name.ensures)

pub returns : goal.returns
returns c = ranked_done c.args.model.now c.args.values.now c.values.i c.values.names.items c.values.invariant (omega arith)
