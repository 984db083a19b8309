use Rattle.std.proofs.Common.{arith}
use Rattle.std.proofs.lemmas.Result.{err_from_is_err_and}
use Rattle.serde_json.specs.View.{view}
use Rattle.model_json.proofs.OptionLemmas.{row_starts, row_goes_on, row_ends, row_done}
use Rattle.model_json.proofs.options.performances_of.Goals as goal

pub criteria-init : goal.criteria-init
criteria-init c = rw c.new-row.ensures.items (row_starts c.args.place c.args.model.now.criteria (view c.args.value.now))

pub returns-in_err-performance : goal.returns-in_err-performance
returns-in_err-performance c =
    let p = err_from_is_err_and c.from_residual.result c.from_residual.ensures.1 in
    let at = row_ends c.args.place c.args.model.now.criteria (view c.args.value.now) c.criteria.c c.criteria.row.items c.criteria.invariant in
    rw (p.1, p.2) (at c.criterion.result.now c.criterion.ensures.criterion c.in_err-performance.field-0.0 c.in_err-performance.ensures)

pub criteria-preserved : goal.criteria-preserved
criteria-preserved c =
    let at = row_goes_on c.args.place c.args.model.now.criteria (view c.args.value.now) c.criteria.c c.criteria.row.items c.criteria.invariant in
    rw c.in_ok-push.ensures.items
    (at c.criterion.result.now c.criterion.ensures.criterion c.in_ok-performance.performance c.in_ok-performance.ensures)

pub returns : goal.returns
returns c = row_done c.args.place c.args.model.now.criteria (view c.args.value.now) c.criteria.c c.criteria.row.items c.criteria.invariant (omega arith)
