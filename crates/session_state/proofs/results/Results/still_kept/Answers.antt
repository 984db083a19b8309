use Rattle.std.proofs.Common.{sym, ◌∙◌, ap, cond, get_or, None}
use Rattle.session_state.proofs.ResultLemmas.{still_kept-found_at}
use Rattle.session_state.proofs.results.Results.still_kept.Goals as goal

pub returns-then-eq : goal.returns-then-eq
returns-then-eq c =
    c.place.ensures ∙ sym (still_kept-found_at c.args.model.now c.args.self.now c.criterion.result.now c.args.after.now c.as_bytes.result.now
    c.find_criterion.result c.in_ok-at.at c.matrix.result.now c.matrix-2.result.now c.eq.result (c.as_bytes.ensures.value ∙ c.name.ensures.value)
    c.find_criterion.ensures.place c.in_ok-at.was c.criterion.ensures.criterion c.matrix.ensures.value c.matrix-2.ensures.value c.eq.ensures
    ∙ ap (λ t. cond t (get_or c.args.self.now.kept c.in_ok-at.at None) None) c.if-eq.true)

pub returns-else-eq : goal.returns-else-eq
returns-else-eq c =
    sym (still_kept-found_at c.args.model.now c.args.self.now c.criterion.result.now c.args.after.now c.as_bytes.result.now
    c.find_criterion.result c.in_ok-at.at c.matrix.result.now c.matrix-2.result.now c.eq.result (c.as_bytes.ensures.value ∙ c.name.ensures.value)
    c.find_criterion.ensures.place c.in_ok-at.was c.criterion.ensures.criterion c.matrix.ensures.value c.matrix-2.ensures.value c.eq.ensures
    ∙ ap (λ t. cond t (get_or c.args.self.now.kept c.in_ok-at.at None) None) c.if-eq.false)
