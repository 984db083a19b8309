use Rattle.std.proofs.Common.{◌-◌, ◌++◌, ◌∙◌, replicate, pos, All, ap, sym, subst}
use Rattle.frac128.specs.Problem.{IsRow}
use Rattle.lp_macbeth.proofs.RangeLemmas.{IsProblem-ones}
use Rattle.lp_macbeth.proofs.gap_rows.problem_of_tags.Goals as goal

pub make-requires-2 : goal.make-requires-2
make-requires-2 c =
    let k = c.size-vars.result - 1 in
    IsProblem-ones k c.make.result c.in_ok-rows.rows
    (c.make.ensures ∙ c.in_ok-push_copies.ensures ∙ ap (λ l. l ++ replicate k (pos 1)) c.new-cost.ensures.items)
    (subst (λ s. All (IsRow (s - 1)) c.in_ok-rows.rows) (sym c.size-vars.ensures.value) c.in_ok-rows.ensures.fit)
