use Rattle.std.proofs.Common.{◌∙◌, ap, get_or, pos, ◌<ℤ◌, subst, sym}
use Rattle.lex_simplex.specs.Steps.{reduced_list}
use Rattle.lex_simplex.proofs.CellLists.Exchange.{den_after}
use Rattle.lex_simplex.proofs.numbers.exchange_by.Goals as goal

pub reduce-requires : goal.reduce-requires
reduce-requires c =
    let stepped = c.in_ok-row_step.ensures.done.value_is in
    subst (λ xs. pos 0 <ℤ get_or xs 0 (pos 0)) (sym stepped) (den_after c.args.p c.args.q c.args.place c.args.pivot.now c.args.row.now c.requires)

pub returns-clause-done : goal.returns-clause-done
returns-clause-done c =
    let step = c.in_ok-row_step.ensures.done in
    record { ok = step.ok; too_wide = tt; value_is = c.reduce.ensures ∙ ap reduced_list step.value_is }
