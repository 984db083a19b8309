use Rattle.std.proofs.Common.{◌∙◌, ap, sym, subst₂}
use Rattle.std.proofs.lemmas.List.{with_items_is}
use Rattle.lex_simplex.specs.Cells.{tableau_in}
use Rattle.lex_simplex.specs.Pivot.{PivotFits}
use Rattle.lex_simplex.specs.Steps.{DoneIff}
use Rattle.lex_simplex.specs.Turn.{pivoted_tableau}
use Rattle.lex_simplex.proofs.cells.Cells.pivot.Goals as goal

pub returns-clause-done : goal.returns-clause-done
returns-clause-done c =
    let before = ap (tableau_in c.self.inside.grid) c.as_mut_slice.ensures.value ∙ c.self.view_is in
    let after = ap (tableau_in c.pivot_cells.new.grid) (sym (with_items_is c.self.inside.columns c.pivot_cells.new.columns
    (c.pivot_cells.ensures.same_length ∙ c.as_mut_slice.ensures.len))) in
    subst₂ (λ t s. DoneIff c.pivot_cells.result (PivotFits t c.args.row c.args.column) s (pivoted_tableau t c.args.row c.args.column)) before after
    c.pivot_cells.ensures.done
