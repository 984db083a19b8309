use Rattle.std.proofs.Common.{sym, ap, subst, None}
use Rattle.lex_simplex.specs.Equations.{IsTableauOf}
use Rattle.lex_simplex.specs.State.{IsWorkable}
use Rattle.lex_simplex.specs.Tableau.{Tableau}
use Rattle.lex_simplex.proofs.CellLists.First.{start_workable}
use Rattle.lex_simplex.proofs.Tableaus.Start.{start_is}
use Rattle.lex_simplex.proofs.table.Table.make.Goals as goal

pub invariant_of-result : goal.invariant_of-result
invariant_of-result c = subst IsWorkable (sym c.in_ok-cells.ensures) (start_workable c.args.problem.now c.vars.ensures.problem)

pub returns-clause-value : goal.returns-clause-value
returns-clause-value c = ap (λ (t : Tableau). record { tableau = t; end = None }) c.in_ok-cells.ensures

pub returns-clause-problem : goal.returns-clause-problem
returns-clause-problem c = (
  c.vars.ensures.problem,
  subst (IsTableauOf c.args.problem.now) (sym c.in_ok-cells.ensures)
      (start_is c.args.problem.now c.vars.ensures.problem),
)
