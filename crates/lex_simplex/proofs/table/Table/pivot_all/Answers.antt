use Rattle.std.proofs.Common.{sym, ap, subst}
use Rattle.lex_simplex.specs.Equations.{IsTableauOf}
use Rattle.lex_simplex.specs.State.{TableData}
use Rattle.lex_simplex.proofs.Runs.Loop.{IsRunMade-same_problem}
use Rattle.lex_simplex.proofs.table.Table.pivot_all.Goals as goal

pub returns-clause-same_problem : goal.returns-clause-same_problem
returns-clause-same_problem c p is =
    let before = ap (λ (t : TableData). t.tableau) c.self.view_is in
    IsRunMade-same_problem p c.self.inside.cells c.run-end.new.cells c.args.pivots.now c.run-end.new.pivots c.run-end.result c.run-end.ensures.run
    (subst (IsTableauOf p) (sym before) is)
