use Rattle.std.proofs.Common.{ap}
use Rattle.lex_simplex.specs.Answer.{end_of}
use Rattle.lex_simplex.specs.State.{TableData}
use Rattle.lex_simplex.proofs.Runs.Solving.{last_is, run_is}
use Rattle.lex_simplex.proofs.solver.solve.Goals as goal

pub returns : goal.returns
returns c =
    let begins = ap (λ (t : TableData). t.tableau) c.in_ok-table.ensures.value in
    let first = c.pivot_all.ensures.first (ap (λ (t : TableData). t.end) c.in_ok-table.ensures.value) in
    let last = last_is c.args.problem.now c.pivot_all.new.self.tableau c.pivot_all.new.self.end c.pivot_all.result
    (end_of c.in_ok-outcome.outcome) first.1 c.in_ok-outcome.ensures.end
    (c.pivot_all.ensures.same_problem c.args.problem.now c.in_ok-table.ensures.problem.1) in (
      c.in_ok-outcome.ensures.outcome c.args.problem.now c.in_ok-table.ensures.problem.0 last,
      run_is c.args.problem.now c.in_ok-table.table.tableau c.pivot_all.new.self.tableau c.new-made.result c.pivot_all.new.pivots c.args.pivots.now
          c.add-2.new.self c.pivot_all.new.self.end c.pivot_all.result
          (end_of c.in_ok-outcome.outcome) begins c.new-made.ensures first.0 first.1 c.in_ok-outcome.ensures.end c.add-2.ensures,
    )
