use Rattle.lex_simplex.proofs.Ends.Existence.{run_has_outcome}
use Rattle.lex_simplex.proofs.laws.ends_have_outcomes.Goals as goal

pub returns : goal.returns
returns c end n run = run_has_outcome c.args.problem.now end n c.vars.ensures.problem run
