use Rattle.lex_simplex.proofs.Runs.Ending.{turns_are}
use Rattle.lex_simplex.proofs.Tableaus.Start.{start_is}
use Rattle.lex_simplex.proofs.laws.turns_keep_the_problem.Goals as goal

pub returns-clause-start : goal.returns-clause-start
returns-clause-start c = start_is c.args.problem.now c.vars.ensures.problem

pub returns-clause-kept : goal.returns-clause-kept
returns-clause-kept c n t s is turns = turns_are c.args.problem.now n t s is turns
