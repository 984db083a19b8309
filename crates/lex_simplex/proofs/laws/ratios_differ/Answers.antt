use Rattle.lex_simplex.proofs.Choices.Ratios.{ratios_differ}
use Rattle.lex_simplex.proofs.laws.ratios_differ.Goals as goal

pub returns : goal.returns
returns c t r e f is below e_below f_below apart left right = ratios_differ c.args.problem.now t r e f is below e_below f_below apart left right
