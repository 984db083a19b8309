use Rattle.lex_simplex.proofs.Choices.Laws.{leaving-some, leaving-none, entering-is, is-entering, entering-none}
use Rattle.lex_simplex.proofs.Choices.NoColumn.{no_entering}
use Rattle.lex_simplex.proofs.laws.pivot_is_one.Goals as goal

pub returns-clause-row : goal.returns-clause-row
returns-clause-row c t r = leaving-some t r

pub returns-clause-no_row : goal.returns-clause-no_row
returns-clause-no_row c t = leaving-none t

pub returns-clause-column : goal.returns-clause-column
returns-clause-column c t r e = (is-entering t r e, entering-is t r e)

pub returns-clause-no_column : goal.returns-clause-no_column
returns-clause-no_column c t r is below = (λ none f h. no_entering c.args.problem.now t r is below none f, entering-none t r)
