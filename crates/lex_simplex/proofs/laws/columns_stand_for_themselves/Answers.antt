use Rattle.lex_simplex.proofs.Tableaus.BasicPoint.{columns_distinct, column_constant}
use Rattle.lex_simplex.proofs.Tableaus.UnitRows.{column_coefs}
use Rattle.lex_simplex.proofs.laws.columns_stand_for_themselves.Goals as goal

pub returns-clause-different : goal.returns-clause-different
returns-clause-different c t is = columns_distinct c.args.problem.now t is

pub returns-clause-constant : goal.returns-clause-constant
returns-clause-constant c t j is below = column_constant c.args.problem.now t is j below

pub returns-clause-coefs : goal.returns-clause-coefs
returns-clause-coefs c t j is below = column_coefs c.args.problem.now t is j below
