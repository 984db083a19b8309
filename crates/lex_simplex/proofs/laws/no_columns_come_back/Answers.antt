use Rattle.std.proofs.Common.{◌<◌, All, ap₂, subst, ◌∙◌}
use Rattle.integers.specs.Counting.{choose}
use Rattle.lex_simplex.specs.Columns.{column_set}
use Rattle.lex_simplex.specs.Tableau.{start}
use Rattle.lex_simplex.proofs.Tableaus.ColumnSets.{column_set_is_choice}
use Rattle.lex_simplex.proofs.Runs.Ending.{start_turns_are, columns_change, turns_rise, turns_are_few}
use Rattle.lex_simplex.proofs.Tableaus.Start.{start_is}
use Rattle.lex_simplex.proofs.laws.no_columns_come_back.Goals as goal

pub returns-clause-choice : goal.returns-clause-choice
returns-clause-choice c n t turns =
    let is = start_turns_are c.args.problem.now n t c.vars.ensures.problem turns in
    let choice = column_set_is_choice c.args.problem.now t is in
    record {
      rising = choice.0;
      below = subst (λ m. All (λ q. q < m) (column_set t)) is.one_row_each choice.1;
      size = choice.2 ∙ is.one_column_each;
    }

pub returns-clause-different : goal.returns-clause-different
returns-clause-different c n k t s turns more = columns_change c.args.problem.now k t s
    (start_turns_are c.args.problem.now n t c.vars.ensures.problem turns) more

pub returns-clause-rise : goal.returns-clause-rise
returns-clause-rise c n k t s turns more = turns_rise c.args.problem.now k t s (start_turns_are c.args.problem.now n t c.vars.ensures.problem turns) more

pub returns-clause-few : goal.returns-clause-few
returns-clause-few c n t turns =
    let is = start_is c.args.problem.now c.vars.ensures.problem in
    subst (λ m. n < m) (ap₂ choose is.one_row_each is.one_column_each) (turns_are_few c.args.problem.now n (start c.args.problem.now) t is turns)
