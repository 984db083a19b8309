-- A table between turns: its tableau, and how its run ended, if it did.
use Rattle.std.specs.Prelude.{◌≡◌, Option, Some, None, Result, Ok, Err, All, ⊤}
use Rattle.frac128.specs.Problem.{ProblemData, IsProblem}
use Rattle.lex_simplex.specs.Cells.{table_rows}
use Rattle.lex_simplex.specs.Equations.{IsTableauOf}
use Rattle.lex_simplex.specs.Steps.{IsReducedRow}
use Rattle.lex_simplex.specs.Tableau.{Tableau}
use Rattle.lex_simplex.specs.Turn.{turn, next, ended}
use Rattle.lex_simplex.specs.declared.end.End.{End}
use Rattle.lex_simplex.specs.declared.end.PivotFault.{PivotFault}
use Rattle.lex_simplex.specs.declared.turn.Turned.{Turned}
use Rattle.lex_simplex.specs.declared.turn.Turned.TheVariants.{Pivoted, Ended}

-- the tableau counts for nothing once a pivot left the range
pub record TableData : Type 0 where
  pub tableau : Tableau
  pub end : Option (Result End PivotFault)

-- turns can go on from it: it is a tableau of some problem, with rows in range that have no common divisor
pub record IsWorkable (t : Tableau) : Type 0 where
  pub problem : ProblemData
  pub is_problem : IsProblem problem
  pub is_tableau : IsTableauOf problem t
  pub rows_reduced : All IsReducedRow (table_rows t)

-- where the run has not left the range its tableau is workable, and where it has ended the turn from it ends so
abbrev pub IsKept : Tableau → Option (Result End PivotFault) → Type 0
IsKept t None = IsWorkable t
IsKept t (Some (Ok end)) = IsWorkable t × (turn t ≡ ended (Ok end))
IsKept t (Some (Err fault)) = ⊤

-- the next tableau, from which turns can go on, or the same one at an end, or at a fault any
abbrev pub IsTurned : Tableau → Tableau → Turned → Type 0
IsTurned before after Pivoted = (turn before ≡ next after) × IsWorkable after
IsTurned before after (Ended (Ok end)) = (turn before ≡ ended (Ok end)) × (after ≡ before)
IsTurned before after (Ended (Err fault)) = turn before ≡ ended (Err fault)
