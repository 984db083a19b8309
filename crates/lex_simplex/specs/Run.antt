-- What code makes of tables and problems, by their runs.
use Rattle.std.specs.Prelude.{◌≡◌, ℕ, Result, Ok, Err, IfOk}
use Rattle.frac128.specs.Problem.{ProblemData}
use Rattle.lex_simplex.specs.Answer.{IsOutcome, end_of}
use Rattle.lex_simplex.specs.Count.{capped_sum}
use Rattle.lex_simplex.specs.Tableau.{Tableau}
use Rattle.lex_simplex.specs.Turn.{IsRun, IsRunFrom}
use Rattle.lex_simplex.specs.declared.end.End.{End}
use Rattle.lex_simplex.specs.declared.end.PivotFault.{PivotFault}
use Rattle.lex_simplex.specs.declared.end.PivotFault.TheVariants as fault
use Rattle.lex_simplex.specs.declared.outcome.Outcome.{Outcome}
use Rattle.lex_simplex.specs.declared.solver.SolveFault.{SolveFault}
use Rattle.lex_simplex.specs.declared.solver.SolveFault.TheVariants as solve_fault

-- the run from the tableau ends so, its pivots are counted, and it leaves its last tableau, or after a fault any
pub record IsRunMade (before : Tableau) (count : ℕ) (end : Result End PivotFault) (after : Tableau)
    (count_after : ℕ) : Type 0 where
  pub pivots : ℕ
  pub run : IsRunFrom before end pivots
  pub counted : count_after ≡ capped_sum count pivots
  pub last : IfOk end (λ _. after ≡ run.last)

-- the problem's run ends with the outcome's end, and what the outcome says is so; or a pivot leaves the range; or no
-- memory is told
abbrev pub IsSolved : ProblemData → ℕ → Result Outcome SolveFault → ℕ → Type 0
IsSolved p count (Ok outcome) after = IsOutcome p outcome
    × ((n : ℕ) × IsRun p (Ok (end_of outcome)) n × (after ≡ capped_sum count n))
IsSolved p count (Err solve_fault.TooWide) after = (n : ℕ) × IsRun p (Err fault.TooWide) n
    × (after ≡ capped_sum count n)
IsSolved p count (Err solve_fault.NoMemory) after = after ≡ count
