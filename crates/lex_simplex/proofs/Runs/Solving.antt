-- What `solve` knows from a table's run and its outcome.
use Rattle.std.proofs.Common.{◌≡◌, ℕ, Option, Some, Result, Ok, IfOk, ap, subst, subst₂, ◌∙◌}
use Rattle.frac128.specs.Problem.{ProblemData}
use Rattle.lex_simplex.specs.Count.{capped_sum}
use Rattle.lex_simplex.specs.Equations.{IsTableauOf}
use Rattle.lex_simplex.specs.Run.{IsRunMade}
use Rattle.lex_simplex.specs.Tableau.{Tableau, start}
use Rattle.lex_simplex.specs.Turn.{IsRun, IsRunFrom}
use Rattle.lex_simplex.specs.declared.end.End.{End}
use Rattle.lex_simplex.specs.declared.end.PivotFault.{PivotFault}
use Rattle.lex_simplex.proofs.Runs.Counts.{capped_sum-counted}

-- the end that the table tells is the run's
end_is : (told : Option (Result End PivotFault)) (result : Result End PivotFault) (end : End) → told ≡ Some result → told ≡ Some (Ok end) → result ≡ Ok end
end_is told result end is same = cc

-- the last tableau is one of the problem
pub last_is : (p : ProblemData) (after : Tableau) (told : Option (Result End PivotFault)) (result : Result End PivotFault) (end : End) → told ≡ Some result
    → told ≡ Some (Ok end) → IfOk result (λ _. IsTableauOf p after) → IsTableauOf p after
last_is p after told result end is same h = subst (λ r. IfOk r (λ _. IsTableauOf p after)) (end_is told result end is same) h

-- the run is the problem's, and its pivots are added
pub run_is : (p : ProblemData) (first after : Tableau) (none made count now : ℕ) (told : Option (Result End PivotFault)) (result : Result End PivotFault)
    (end : End) → first ≡ start p → none ≡ 0 → IsRunMade first none result after made → told ≡ Some result → told ≡ Some (Ok end)
    → now ≡ capped_sum count made → (n : ℕ) × IsRun p (Ok end) n × (now ≡ capped_sum count n)
run_is p first after none made count now told result end begins zero run is same added = (
  run.pivots,
  subst₂ (λ t e. IsRunFrom t e run.pivots) begins (end_is told result end is same) run.run,
  added ∙ ap (capped_sum count) (run.counted ∙ ap (λ n. capped_sum n run.pivots) zero) ∙ capped_sum-counted count run.pivots,
)
