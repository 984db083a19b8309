-- Turns until an end, one at a time.
use Rattle.std.proofs.Common.{◌≡◌, ℕ, suc, ◌<◌, ◌^◌, Result, Ok, Err, Some, IfOk, add-one, refl, sym, ap, subst, ◌∙◌}
use Rattle.std.proofs.lemmas.Result.{on_ok_weaker}
use Rattle.frac128.specs.Problem.{ProblemData}
use Rattle.lex_simplex.specs.Count.{capped_sum}
use Rattle.lex_simplex.specs.Run.{IsRunMade}
use Rattle.lex_simplex.specs.State.{IsKept, IsWorkable}
use Rattle.lex_simplex.specs.Tableau.{Tableau}
use Rattle.lex_simplex.specs.Turn.{Reaches, turn, next, ended}
use Rattle.lex_simplex.specs.State.{IsTurned}
use Rattle.lex_simplex.specs.declared.end.End.{End}
use Rattle.lex_simplex.specs.declared.end.PivotFault.{PivotFault}
use Rattle.lex_simplex.specs.declared.turn.Turned.TheVariants.{Ended}
use Rattle.lex_simplex.specs.Equations.{IsTableauOf}
use Rattle.lex_simplex.proofs.Runs.Ending.{turns_are}
use Rattle.lex_simplex.proofs.Runs.Counts.{capped_sum-capped_sum, capped_sum-zero}
use Rattle.lex_simplex.proofs.Runs.Steps.{Reaches-append_one}

-- ---- turns

-- some turns were made from the tableau on, and they are counted
pub record AreTurnsMade (before : Tableau) (count : ℕ) (after : Tableau) (count_after : ℕ) : Type 0 where
  pub pivots : ℕ
  pub turns : Reaches pivots before after
  pub counted : count_after ≡ capped_sum count pivots

-- no turns
pub AreTurnsMade-none : (t : Tableau) (count : ℕ) → count < 2 ^ 64 → AreTurnsMade t count t count
AreTurnsMade-none t count h = record { pivots = 0; turns = refl; counted = capped_sum-zero count h }

-- one turn more
pub AreTurnsMade-next : (before t s : Tableau) (count now more : ℕ) → AreTurnsMade before count t now → turn t ≡ next s → more ≡ capped_sum now 1
    → AreTurnsMade before count s more
AreTurnsMade-next before t s count now more made is one = record {
  pivots = suc made.pivots;
  turns = Reaches-append_one made.pivots before t s made.turns is;
  counted = one ∙ ap (λ n. capped_sum n 1) made.counted ∙ capped_sum-capped_sum count made.pivots 1 ∙ ap (capped_sum count) (add-one made.pivots);
}

-- what a turn that ends leaves
turned_end : (before after : Tableau) (end : Result End PivotFault) → IsTurned before after (Ended end)
    → (turn before ≡ ended end) × IfOk end (λ _. after ≡ before)
turned_end before after (Ok end) h = h
turned_end before after (Err fault) h = (h, tt)

-- the run is made once a turn ends
pub IsRunMade-end : (before last after : Tableau) (end : Result End PivotFault) (count now : ℕ) → AreTurnsMade before count last now
    → IsTurned last after (Ended end)
    → IsRunMade before count end after now
IsRunMade-end before last after end count now made turned =
    let told = turned_end last after end turned in
    record { pivots = made.pivots; run = record { last = last; turns = made.turns; ends = told.0 }; counted = made.counted; last = told.1 }

-- a table keeps what it has to where a turn ended
pub IsKept-end : (before after : Tableau) (end : Result End PivotFault) → IsWorkable before → IsTurned before after (Ended end) → IsKept after (Some end)
IsKept-end before after (Ok end) workable h = (subst IsWorkable (sym h.1) workable, ap turn h.1 ∙ h.0)
IsKept-end before after (Err fault) workable h = tt

-- the last tableau is one of the same problem
pub IsRunMade-same_problem : (p : ProblemData) (before after : Tableau) (count now : ℕ) (end : Result End PivotFault) → IsRunMade before count end after now
    → IsTableauOf p before → IfOk end (λ _. IsTableauOf p after)
IsRunMade-same_problem p before after count now end made is =
    on_ok_weaker end (λ same. subst (IsTableauOf p) (sym same) (turns_are p made.pivots before made.run.last is made.run.turns)) made.last
