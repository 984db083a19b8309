-- Each end of a problem's run has an outcome.
use Rattle.std.proofs.Common.{◌≡◌, ℕ, length, map, take, List, [], ◌∷◌, pos, All, Ok, refl}
use Rattle.std.proofs.lemmas.List.Elements.{All-nil, All-cons, All-head, All-tail, All-take}
use Rattle.integers.specs.Fraction.{Fraction, IsFraction, AreFractions, SameFractions}
use Rattle.integers.proofs.Fractions.{SameFraction-sym}
use Rattle.frac128.specs.Frac.{IsReduced, lowest_terms}
use Rattle.frac128.specs.Problem.{ProblemData, IsProblem}
use Rattle.frac128.specs.declared.problem.Cert.{Cert}
use Rattle.frac128.proofs.Checked.{lowest_terms-is}
use Rattle.lex_simplex.specs.Answer.{IsOutcome, end_of, row_entries, optimal_weights, empty_weights}
use Rattle.lex_simplex.specs.Equations.{IsTableauOf, IsTableRow}
use Rattle.lex_simplex.specs.Tableau.{Tableau, value_of}
use Rattle.lex_simplex.specs.Turn.{IsRun, turn, ended}
use Rattle.lex_simplex.specs.declared.end.End.{End}
use Rattle.lex_simplex.specs.declared.end.End.TheVariants.{Optimal, Empty}
use Rattle.lex_simplex.specs.declared.outcome.Outcome.{Outcome}
use Rattle.lex_simplex.specs.declared.outcome.Outcome.TheVariants.{Least, Nothing}
use Rattle.lex_simplex.proofs.Choices.NoColumn.{turn_empty}
use Rattle.lex_simplex.proofs.Ends.Outcomes.{least_outcome, nothing_outcome}
use Rattle.lex_simplex.proofs.Runs.Ending.{start_turns_are}
use Rattle.lex_simplex.proofs.Tableaus.Rows.{AreFractions-rows}

-- in lowest terms the fractions are the same numbers
lowest_same : (fs : List Fraction) → AreFractions fs → SameFractions fs (map lowest_terms fs)
lowest_same [] h = tt
lowest_same (f ∷ fs) h = (
  SameFraction-sym (lowest_terms f) f (lowest_terms-is f (All-head IsFraction f fs h)).1,
  lowest_same fs (All-tail IsFraction f fs h),
)

lowest_reduced : (fs : List Fraction) → AreFractions fs → All IsReduced (map lowest_terms fs)
lowest_reduced [] h = All-nil IsReduced
lowest_reduced (f ∷ fs) h = All-cons IsReduced (lowest_terms f) (map lowest_terms fs) (lowest_terms-is f (All-head IsFraction f fs h)).0
    (lowest_reduced fs (All-tail IsFraction f fs h))

-- a tableau without a negative constant tells the least point
optimal_has_outcome : (p : ProblemData) (t : Tableau) → IsProblem p → IsTableauOf p t → turn t ≡ ended (Ok Optimal)
    → (outcome : Outcome) × IsOutcome p outcome × (end_of outcome ≡ Optimal)
optimal_has_outcome p t ok h end =
    let rows = take (length t.columns) t.rows in
    let values : List Fraction = map value_of rows in
    let fractions : AreFractions values = AreFractions-rows p.vars rows (All-take (IsTableRow p.vars) (length t.columns) t.rows h.rows_fit) in
    let cost = lowest_terms-is (value_of t.cost) h.cost_fits.den_pos in
    let cert : Cert = record { den = t.cost.den; on = row_entries (length t.columns) (optimal_weights t) } in (
      Least (map lowest_terms values) (lowest_terms (value_of t.cost)) cert,
      least_outcome p t ok h end (map lowest_terms values) (lowest_terms (value_of t.cost)) cert (lowest_same values fractions)
          (lowest_reduced values fractions) (SameFraction-sym (lowest_terms (value_of t.cost)) (value_of t.cost) cost.1) cost.0 refl refl,
      refl,
    )

-- one whose pivot row has no positive number tells that there is none
empty_has_outcome : (p : ProblemData) (t : Tableau) → IsProblem p → IsTableauOf p t → turn t ≡ ended (Ok Empty)
    → (outcome : Outcome) × IsOutcome p outcome × (end_of outcome ≡ Empty)
empty_has_outcome p t ok h end =
    let row = turn_empty p t h end in
    let cert : Cert = record { den = pos 1; on = row_entries (length t.columns) (empty_weights t row.0) } in
    (Nothing cert, nothing_outcome p t row.0 ok h row.1 end cert refl refl, refl)

-- a run that stays in range has an outcome
pub run_has_outcome : (p : ProblemData) (end : End) (n : ℕ) → IsProblem p → IsRun p (Ok end) n
    → (outcome : Outcome) × IsOutcome p outcome × (end_of outcome ≡ end)
run_has_outcome p Optimal n ok run = optimal_has_outcome p run.last ok (start_turns_are p n run.last ok run.turns) run.ends
run_has_outcome p Empty n ok run = empty_has_outcome p run.last ok (start_turns_are p n run.last ok run.turns) run.ends
