-- What is read at the end of a run is the problem's answer.
use Rattle.std.proofs.Common.{◌≡◌, ℕ, ◌≤◌, length, map, take, List, ℤ, pos, ◌≤ℤ◌, All, Ok, ap, subst, arith}
use Rattle.std.proofs.lemmas.List.Elements.{All-take, All-weaker}
use Rattle.integers.specs.Fraction.{Fraction, IsFraction, SameFraction, AreFractions, over, SameFractions}
use Rattle.integers.proofs.Fractions.{SameFraction-trans, SameFractions-trans, AreFractions-over}
use Rattle.frac128.specs.Frac.{IsReduced}
use Rattle.frac128.specs.Problem.{ProblemData, IsProblem, cost_at}
use Rattle.frac128.specs.declared.problem.Cert.{Cert}
use Rattle.lex_simplex.specs.Answer.{IsLeastPoint, IsOutcome, row_entries, optimal_weights, empty_weights}
use Rattle.lex_simplex.specs.Equations.{IsTableauOf, IsTableRow}
use Rattle.lex_simplex.specs.Pivot.{IsLeaving}
use Rattle.lex_simplex.specs.State.{IsWorkable}
use Rattle.lex_simplex.specs.Tableau.{Tableau, row_of, entry, value_of}
use Rattle.lex_simplex.specs.Turn.{turn, ended}
use Rattle.lex_simplex.specs.declared.end.End.TheVariants.{Optimal, Empty}
use Rattle.lex_simplex.specs.declared.outcome.Outcome.TheVariants.{Least, Nothing}
use Rattle.lex_simplex.proofs.Choices.Laws.{leaving-some}
use Rattle.lex_simplex.proofs.Ends.Empty.{empty_certificate, empty_infeasible, empty_weights-length}
use Rattle.lex_simplex.proofs.Choices.NoColumn.{turn_empty}
use Rattle.lex_simplex.proofs.Ends.OptimalCertificate.{optimal_certificate, optimal_weights-length}
use Rattle.lex_simplex.proofs.Ends.Optimal.{optimal_point, cost_value}
use Rattle.lex_simplex.proofs.Runs.OneTurn.{turn_optimal}
use Rattle.lex_simplex.proofs.Tableaus.Rows.{AreFractions-rows}

-- ---- weights

-- there is a weight for each variable at least
pub optimal_weights-long : (t : Tableau) (weights : List ℤ) → IsWorkable t → weights ≡ optimal_weights t → length t.columns ≤ length weights
optimal_weights-long t weights h is = omega (arith, ap length is, optimal_weights-length h.problem t h.is_tableau, h.is_tableau.one_column_each)

-- and at the other end
pub empty_weights-long : (t : Tableau) (r : ℕ) (weights : List ℤ) → IsWorkable t → weights ≡ empty_weights t r → length t.columns ≤ length weights
empty_weights-long t r weights h is = omega (arith, ap length is, empty_weights-length h.problem t r h.is_tableau, h.is_tableau.one_column_each)

-- ---- outcomes

-- the values read at an optimum are the least point and its cost, and the certificate bounds it
pub least_outcome : (p : ProblemData) (t : Tableau) → IsProblem p → IsTableauOf p t → turn t ≡ ended (Ok Optimal)
    → (point : List Fraction) (value : Fraction) (cert : Cert) → SameFractions (map value_of (take (length t.columns) t.rows)) point → All IsReduced point
    → SameFraction (value_of t.cost) value → IsReduced value → cert.den ≡ t.cost.den → cert.on ≡ row_entries (length t.columns) (optimal_weights t)
    → IsOutcome p (Least point value cert)
least_outcome p t ok h end point value cert same lowest cost reduced den on =
    let least : IsLeastPoint p (map value_of (take p.vars t.rows)) = optimal_point p t ok h (turn_optimal t end) in
    let values : List Fraction = map value_of (take p.vars t.rows) in
    let fractions : AreFractions values = AreFractions-rows p.vars (take p.vars t.rows) (All-take (IsTableRow p.vars) p.vars t.rows h.rows_fit) in
    let read : SameFractions values point = subst (λ v. SameFractions (map value_of (take v t.rows)) point) h.one_column_each same in
    let den_pos = least.least.feasible.den_pos in (
      record {
        is = record {
          x = least.x;
          n = least.n;
          same = SameFractions-trans (over least.x least.n) values point (AreFractions-over least.x least.n den_pos) fractions
              (All-weaker IsReduced IsFraction (λ f r. r.0) point lowest) least.same read;
          least = least.least;
        };
        cost = SameFraction-trans (cost_at p least.x least.n) (value_of t.cost) value den_pos h.cost_fits.den_pos reduced.0
            (cost_value p t h least.x least.n den_pos least.same) cost;
        point_reduced = lowest;
        value_reduced = reduced;
      },
      optimal_certificate p t ok h cert den (subst (λ v. cert.on ≡ row_entries v (optimal_weights t)) h.one_column_each on) value reduced.0 cost,
    )

-- at the other end no point meets the problem, and the certificate shows it
pub nothing_outcome : (p : ProblemData) (t : Tableau) (r : ℕ) → IsProblem p → IsTableauOf p t → IsLeaving t r → turn t ≡ ended (Ok Empty) → (cert : Cert)
    → cert.den ≡ pos 1 → cert.on ≡ row_entries (length t.columns) (empty_weights t r) → IsOutcome p (Nothing cert)
nothing_outcome p t r ok h leaving end cert den on =
    let found = turn_empty p t h end in
    let same : found.0 ≡ r = cc ((leaving-some t found.0).1 found.1, (leaving-some t r).1 leaving) in
    let most = subst (λ q. (f : ℕ) → entry (row_of t q) f ≤ℤ pos 0) same found.2 in (
      empty_infeasible p t r ok h leaving.below leaving.negative most,
      empty_certificate p t r ok h leaving.below leaving.negative most cert
          (subst (λ v. cert.on ≡ row_entries v (empty_weights t r)) h.one_column_each on),
      den,
    )
