-- The certificate of an optimum: the cost row's numbers are multipliers of the rows that bound the cost.
use lib.ListN.{length-replicate}
use Rattle.std.proofs.Common.{◌≡◌, ℕ, ◌+◌, ◌<◌, length, replicate, List, map, take, ℤ, pos, ◌-ℤ◌, ◌*ℤ◌, ◌≤ℤ◌, ◌<ℤ◌, sym, ap, subst, subst₂, ◌∙◌, arith}
use Rattle.std.specs.Int.Signed.{≤ℤ_refl}
use Rattle.std.proofs.lemmas.List.Elements.{All-from_get_or, All-replicate}
use Rattle.integers.specs.Fraction.{Fraction, IsFraction, SameFraction}
use Rattle.integers.specs.Vector.{dot, scale, AreNonNegative, AreAtMost}
use Rattle.integers.proofs.Laws.{lin}
use Rattle.integers.proofs.Lexicographic.{IsLexPositive-first}
use Rattle.frac128.specs.Problem.{ProblemData, IsProblem, AreRowMultipliers, combination, IsSpanCertificate}
use Rattle.frac128.specs.declared.problem.Cert.{Cert}
use Rattle.lex_simplex.specs.Answer.{row_entries, optimal_weights}
use Rattle.lex_simplex.specs.Tableau.{TableRow, Tableau, entry, value_of}
use Rattle.lex_simplex.specs.Equations.{quantities, IsTableauOf}
use Rattle.lex_simplex.proofs.Tableaus.BasicPoint.{columns_distinct}
use Rattle.lex_simplex.proofs.Ends.Weights.{entries_of_weights, bound_of_weights, coefs_of_weights, length-spread_weights, spread_nonneg, dot-spread_weights}

-- the cost row's numbers are not negative
pub cost_nonneg : (p : ProblemData) (t : Tableau) → IsTableauOf p t → AreNonNegative t.cost.coefs
cost_nonneg p t h = All-from_get_or (λ x. pos 0 ≤ℤ x) t.cost.coefs (pos 0)
    (λ e l. IsLexPositive-first (entry t.cost e) (map (λ (row : TableRow). entry row e) (take (length t.columns) t.rows))
    (h.columns_positive e (subst (λ v. e < v) h.cost_fits.one_each l)))

-- as many weights as quantities
pub optimal_weights-length : (p : ProblemData) (t : Tableau) → IsTableauOf p t → length (optimal_weights t) ≡ p.vars + length p.rows
optimal_weights-length p t h = length-spread_weights t.columns t.cost.coefs (replicate (length t.rows) (pos 0)) ∙ length-replicate (length t.rows) (pos 0)
    ∙ h.one_row_each

-- with these weights the quantities sum to the cost row's equation
pub optimal_weights-sum : (p : ProblemData) (t : Tableau) → IsTableauOf p t → (x : List ℤ) (n : ℤ) → length x ≡ p.vars
    → dot (optimal_weights t) (quantities p x n) ≡ t.cost.den *ℤ dot p.cost x -ℤ t.cost.constant *ℤ n
optimal_weights-sum p t h x n l =
    let qs : List ℤ = quantities p x n in
    let sum = dot-spread_weights t.columns t.cost.coefs (length t.rows) qs (columns_distinct p t h) h.columns_below in
    let here = h.cost_holds x n l in
    omega (arith, lin, sum, here)

-- the certificate of these weights bounds the cost by the cost row's value
pub optimal_certificate : (p : ProblemData) (t : Tableau) → IsProblem p → IsTableauOf p t → (cert : Cert) → cert.den ≡ t.cost.den
    → cert.on ≡ row_entries p.vars (optimal_weights t) → (value : Fraction) → IsFraction value → SameFraction (value_of t.cost) value
    → IsSpanCertificate p cert value
optimal_certificate p t ok h cert den on value fraction same =
    let w : List ℤ = optimal_weights t in
    let long = optimal_weights-length p t h in
    let zeros : AreNonNegative (replicate (length t.rows) (pos 0)) = All-replicate (λ x. pos 0 ≤ℤ x) (length t.rows) (pos 0) (≤ℤ_refl (pos 0)) in
    let nonneg : AreNonNegative w = spread_nonneg t.columns t.cost.coefs (replicate (length t.rows) (pos 0)) (cost_nonneg p t h) zeros in
    let sum = optimal_weights-sum p t h in
    let bound : (combination p cert.on).bound ≡ t.cost.constant = ap (λ (o : List (ℕ × ℤ)). (combination p o).bound) on
    ∙ bound_of_weights p w t.cost.den t.cost.constant long sum in
    let below : AreAtMost (combination p (row_entries p.vars w)).coefs (scale t.cost.den p.cost) =
    coefs_of_weights p ok w t.cost.den t.cost.constant long nonneg sum in
    record {
      den_pos = subst (λ d. pos 0 <ℤ d) (sym den) h.cost_fits.den_pos;
      value_den_pos = fraction;
      entries = subst (AreRowMultipliers (length p.rows)) (sym on) (entries_of_weights p w long nonneg);
      below_cost = subst₂ (λ (o : List (ℕ × ℤ)) d. AreAtMost (combination p o).coefs (scale d p.cost)) (sym on) (sym den) below;
      value_is = subst₂ (λ b d. b *ℤ value.den ≡ value.num *ℤ d) (sym bound) (sym den) same;
    }
