-- The end of a run at a row with a negative constant and no positive number: no point meets the problem, and the row shows it.
use lib.ListN.{length-replicate, length-set}
use Rattle.std.proofs.Common.{◌≡◌, ◌≢◌, ℕ, ◌+◌, ◌<◌, length, get_or, set, replicate, List, [], ◌∷◌, All, ℤ, pos, negsuc, ◌+ℤ◌, ◌-ℤ◌, ◌*ℤ◌, neg_ℤ, ◌≤ℤ◌, ◌<ℤ◌, refl, sym, ap, subst, ◌∙◌, arith}
use Rattle.std.specs.Int.Signed.{≤ℤ_refl}
use Rattle.std.proofs.lemmas.List.Elements.{All-from_get_or, All-replicate, All-set}
use Rattle.integers.specs.Vector.{dot, scale, AreNonNegative}
use Rattle.integers.proofs.Laws.{lin}
use Rattle.integers.proofs.Order.{le_of_lt}
use Rattle.integers.proofs.Ring.{con, neg, ◌⊕◌, ◌⊖◌, ◌⊗◌, ◌≗◌, ◌✶◌, ◌⇐◌, combine9}
use Rattle.integers.proofs.Vector.{dot-set, dot-scale}
use Rattle.integers.proofs.VectorOrder.{none_above_zero, opposites_nonneg}
use Rattle.integers.proofs.Zeros.{get_or-zeros}
use Rattle.frac128.specs.Problem.{ProblemData, IsProblem, IsInfeasible, AreRowMultipliers, combination, IsFarkasCertificate}
use Rattle.frac128.specs.declared.problem.Cert.{Cert}
use Rattle.frac128.proofs.ProblemLaws.{farkas_certificate_refutes}
use Rattle.lex_simplex.specs.Answer.{spread_weights, row_entries, empty_weights}
use Rattle.lex_simplex.specs.Tableau.{TableRow, Tableau, row_of, entry}
use Rattle.lex_simplex.specs.Equations.{quantities, nonbasic, IsTableRow, IsTableauOf}
use Rattle.lex_simplex.proofs.Tableaus.BasicPoint.{columns_distinct, column_constant}
use Rattle.lex_simplex.proofs.Ends.Weights.{entries_of_weights, bound_of_weights, coefs_of_weights, length-spread_weights, spread_nonneg, get_or-spread_other, dot-spread_weights}
use Rattle.lex_simplex.proofs.Tableaus.Rows.{row_of-fits, row_of-holds}

-- ---- the weights

-- a row with a negative constant is that of no column
no_column : (p : ProblemData) (t : Tableau) (r : ℕ) → IsTableauOf p t → (row_of t r).constant <ℤ pos 0 → All (λ c. r ≢ c) t.columns
no_column p t r h negative = All-from_get_or (λ c. r ≢ c) t.columns 0 (λ j l same. let k : (row_of t r).constant ≡ pos 0 =
    ap (λ q. (row_of t q).constant) same ∙ column_constant p t h j l in absurd (omega (arith, lin, k, negative)))

-- the weights of the columns before the row's own is set
abbrev column_weights : Tableau → ℕ → List ℤ
column_weights t r = spread_weights t.columns (scale (negsuc 0) (row_of t r).coefs) (replicate (length t.rows) (pos 0))

-- there are as many as quantities
length-column_weights : (p : ProblemData) (t : Tableau) (r : ℕ) → IsTableauOf p t → length (column_weights t r) ≡ length t.rows
length-column_weights p t r h = length-spread_weights t.columns (scale (negsuc 0) (row_of t r).coefs) (replicate (length t.rows) (pos 0))
    ∙ length-replicate (length t.rows) (pos 0)

-- so are the weights with the row's own
pub empty_weights-length : (p : ProblemData) (t : Tableau) (r : ℕ) → IsTableauOf p t → length (empty_weights t r) ≡ p.vars + length p.rows
empty_weights-length p t r h = length-set (column_weights t r) r (row_of t r).den ∙ length-column_weights p t r h ∙ h.one_row_each

-- with these weights the quantities sum to the row's constant
empty_weights-sum : (p : ProblemData) (t : Tableau) (r : ℕ) → IsTableauOf p t → r < length t.rows → (row_of t r).constant <ℤ pos 0 → (x : List ℤ) (n : ℤ)
    → length x ≡ p.vars → dot (empty_weights t r) (quantities p x n) ≡ pos 0 *ℤ dot p.cost x -ℤ neg_ℤ (row_of t r).constant *ℤ n
empty_weights-sum p t r h below negative x n l =
    let row : TableRow = row_of t r in
    let qs : List ℤ = quantities p x n in
    let us : List ℤ = nonbasic t.columns qs in
    let ws : List ℤ = column_weights t r in
    let inside : r < length ws = subst (λ m. r < m) (sym (length-column_weights p t r h)) below in
    let own : get_or ws r (pos 0) ≡ pos 0 = get_or-spread_other t.columns (scale (negsuc 0) row.coefs) (replicate (length t.rows) (pos 0)) r
    (no_column p t r h negative) ∙ get_or-zeros (length t.rows) r in
    let apart : dot (set ws r row.den) qs ≡ dot ws qs +ℤ (row.den -ℤ get_or ws r (pos 0)) *ℤ get_or qs r (pos 0) = dot-set ws qs r row.den inside in
    let columns : dot ws qs ≡ negsuc 0 *ℤ dot row.coefs us =
    dot-spread_weights t.columns (scale (negsuc 0) row.coefs) (length t.rows) qs (columns_distinct p t h) h.columns_below
    ∙ dot-scale (negsuc 0) row.coefs us in
    let holds : row.den *ℤ get_or qs r (pos 0) ≡ row.constant *ℤ n +ℤ dot row.coefs us = row_of-holds p t r h below x n l in
    combine9 (λ s w D o q e C n c. s ≗ con (pos 0) ⊗ c ⊖ neg C ⊗ n ⇐ con (pos 1) ✶ (s ≗ w ⊕ (D ⊖ o) ⊗ q) ∷ con (pos 1) ✶ (w ≗ con (negsuc 0) ⊗ e) ∷ con (pos
    1) ✶ (D ⊗ q ≗ C ⊗ n ⊕ e) ∷ neg q ✶ (o ≗ con (pos 0)) ∷ []) refl (dot (set ws r row.den) qs) (dot ws qs) row.den (get_or ws r (pos 0))
    (get_or qs r (pos 0)) (dot row.coefs us) row.constant n (dot p.cost x) apart columns holds own

-- the weights are not negative where no number of the row is positive
empty_weights_nonneg : (p : ProblemData) (t : Tableau) (r : ℕ) → IsTableauOf p t → r < length t.rows → ((f : ℕ) → entry (row_of t r) f ≤ℤ pos 0)
    → AreNonNegative (empty_weights t r)
empty_weights_nonneg p t r h below most =
    let row : TableRow = row_of t r in
    let zeros : AreNonNegative (replicate (length t.rows) (pos 0)) = All-replicate (λ x. pos 0 ≤ℤ x) (length t.rows) (pos 0) (≤ℤ_refl (pos 0)) in
    let fits : IsTableRow p.vars row = row_of-fits p t r h below in
    All-set (λ x. pos 0 ≤ℤ x) (spread_weights t.columns (scale (negsuc 0) row.coefs) (replicate (length t.rows) (pos 0))) r row.den
    (le_of_lt (pos 0) row.den fits.den_pos) (spread_nonneg t.columns (scale (negsuc 0) row.coefs) (replicate (length t.rows) (pos 0))
    (opposites_nonneg row.coefs most) zeros)

-- ---- the certificate

-- the certificate of these weights refutes all points
pub empty_certificate : (p : ProblemData) (t : Tableau) (r : ℕ) → IsProblem p → IsTableauOf p t → r < length t.rows → (row_of t r).constant <ℤ pos 0
    → ((f : ℕ) → entry (row_of t r) f ≤ℤ pos 0) → (cert : Cert) → cert.on ≡ row_entries p.vars (empty_weights t r) → IsFarkasCertificate p cert
empty_certificate p t r ok h below negative most cert on =
    let w : List ℤ = empty_weights t r in
    let bound : ℤ = neg_ℤ (row_of t r).constant in
    let long = empty_weights-length p t r h in
    let nonneg = empty_weights_nonneg p t r h below most in
    let sum = empty_weights-sum p t r h below negative in
    let is : (combination p cert.on).bound ≡ bound = ap (λ (o : List (ℕ × ℤ)). (combination p o).bound) on ∙ bound_of_weights p w (pos 0) bound long sum in
    let above : pos 0 <ℤ bound = omega (arith, lin, negative) in
    let coefs = coefs_of_weights p ok w (pos 0) bound long nonneg sum in
    record {
      entries = subst (AreRowMultipliers (length p.rows)) (sym on) (entries_of_weights p w long nonneg);
      none_above = subst (λ (o : List (ℕ × ℤ)). All (λ c. c ≤ℤ pos 0) (combination p o).coefs) (sym on)
          (none_above_zero (combination p (row_entries p.vars w)).coefs p.cost coefs);
      bound_above = subst (λ b. pos 0 <ℤ b) (sym is) above;
    }

-- no point meets the problem
pub empty_infeasible : (p : ProblemData) (t : Tableau) (r : ℕ) → IsProblem p → IsTableauOf p t → r < length t.rows → (row_of t r).constant <ℤ pos 0
    → ((f : ℕ) → entry (row_of t r) f ≤ℤ pos 0) → IsInfeasible p
empty_infeasible p t r ok h below negative most =
    let cert : Cert = record { den = pos 1; on = row_entries p.vars (empty_weights t r) } in
    farkas_certificate_refutes p cert (empty_certificate p t r ok h below negative most cert refl)
