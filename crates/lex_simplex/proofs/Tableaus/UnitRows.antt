-- The row of a quantity that stands in a column.
use Rattle.std.proofs.lemmas.List.Elements.{All-get_or}
use Rattle.std.proofs.Common.{◌≡◌, ℕ, ◌<◌, length, get_or, List, [], ◌∷◌, ℤ, pos, ◌+ℤ◌, ◌*ℤ◌, ◌<ℤ◌, refl, sym, ap, subst, subst₂, ◌∙◌}
use Rattle.integers.specs.Vector.{dot, scale, unit_vector}
use Rattle.integers.proofs.Order.{cancel_eq}
use Rattle.integers.proofs.Ring.{con, neg, ◌⊕◌, ◌⊗◌, ◌≗◌, ◌✶◌, ◌⇐◌, combine9}
use Rattle.integers.proofs.Vector.{dot_comm, dot-scale, dot-scale_right, dot-unit_vector, length-unit_vector, same_from_dot}
use Rattle.integers.proofs.VectorLaws.{get_or-scale, length-scale}
use Rattle.frac128.specs.Problem.{ProblemData}
use Rattle.lex_simplex.specs.Equations.{IsTableRow, IsTableauOf, Holds, quantities}
use Rattle.lex_simplex.specs.Tableau.{TableRow, Tableau, row_of}
use Rattle.lex_simplex.proofs.Tableaus.BasicPoint.{reach, column_constant}
use Rattle.lex_simplex.proofs.Tableaus.Rows.{get_or-nonbasic, row_of-fits, row_of-holds}

-- a row without constant that holds at a multiple of us, for that multiple of the number at j
unit_product : (coefs us : List ℤ) (v j : ℕ) (den constant k : ℤ) → j < v → pos 0 <ℤ k → constant ≡ pos 0
    → den *ℤ (k *ℤ get_or us j (pos 0)) ≡ constant *ℤ (k *ℤ pos 0) +ℤ dot coefs (scale k us) → dot coefs us ≡ dot (scale den (unit_vector v j)) us
unit_product coefs us v j den constant k below positive none holds =
    cancel_eq (dot coefs us) (dot (scale den (unit_vector v j)) us) k positive
    (combine9 (λ c u den constant k d e m z. c ⊗ k ≗ e ⊗ k ⇐ neg (con (pos 1)) ✶ (den ⊗ (k ⊗ u) ≗ constant ⊗ (k ⊗ con (pos 0)) ⊕ d) ∷ neg (con (pos
    1)) ✶ (d ≗ k ⊗ c) ∷ neg k ✶ (e ≗ den ⊗ m) ∷ neg (k ⊗ den) ✶ (m ≗ u) ∷ []) refl (dot coefs us) (get_or us j (pos 0)) den constant k
    (dot coefs (scale k us)) (dot (scale den (unit_vector v j)) us) (dot (unit_vector v j) us) (pos 0) holds (dot-scale_right k coefs us)
    (dot-scale den (unit_vector v j) us) (dot_comm (unit_vector v j) us ∙ dot-unit_vector us v j below))

-- the row of a column's quantity has the denominator in its own column and 0 in each other
pub column_coefs : (p : ProblemData) (t : Tableau) → IsTableauOf p t → (j : ℕ) → j < length t.columns
    → (row_of t (get_or t.columns j 0)).coefs ≡ scale (row_of t (get_or t.columns j 0)).den (unit_vector p.vars j)
column_coefs p t h j l = same_from_dot row.coefs (scale row.den (unit_vector p.vars j)) long at
  where
    c : ℕ
    c = get_or t.columns j 0

    row : TableRow
    row = row_of t c

    c_below : c < length t.rows
    c_below = All-get_or (λ c. c < length t.rows) t.columns j 0 l h.columns_below

    fits : IsTableRow p.vars row
    fits = row_of-fits p t c h c_below

    long : length row.coefs ≡ length (scale row.den (unit_vector p.vars j))
    long = fits.one_each ∙ sym (length-scale row.den (unit_vector p.vars j) ∙ length-unit_vector p.vars j)

    at : (us : List ℤ) → length us ≡ length row.coefs → dot row.coefs us ≡ dot (scale row.den (unit_vector p.vars j)) us
    at us same =
        let r = reach p t h us (pos 0) (same ∙ fits.one_each) in
        let qs : List ℤ = quantities p r.0 (r.1 *ℤ pos 0) in
        let number : get_or qs c (pos 0) ≡ r.1 *ℤ get_or us j (pos 0) = sym (get_or-nonbasic t.columns qs j l)
        ∙ ap (λ (vs : List ℤ). get_or vs j (pos 0)) r.4 ∙ get_or-scale r.1 us j in
        let holds = row_of-holds p t c h c_below r.0 (r.1 *ℤ pos 0) r.3 in
        let j_below : j < p.vars = subst (λ n. j < n) h.one_column_each l in
        unit_product row.coefs us p.vars j row.den row.constant r.1 j_below r.2 (column_constant p t h j l)
        (subst₂ (λ q vs. Holds q vs (r.1 *ℤ pos 0) row) number r.4 holds)
