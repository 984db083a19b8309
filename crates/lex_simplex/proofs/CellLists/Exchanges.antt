-- The pivot on a row's cells is the pivot on the row.
use Rattle.std.proofs.lemmas.List.{length-set}
use Rattle.std.proofs.lemmas.List.Elements.{All-cons, All-head, All-tail}
use Rattle.std.proofs.Common.{◌≡◌, ◌↔◌, ℕ, suc, ◌+◌, ◌<◌, length, set, All, List, [], ◌∷◌, ◌++◌, ℤ, pos, ◌-ℤ◌, ◌*ℤ◌, neg_ℤ, refl, sym, ap₂, subst, ◌∙◌, arith}
use Rattle.integers.specs.Vector.{scale, row_step}
use Rattle.integers.proofs.Ring.{con, ◌⊖◌, ◌⊗◌, ◌≗◌, ring3}
use Rattle.integers.proofs.Lists.{All-parts}
use Rattle.integers.proofs.VectorLaws.{row_step-set}
use Rattle.frac128.specs.Range.{IsInRange}
use Rattle.lex_simplex.specs.Cells.{row_in, prepared_cells}
use Rattle.lex_simplex.specs.Steps.{reduced_list, exchanged_row_by, exchanged_row, ExchangeFitsBy, ExchangeFits}
use Rattle.lex_simplex.specs.Tableau.{TableRow, entry}
use Rattle.lex_simplex.specs.Turn.{row_factor, pivot_factor, stepped_row_by, numbers_by, step_numbers, reduced_row, next_row}
use Rattle.lex_simplex.proofs.CellLists.Steps.{StepFits-all, StepFits-set, first_fits, second_fits}

-- ---- general

-- what holds of each element of a list that begins with five
All-five : {A : Type 0} (P : A → Type 0) (a b c d e : A) (xs : List A) → All P (a ∷ b ∷ c ∷ d ∷ e ∷ xs) ↔ (P a × P b × P c × P d × P e × All P xs)
All-five P a b c d e xs = (
  λ h.
      let h1 : All P (b ∷ c ∷ d ∷ e ∷ xs) = All-tail P a (b ∷ c ∷ d ∷ e ∷ xs) h in
      let h2 : All P (c ∷ d ∷ e ∷ xs) = All-tail P b (c ∷ d ∷ e ∷ xs) h1 in
      let h3 : All P (d ∷ e ∷ xs) = All-tail P c (d ∷ e ∷ xs) h2 in
      let h4 : All P (e ∷ xs) = All-tail P d (e ∷ xs) h3 in (
        All-head P a (b ∷ c ∷ d ∷ e ∷ xs) h,
        All-head P b (c ∷ d ∷ e ∷ xs) h1,
        All-head P c (d ∷ e ∷ xs) h2,
        All-head P d (e ∷ xs) h3,
        All-head P e xs h4,
        All-tail P e xs h4,
      ),
  λ h. All-cons P a (b ∷ c ∷ d ∷ e ∷ xs) h.0 (All-cons P b (c ∷ d ∷ e ∷ xs) h.1
      (All-cons P c (d ∷ e ∷ xs) h.2 (All-cons P d (e ∷ xs) h.3 (All-cons P e xs h.4 h.5)))),
)

-- two more than a number
add-two : (e : ℕ) → suc (suc e) ≡ e + 2
add-two e = omega arith

-- ---- one row

-- the row after the pivot, by its factors
exchanged_row_by-row : (p q : ℤ) (pivot : TableRow) (e : ℕ) (d b : ℤ) (ts : List ℤ) → length ts ≡ length pivot.coefs → e < length pivot.coefs
    → row_in (exchanged_row_by p q (suc (suc e)) (prepared_cells pivot e) (d ∷ b ∷ ts)) ≡ reduced_row (stepped_row_by p q pivot e (row_in (d ∷ b ∷ ts)))
exchanged_row_by-row p q pivot e d b ts same h =
    ap₂ (λ x zs. row_in (reduced_list (x ∷ (p *ℤ b -ℤ q *ℤ pivot.constant) ∷ zs))) (ring3 (λ p q d. p ⊗ d ⊖ q ⊗ con (pos 0) ≗ p ⊗ d) refl p q d)
    (row_step-set p q ts pivot.coefs e pivot.den same (omega (arith, same)))

-- the row after the pivot
pub exchanged_row-row : (pivot : TableRow) (e : ℕ) (row : List ℤ) → length row ≡ length pivot.coefs + 2 → e < length pivot.coefs
    → row_in (exchanged_row (entry pivot e) (e + 2) (prepared_cells pivot e) row) ≡ next_row pivot e (row_in row)
exchanged_row-row pivot e [] wide h = absurd (omega arith)
exchanged_row-row pivot e (d ∷ []) wide h = absurd (omega arith)
exchanged_row-row pivot e (d ∷ b ∷ ts) wide h =
    subst (λ k. row_in (exchanged_row (entry pivot e) k (prepared_cells pivot e) (d ∷ b ∷ ts)) ≡ next_row pivot e (row_in (d ∷ b ∷ ts))) (add-two e)
    (exchanged_row_by-row (row_factor pivot e (row_in (d ∷ b ∷ ts))) (pivot_factor pivot e (row_in (d ∷ b ∷ ts))) pivot e d b ts (omega arith) h)

-- its products and differences, by the row's factors
ExchangeFitsBy-row : (p q : ℤ) (pivot : TableRow) (e : ℕ) (d b : ℤ) (ts : List ℤ) → length ts ≡ length pivot.coefs → e < length pivot.coefs
    → ExchangeFitsBy p q (suc (suc e)) (prepared_cells pivot e) (d ∷ b ∷ ts) ↔ All IsInRange (numbers_by p q pivot e (row_in (d ∷ b ∷ ts)))
ExchangeFitsBy-row p q pivot e d b ts same h =
    let us : List ℤ = set ts e (pos 0) in
    let vs : List ℤ = set pivot.coefs e (pos 0) in
    let five = All-five IsInRange (p *ℤ d) (p *ℤ b) (q *ℤ pivot.constant) (p *ℤ b -ℤ q *ℤ pivot.constant) (q *ℤ pivot.den)
    (scale p us ++ scale q vs ++ row_step p q us vs) in
    let last = All-parts IsInRange (scale p us ++ scale q vs) (row_step p q us vs) in
    let front = All-parts IsInRange (scale p us) (scale q vs) in
    let changed = StepFits-set p q ts pivot.coefs e (pos 0) (neg_ℤ pivot.den) (omega (arith, same)) h in
    let each = StepFits-all p q us vs (length-set ts e (pos 0) ∙ same ∙ sym (length-set pivot.coefs e (pos 0))) in
    let den = first_fits p q d in
    let corner = second_fits p q pivot.den in (
      λ f.
          let parts = changed.0 f.1.1 in
          let all = each.0 parts.1 in
          five.1 (den.0 f.0, f.1.0.0, f.1.0.1, f.1.0.2, corner.0 parts.0, last.1 (front.1 (all.0, all.1), all.2)),
      λ f.
          let parts = five.0 f in
          let lists = last.0 parts.5 in
          let multiples = front.0 lists.0 in
          (den.1 parts.0, ((parts.1, parts.2, parts.3), changed.1 (corner.1 parts.4, each.1 (multiples.0, multiples.1, lists.1)))),
    )

-- its products and differences are those of the cells
pub ExchangeFits-row : (pivot : TableRow) (e : ℕ) (row : List ℤ) → length row ≡ length pivot.coefs + 2 → e < length pivot.coefs
    → ExchangeFits (entry pivot e) (e + 2) (prepared_cells pivot e) row ↔ All IsInRange (step_numbers pivot e (row_in row))
ExchangeFits-row pivot e [] wide h = absurd (omega arith)
ExchangeFits-row pivot e (d ∷ []) wide h = absurd (omega arith)
ExchangeFits-row pivot e (d ∷ b ∷ ts) wide h =
    subst (λ k. ExchangeFits (entry pivot e) k (prepared_cells pivot e) (d ∷ b ∷ ts) ↔ All IsInRange (step_numbers pivot e (row_in (d ∷ b ∷ ts))))
    (add-two e) (ExchangeFitsBy-row (row_factor pivot e (row_in (d ∷ b ∷ ts))) (pivot_factor pivot e (row_in (d ∷ b ∷ ts))) pivot e d b ts
    (omega arith) h)
