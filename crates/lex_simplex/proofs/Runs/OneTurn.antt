-- What a turn gives, in words of the pivot row, the pivot column and the range.
use Rattle.std.specs.List.{list_all}
use Rattle.std.proofs.lemmas.Bool.{false_from_ne_true}
use Rattle.std.proofs.Common.{◌≡◌, ℕ, Bool, true, false, pos, ◌≤ℤ◌, All, Some, None, Option, Ok, Err, refl, ap, ◌∙◌}
use Rattle.frac128.specs.Range.{IsInRange, is_in_range}
use Rattle.lex_simplex.specs.declared.end.End.TheVariants.{Optimal, Empty}
use Rattle.lex_simplex.specs.declared.end.PivotFault.TheVariants.{TooWide}
use Rattle.lex_simplex.specs.Pivot.{IsLeaving, IsEntering}
use Rattle.lex_simplex.specs.Tableau.{Tableau, TableRow}
use Rattle.lex_simplex.specs.Turn.{TurnResult, next, ended, leaving, entering, pivoted_tableau, pivot_numbers, turn_at, turn_in, turn}
use Rattle.lex_simplex.proofs.Choices.Laws.{in_range-test, leaving-some, leaving-none, entering-is, is-entering}

-- ---- what makes a turn what it is

-- what a pivot on a row and a column gives, by the answer of the range's test
abbrev pivot_or_fault : Tableau → ℕ → ℕ → Bool → TurnResult
pivot_or_fault t r e b = elim b [ true ↦ next (pivoted_tableau t r e) | false ↦ ended (Err TooWide) ]

-- with a pivot row and a pivot column the range decides
turn_is_pivot : (t : Tableau) (r e : ℕ) → IsLeaving t r → IsEntering t r e → turn t ≡ pivot_or_fault t r e (list_all is_in_range (pivot_numbers t r e))
turn_is_pivot t r e leaves enters = ap (turn_in t) ((leaving-some t r).1 leaves) ∙ ap (turn_at t r) (entering-is t r e enters)

-- a pivot whose numbers stay in range is made
pub turn_is_next : (t : Tableau) (r e : ℕ) → IsLeaving t r → IsEntering t r e → All IsInRange (pivot_numbers t r e) → turn t ≡ next (pivoted_tableau t r e)
turn_is_next t r e leaves enters fits = turn_is_pivot t r e leaves enters ∙ ap (pivot_or_fault t r e) ((in_range-test (pivot_numbers t r e)).1 fits)

-- a pivot one of whose numbers is out of range ends the run
pub turn_is_too_wide : (t : Tableau) (r e : ℕ) → IsLeaving t r → IsEntering t r e → ¬ All IsInRange (pivot_numbers t r e) → turn t ≡ ended (Err TooWide)
turn_is_too_wide t r e leaves enters wide = turn_is_pivot t r e leaves enters
    ∙ ap (pivot_or_fault t r e) (false_from_ne_true (list_all is_in_range (pivot_numbers t r e))
    (λ test. wide ((in_range-test (pivot_numbers t r e)).0 test)))

-- ---- what a turn tells

-- a turn to another tableau is a pivot on the pivot row and the pivot column
pub turn_next : (t s : Tableau) → turn t ≡ next s → (r : ℕ) × (e : ℕ) × IsLeaving t r × IsEntering t r e × (s ≡ pivoted_tableau t r e)
turn_next t s h = by_row (leaving t) refl h
  where
    by_test : (r e : ℕ) → leaving t ≡ Some r → entering t r ≡ Some e → (b : Bool) → pivot_or_fault t r e b ≡ next s
        → (r : ℕ) × (e : ℕ) × IsLeaving t r × IsEntering t r e × (s ≡ pivoted_tableau t r e)
    by_test r e leaves enters true h = (r, e, (leaving-some t r).0 leaves, is-entering t r e enters, cc h)
    by_test r e leaves enters false h = absurd (cc h)

    by_column : (r : ℕ) → leaving t ≡ Some r → (o : Option ℕ) → entering t r ≡ o → turn_at t r o ≡ next s
        → (r : ℕ) × (e : ℕ) × IsLeaving t r × IsEntering t r e × (s ≡ pivoted_tableau t r e)
    by_column r leaves None enters h = absurd (cc h)
    by_column r leaves (Some e) enters h = by_test r e leaves enters (list_all is_in_range (pivot_numbers t r e)) h

    by_row : (o : Option ℕ) → leaving t ≡ o → turn_in t o ≡ next s → (r : ℕ) × (e : ℕ) × IsLeaving t r × IsEntering t r e × (s ≡ pivoted_tableau t r e)
    by_row None leaves h = absurd (cc h)
    by_row (Some r) leaves h = by_column r leaves (entering t r) refl h

-- a run that ends with the optimum has no negative constant
pub turn_optimal : (t : Tableau) → turn t ≡ ended (Ok Optimal) → All (λ (row : TableRow). pos 0 ≤ℤ row.constant) t.rows
turn_optimal t h = by_row (leaving t) refl h
  where
    by_test : (r e : ℕ) (b : Bool) → pivot_or_fault t r e b ≡ ended (Ok Optimal) → ⊥
    by_test r e true h = cc h
    by_test r e false h = cc h

    by_column : (r : ℕ) (o : Option ℕ) → turn_at t r o ≡ ended (Ok Optimal) → ⊥
    by_column r None h = cc h
    by_column r (Some e) h = by_test r e (list_all is_in_range (pivot_numbers t r e)) h

    by_row : (o : Option ℕ) → leaving t ≡ o → turn_in t o ≡ ended (Ok Optimal) → All (λ (row : TableRow). pos 0 ≤ℤ row.constant) t.rows
    by_row None leaves h = (leaving-none t).0 leaves
    by_row (Some r) leaves h = absurd (by_column r (entering t r) h)

-- a run that ends with no point has a pivot row and no pivot column
pub turn_empty_row : (t : Tableau) → turn t ≡ ended (Ok Empty) → (r : ℕ) × IsLeaving t r × (entering t r ≡ None)
turn_empty_row t h = by_row (leaving t) refl h
  where
    by_test : (r e : ℕ) (b : Bool) → pivot_or_fault t r e b ≡ ended (Ok Empty) → ⊥
    by_test r e true h = cc h
    by_test r e false h = cc h

    by_column : (r : ℕ) → leaving t ≡ Some r → (o : Option ℕ) → entering t r ≡ o → turn_at t r o ≡ ended (Ok Empty)
        → (r : ℕ) × IsLeaving t r × (entering t r ≡ None)
    by_column r leaves None enters h = (r, (leaving-some t r).0 leaves, enters)
    by_column r leaves (Some e) enters h = absurd (by_test r e (list_all is_in_range (pivot_numbers t r e)) h)

    by_row : (o : Option ℕ) → leaving t ≡ o → turn_in t o ≡ ended (Ok Empty) → (r : ℕ) × IsLeaving t r × (entering t r ≡ None)
    by_row None leaves h = absurd (cc h)
    by_row (Some r) leaves h = by_column r leaves (entering t r) refl h
