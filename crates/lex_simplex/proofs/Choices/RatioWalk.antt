-- The walk down two columns' ratios to the first place where they differ.
use Rattle.std.specs.Ordering.{int_cmp}
use Rattle.std.proofs.lemmas.List.{length-take}
use Rattle.std.proofs.Common.{◌≡◌, ℕ, zero, suc, ◌+◌, ◌<◌, ◌≤◌, length, get_or, drop, Bool, true, false, List, [], ◌∷◌, ℤ, ◌*ℤ◌, Ordering, Less, Equal, Greater, refl, sym, ap, ap₂, ◌∙◌, arith, add-one}
use Rattle.integers.specs.Fraction.{over}
use Rattle.lex_simplex.specs.Tableau.{Tableau, TableRow, no_row, ordering_row, ordering_rows, row_of, entry}
use Rattle.lex_simplex.specs.Turn.{ratios, comes_before}
use Rattle.lex_simplex.proofs.Tableaus.Rows.{column_in}

-- ---- lists of ratios

-- what comes before by one comparison, and by what is left where that finds no difference
abbrev pub decided : Ordering → Bool → Bool
decided o rest = elim o [ Less ↦ true | Equal ↦ rest | Greater ↦ false ]

-- the row at a place decides, or what is left behind it
comes_before-drop : (rows : List TableRow) (e f : ℕ) (a b : ℤ) (i : ℕ) (d : TableRow) → i < length rows
    → comes_before (drop i (over (column_in rows e) a)) (drop i (over (column_in rows f) b))
    ≡ decided (int_cmp (entry (get_or rows i d) e *ℤ b) (entry (get_or rows i d) f *ℤ a))
    (comes_before (drop (suc i) (over (column_in rows e) a)) (drop (suc i) (over (column_in rows f) b)))
comes_before-drop [] e f a b i d h = absurd (omega arith)
comes_before-drop (row ∷ rows) e f a b zero d h = refl
comes_before-drop (row ∷ rows) e f a b (suc i) d h = comes_before-drop rows e f a b i d (omega arith)

-- behind the last row nothing is left
comes_before-end : (rows : List TableRow) (e f : ℕ) (a b : ℤ) (i : ℕ) → length rows ≤ i
    → comes_before (drop i (over (column_in rows e) a)) (drop i (over (column_in rows f) b)) ≡ false
comes_before-end [] e f a b zero h = refl
comes_before-end [] e f a b (suc i) h = refl
comes_before-end (row ∷ rows) e f a b zero h = absurd (omega arith)
comes_before-end (row ∷ rows) e f a b (suc i) h = comes_before-end rows e f a b i (omega arith)

-- ---- the rows of a tableau

-- one for the cost and one for each variable
length-ordering_rows : (t : Tableau) → length t.columns ≤ length t.rows → length (ordering_rows t) ≡ length t.columns + 1
length-ordering_rows t enough = omega (arith, length-take (length t.columns) t.rows)

-- whether the ratios of the column e from a place on come before those of the column f
abbrev pub comes_before_from : Tableau → ℕ → ℕ → ℕ → ℕ → Bool
comes_before_from t r e f i = comes_before (drop i (ratios t r e)) (drop i (ratios t r f))

-- the comparison at a place decides, or what is left behind it
comes_before-next : (t : Tableau) (r e f i : ℕ) (pivot row : TableRow) → length t.columns ≤ length t.rows → i ≤ length t.columns → pivot ≡ row_of t r
    → row ≡ ordering_row t i
    → comes_before_from t r e f i ≡ decided (int_cmp (entry row e *ℤ entry pivot f) (entry row f *ℤ entry pivot e)) (comes_before_from t r e f (i + 1))
comes_before-next t r e f i pivot row enough h pivot_is row_is =
    let compared : TableRow → TableRow → Ordering = λ row pivot. int_cmp (entry row e *ℤ entry pivot f) (entry row f *ℤ entry pivot e) in
    comes_before-drop (ordering_rows t) e f (entry (row_of t r) e) (entry (row_of t r) f) i no_row (omega (arith, length-ordering_rows t enough))
    ∙ ap₂ (λ o n. decided o (comes_before_from t r e f n)) (ap₂ compared (sym row_is) (sym pivot_is)) (sym (add-one i))

-- a walk's step: the order found at the place, where the places before it do not decide
pub comes_before-step : (t : Tableau) (r e f i : ℕ) (pivot row : TableRow) (found order : Ordering) → length t.columns ≤ length t.rows
    → i ≤ length t.columns → pivot ≡ row_of t r → row ≡ ordering_row t i
    → comes_before (ratios t r e) (ratios t r f) ≡ comes_before_from t r e f i
    → found ≡ int_cmp (entry row e *ℤ entry pivot f) (entry row f *ℤ entry pivot e) → found ≡ order
    → comes_before (ratios t r e) (ratios t r f) ≡ decided order (comes_before_from t r e f (i + 1))
comes_before-step t r e f i pivot row found order enough h pivot_is row_is so_far compared is =
    so_far ∙ comes_before-next t r e f i pivot row enough h pivot_is row_is ∙ ap (λ o. decided o (comes_before_from t r e f (i + 1))) (sym compared ∙ is)

-- behind the last place nothing is left
pub comes_before-last : (t : Tableau) (r e f i : ℕ) → length t.columns ≤ length t.rows → length t.columns < i → comes_before_from t r e f i ≡ false
comes_before-last t r e f i enough h = comes_before-end (ordering_rows t) e f (entry (row_of t r) e) (entry (row_of t r) f) i
    (omega (arith, length-ordering_rows t enough))
