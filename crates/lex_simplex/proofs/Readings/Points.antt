-- What the rows of a problem's table are read as: positive denominators, and the values of the variables.
use Rattle.std.proofs.Common.{◌≡◌, ℕ, zero, suc, ◌+◌, ◌<◌, ◌≤◌, length, get_or, map, take, List, [], ◌∷◌, ◌++◌, ℤ, pos, ◌<ℤ◌, sym, ap, subst, ◌∙◌, arith, add-one}
use Rattle.std.proofs.lemmas.List.{get_or_default}
use Rattle.integers.specs.Fraction.{Fraction, SameFraction, SameFractions}
use Rattle.lex_simplex.specs.Cells.{row_in}
use Rattle.lex_simplex.specs.Equations.{IsTableRow}
use Rattle.lex_simplex.specs.State.{IsWorkable}
use Rattle.lex_simplex.specs.Tableau.{no_row, TableRow, Tableau, row_of, value_of}
use Rattle.lex_simplex.proofs.Tableaus.Rows.{row_of-fits}

-- ---- general

-- one more row's value
SameFractions-more : (rows : List TableRow) (i : ℕ) (d : TableRow) (f : Fraction) (fs : List Fraction) → i < length rows
    → SameFraction (value_of (get_or rows i d)) f → SameFractions (map value_of (take i rows)) fs
    → SameFractions (map value_of (take (suc i) rows)) (fs ++ f ∷ [])
SameFractions-more [] i d f fs l h s = absurd (omega arith)
SameFractions-more (row ∷ rows) zero d f [] l h s = (h, tt)
SameFractions-more (row ∷ rows) zero d f (g ∷ fs) l h s = absurd s
SameFractions-more (row ∷ rows) (suc i) d f [] l h s = absurd s
SameFractions-more (row ∷ rows) (suc i) d f (g ∷ fs) l h s = (s.0, SameFractions-more rows i d f fs (omega arith) h s.1)

-- ---- reading

-- a problem's tableau has as many rows as columns at least
pub IsWorkable-long : (t : Tableau) → IsWorkable t → length t.columns ≤ length t.rows
IsWorkable-long t h = omega (arith, h.is_tableau.one_column_each, h.is_tableau.one_row_each)

-- the denominator of a quantity's cells is positive
pub quantity_den_pos : (t : Tableau) (i : ℕ) (cells : List ℤ) → IsWorkable t → i < length t.columns → row_in cells ≡ row_of t i
    → pos 0 <ℤ get_or cells 0 (pos 0)
quantity_den_pos t i cells h l is =
    let fits : IsTableRow h.problem.vars (row_of t i) = row_of-fits h.problem t i h.is_tableau (omega (arith, IsWorkable-long t h)) in
    subst (λ (row : TableRow). pos 0 <ℤ row.den) (sym is) fits.den_pos

-- so is that of the cost's
pub cost_den_pos : (t : Tableau) (cells : List ℤ) → IsWorkable t → row_in cells ≡ t.cost → pos 0 <ℤ get_or cells 0 (pos 0)
cost_den_pos t cells h is = subst (λ (row : TableRow). pos 0 <ℤ row.den) (sym is) h.is_tableau.cost_fits.den_pos

-- one more variable's value
pub values-more : (t : Tableau) (i : ℕ) (row : TableRow) (f : Fraction) (fs now : List Fraction) → IsWorkable t → i < length t.columns → row ≡ row_of t i
    → SameFraction (value_of row) f
    → SameFractions (map value_of (take i t.rows)) fs → now ≡ fs ++ f ∷ [] → SameFractions (map value_of (take (i + 1) t.rows)) now
values-more t i row f fs now h l is here so_far done =
    let below : i < length t.rows = omega (arith, IsWorkable-long t h) in
    let value : SameFraction (value_of (row_of t i)) f = subst (λ (row : TableRow). SameFraction (value_of row) f) is here in
    let more = SameFractions-more t.rows i no_row f fs below value so_far in
    subst (SameFractions (map value_of (take (i + 1) t.rows))) (sym done)
    (subst (λ n. SameFractions (map value_of (take n t.rows)) (fs ++ f ∷ [])) (sym (add-one i)) more)

-- the cost row's denominator is the first of its cells
pub cost_den : (t : Tableau) (cells : List ℤ) (den : ℤ) → 0 < length cells → row_in cells ≡ t.cost → den ≡ get_or cells 0 den → den ≡ t.cost.den
cost_den t cells den some is read = read ∙ get_or_default cells 0 den (pos 0) some ∙ ap (λ (row : TableRow). row.den) is
