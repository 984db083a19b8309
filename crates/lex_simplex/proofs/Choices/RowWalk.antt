-- The walk over the quantities' rows for the pivot row.
use Rattle.std.proofs.Common.{◌≡◌, ℕ, ◌+◌, ◌<◌, ◌≤◌, length, get_or, List, ℤ, pos, ◌≤ℤ◌, ◌<ℤ◌, Some, None, sym, ap, subst, ◌∙◌, arith, below_more}
use Rattle.std.proofs.lemmas.List.{get_or_default}
use Rattle.lex_simplex.specs.Cells.{row_in}
use Rattle.lex_simplex.specs.Tableau.{no_row, Tableau, TableRow, row_of}
use Rattle.lex_simplex.specs.Turn.{leaving}
use Rattle.lex_simplex.proofs.Choices.Laws.{leaving-some, leaving-none}

-- the constant of a row, read from its cells
pub constant_read : (row : TableRow) (cells : List ℤ) (x : ℤ) (n : ℕ) → length cells ≡ n + 2 → row_in cells ≡ row → x ≡ get_or cells 1 x → row.constant ≡ x
constant_read row cells x n wide is read = ap (λ (r : TableRow). r.constant) (sym is) ∙ sym (read ∙ get_or_default cells 1 x (pos 0) (omega arith))

-- a negative constant behind none
pub leaving_found : (t : Tableau) (r : ℕ) (x : ℤ) → (row_of t r).constant ≡ x → x <ℤ pos 0 → r < length t.rows
    → ((k : ℕ) → k < r → pos 0 ≤ℤ (row_of t k).constant) → Some r ≡ leaving t
leaving_found t r x is negative below first = sym ((leaving-some t r).1 record {
  below = below;
  negative =
      subst (λ z. z <ℤ pos 0) (sym is) negative;
  first = first;
})

-- one more constant that is not negative
pub leaving_more : (t : Tableau) (r : ℕ) (x : ℤ) → (row_of t r).constant ≡ x → pos 0 ≤ℤ x → ((k : ℕ) → k < r → pos 0 ≤ℤ (row_of t k).constant) → (k : ℕ)
    → k < r + 1 → pos 0 ≤ℤ (row_of t k).constant
leaving_more t r x is positive first = below_more (λ k. pos 0 ≤ℤ (row_of t k).constant) r first (subst (λ z. pos 0 ≤ℤ z) (sym is) positive)

-- no negative constant in any row
pub leaving_missed : (t : Tableau) (i n : ℕ) → n ≡ length t.rows → n ≤ i → ((k : ℕ) → k < i → pos 0 ≤ℤ (row_of t k).constant) → None ≡ leaving t
leaving_missed t i n e h first =
    sym ((leaving-none t).1 (λ k d below. subst (λ (row : TableRow). pos 0 ≤ℤ row.constant) (get_or_default t.rows k no_row d below)
    (first k (omega arith))))
