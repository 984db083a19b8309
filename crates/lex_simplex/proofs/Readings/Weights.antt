-- What code reads of weights: those that a row's cells give.
use Rattle.std.proofs.lemmas.List.{map-set}
use Rattle.std.proofs.Common.{◌≡◌, ℕ, length, get_or, map, set, drop, replicate, List, [], ◌∷◌, ℤ, pos, negsuc, neg_ℤ, refl, sym, ap, ◌∙◌}
use Rattle.integers.specs.Vector.{scale}
use Rattle.integers.proofs.Laws.{minus_one-*ℤ}
use Rattle.integers.proofs.Zeros.{opposite_zeros}
use Rattle.lex_simplex.specs.Answer.{spread_weights, empty_weights}
use Rattle.lex_simplex.specs.Cells.{row_in}
use Rattle.lex_simplex.specs.Tableau.{TableRow, Tableau, row_of}

-- ---- weights with the other sign: those of the columns' opposite numbers

-- the opposites of the weights
opposite_spread : (columns : List ℕ) (ys weights : List ℤ)
    → map neg_ℤ (spread_weights columns ys weights) ≡ spread_weights columns (scale (negsuc 0) ys) (map neg_ℤ weights)
opposite_spread [] ys weights = refl
opposite_spread (c ∷ cs) [] weights = refl
opposite_spread (c ∷ cs) (y ∷ ys) weights =
    opposite_spread cs ys (set weights c y) ∙ ap (spread_weights cs (scale (negsuc 0) ys)) (map-set neg_ℤ weights c y
    ∙ ap (set (map neg_ℤ weights) c) (sym (minus_one-*ℤ y)))

-- the same from zeros on
opposite_weights : (columns : List ℕ) (ys : List ℤ) (n : ℕ)
    → map neg_ℤ (spread_weights columns ys (replicate n (pos 0))) ≡ spread_weights columns (scale (negsuc 0) ys) (replicate n (pos 0))
opposite_weights columns ys n = opposite_spread columns ys (replicate n (pos 0)) ∙ ap (spread_weights columns (scale (negsuc 0) ys)) (opposite_zeros n)

-- the weights that the cells of a row give, from zeros on
pub weights_at_row : (t : Tableau) (r : ℕ) (cells zeros weights : List ℤ) → row_in cells ≡ row_of t r → zeros ≡ replicate (length t.rows) (pos 0)
    → weights ≡ set (map neg_ℤ (spread_weights t.columns (drop 2 cells) zeros)) r (get_or cells 0 (pos 0)) → weights ≡ empty_weights t r
weights_at_row t r cells zeros weights is empty done =
    done
    ∙ ap (λ l. set (map neg_ℤ (spread_weights t.columns (drop 2 cells) l)) r (get_or cells 0 (pos 0))) empty
    ∙ ap (λ l. set l r (get_or cells 0 (pos 0))) (opposite_weights t.columns (drop 2 cells) (length t.rows))
    ∙ ap (λ (row : TableRow). set (spread_weights t.columns (scale (negsuc 0) row.coefs) (replicate (length t.rows) (pos 0))) r row.den) is
