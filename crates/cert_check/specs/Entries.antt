-- The entries of a certificate, and the sums that are formed of the rows that they name.
use Rattle.std.specs.Prelude.{◌≡◌, ℕ, ◌+◌, ◌<◌, List, [], ◌∷◌, map, ℤ, pos, ◌+ℤ◌, ◌*ℤ◌, ◌≤ℤ◌, get_or}
use Rattle.frac128.specs.Problem.{row_at}
use Rattle.frac128.specs.declared.problem.Row.{Row}

-- the entry at a place, from 0 on
abbrev pub entry_at : List (ℕ × ℤ) → ℕ → ℕ × ℤ
entry_at on i = get_or on i (0, pos 0)

-- the entry at a place names one of so many rows, which stands after that of the entry before, with a multiplier of at
-- least 0
pub record IsEntry (count : ℕ) (on : List (ℕ × ℤ)) (i : ℕ) : Type 0 where
  pub names_row : (entry_at on i).0 < count
  pub after_last : (k : ℕ) → k + 1 ≡ i → (entry_at on k).0 < (entry_at on i).0
  pub nonneg : pos 0 ≤ℤ (entry_at on i).1

-- for each entry its multiplier times a number of its row
abbrev pub products_on : (Row → ℤ) → List Row → List (ℕ × ℤ) → List ℤ
products_on number rows on = map (λ (e : ℕ × ℤ). e.1 *ℤ number (row_at rows e.0)) on

-- what is formed where numbers are added to s in turn: each number, and with it the sum so far
abbrev pub added_in_turn : ℤ → List ℤ → List ℤ
added_in_turn s [] = []
added_in_turn s (x ∷ xs) = x ∷ (s +ℤ x) ∷ added_in_turn (s +ℤ x) xs

-- a row's coefficient of the variable at a place, from 0 on
abbrev pub coefficient : ℕ → Row → ℤ
coefficient j row = get_or row.coefs j (pos 0)

-- a row's bound
abbrev pub bound : Row → ℤ
bound row = row.bound
