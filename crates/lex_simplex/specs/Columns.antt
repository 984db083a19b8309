-- The quantities that the columns of a tableau stand for, as a set.
use Rattle.std.specs.Prelude.{◌≡◌, ℕ, ◌<◌, All, nat_eq, List, length, filter}
use Rattle.std.specs.List.{list_any}
use Rattle.std.specs.List.Sorted.{IsStrictlyIncreasing}
use Rattle.integers.specs.Counting.{numbers_from}
use Rattle.lex_simplex.specs.Tableau.{Tableau}

-- the columns' quantities in rising order, each once
abbrev pub column_set : Tableau → List ℕ
column_set t = filter (λ q. list_any (nat_eq q) t.columns) (numbers_from 0 (length t.rows))

-- a set of k of the numbers below n
pub record IsChoice (n k : ℕ) (set : List ℕ) : Type 0 where
  pub rising : IsStrictlyIncreasing set
  pub below : All (λ q. q < n) set
  pub size : length set ≡ k
