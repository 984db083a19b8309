-- The ways to choose k of n numbers, and to put n numbers in order.
use Rattle.std.specs.Prelude.{◌≡◌, ℕ, zero, suc, ◌+◌, ◌<◌, eqb, List, [], ◌∷◌, ◌++◌, length, map, All}
use Rattle.std.specs.List.{IsDistinct}

-- each rising list of k of the n numbers from a on, once
abbrev pub choices_from : ℕ → ℕ → ℕ → List (List ℕ)
choices_from a n zero = [] ∷ []
choices_from a zero (suc k) = []
choices_from a (suc n) (suc k) = map (λ c. a ∷ c) (choices_from (suc a) n k) ++ choices_from (suc a) n (suc k)

-- each rising list of k numbers below n, once
abbrev pub choices : ℕ → ℕ → List (List ℕ)
choices n k = choices_from 0 n k

-- how many ways there are to choose k of n
abbrev pub choose : ℕ → ℕ → ℕ
choose n zero = 1
choose zero (suc k) = 0
choose (suc n) (suc k) = choose n k + choose n (suc k)

-- n numbers in a row, from a on
abbrev pub numbers_from : ℕ → ℕ → List ℕ
numbers_from a zero = []
numbers_from a (suc n) = a ∷ numbers_from (suc a) n

-- each of the first n numbers stands once
pub record IsOrder (n : ℕ) (order : List ℕ) : Type 0 where
  pub each : length order ≡ n
  pub within : All (λ c. c < n) order
  pub once : IsDistinct eqb order
