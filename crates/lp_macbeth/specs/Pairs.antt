-- Lists of pairs of elements.
use Rattle.std.specs.Prelude.{ℕ, ◌+◌, ◌-◌, List, map, filter, nat_lt, All}
use Rattle.std.specs.List.{range_with_len}
use Rattle.judgement_matrix.specs.Matrix.{Judgements, IsPair, range_at}

-- each is a pair of n elements
abbrev pub ArePairs : ℕ → List (ℕ × ℕ) → Type 0
ArePairs n ps = All (λ pair. IsPair n pair.0 pair.1) ps

-- the pairs with p as their upper element
abbrev pub row : ℕ → ℕ → List (ℕ × ℕ)
row n p = map (λ q. (p, q)) (range_with_len (p + 1) (n - p))

-- those of these pairs whose ranges lie below a category
abbrev pub under : Judgements → List (ℕ × ℕ) → ℕ → List (ℕ × ℕ)
under m ps category = filter (λ pair. nat_lt (range_at m pair.0 pair.1).hi category) ps
