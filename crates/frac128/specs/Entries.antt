-- Weights of a problem's rows, one for each, as the entries of a certificate.
use Rattle.std.specs.Prelude.{ℕ, suc, true, false, List, [], ◌∷◌, ℤ, pos}
use Rattle.std.specs.Ordering.{int_eq}

-- the weights other than 0, each with its place, counted from i
abbrev pub entries_from : ℕ → List ℤ → List (ℕ × ℤ)
entries_from i [] = []
entries_from i (w ∷ ws) = elim (int_eq w (pos 0)) [
  | true ↦ entries_from (suc i) ws
  | false ↦ (i, w) ∷ entries_from (suc i) ws
]
