-- When a scale meets a matrix. A scale is the list w of n whole numbers over one denominator, its last number 0.
-- After LP-MACBETH (Bana e Costa, De Corte and Vansnick 2005); the exact constraints are this project's own.
use Rattle.std.specs.Prelude.{◌≡◌, ℕ, ◌-◌, ◌<◌, ℤ, pos, ◌-ℤ◌, ◌*ℤ◌, ◌≤ℤ◌, ◌<ℤ◌, List, length, slice_index_or}
use Rattle.judgement_matrix.specs.Matrix.{Judgements, IsPair, range_at}

-- the number of element p, counted from 1
abbrev pub value_at : List ℤ → ℕ → ℤ
value_at w p = slice_index_or w (p - 1) (pos 0)

-- d(p, q), how far p stands above q
abbrev pub difference : List ℤ → ℕ → ℕ → ℤ
difference w p q = value_at w p -ℤ value_at w q

-- a number for each element, the last one 0, over a positive denominator
pub record IsScale (m : Judgements) (w : List ℤ) (n : ℤ) : Type 0 where
  pub den_pos : pos 0 <ℤ n
  pub each : length w ≡ m.size
  pub last : value_at w m.size ≡ pos 0

-- the constraints with each bound multiplied by the unit, for all pairs
pub record IsMetInUnit (m : Judgements) (unit : ℤ) (w : List ℤ) : Type 0 where
  pub lower : (p q : ℕ) → IsPair m.size p q → (unit *ℤ pos (range_at m p q).lo) ≤ℤ difference w p q
  pub zero : (p q : ℕ) → IsPair m.size p q → (range_at m p q).hi ≡ 0 → difference w p q ≤ℤ pos 0
  pub cross : (p q x y : ℕ) → IsPair m.size p q → IsPair m.size x y → (range_at m x y).hi < (range_at m p q).lo
      → (unit *ℤ (pos (range_at m p q).lo -ℤ pos (range_at m x y).hi)) ≤ℤ (difference w p q -ℤ difference w x y)

-- w over n is a scale and meets the judgements
pub record IsMetBy (m : Judgements) (w : List ℤ) (n : ℤ) : Type 0 where
  pub scale : IsScale m w n
  pub meets : IsMetInUnit m n w

-- some scale meets the judgements
abbrev pub IsConsistent : Judgements → Type 0
IsConsistent m = (w : List ℤ) × ((n : ℤ) × IsMetBy m w n)

-- none does
abbrev pub IsInconsistent : Judgements → Type 0
IsInconsistent m = (w : List ℤ) (n : ℤ) → ¬ IsMetBy m w n
