-- Shifts of judgements, and those that make a matrix consistent (this project's own).
use Rattle.std.specs.Prelude.{◌≡◌, ◌⊎◌, ℕ, ◌+◌, ◌<◌, ◌≤◌, ℤ, pos, ◌+ℤ◌, ◌≤ℤ◌, unsigned_abs, Bool, false, List, [], ◌∷◌, ⊤, slice_index_or}
use Rattle.std.specs.Cmp.Lexicographic.{slice_cmp}
use Rattle.std.specs.Ordering.{int_cmp}
use Rattle.std.specs.declared.cmp.Ordering.TheVariants.{Less}
use Rattle.judgement_matrix.specs.Range.{Bounds, bounds}
use Rattle.judgement_matrix.specs.Matrix.{Judgements, place}
use Rattle.judgement_matrix.specs.Scale.{IsConsistent}

-- a cell may be moved so: an unjudged one not at all, the range stays within 0 to 6, and one of several categories from 1 on or above
-- doesn't come to begin at 0
pub record IsLawfulStep (cell : Bounds × Bool) (step : ℤ) : Type 0 where
  pub unjudged : cell.1 ≡ false → step ≡ pos 0
  pub least : pos 0 ≤ℤ (pos cell.0.lo +ℤ step)
  pub most : (pos cell.0.hi +ℤ step) ≤ℤ pos 6
  pub positive : 1 ≤ cell.0.lo → cell.0.lo < cell.0.hi → pos 1 ≤ℤ (pos cell.0.lo +ℤ step)

-- one step for each cell
abbrev pub AreLawfulSteps : List (Bounds × Bool) → List ℤ → Type 0
AreLawfulSteps [] [] = ⊤
AreLawfulSteps [] (step ∷ steps) = ⊥
AreLawfulSteps (cell ∷ cells) [] = ⊥
AreLawfulSteps (cell ∷ cells) (step ∷ steps) = IsLawfulStep cell step × AreLawfulSteps cells steps

-- a shift has one number for each pair, in pair order
abbrev pub IsLawfulShift : Judgements → List ℤ → Type 0
IsLawfulShift m shift = AreLawfulSteps m.cells shift

-- by how much a shift moves a pair
abbrev pub step_at : Judgements → List ℤ → ℕ → ℕ → ℤ
step_at m shift p q = slice_index_or shift (place m.size p q) (pos 0)

-- a step goes as far as another at most, and no other way
abbrev pub IsStepBetween : ℤ → ℤ → Type 0
IsStepBetween step other = ((pos 0 ≤ℤ step) × (step ≤ℤ other)) ⊎ ((other ≤ℤ step) × (step ≤ℤ pos 0))

-- pair by pair a shift lies between no shift and another
abbrev pub IsBetween : List ℤ → List ℤ → Type 0
IsBetween [] [] = ⊤
IsBetween [] (other ∷ others) = ⊥
IsBetween (step ∷ steps) [] = ⊥
IsBetween (step ∷ steps) (other ∷ others) = IsStepBetween step other × IsBetween steps others

-- a category moved by a step that leaves it at 0 or above
abbrev pub moved : ℕ → ℤ → ℕ
moved category step = unsigned_abs (pos category +ℤ step)

-- a cell moved by a step
abbrev pub moved_cell : Bounds × Bool → ℤ → Bounds × Bool
moved_cell cell step = (bounds (moved cell.0.lo step) (moved cell.0.hi step), cell.1)

-- each cell moved by its step
abbrev pub moved_cells : List (Bounds × Bool) → List ℤ → List (Bounds × Bool)
moved_cells [] steps = []
moved_cells (cell ∷ cells) [] = cell ∷ cells
moved_cells (cell ∷ cells) (step ∷ steps) = moved_cell cell step ∷ moved_cells cells steps

-- the judgements after a shift
abbrev pub shifted : Judgements → List ℤ → Judgements
shifted m shift = record { size = m.size; cells = moved_cells m.cells shift }

-- after a repair some scale meets the judgements
pub record IsRepair (m : Judgements) (shift : List ℤ) : Type 0 where
  pub lawful : IsLawfulShift m shift
  pub consistent : IsConsistent (shifted m shift)

-- by how much a shift moves in all
abbrev pub shift_total : List ℤ → ℕ
shift_total [] = 0
shift_total (step ∷ steps) = unsigned_abs step + shift_total steps

-- no repair moves by less in all
abbrev pub IsUndercutByNone : Judgements → ℕ → Type 0
IsUndercutByNone m total = (other : List ℤ) → IsRepair m other → total ≤ shift_total other

-- a repair that no repair undercuts
pub record IsLeastRepair (m : Judgements) (shift : List ℤ) : Type 0 where
  pub repair : IsRepair m shift
  pub least : IsUndercutByNone m (shift_total shift)

-- a shift by at most 4 that no repair undercuts
pub record IsNearShift (m : Judgements) (shift : List ℤ) : Type 0 where
  pub lawful : IsLawfulShift m shift
  pub most : shift_total shift ≤ 4
  pub least : IsUndercutByNone m (shift_total shift)

-- the order of shifts: the first pair that they move differently decides
abbrev pub IsShiftBefore : List ℤ → List ℤ → Type 0
IsShiftBefore first second = slice_cmp int_cmp first second ≡ Less
