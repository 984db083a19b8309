-- Shifts.
use Rattle.std.proofs.Common.{◌≡◌, ℕ, ◌≤◌, ℤ, pos, unsigned_abs, Bool, List, [], ◌∷◌, length, replicate, All, refl, sym, ap, ap₂, subst, arith}
use Rattle.std.proofs.lemmas.Int.{ints}
use Rattle.std.proofs.lemmas.List.Elements.{All-head, All-tail}
use Rattle.std.proofs.Math.IntN.{+ℤ_idr}
use Rattle.judgement_matrix.specs.Range.{Bounds, bounds}
use Rattle.judgement_matrix.specs.Matrix.{Judgements, IsCell, IsMatrix}
use Rattle.judgement_matrix.specs.Repair.{IsLawfulStep, AreLawfulSteps, IsLawfulShift, moved, moved_cell, moved_cells, shifted, shift_total, IsRepair, IsLeastRepair, IsNearShift, IsShiftBefore}
use Rattle.judgement_matrix.specs.Scale.{IsConsistent}
use Rattle.std.specs.Cmp.{int_cmp_total}
use Rattle.std.specs.Cmp.Lexicographic.{lists_total}

-- no step at all
moved-zero : (k : ℕ) → moved k (pos 0) ≡ k
moved-zero k = ap unsigned_abs (+ℤ_idr (pos k))

moved_cell-zero : (cell : Bounds × Bool) → moved_cell cell (pos 0) ≡ cell
moved_cell-zero cell = ap₂ (λ lo hi. (bounds lo hi, cell.1)) (moved-zero cell.0.lo) (moved-zero cell.0.hi)

moved_cells-zeros : (cells : List (Bounds × Bool)) → moved_cells cells (replicate (length cells) (pos 0)) ≡ cells
moved_cells-zeros [] = refl
moved_cells-zeros (cell ∷ cells) = ap₂ (λ c l. c ∷ l) (moved_cell-zero cell) (moved_cells-zeros cells)

-- a shift by nothing leaves the judgements
pub shifted-zeros : (m : Judgements) → shifted m (replicate (length m.cells) (pos 0)) ≡ m
shifted-zeros m = ap (λ cells. record { size = m.size; cells = cells }) (moved_cells-zeros m.cells)

lawful-zero : (cell : Bounds × Bool) → IsCell cell → IsLawfulStep cell (pos 0)
lawful-zero cell h = record {
  unjudged = λ _. refl;
  least = omega (arith, ints);
  most = omega (arith, ints, h.0.1);
  positive = λ above several. omega (arith, ints, above);
}

lawful-zeros : (cells : List (Bounds × Bool)) → All IsCell cells → AreLawfulSteps cells (replicate (length cells) (pos 0))
lawful-zeros [] h = tt
lawful-zeros (cell ∷ cells) h = (lawful-zero cell (All-head IsCell cell cells h), lawful-zeros cells (All-tail IsCell cell cells h))

-- and is lawful
pub IsLawfulShift-zeros : (m : Judgements) → IsMatrix m → IsLawfulShift m (replicate (length m.cells) (pos 0))
IsLawfulShift-zeros m h = lawful-zeros m.cells h.cells_are

-- ---- repairs

-- least repairs move by the same in all
pub IsLeastRepair-total : (m : Judgements) (s t : List ℤ) → IsLeastRepair m s → IsLeastRepair m t → shift_total s ≡ shift_total t
IsLeastRepair-total m s t h k = omega (arith, h.least t k.repair, k.least s h.repair)

-- and are near where that is at most 4
pub IsNearShift-least : (m : Judgements) (s : List ℤ) → IsLeastRepair m s → shift_total s ≤ 4 → IsNearShift m s
IsNearShift-least m s h most = record { lawful = h.repair.lawful; most = most; least = h.least }

-- a matrix that some scale meets is repaired by no shift
pub IsRepair-zeros : (m : Judgements) → IsMatrix m → IsConsistent m → IsRepair m (replicate (length m.cells) (pos 0))
IsRepair-zeros m h met = record { lawful = IsLawfulShift-zeros m h; consistent = subst IsConsistent (sym (shifted-zeros m)) met }

-- the order of shifts is strict
pub IsShiftBefore_irrefl : (s : List ℤ) → ¬ IsShiftBefore s s
IsShiftBefore_irrefl s h = let turned = (lists_total int_cmp_total).antisymm s s in cc
