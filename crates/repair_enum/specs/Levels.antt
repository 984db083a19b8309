-- Levels of shifts: the shift of zeros, and then the children of each level (this project's own).
use Rattle.std.specs.Prelude.{◌≡◌, ◌↔◌, ℕ, ◌≤◌, ℤ, pos, List, [], ◌∷◌, length, map, replicate, ⊤, Contains}
use Rattle.std.specs.List.{AllByRecursion}
use Rattle.frac128.specs.Problem.{IsFarkasCertificate}
use Rattle.frac128.specs.declared.problem.Cert.{Cert}
use Rattle.judgement_matrix.specs.Matrix.{Judgements}
use Rattle.judgement_matrix.specs.Repair.{IsLawfulShift, IsBetween, shifted, shift_total, IsRepair, IsUndercutByNone, IsShiftBefore}
use Rattle.judgement_matrix.specs.declared.shift.Shift.{Shift}
use Rattle.lp_macbeth.specs.Rows.{problem_of}
use Rattle.repair_enum.specs.Children.{IsChild}

-- the shift of zeros
abbrev pub no_shift : Judgements → Shift
no_shift m = record { by = replicate (length m.cells) (pos 0) }

-- each stands before all behind it
abbrev pub AreInOrder : List Shift → Type 0
AreInOrder [] = ⊤
AreInOrder (shift ∷ shifts) = AllByRecursion (λ other. IsShiftBefore shift.by other.by) shifts × AreInOrder shifts

-- ---- what shifts cover

-- a shift of the list lies between no shift and the repair, and moves by k in all
pub record IsCovered (k : ℕ) (shifts : List Shift) (repair : List ℤ) : Type 0 where
  pub shift : Shift
  pub listed : Contains shifts shift
  pub total : shift_total shift.by ≡ k
  pub between : IsBetween shift.by repair

-- the shifts cover each repair that moves by k or more
abbrev pub Covers : Judgements → ℕ → List Shift → Type 0
Covers m k shifts = (repair : List ℤ) → IsRepair m repair → k ≤ shift_total repair → IsCovered k shifts repair

-- each moves by k in all
abbrev pub AreOfTotal : ℕ → List Shift → Type 0
AreOfTotal k shifts = (shift : Shift) → Contains shifts shift → shift_total shift.by ≡ k

-- what is known of the shifts that follow k levels
pub record Ends (m : Judgements) (k : ℕ) (shifts : List Shift) : Type 0 where
  pub lawful : (shift : Shift) → Contains shifts shift → IsLawfulShift m shift.by
  pub totals : AreOfTotal k shifts
  pub covers : Covers m k shifts
  pub none_below : IsUndercutByNone m k

-- ---- levels: shifts, each with the certificate that it was given

-- the shifts of a level
abbrev pub shifts_of : List (Shift × Cert) → List Shift
shifts_of level = map (λ entry. entry.0) level

-- the certificate refutes the matrix after the shift
abbrev pub IsRefuted : Judgements → Shift × Cert → Type 0
IsRefuted m entry = IsFarkasCertificate (problem_of (shifted m entry.0.by)) entry.1

-- each certificate refutes its shift
abbrev pub AreRefuted : Judgements → List (Shift × Cert) → Type 0
AreRefuted m level = (entry : Shift × Cert) → Contains level entry → IsRefuted m entry

-- a child of a shift of the level
pub record IsChildOfLevel (m : Judgements) (level : List (Shift × Cert)) (child : Shift) : Type 0 where
  pub from : Shift × Cert
  pub listed : Contains level from
  pub is_child : IsChild m from.0.by from.1 child.by

-- the next shifts are exactly the children of a level
abbrev pub AreChildren : Judgements → List (Shift × Cert) → List Shift → Type 0
AreChildren m level next = (child : Shift) → Contains next child ↔ IsChildOfLevel m level child

-- so, each once and in order
pub record AreNext (m : Judgements) (level : List (Shift × Cert)) (next : List Shift) : Type 0 where
  pub children : AreChildren m level next
  pub in_order : AreInOrder next

-- from these shifts on, each level is refuted and is followed by exactly its children; the last shifts follow the last level
abbrev pub AreLevels : Judgements → List Shift → List (List (Shift × Cert)) → List Shift → Type 0
AreLevels m shifts [] last = shifts ≡ last
AreLevels m shifts (level ∷ levels) last =
    (shifts_of level ≡ shifts) × AreRefuted m level × ((next : List Shift) × AreNext m level next × AreLevels m next levels last)

-- from the shift of zeros on
abbrev pub AreLevelsOf : Judgements → List (List (Shift × Cert)) → List Shift → Type 0
AreLevelsOf m levels last = AreLevels m (no_shift m ∷ []) levels last
