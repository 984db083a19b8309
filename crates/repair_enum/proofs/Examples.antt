-- Three elements judged 3, 2, 2 (the first against the second, the first against the third, the second against the third): one level
-- leads to two repairs.
use Rattle.std.proofs.Common.{◌≡◌, inl, inr, ℕ, zero, suc, ◌<◌, ℤ, pos, negsuc, ◌≤ℤ◌, true, List, [], ◌∷◌, refl, sym, subst, arith, rules}
use Rattle.std.specs.Prelude.{Contains, Some}
use Rattle.std.specs.Int.Signed.{le_z_yes, lt_z_yes}
use Rattle.std.proofs.lemmas.List.Elements.{All-nil, All-cons}
use Rattle.frac128.specs.Problem.{IsFarkasCertificate}
use Rattle.frac128.specs.declared.problem.Cert.{Cert}
use Rattle.judgement_matrix.specs.Range.{bounds}
use Rattle.judgement_matrix.specs.Matrix.{Judgements}
use Rattle.judgement_matrix.specs.Repair.{shifted, IsLawfulShift, IsLawfulStep}
use Rattle.judgement_matrix.specs.declared.tag.Tag.{Tag}
use Rattle.judgement_matrix.specs.declared.tag.Tag.TheVariants.{Lower, Cross}
use Rattle.lp_macbeth.specs.Rows.{judged_rows, problem_of}
use Rattle.judgement_matrix.specs.declared.shift.Shift.{Shift}
use Rattle.repair_enum.specs.Children.{IsChild, IsRelief}
use Rattle.repair_enum.specs.Levels.{IsRefuted, IsChildOfLevel, AreRefuted, AreChildren, AreLevelsOf}

abbrev abc : Judgements
abc = record { size = 3; cells = (bounds 3 3, true) ∷ (bounds 2 2, true) ∷ (bounds 2 2, true) ∷ [] }

abbrev zeros : Shift
zeros = record { by = pos 0 ∷ pos 0 ∷ pos 0 ∷ [] }

abbrev refuting : Cert
refuting = record { den = pos 1; on = (3, pos 1) ∷ [] }

abbrev level : List (Shift × Cert)
level = (zeros, refuting) ∷ []

abbrev left : Shift
left = record { by = negsuc 0 ∷ pos 0 ∷ pos 0 ∷ [] }

abbrev right : Shift
right = record { by = pos 0 ∷ pos 1 ∷ pos 0 ∷ [] }

abbrev next : List Shift
next = left ∷ right ∷ []

-- its rows
rows_are : judged_rows (shifted abc zeros.by) ≡ Lower 1 2 ∷ Lower 1 3 ∷ Lower 2 3 ∷ Cross 1 2 1 3 ∷ Cross 1 2 2 3 ∷ []
rows_are = refl

-- the row of A B above A C refutes it
refuted : IsFarkasCertificate (problem_of (shifted abc zeros.by)) refuting
refuted = record {
  entries = record {
    positions_rise = search rules;
    positions_below = All-cons (λ (e : ℕ × ℤ). e.0 < 5) (3, pos 1) [] (omega arith) (All-nil (λ (e : ℕ × ℤ). e.0 < 5));
    nonneg = All-cons (λ (e : ℕ × ℤ). pos 0 ≤ℤ e.1) (3, pos 1) [] (le_z_yes tt) (All-nil (λ (e : ℕ × ℤ). pos 0 ≤ℤ e.1));
  };
  none_above = All-cons (λ c. c ≤ℤ pos 0) (negsuc 0) (pos 0 ∷ []) (le_z_yes tt)
      (All-cons (λ c. c ≤ℤ pos 0) (pos 0) [] (le_z_yes tt) (All-nil (λ c. c ≤ℤ pos 0)));
  bound_above = lt_z_yes tt;
}

only : {X : Type 0} (P : X → Type 0) (x y : X) → Contains (x ∷ []) y → P x → P y
only P x y (zero, below, is) p = subst P is p
only P x y (suc k, below, is) p = absurd (omega arith)

are_refuted : AreRefuted abc level
are_refuted e c = only (IsRefuted abc) (zeros, refuting) e c refuted

step_is : (cell : ℕ) (s : ℤ) → pos 0 ≤ℤ s → s ≤ℤ pos 1 → cell < 6 → IsLawfulStep (bounds cell cell, true) s
step_is cell s low high small = record {
  unjudged = λ e. absurd cc;
  least = omega (arith, Rattle.integers.proofs.Laws.lin, low);
  most = omega (arith, Rattle.integers.proofs.Laws.lin, high, small);
  positive = λ a b. absurd (omega arith);
}

left_step : IsLawfulStep (bounds 3 3, true) (negsuc 0)
left_step = record { unjudged = λ e. absurd cc; least = le_z_yes tt; most = le_z_yes tt; positive = λ a b. absurd (omega arith) }

down : IsLawfulShift abc left.by
down = (left_step, (step_is 2 (pos 0) (le_z_yes tt) (le_z_yes tt) (omega arith), (step_is 2 (pos 0) (le_z_yes tt) (le_z_yes tt) (omega arith), tt)))

up : IsLawfulShift abc right.by
up = (
  step_is 3 (pos 0) (le_z_yes tt) (le_z_yes tt) (omega arith),
  (
    step_is 2 (pos 1) (le_z_yes tt) (le_z_yes tt) (omega arith),
    (step_is 2 (pos 0) (le_z_yes tt) (le_z_yes tt) (omega arith), tt),
  ),
)

child : (c : Shift) → IsRelief abc zeros.by (Cross 1 2 1 3) c.by → IsLawfulShift abc c.by → IsChildOfLevel abc level c
child c relief lawful = record {
  from = (zeros, refuting);
  listed = (0, omega arith, refl);
  is_child = record { entry = 0; tag = Cross 1 2 1 3; inside = omega arith; positive = lt_z_yes tt; named = refl; relief = relief; lawful = lawful };
}

found : (c : Shift) → IsRelief abc zeros.by (Cross 1 2 1 3) c.by → Contains next c
found c (inl h) = subst (λ (z : List ℤ). Contains next (record { by = z })) (sym h.1) (0, omega arith, refl)
found c (inr h) = subst (λ (z : List ℤ). Contains next (record { by = z })) (sym h.1) (1, omega arith, refl)

by_entry : (c : Shift) (k : ℕ) (tag : Tag) → k < 1 → Rattle.std.specs.Prelude.slice_get (judged_rows (shifted abc zeros.by)) (Rattle.cert_check.specs.Entries.entry_at refuting.on k).0 ≡ Some tag
    → IsRelief abc zeros.by tag c.by → Contains next c
by_entry c zero tag below named relief = let is : tag ≡ Cross 1 2 1 3 = cc in found c (subst (λ t. IsRelief abc zeros.by t c.by) is relief)
by_entry c (suc k) tag below named relief = absurd (omega arith)

among : (c : Shift) (e : Shift × Cert) → Contains level e → IsChild abc e.0.by e.1 c.by → Contains next c
among c e listed = only (λ e. IsChild abc e.0.by e.1 c.by → Contains next c) (zeros, refuting) e listed
    (λ h. by_entry c h.entry h.tag h.inside h.named h.relief)

to : (c : Shift) → Contains next c → IsChildOfLevel abc level c
to c (zero, below, is) = subst (λ c. IsChildOfLevel abc level c) is (child left (inl (le_z_yes tt, refl)) down)
to c (suc zero, below, is) = subst (λ c. IsChildOfLevel abc level c) is (child right (inr (le_z_yes tt, refl)) up)
to c (suc (suc k), below, is) = absurd (omega arith)

are_children : AreChildren abc level next
are_children c = (to c, λ h. among c h.from h.listed h.is_child)

-- one level, and then the two
pub two_repairs : AreLevelsOf abc (level ∷ []) next
two_repairs = (refl, are_refuted, (next, record { children = are_children; in_order = ((refl, tt), (tt, tt)) }, refl))
