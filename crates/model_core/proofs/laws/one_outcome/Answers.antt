use Rattle.std.proofs.Common.{◌≡◌, ◌≢◌, Result, Ok, Err, refl, sym, ap, ◌∙◌, inl, inr}
use Rattle.model_core.specs.State.{ModelState}
use Rattle.model_core.specs.Edits.{Edit, Edits, edited}
use Rattle.model_core.specs.declared.edit.EditFault.{EditFault}
use Rattle.model_core.specs.declared.edit.EditFault.TheVariants.{NoMemory}
use Rattle.model_core.proofs.laws.one_outcome.Goals as goal

apart : {A B : Type 0} (r : Result A B) (x : A) (e : B) → r ≡ Ok x → r ≡ Err e → ⊥
apart r x e p q = cc

same_ok : {A B : Type 0} (r : Result A B) (x y : A) → r ≡ Ok x → r ≡ Ok y → x ≡ y
same_ok r x y p q = cc

same_err : {A B : Type 0} (r : Result A B) (d e : B) → r ≡ Err d → r ≡ Err e → d ≡ e
same_err r d e p q = cc

only : (m : ModelState) (edit : Edit) (x y : Result (Unit {0}) EditFault) (a b : ModelState) → Edits m edit x a → Edits m edit y b
    → x ≢ Err NoMemory → y ≢ Err NoMemory → (x ≡ y) × (a ≡ b)
only m edit (Ok u) (Ok v) a b p q f g = (refl, same_ok (edited m edit) a b p q)
only m edit (Ok u) (Err e) a b p q f g =
    elim q.1 [ inl w ↦ absurd (apart (edited m edit) a e p w) | inr w ↦ absurd (g (ap Err w.0)) ]
only m edit (Err e) (Ok v) a b p q f g =
    elim p.1 [ inl w ↦ absurd (apart (edited m edit) b e q w) | inr w ↦ absurd (f (ap Err w.0)) ]
only m edit (Err d) (Err e) a b p q f g =
    elim p.1 [
      | inr w ↦ absurd (f (ap Err w.0))
      | inl w ↦ elim q.1 [
        | inr v ↦ absurd (g (ap Err v.0))
        | inl v ↦ (ap Err (same_err (edited m edit) d e w v), p.0 ∙ sym q.0)
      ]
    ]

some : (m : ModelState) (edit : Edit) (r : Result ModelState EditFault) → edited m edit ≡ r → (x : Result (Unit {0}) EditFault) × (new : ModelState) × Edits m edit x new
some m edit (Ok new) e = (Ok tt, new, e)
some m edit (Err fault) e = (Err fault, m, (refl, inl e))

pub returns-clause-one : goal.returns-clause-one
returns-clause-one c = only

pub returns-clause-some : goal.returns-clause-some
returns-clause-some c = λ m edit. some m edit (edited m edit) refl
