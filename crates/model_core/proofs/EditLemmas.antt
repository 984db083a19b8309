-- Refusals of edits, one test at a time.
use Rattle.std.proofs.Common.{◌≡◌, ℕ, Bool, true, false, List, [], ◌∷◌, ◌++◌, Option, Some, None, Result, Ok, Err, is_err, OnOk, refl, sym, ap, ◌∙◌}
use Rattle.std.specs.Option.{option_map, option_and_then}
use Rattle.std.proofs.lemmas.List.{append_assoc}
use Rattle.model_core.specs.State.{ModelState}
use Rattle.model_core.specs.Finding.{find_criterion}
use Rattle.frac128.specs.Chain.{holds_or, ◌>>=◌}
use Rattle.model_core.specs.Edits.{places_of}
use Rattle.model_core.specs.declared.edit.EditFault.{EditFault}

module _ {B : Type 0} (fault : EditFault) (b : Bool) (next : Unit {0} → Result B EditFault) where
  -- a condition that fails refuses
  pub refused : b ≡ false → (holds_or fault b >>= next) ≡ Err fault
  refused h = ap (λ t. holds_or fault t >>= next) h

  -- one that holds leaves it to what follows
  pub passed : b ≡ true → (holds_or fault b >>= next) ≡ next tt
  passed h = ap (λ t. holds_or fault t >>= next) h

-- the places of names, one after the other
pub places_none : (m : ModelState) (name : List ℕ) (names : List (List ℕ)) (before : List ℕ) → find_criterion m name ≡ None
    → option_map (λ rest. before ++ rest) (places_of m (name ∷ names)) ≡ None
places_none m name names before h = ap (λ o. option_map (λ rest. before ++ rest) (option_and_then (λ c. option_map (λ cs. c ∷ cs) (places_of m names)) o)) h

onto : (before : List ℕ) (c : ℕ) (o : Option (List ℕ)) → option_map (λ rest. before ++ rest) (option_map (λ cs. c ∷ cs) o) ≡ option_map (λ rest. (before ++ c ∷ []) ++ rest) o
onto before c None = refl
onto before c (Some cs) = ap Some (sym (append_assoc before (c ∷ []) cs))

pub places_more : (m : ModelState) (name : List ℕ) (names : List (List ℕ)) (before : List ℕ) (c : ℕ) → find_criterion m name ≡ Some c
    → option_map (λ rest. before ++ rest) (places_of m (name ∷ names)) ≡ option_map (λ rest. (before ++ c ∷ []) ++ rest) (places_of m names)
places_more m name names before c h =
    ap (λ o. option_map (λ rest. before ++ rest) (option_and_then (λ d. option_map (λ cs. d ∷ cs) (places_of m names)) o)) h ∙ onto before c (places_of m names)

-- a step that isn't refused
pub after_ok : {A B : Type 0} (r : Result A EditFault) (x : A) (next : A → Result B EditFault) → r ≡ Ok x → (r >>= next) ≡ next x
after_ok r x next h = ap (λ s. s >>= next) h

-- what holds of a success
pub ok_holds : {A B P : Type 0} (r : Result A B) → is_err r ≡ false → OnOk r P → P
ok_holds (Ok x) e h = h
ok_holds (Err x) e h = cc
