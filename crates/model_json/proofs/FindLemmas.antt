-- Where a thing of a list stands by its own name.
use Rattle.std.proofs.Common.{◌≡◌, ℕ, ◌+◌, ◌-◌, ◌<◌, ◌≤◌, List, length, map, Some, Result, Ok, Err, IfOk, slice_get, get_or, refl, sym, ap, subst, ◌∙◌, arith}
use Rattle.std.specs.Option.{option_map}
use Rattle.std.specs.Str.{bytes_eq}
use Rattle.std.proofs.lemmas.Option.{slice_get-map, slice_get_read}
use Rattle.word_table.specs.Words.{AreApart}
use Rattle.word_table.proofs.WordLemmas.{position-map, finds}
use Rattle.model_core.specs.Lists.{find, AreNamedApart}
use Rattle.model_core.specs.State.{CriterionState}
use Rattle.model_core.specs.Finding.{find_element}

-- a thing stands where its own name is found
pub find-own : {T : Type 0} (name : T → List ℕ) (xs : List T) (at : ℕ) (x : T) → AreNamedApart name xs → slice_get xs at ≡ Some x
    → find name xs (name x) ≡ Some at
find-own name xs at x apart is =
    sym (position-map name (bytes_eq (name x)) xs)
    ∙ finds (map name xs) (name x) at apart (slice_get-map name xs at ∙ ap (option_map name) is)

-- an element of a criterion, which counts from 1
pub find-element : (c : CriterionState) (at : ℕ) (name : List ℕ) → AreApart c.elements → 1 ≤ at → slice_get c.elements (at - 1) ≡ Some name
    → find_element c name ≡ Some at
find-element c at name apart least is =
    let back : at - 1 + 1 ≡ at = omega arith in
    ap (option_map (λ k. k + 1)) (finds c.elements name (at - 1) apart is) ∙ ap (λ k. Some k) back

-- an element of a criterion that is seen in another way
pub found-there : (c p : CriterionState) (at : ℕ) (name : List ℕ) → c ≡ p → AreApart c.elements → 1 ≤ at → at ≤ length p.elements
    → name ≡ get_or c.elements (at - 1) name → find_element p name ≡ Some at
found-there c p at name same apart least most is =
    let within : at ≤ length c.elements = subst (λ q. at ≤ length q.elements) (sym same) most in
    let low : at - 1 < length c.elements = omega (arith, least, within) in
    subst (λ q. find_element q name ≡ Some at) same
    (find-element c at name apart least (slice_get_read c.elements (length c.elements) (at - 1) name refl low is))

-- what holds of a name holds of a copy of it
pub copied : {E : Type 0} (r : Result (List ℕ) E) (name : List ℕ) (P : List ℕ → Type 0) → IfOk r (λ copy. copy ≡ name) → P name → IfOk r P
copied (Ok copy) name P same h = subst P (sym same) h
copied (Err e) name P same h = tt
