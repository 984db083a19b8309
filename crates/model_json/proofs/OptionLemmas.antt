-- Rows of options: how they are read, and how an option performs on one criterion after the other.
use Rattle.std.proofs.Common.{◌≡◌, ℕ, zero, suc, ◌+◌, ◌<◌, ◌≤◌, List, [], ◌∷◌, ◌++◌, length, map, drop, get_or, slice_get, slice_set, replicate, Bool, true, false, not, cond, ◌||◌, ◌&&◌, nat_lt, Option, Some, None, is_some, Result, Ok, Err, String, Global, string_bytes, refl, sym, ap, ap₂, subst, ◌∙◌, arith, add-one, append_assoc, append-nil}
use Rattle.std.specs.List.{list_any, list_all, prefix_len}
use Rattle.std.specs.Map.{keys_of}
use Rattle.std.specs.Option.{option_map}
use Rattle.std.specs.Str.{bytes_eq}
use Rattle.std.specs.Cmp.Lexicographic.{nat_list_eq_equiv}
use Rattle.std.proofs.Math.Seq.{set-append_seam}
use Rattle.std.proofs.lemmas.Bool.Decides.{nat_tests}
use Rattle.std.proofs.lemmas.List.{drop_more, drop_all}
use Rattle.std.proofs.lemmas.List.Quantifiers.{position-Some}
use Rattle.std.proofs.lemmas.Option.{slice_get_within, get_or_from_slice_get}
use Rattle.serde_json.specs.Data.{Data}
use Rattle.serde_json.specs.Find.{get}
use Rattle.serde_json.specs.View.{members_view}
use Rattle.serde_json.specs.declared.value.Value.{Value}
use Rattle.model_core.specs.State.{CriterionState, ModelState, IsRow, no_criterion}
use Rattle.model_core.specs.Lists.{find}
use Rattle.model_core.specs.Finding.{find_option, find_criterion, find_element, criterion_at}
use Rattle.model_core.specs.Edits.{edited, perform, with_performance}
use Rattle.model_core.specs.declared.edit.EditFault.{EditFault}
use Rattle.model_json.specs.declared.place.Place.{Place}
use Rattle.model_json.specs.declared.fault.Stop.{Stop}
use Rattle.model_json.specs.declared.fault.Stop.TheVariants as stop
use Rattle.frac128.specs.Chain.{◌>>=◌, found_or}
use Rattle.model_json.specs.Steps.{Fails, has_only, string_at, object_at}
use Rattle.model_json.specs.Reading.{place_among, performance_of, performances_of, row_of, with_row}
use Rattle.model_json.proofs.StepLemmas.{after_check, same_ok}

-- ---- keys that are criteria

-- one place further
next_place : (b : Bool) (n : ℕ) → is_some (cond b (Some n) None) ≡ b
next_place true n = refl
next_place false n = refl

one_more : (a b : ℕ) → nat_lt a b ≡ nat_lt (1 + a) (suc b)
one_more a b = grind (arith, nat_tests)

first_of : (n : ℕ) → true ≡ nat_lt 0 (suc n)
first_of n = grind (arith, nat_tests)

any_stands : {A : Type 0} (p : A → Bool) (xs : List A) → list_any p xs ≡ nat_lt (prefix_len (λ x. not (p x)) xs) (length xs)
any_stands p [] = refl
any_stands p (x ∷ xs) = elim (p x) as (λ b. (b || list_any p xs) ≡ nat_lt (cond (not b) (1 + prefix_len (λ y. not (p y)) xs) 0) (suc (length xs))) [
  | true ↦ first_of (length xs)
  | false ↦ any_stands p xs ∙ one_more (prefix_len (λ y. not (p y)) xs) (length xs)
]

by_names : {A : Type 0} (name : A → List ℕ) (key : List ℕ) (xs : List A)
    → list_any (λ x. bytes_eq key (name x)) xs ≡ list_any (λ other. bytes_eq other key) (map name xs)
by_names name key [] = refl
by_names name key (x ∷ xs) = ap₂ ◌||◌ (nat_list_eq_equiv.symm key (name x)) (by_names name key xs)

-- a thing of the list has the name exactly where it is found
found_or_not : {T : Type 0} (name : T → List ℕ) (xs : List T) (key : List ℕ) → is_some (find name xs key) ≡ list_any (λ other. bytes_eq other key) (map name xs)
found_or_not name xs key =
    next_place (nat_lt (prefix_len (λ x. not (bytes_eq key (name x))) xs) (length xs)) (prefix_len (λ x. not (bytes_eq key (name x))) xs)
    ∙ sym (any_stands (λ x. bytes_eq key (name x)) xs) ∙ by_names name key xs

pub only_criteria : (m : ModelState) (es : List (String Global × Value))
    → list_all (λ key. is_some (find_criterion m (string_bytes key))) (keys_of es) ≡ has_only (map (λ c. c.name) m.criteria) (members_view es)
only_criteria m [] = refl
only_criteria m (e ∷ es) = ap₂ ◌&&◌ (found_or_not (λ c. c.name) m.criteria (string_bytes e.0)) (only_criteria m es)

-- ---- a row, read criterion by criterion

-- behind these performances
abbrev pub onto : List (Option ℕ) → Result (List (Option ℕ)) Place → Result (List (Option ℕ)) Place
onto seen (Ok rest) = Ok (seen ++ rest)
onto seen (Err place) = Err place

-- what is left gives what all criteria give
abbrev pub RowLeft : Place → List CriterionState → Data → ℕ → List (Option ℕ) → Type 0
RowLeft place cs d c seen = onto seen (performances_of place (drop c cs) d) ≡ performances_of place cs d

regroup : (seen : List (Option ℕ)) (x : Option ℕ) (rest : Result (List (Option ℕ)) Place)
    → onto (seen ++ x ∷ []) rest ≡ onto seen (rest >>= λ performances. Ok (x ∷ performances))
regroup seen x (Ok rest) = ap Ok (append_assoc seen (x ∷ []) rest)
regroup seen x (Err place) = refl

onto_none : (rest : Result (List (Option ℕ)) Place) → onto [] rest ≡ rest
onto_none (Ok rest) = refl
onto_none (Err place) = refl

-- before the first criterion
pub row_starts : (place : Place) (cs : List CriterionState) (d : Data) → RowLeft place cs d 0 []
row_starts place cs d = onto_none (performances_of place cs d)

module _ (place : Place) (cs : List CriterionState) (d : Data) (c : ℕ) (seen : List (Option ℕ)) (left : RowLeft place cs d c seen) where
  pub row_done : length cs ≤ c → performances_of place cs d ≡ Ok seen
  unfolding performances_of
  row_done le =
      let one : onto seen (performances_of place (drop c cs) d) ≡ Ok (seen ++ []) = rw (drop_all c cs le) refl in
      sym left ∙ one ∙ ap Ok (append-nil seen)

  -- at the next criterion
  module _ (k : CriterionState) (is : slice_get cs c ≡ Some k) where
    here : drop c cs ≡ k ∷ drop (c + 1) cs
    here = drop_more cs c k (slice_get_within cs c k is) ∙ ap (λ x. x ∷ drop (c + 1) cs) (get_or_from_slice_get cs c k k is)

    pub row_goes_on : (x : Option ℕ) → performance_of place k (get k.name d) ≡ Ok x → RowLeft place cs d (c + 1) (seen ++ x ∷ [])
    unfolding performances_of
    row_goes_on x e =
        let one : performances_of place (drop c cs) d ≡ (performances_of place (drop (c + 1) cs) d >>= λ performances. Ok (x ∷ performances)) =
        rw (here, e) refl in
        regroup seen x (performances_of place (drop (c + 1) cs) d) ∙ sym (ap (onto seen) one) ∙ left

    pub row_ends : (s : Stop) → Fails s (performance_of place k (get k.name d)) → Fails s (performances_of place cs d)
    unfolding performances_of
    row_ends stop.NoMemory e = tt
    row_ends (stop.At p) e =
        let one : performances_of place (drop c cs) d ≡ Err p = rw (here, e) refl in
        sym left ∙ ap (onto seen) one

-- ---- what is read is a row

-- nothing, or an element of the criterion
abbrev Fits : CriterionState → Option ℕ → Type 0
Fits k x = (e : ℕ) → x ≡ Some e → (1 ≤ e) × (e ≤ length k.elements)

IsRow-nil : IsRow [] []
IsRow-nil = record { each = refl; performed = λ c e h. absurd (nothing c e h) }
  where
    nothing : (c e : ℕ) → get_or [] c None ≡ Some e → ⊥
    nothing zero e h = cc
    nothing (suc c) e h = cc

IsRow-cons : (k : CriterionState) (cs : List CriterionState) (x : Option ℕ) (row : List (Option ℕ)) → Fits k x → IsRow cs row → IsRow (k ∷ cs) (x ∷ row)
IsRow-cons k cs x row fits is = record { each = ap suc is.each; performed = at }
  where
    at : (c e : ℕ) → get_or (x ∷ row) c None ≡ Some e → (1 ≤ e) × (e ≤ length (get_or (k ∷ cs) c no_criterion).elements)
    at zero e h = fits e h
    at (suc c) e h = is.performed c e h

same_some : {A : Type 0} (x y : A) → Some x ≡ Some y → x ≡ y
same_some x y h = cc

none_some : (e : ℕ) → None ≡ Some e → ⊥
none_some e h = cc

pub none_else : (o : Option ℕ) → ((e : ℕ) → o ≡ Some e → ⊥) → o ≡ None
none_else None h = refl
none_else (Some e) h = absurd (h e refl)

found_ok : {A : Type 0} (place : Place) (o : Option A) (x : A) → found_or place o ≡ Ok x → o ≡ Some x
found_ok place None x h = absurd cc
found_ok place (Some y) x h = ap (λ z. Some z) (same_ok y x h)

mapped_some : (o : Option ℕ) (e : ℕ) → option_map (λ at. at + 1) o ≡ Some e → (at : ℕ) × (o ≡ Some at) × (at + 1 ≡ e)
mapped_some None e h = absurd (none_some e h)
mapped_some (Some at) e h = (at, refl, same_some (at + 1) e h)

-- a name that is found stands among the names
pub among_within : (names : List (List ℕ)) (name : List ℕ) (e : ℕ) → place_among names name ≡ Some e → (1 ≤ e) × (e ≤ length names)
among_within names name e h =
    let from = mapped_some (find (λ other. other) names name) e h in
    let within : from.0 < length names = (position-Some (λ other. bytes_eq name other) names from.0 [] from.1).0 in
    (omega (arith, from.2), omega (arith, from.2, within))

performance_fits : (place : Place) (k : CriterionState) (o : Option Data) (x : Option ℕ) → performance_of place k o ≡ Ok x → Fits k x
performance_fits place k None x h e is = absurd (none_some e (same_ok None x h ∙ is))
performance_fits place k (Some d) x h e is =
    let text = after_check (string_at place (Some d)) (λ name. found_or place (place_among k.elements name) >>= λ y. Ok (Some y)) x h in
    let found = after_check (found_or place (place_among k.elements text.0)) (λ y. Ok (Some y)) x text.2 in
    let same : found.0 ≡ e = same_some found.0 e (same_ok (Some found.0) x found.2 ∙ is) in
    among_within k.elements text.0 e (found_ok place (place_among k.elements text.0) found.0 found.1 ∙ ap (λ y. Some y) same)

performances_row : (place : Place) (cs : List CriterionState) (d : Data) (row : List (Option ℕ)) → performances_of place cs d ≡ Ok row → IsRow cs row
unfolding performances_of
performances_row place [] d row h = subst (IsRow []) (same_ok [] row h) IsRow-nil
performances_row place (k ∷ cs) d row h =
    let first = after_check (performance_of place k (get k.name d)) (λ x. performances_of place cs d >>= λ xs. Ok (x ∷ xs)) row h in
    let rest = after_check (performances_of place cs d) (λ xs. Ok (first.0 ∷ xs)) row first.2 in
    subst (IsRow (k ∷ cs)) (same_ok (first.0 ∷ rest.0) row rest.2)
    (IsRow-cons k cs first.0 rest.0 (performance_fits place k (get k.name d) first.0 first.1) (performances_row place cs d rest.0 rest.1))

nowhere_row : (cs : List CriterionState) → IsRow cs (replicate (length cs) None)
nowhere_row [] = IsRow-nil
nowhere_row (k ∷ cs) = IsRow-cons k cs None (replicate (length cs) None) (λ e h. absurd (none_some e h)) (nowhere_row cs)

pub row_is : (place : Place) (cs : List CriterionState) (o : Option Data) (row : List (Option ℕ)) → row_of place cs o ≡ Ok row → IsRow cs row
unfolding row_of
row_is place cs None row h = subst (IsRow cs) (same_ok (replicate (length cs) None) row h) (nowhere_row cs)
row_is place cs (Some d) row h =
    let plain = after_check (object_at place (map (λ c. c.name) cs) d) (λ _. performances_of place cs d) row h in
    performances_row place cs d row plain.2

-- ---- an option performs on one criterion after the other

-- the first performances of a row
abbrev pub first_ones : List (Option ℕ) → ℕ → List (Option ℕ)
first_ones [] i = []
first_ones (x ∷ row) zero = None ∷ first_ones row zero
first_ones (x ∷ row) (suc i) = x ∷ first_ones row i

pub first_none : (row : List (Option ℕ)) → replicate (length row) None ≡ first_ones row 0
first_none [] = refl
first_none (x ∷ row) = ap (λ xs. None ∷ xs) (first_none row)

pub first_all : (row : List (Option ℕ)) (i : ℕ) → length row ≤ i → first_ones row i ≡ row
first_all [] i h = refl
first_all (x ∷ row) zero h = absurd (omega arith)
first_all (x ∷ row) (suc i) h = ap (λ xs. x ∷ xs) (first_all row i (omega arith))

first_same : (row : List (Option ℕ)) (i : ℕ) → get_or row i None ≡ None → first_ones row (suc i) ≡ first_ones row i
first_same [] i h = refl
first_same (x ∷ row) zero h = ap (λ y. y ∷ first_ones row 0) h
first_same (x ∷ row) (suc i) h = ap (λ xs. x ∷ xs) (first_same row i h)

first_set : (row : List (Option ℕ)) (i e : ℕ) → get_or row i None ≡ Some e → slice_set (first_ones row i) i (Some e) ≡ first_ones row (suc i)
first_set [] zero e h = absurd (none_some e h)
first_set [] (suc i) e h = absurd (none_some e h)
first_set (x ∷ row) zero e h = ap (λ y. y ∷ first_ones row 0) (sym h)
first_set (x ∷ row) (suc i) e h = ap (λ xs. x ∷ xs) (first_set row i e h)

last_one : {A : Type 0} (xs : List A) (x d : A) → get_or (xs ++ x ∷ []) (length xs) d ≡ x
last_one [] x d = refl
last_one (y ∷ xs) x d = last_one xs x d

module _ (m : ModelState) (name : List ℕ) (row : List (Option ℕ)) (i : ℕ) where
  pub not_performed : get_or row i None ≡ None → with_row m name (first_ones row i) ≡ with_row m name (first_ones row (i + 1))
  not_performed h = rw add-one (ap (with_row m name) (sym (first_same row i h)))

  pub performed_too : (o e : ℕ) → o ≡ length m.performances → get_or row i None ≡ Some e
      → with_performance (with_row m name (first_ones row i)) o i e ≡ with_row m name (first_ones row (i + 1))
  performed_too o e last h =
      let rows = m.performances ++ first_ones row i ∷ [] in
      let own : get_or rows o [] ≡ first_ones row i = ap (λ at. get_or rows at []) last ∙ last_one m.performances (first_ones row i) [] in
      let new : slice_set (get_or rows o []) i (Some e) ≡ first_ones row (i + 1) =
      ap (λ xs. slice_set xs i (Some e)) own ∙ rw add-one (first_set row i e h) in
      let all : slice_set rows o (slice_set (get_or rows o []) i (Some e)) ≡ m.performances ++ first_ones row (i + 1) ∷ [] =
      ap₂ (λ at xs. slice_set rows at xs) last new ∙ set-append_seam m.performances (first_ones row i) [] (first_ones row (i + 1)) in
      ap (λ ps. record m { options = m.options ++ name ∷ []; performances = ps }) all

-- an edit that isn't refused
pub performs : (m new : ModelState) (option on element : List ℕ) (o c e : ℕ) (k : CriterionState) → find_option m option ≡ Some o → find_criterion m on ≡ Some c
    → slice_get m.criteria c ≡ Some k → find_element k element ≡ Some e → edited m (perform option on element) ≡ Ok new → with_performance m o c e ≡ new
performs m new option on element o c e k at_o at_c is at_e h =
    let at_k : criterion_at m c ≡ k = get_or_from_slice_get m.criteria c k no_criterion is in
    let own : find_element (criterion_at m c) element ≡ Some e = ap (λ x. find_element x element) at_k ∙ at_e in
    let whole : edited m (perform option on element) ≡ Ok (with_performance m o c e) = rw (at_o, at_c, own) refl in
    same_done (with_performance m o c e) new (sym whole ∙ h)
  where
    edited_to : ModelState → Result ModelState EditFault
    edited_to x = Ok x

    same_done : (a b : ModelState) → edited_to a ≡ edited_to b → a ≡ b
    same_done a b same = cc
