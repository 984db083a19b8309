-- Options that were written are read as the same options.
use Rattle.std.proofs.Common.{◌≡◌, ℕ, suc, ◌+◌, ◌≤◌, ◌||◌, arith, Bool, true, false, List, [], ◌∷◌, ◌++◌, length, map, nat_lt, Option, None, Some, Ok, Ordering, Less, Equal, Greater, refl, sym, ap, subst, ◌∙◌}
use Rattle.std.specs.Prelude.{slice_index_or}
use Rattle.std.specs.List.{AllByRecursion, IsDistinct, range_with_len, list_any}
use Rattle.std.specs.Str.{bytes_eq}
use Rattle.std.specs.Cmp.Lexicographic.{slice_cmp}
use Rattle.std.specs.Ordering.{nat_cmp, match_ordering}
use Rattle.std.proofs.lemmas.Bool.{and_parts}
use Rattle.std.proofs.lemmas.Bool.Decides.{nat_tests}
use Rattle.std.proofs.lemmas.List.{length-append}
use Rattle.std.proofs.lemmas.Slice.Eq.{bytes_eq-Decides}
use Rattle.serde_json.specs.Data.{Data, string, object, Members, member, no_members, put}
use Rattle.serde_json.specs.Find.{get_member}
use Rattle.serde_json.specs.View.{items_of}
use Rattle.serde_json.proofs.Views.{get_member-put, get_member-put_other}
use Rattle.word_table.specs.Words.{AreApart}
use Rattle.judgement_matrix.specs.Matrix.{unjudged}
use Rattle.judgement_matrix.proofs.EveryLemmas.{every-append_right}
use Rattle.model_core.specs.Names.{is_name}
use Rattle.model_core.specs.Lists.{AreNamedApart, find}
use Rattle.model_core.specs.State.{CriterionState, ModelState, IsRow}
use Rattle.model_core.specs.State.{elements_of as elements_at}
use Rattle.model_core.specs.declared.limits.TheConstants.{OPTIONS}
use Rattle.model_json.specs.declared.place.Place.{Place}
use Rattle.model_json.specs.declared.place.Place.TheVariants as place
use Rattle.model_json.specs.Steps.{each_into, has_only}
use Rattle.model_json.specs.Reading.{place_among, performances_of, row_of, option_of}
use Rattle.model_json.specs.Writing.{element_name, performance_members, option_data, options_with_rows}
use Rattle.model_json.specs.Kept.{IsNamed}
use Rattle.model_json.proofs.EachAgain.{each_again}
use Rattle.model_json.proofs.NamesAgain.{name_again, new_name, place_again}

-- ---- an object whose keys are names of criteria

-- no criterion has this name
abbrev Absent : List ℕ → List CriterionState → Type 0
Absent name [] = Unit {0}
Absent name (c ∷ cs) = (name ≡ c.name → ⊥) × Absent name cs

-- no name stands twice
abbrev Distinct : List CriterionState → Type 0
Distinct [] = Unit {0}
Distinct (c ∷ cs) = Absent c.name cs × Distinct cs

-- none of the names is a key
abbrev Free : List CriterionState → Members → Type 0
Free [] ms = Unit {0}
Free (c ∷ cs) ms = (get_member c.name ms ≡ None) × Free cs ms

-- each performance is an element
abbrev Fits : List CriterionState → List (Option ℕ) → Type 0
Fits cs row = (c e : ℕ) → slice_index_or row c None ≡ Some e → (1 ≤ e) × (e ≤ length (elements_at cs c))

not_equal : (x y : List ℕ) → bytes_eq x y ≡ false → x ≡ y → ⊥
not_equal x y h e = let same : bytes_eq x y ≡ true = (bytes_eq-Decides x y).1 e in absurd (cc)

absent_from_apart : (name : List ℕ) (cs : List CriterionState) → AllByRecursion (λ y. bytes_eq name y ≡ false) (map (λ c. c.name) cs) → Absent name cs
absent_from_apart name [] h = tt
absent_from_apart name (c ∷ cs) h = (not_equal name c.name h.0, absent_from_apart name cs h.1)

distinct_from_apart : (cs : List CriterionState) → AreNamedApart (λ c. c.name) cs → Distinct cs
unfolding IsDistinct
distinct_from_apart [] h = tt
distinct_from_apart (c ∷ cs) h = (absent_from_apart c.name cs h.0, distinct_from_apart cs h.1)

others_stay : (q : List ℕ) (cs : List CriterionState) (row : List (Option ℕ)) (ms : Members) → Absent q cs
    → get_member q (performance_members cs row ms) ≡ get_member q ms
unfolding performance_members
others_stay q [] row ms h = refl
others_stay q (c ∷ cs) [] ms h = refl
others_stay q (c ∷ cs) (None ∷ row) ms h = others_stay q cs row ms h.1
others_stay q (c ∷ cs) (Some e ∷ row) ms h = others_stay q cs row _ h.1 ∙ get_member-put_other q c.name (string (element_name c e)) ms h.0

free-put : (name : List ℕ) (d : Data) (cs : List CriterionState) (ms : Members) → Absent name cs → Free cs ms → Free cs (put name d ms)
free-put name d [] ms h f = tt
free-put name d (c ∷ cs) ms h f = (get_member-put_other c.name name d ms (λ e. h.0 (sym e)) ∙ f.0, free-put name d cs ms h.1 f.1)

free_none : (cs : List CriterionState) → Free cs no_members
free_none [] = tt
free_none (c ∷ cs) = (refl, free_none cs)

has_only-put_at : (o : Ordering) (keys : List (List ℕ)) (k l : List ℕ) (d e : Data) (ms : Members) → list_any (λ x. bytes_eq x k) keys ≡ true
    → list_any (λ x. bytes_eq x l) keys ≡ true → has_only keys ms ≡ true → has_only keys (put k d ms) ≡ true
    → has_only keys (match_ordering o (member k d (member l e ms)) (member l d ms) (member l e (put k d ms))) ≡ true
has_only-put_at Less keys k l d e ms own here rest later = rw (own, here, rest) refl
has_only-put_at Equal keys k l d e ms own here rest later = rw (here, rest) refl
has_only-put_at Greater keys k l d e ms own here rest later = rw (here, later) refl

has_only-put : (keys : List (List ℕ)) (k : List ℕ) (d : Data) (ms : Members) → list_any (λ x. bytes_eq x k) keys ≡ true → has_only keys ms ≡ true
    → has_only keys (put k d ms) ≡ true
has_only-put keys k d no_members own h = rw own refl
has_only-put keys k d (member l e ms) own h =
    let p = and_parts (list_any (λ x. bytes_eq x l) keys) (has_only keys ms) h in
    has_only-put_at (slice_cmp nat_cmp k l) keys k l d e ms own p.0 p.1 (has_only-put keys k d ms own p.1)

-- each name is one of these keys
abbrev Within : List (List ℕ) → List CriterionState → Type 0
Within keys [] = Unit {0}
Within keys (c ∷ cs) = (list_any (λ x. bytes_eq x c.name) keys ≡ true) × Within keys cs

only_again : (keys : List (List ℕ)) (cs : List CriterionState) (row : List (Option ℕ)) (ms : Members) → Within keys cs → has_only keys ms ≡ true
    → has_only keys (performance_members cs row ms) ≡ true
unfolding performance_members
only_again keys [] row ms w h = h
only_again keys (c ∷ cs) [] ms w h = h
only_again keys (c ∷ cs) (None ∷ row) ms w h = only_again keys cs row ms w.1 h
only_again keys (c ∷ cs) (Some e ∷ row) ms w h = only_again keys cs row _ w.1 (has_only-put keys c.name (string (element_name c e)) ms w.0 h)

or_right : (a b : Bool) → b ≡ true → (a || b) ≡ true
or_right true b e = refl
or_right false b e = e

more_within : (k : List ℕ) (keys : List (List ℕ)) (cs : List CriterionState) → Within keys cs → Within (k ∷ keys) cs
more_within k keys [] w = tt
more_within k keys (c ∷ cs) w = (or_right (bytes_eq k c.name) _ w.0, more_within k keys cs w.1)

within_own : (cs : List CriterionState) → Within (map (λ c. c.name) cs) cs
within_own [] = tt
within_own (c ∷ cs) = (rw ((bytes_eq-Decides c.name c.name).1 refl) refl, more_within c.name (map (λ x. x.name) cs) cs (within_own cs))

performances_again : (at_place : Place) (cs : List CriterionState) (row : List (Option ℕ)) (ms : Members) → Distinct cs
    → AllByRecursion (λ c. AreApart c.elements) cs
    → length row ≡ length cs → Fits cs row → Free cs ms → performances_of at_place cs (object (performance_members cs row ms)) ≡ Ok row
unfolding performances_of performance_members
performances_again at_place [] [] ms apart each size fits free = refl
performances_again at_place [] (x ∷ row) ms apart each size fits free = absurd (omega arith)
performances_again at_place (c ∷ cs) [] ms apart each size fits free = absurd (omega arith)
performances_again at_place (c ∷ cs) (None ∷ row) ms apart each size fits free =
    let own : get_member c.name (performance_members cs row ms) ≡ None = others_stay c.name cs row ms apart.0 ∙ free.0 in
    rw (own, performances_again at_place cs row ms apart.1 each.1 (omega arith) (λ k e h. fits (suc k) e h) free.1) refl
performances_again at_place (c ∷ cs) (Some e ∷ row) ms apart each size fits free =
    let d = string (element_name c e) in
    let here = fits 0 e refl in
    let own : get_member c.name (performance_members cs row (put c.name d ms)) ≡ Some d = others_stay c.name cs row (put c.name d ms) apart.0
    ∙ get_member-put c.name d ms in
    let found : place_among c.elements (element_name c e) ≡ Some e = place_again c.elements e each.0 here.0 here.1 in
    rw (
      own,
      found,
      performances_again at_place cs row (put c.name d ms) apart.1 each.1 (omega arith) (λ k e h. fits (suc k) e h)
          (free-put c.name d cs ms apart.0 free.1),
    ) refl

row_again : (at_place : Place) (cs : List CriterionState) (row : List (Option ℕ)) → AreNamedApart (λ c. c.name) cs
    → AllByRecursion (λ c. AreApart c.elements) cs → IsRow cs row
    → row_of at_place cs (Some (object (performance_members cs row no_members))) ≡ Ok row
unfolding row_of
row_again at_place cs row apart each is =
    rw (only_again (map (λ c. c.name) cs) cs row no_members (within_own cs) refl)
    (performances_again at_place cs row no_members (distinct_from_apart cs apart) each is.each is.performed (free_none cs))

-- ---- options

names_of : (names : List (List ℕ)) (rows : List (List (Option ℕ))) → length rows ≡ length names → map (λ o. o.0) (options_with_rows names rows) ≡ names
names_of [] [] h = refl
names_of [] (row ∷ rows) h = refl
names_of (name ∷ names) [] h = absurd (omega arith)
names_of (name ∷ names) (row ∷ rows) h = ap (λ ns. name ∷ ns) (names_of names rows (omega arith))

rows_of : (names : List (List ℕ)) (rows : List (List (Option ℕ))) → length rows ≡ length names → map (λ o. o.1) (options_with_rows names rows) ≡ rows
rows_of [] [] h = refl
rows_of [] (row ∷ rows) h = absurd (omega arith)
rows_of (name ∷ names) [] h = absurd (omega arith)
rows_of (name ∷ names) (row ∷ rows) h = ap (λ rs. row ∷ rs) (rows_of names rows (omega arith))

map-seam : {X Y : Type 0} (f : X → Y) (seen : List X) (x : X) (rest : List X) → map f (seen ++ x ∷ rest) ≡ map f seen ++ f x ∷ map f rest
map-seam f [] x rest = refl
map-seam f (y ∷ seen) x rest = ap (λ ys. f y ∷ ys) (map-seam f seen x rest)

length-map : {X Y : Type 0} (f : X → Y) (xs : List X) → length (map f xs) ≡ length xs
length-map f [] = refl
length-map f (x ∷ xs) = ap suc (length-map f xs)

module _ (m : ModelState) (few : length m.options ≤ OPTIONS) (apart : AreNamedApart (λ o. o) m.options) (named : AllByRecursion IsNamed m.options)
    (rows : length m.performances ≡ length m.options) (each_row : AllByRecursion (IsRow m.criteria) m.performances)
    (criteria_apart : AreNamedApart (λ c. c.name) m.criteria) (each : AllByRecursion (λ c. AreApart c.elements) m.criteria) where
  -- the model of which these options were read, with what they perform
  abbrev pub with_options : List (List ℕ × List (Option ℕ)) → ModelState
  with_options options = record {
    options = map (λ o. o.0) options;
    criteria = m.criteria;
    groups = m.groups;
    performances = map (λ o. o.1) options;
    order = range_with_len 0 (length m.criteria);
    weighting = unjudged (length m.criteria + 1);
  }

  option_again : (seen : List (List ℕ × List (Option ℕ))) (o : List ℕ × List (Option ℕ)) (rest : List (List ℕ × List (Option ℕ)))
      → seen ++ o ∷ rest ≡ options_with_rows m.options m.performances
      → option_of (length seen) (with_options seen) (option_data m o) ≡ Ok (with_options (seen ++ o ∷ []))
  unfolding option_of option_data
  option_again seen o rest e =
      let names : map (λ x. x.0) seen ++ o.0 ∷ map (λ x. x.0) rest ≡ m.options =
      sym (map-seam (λ x. x.0) seen o rest) ∙ ap (map (λ x. x.0)) e ∙ names_of m.options m.performances rows in
      let places : map (λ x. x.1) seen ++ o.1 ∷ map (λ x. x.1) rest ≡ m.performances =
      sym (map-seam (λ x. x.1) seen o rest) ∙ ap (map (λ x. x.1)) e ∙ rows_of m.options m.performances rows in
      let all : length m.options ≡ length (map (λ x. x.0) seen) + suc (length (map (λ x. x.0) rest)) =
      ap length (sym names) ∙ length-append (map (λ x. x.0) seen) (o.0 ∷ map (λ x. x.0) rest) in
      let size : length (map (λ x. x.0) seen) ≡ length seen = length-map (λ x. x.0) seen in
      let room : nat_lt (length seen) OPTIONS ≡ true = grind (arith, nat_tests) in
      let valid : is_name o.0 ≡ true = (every-append_right IsNamed (map (λ x. x.0) seen) (o.0 ∷ map (λ x. x.0) rest)
      (subst (AllByRecursion IsNamed) (sym names) named)).0 in
      let free : find (λ x. x) (map (λ x. x.0) seen) o.0 ≡ None = new_name (λ x. x) (map (λ x. x.0) seen) o.0 (map (λ x. x.0) rest) m.options names apart in
      let is : IsRow m.criteria o.1 =
      (every-append_right (IsRow m.criteria) (map (λ x. x.1) seen) (o.1 ∷ map (λ x. x.1) rest)
      (subst (AllByRecursion (IsRow m.criteria)) (sym places) each_row)).0 in
      rw (
        room,
        name_again (place.OptionName (length seen)) o.0 valid,
        free,
        row_again (place.Performances (length seen)) m.criteria o.1 criteria_apart each is,
        map-seam (λ x. x.0) seen o [],
        map-seam (λ x. x.1) seen o [],
      ) refl

  pub options_again : each_into option_of 0 (with_options []) (items_of (map (option_data m) (options_with_rows m.options m.performances)))
      ≡ Ok (record m { order = range_with_len 0 (length m.criteria); weighting = unjudged (length m.criteria + 1) })
  options_again =
      each_again option_of (option_data m) with_options (options_with_rows m.options m.performances) option_again []
      (options_with_rows m.options m.performances) refl
      ∙ (λ i. Ok (record {
        options = names_of m.options m.performances rows i;
        criteria = m.criteria;
        groups = m.groups;
        performances = rows_of m.options m.performances rows i;
        order = range_with_len 0 (length m.criteria);
        weighting = unjudged (length m.criteria + 1);
      }))
