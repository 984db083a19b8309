-- The lines of a model's text are short.
use Rattle.std.proofs.Common.{◌≡◌, ℕ, zero, suc, ◌-◌, ◌≤◌, ◌||◌, ◌&&◌, ◌==◌, ◌/◌, ◌%◌, ◌*◌, nat_lt, nat_le, List, [], ◌∷◌, map, length, get_or, Bool, true, false, cond, not, Option, None, Some, All, Ordering, Less, Equal, Greater, refl, arith, codes}
use Rattle.std.specs.List.{AllByRecursion, list_all, slice_split}
use Rattle.std.specs.Cmp.Lexicographic.{slice_cmp}
use Rattle.std.specs.Ordering.{nat_cmp, match_ordering}
use Rattle.std.specs.Char.{digit_char}
use Rattle.std.specs.Str.{is_utf8}
use Rattle.std.proofs.lemmas.Bool.{and_parts}
use Rattle.std.proofs.lemmas.Bool.Decides.{nat_tests}
use Rattle.std.proofs.lemmas.List.{length-append}
use Rattle.std.proofs.lemmas.List.Elements.{recursion_from_All, All-from_recursion}
use Rattle.json.specs.Print.{escape, escape_byte}
use Rattle.serde_json.specs.Data.{Data, string, Members, member, no_members, put}
use Rattle.judgement_matrix.specs.Matrix.{Judgements}
use Rattle.judgement_matrix.specs.Range.{Bounds}
use Rattle.model_core.specs.Names.{is_name_byte}
use Rattle.model_core.specs.declared.limits.TheConstants.{NAME_BYTES}
use Rattle.model_core.specs.State.{CriterionState, GroupState, ModelState, no_criterion}
use Rattle.model_json.specs.Writing.{array_of, judged_pairs, judgement_data, judgements_data, with_group_key, group_data, element_name, criterion_data, performance_members, option_data, weighting_data, options_with_rows, criterion_name, model_data, dump_text}
use Rattle.model_json.specs.Kept.{IsNamed, IsNamedCriterion, IsNamedModel}
use Rattle.model_json.proofs.GroupsAgain.{no_group}
use Rattle.word_table.specs.Lines.{is_line}
use Rattle.model_json.proofs.LineLemmas.{line-append, each_fits}
use Rattle.model_json.proofs.LayoutLines.{IsShort, HasShort, MembersShort, layout_fits}
use Rattle.model_json.proofs.DumpText.{flat_model}

-- ---- names

escaped : (x : ℕ) → 32 ≤ x → (length (escape_byte x) ≤ 2) × (is_line (escape_byte x) ≡ true)
unfolding escape_byte
escaped x least =
    let e8 : (x == 8) ≡ false = grind (arith, nat_tests) in
    let e9 : (x == 9) ≡ false = grind (arith, nat_tests) in
    let e10 : (x == 10) ≡ false = grind (arith, nat_tests) in
    let e12 : (x == 12) ≡ false = grind (arith, nat_tests) in
    let e13 : (x == 13) ≡ false = grind (arith, nat_tests) in
    let more : nat_lt 0 x ≡ true = grind (arith, nat_tests) in
    let most : nat_lt x 32 ≡ false = grind (arith, nat_tests) in
    rw (e8, e12, e10, e13, e9) (by_letter ((x == 34) || (x == 92)) more most e10)
  where
    by_letter : (t : Bool) → nat_lt 0 x ≡ true → nat_lt x 32 ≡ false → (x == 10) ≡ false
        → (length (cond (nat_lt 0 (cond t x 0)) (92 ∷ cond t x 0 ∷ [])
        (cond (nat_lt x 32) (92 ∷ 117 ∷ 48 ∷ 48 ∷ digit_char (x / 16) ∷ digit_char (x % 16) ∷ []) (x ∷ []))) ≤ 2)
        × (is_line (cond (nat_lt 0 (cond t x 0)) (92 ∷ cond t x 0 ∷ [])
        (cond (nat_lt x 32) (92 ∷ 117 ∷ 48 ∷ 48 ∷ digit_char (x / 16) ∷ digit_char (x % 16) ∷ []) (x ∷ []))) ≡ true)
    by_letter true more most other = rw (more, other) (omega arith, refl)
    by_letter false more most other = rw (most, other) (omega arith, refl)

escaped_all : (s : List ℕ) → list_all is_name_byte s ≡ true → (length (escape s) ≤ 2 * length s) × (is_line (escape s) ≡ true)
escaped_all [] h = (omega arith, refl)
escaped_all (x ∷ s) h =
    let parts = and_parts (is_name_byte x) (list_all is_name_byte s) h in
    let least : 32 ≤ x = at_least x parts.0 in
    let one = escaped x least in
    let rest = escaped_all s parts.1 in
    (omega (arith, length-append (escape_byte x) (escape s), one.0, rest.0), line-append (escape_byte x) (escape s) one.1 rest.1)
  where
    at_least : (x : ℕ) → is_name_byte x ≡ true → 32 ≤ x
    at_least x h = let e = (and_parts (nat_le 32 x) (not (x == 127) && not (x == 34)) h).0 in grind (arith, nat_tests)

pub short_name : (s : List ℕ) → IsNamed s → IsShort s
short_name s is =
    let parts = (and_parts (is_utf8 s) ((nat_lt 0 (length s) && nat_le (length s) NAME_BYTES) && list_all is_name_byte s) is).1 in
    let bytes = (and_parts (nat_lt 0 (length s) && nat_le (length s) NAME_BYTES) (list_all is_name_byte s) parts) in
    let most : nat_le (length s) NAME_BYTES ≡ true = (and_parts (nat_lt 0 (length s)) (nat_le (length s) NAME_BYTES) bytes.0).1 in
    let few : length s ≤ 64 = grind (arith, nat_tests) in
    let all = escaped_all s bytes.1 in
    record { few = omega (arith, all.0, few); line = all.1 }

short_nothing : IsShort []
short_nothing = record { few = omega arith; line = refl }

pub short_at : (names : List (List ℕ)) (i : ℕ) → AllByRecursion IsNamed names → IsShort (get_or names i [])
short_at [] i h = short_nothing
short_at (name ∷ names) zero h = short_name name h.0
short_at (name ∷ names) (suc i) h = short_at names i h.1

pub short_group : (groups : List GroupState) (i : ℕ) → AllByRecursion (λ g. IsNamed g.name) groups → IsShort (get_or groups i no_group).name
short_group [] i h = short_nothing
short_group (g ∷ groups) zero h = short_name g.name h.0
short_group (g ∷ groups) (suc i) h = short_group groups i h.1

pub short_criterion : (cs : List CriterionState) (i : ℕ) → AllByRecursion IsNamedCriterion cs → IsShort (get_or cs i no_criterion).name
short_criterion [] i h = short_nothing
short_criterion (c ∷ cs) zero h = short_name c.name h.0.named
short_criterion (c ∷ cs) (suc i) h = short_criterion cs i h.1

pub short_words : (words : List ℕ) → list_all is_name_byte words ≡ true → nat_le (length words) 64 ≡ true → IsShort words
short_words words bytes most =
    let few : length words ≤ 64 = grind (arith, nat_tests) in
    let all = escaped_all words bytes in
    record { few = omega (arith, all.0, few); line = all.1 }

-- ---- values

short_items : {X : Type 0} (P : X → Type 0) (f : X → Data) → ((x : X) → P x → HasShort (f x)) → (xs : List X) → AllByRecursion P xs
    → HasShort (array_of (map f xs))
short_items P f one [] h = tt
short_items P f one (x ∷ xs) h = (one x h.0, short_items P f one xs h.1)

pub anything : {X : Type 0} (xs : List X) → AllByRecursion (λ x. Unit {0}) xs
anything [] = tt
anything (x ∷ xs) = (tt, anything xs)

short_judgement : (j : ℕ × ℕ × Bounds) → Unit {0} → HasShort (judgement_data j)
short_judgement (p, q, range) h = (tt, (tt, (tt, (tt, tt))))

short_judgements : (m : Judgements) → HasShort (judgements_data m)
unfolding judgements_data
short_judgements m = short_items (λ j. Unit {0}) judgement_data short_judgement (judged_pairs m) (anything (judged_pairs m))

short_key : (m : ModelState) (k : List ℕ) (group : Option ℕ) (ms : Members) → AllByRecursion (λ g. IsNamed g.name) m.groups → IsShort k → MembersShort ms
    → MembersShort (with_group_key m k group ms)
short_key m k None ms groups is rest = rest
short_key m k (Some g) ms groups is rest = (is, short_group m.groups g groups, rest)

short_group_value : (m : ModelState) (group : GroupState) → AllByRecursion (λ g. IsNamed g.name) m.groups → IsNamed group.name → HasShort (group_data m group)
unfolding group_data
short_group_value m group groups is = (
  short_words (codes "name") refl refl,
  short_name group.name is,
  short_key m (codes "parent") group.parent no_members groups
      (short_words (codes "parent") refl refl) tt,
)

short_criterion_value : (m : ModelState) (c : CriterionState) → AllByRecursion (λ g. IsNamed g.name) m.groups → IsNamedCriterion c
    → HasShort (criterion_data m c)
unfolding criterion_data
short_criterion_value m c groups is =
    let names = recursion_from_All IsNamed c.elements is.elements in (
      short_words (codes "elements") refl refl,
      short_items IsNamed string short_name c.elements names,
      (
        short_words (codes "good") refl refl,
        short_at c.elements (c.good - 1) names,
        short_key m (codes "group") c.group _ groups (short_words (codes "group") refl refl) (
          short_words (codes "judgements") refl refl,
          short_judgements c.matrix,
          (
            short_words (codes "name") refl refl,
            short_name c.name is.named,
            (
              short_words (codes "neutral") refl refl,
              short_at c.elements (c.neutral - 1) names,
              (short_words (codes "reach") refl refl, tt, tt),
            ),
          ),
        ),
      ),
    )

put_at : (o : Ordering) (k l : List ℕ) (d e : Data) (ms : Members) → IsShort k → HasShort d → IsShort l → HasShort e → MembersShort ms
    → MembersShort (put k d ms)
    → MembersShort (match_ordering o (member k d (member l e ms)) (member l d ms) (member l e (put k d ms)))
put_at Less k l d e ms key new other here rest later = (key, new, (other, here, rest))
put_at Equal k l d e ms key new other here rest later = (other, new, rest)
put_at Greater k l d e ms key new other here rest later = (other, here, later)

short_put : (k : List ℕ) (d : Data) (ms : Members) → IsShort k → HasShort d → MembersShort ms → MembersShort (put k d ms)
short_put k d no_members key new are = (key, new, are)
short_put k d (member l e ms) key new are = put_at (slice_cmp nat_cmp k l) k l d e ms key new are.0 are.1 are.2 (short_put k d ms key new are.2)

short_performances : (cs : List CriterionState) (row : List (Option ℕ)) (ms : Members) → AllByRecursion IsNamedCriterion cs → MembersShort ms
    → MembersShort (performance_members cs row ms)
unfolding performance_members
short_performances [] row ms named are = are
short_performances (c ∷ cs) [] ms named are = are
short_performances (c ∷ cs) (None ∷ row) ms named are = short_performances cs row ms named.1 are
short_performances (c ∷ cs) (Some e ∷ row) ms named are =
    let names = recursion_from_All IsNamed c.elements named.0.elements in
    short_performances cs row _ named.1 (short_put c.name (string (element_name c e)) ms (short_name c.name named.0.named)
    (short_at c.elements (e - 1) names) are)

short_option : (m : ModelState) → AllByRecursion IsNamedCriterion m.criteria → (option : List ℕ × List (Option ℕ)) → IsNamed option.0
    → HasShort (option_data m option)
unfolding option_data
short_option m named option is = (
  short_words (codes "name") refl refl,
  short_name option.0 is,
  (short_words (codes "performances") refl refl, short_performances m.criteria option.1 no_members named tt, tt),
)

pub named_options : (names : List (List ℕ)) (rows : List (List (Option ℕ))) → AllByRecursion IsNamed names
    → AllByRecursion (λ o. IsNamed o.0) (options_with_rows names rows)
named_options [] rows h = tt
named_options (name ∷ names) [] h = tt
named_options (name ∷ names) (row ∷ rows) h = (h.0, named_options names rows h.1)

short_weighting : (m : ModelState) → AllByRecursion IsNamedCriterion m.criteria → HasShort (weighting_data m)
unfolding weighting_data
short_weighting m named = (
  short_words (codes "judgements") refl refl,
  short_judgements m.weighting,
  (
    short_words (codes "order") refl refl,
    short_items (λ c. Unit {0}) (λ c. string (criterion_name m c)) (λ c h. short_criterion m.criteria c named) m.order (anything m.order),
    tt,
  ),
)

short_model : (m : ModelState) → IsNamedModel m → HasShort (model_data m)
unfolding model_data
short_model m is =
    let criteria = recursion_from_All IsNamedCriterion m.criteria is.criteria in
    let groups = recursion_from_All (λ g. IsNamed g.name) m.groups is.groups in
    let options = named_options m.options m.performances (recursion_from_All IsNamed m.options is.options) in (
      short_words (codes "criteria") refl refl,
      short_items IsNamedCriterion (criterion_data m) (λ c h. short_criterion_value m c groups h) m.criteria criteria,
      (
        short_words (codes "groups") refl refl,
        short_items (λ g. IsNamed g.name) (group_data m) (λ g h. short_group_value m g groups h) m.groups groups,
        (
          short_words (codes "macbeth") refl refl,
          tt,
          (
            short_words (codes "options") refl refl,
            short_items (λ o. IsNamed o.0) (option_data m) (short_option m criteria)
                (options_with_rows m.options m.performances) options,
            (short_words (codes "weighting") refl refl, short_weighting m criteria, tt),
          ),
        ),
      ),
    )

pub lines_of_dump : (m : ModelState) → IsNamedModel m → All (λ line. length line ≤ 300) (slice_split (λ byte. byte == 10) (dump_text m))
unfolding dump_text
lines_of_dump m is =
    All-from_recursion (λ line. length line ≤ 300) (slice_split (λ byte. byte == 10) (dump_text m))
    (each_fits 300 (dump_text m) (layout_fits (model_data m) (short_model m is) (flat_model m)))
