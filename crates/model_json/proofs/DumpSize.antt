-- The text of a model is short.
use Rattle.std.proofs.Common.{◌≡◌, ℕ, zero, suc, ◌+◌, ◌-◌, ◌*◌, ◌/◌, ◌%◌, ◌<◌, ◌≤◌, ◌==◌, List, [], ◌∷◌, ◌++◌, map, length, get_or, Bool, true, false, Option, None, Some, Ordering, Less, Equal, Greater, refl, ap, arith, codes}
use Rattle.std.specs.Prelude.{if◌then◌else◌}
use Rattle.std.specs.List.{AllByRecursion, flat_map}
use Rattle.std.specs.Cmp.Lexicographic.{slice_cmp}
use Rattle.std.specs.Ordering.{nat_cmp, match_ordering}
use Rattle.std.specs.Fmt.{decimal, digits, digits_onto, digit_glyph}
use Rattle.std.proofs.lemmas.List.Elements.{recursion_from_All}
use Rattle.json.specs.Print.{escape}
use Rattle.serde_json.specs.Data.{Data, string, object, Members, member, no_members, put}
use Rattle.serde_json.specs.View.{items_of}
use Rattle.judgement_matrix.specs.Range.{Bounds, IsRange, full}
use Rattle.judgement_matrix.specs.Matrix.{Judgements, IsPair, IsCell, IsMatrix, pairs, pairs_before, place, cell_at}
use Rattle.judgement_matrix.specs.declared.matrix.TheConstants.{LIMIT}
use Rattle.judgement_matrix.proofs.EveryLemmas.{every-pairs}
use Rattle.judgement_matrix.proofs.PlaceLemmas.{length-pairs}
use Rattle.model_core.specs.State.{CriterionState, GroupState, ModelState}
use Rattle.model_json.specs.Writing.{whole_number, array_of, judged_at, judgement_data, judgements_data, group_name, with_group_key, group_data, element_name, criterion_data, performance_members, option_data, weighting_data, options_with_rows, criterion_name, model_data, dump_text}
use Rattle.model_json.specs.declared.writing.TheConstants.{DUMP_TEXT}
use Rattle.model_json.specs.Kept.{IsNamed, IsNamedCriterion, IsNamedModel}
use Rattle.model_json.proofs.LineLemmas.{number_length}
use Rattle.model_json.proofs.LayoutLines.{IsShort}
use Rattle.model_json.proofs.DumpLines.{short_name, short_at, short_group, short_criterion, short_words, anything, named_options}
use Rattle.model_json.proofs.DumpText.{flat_model}
use Rattle.model_json.proofs.SizeLemmas.{cost, items_cost, members_cost, layout_size}

-- ---- what costs at most so much

record IsWithin (most : ℕ) (d : Data) : Type 0 where
  within : cost d ≤ most

record AreWithin (most : ℕ) (ms : Members) : Type 0 where
  within : members_cost ms ≤ most

up : {n : ℕ} {d : Data} (k : ℕ) → IsWithin n d → n ≤ k → IsWithin k d
up k is low = record { within = omega (arith, is.within, low) }

nothing : AreWithin 0 no_members
nothing = record { within = omega arith }

more : {n r : ℕ} {k : List ℕ} {d : Data} {ms : Members} → IsShort k → IsWithin n d → AreWithin r ms → AreWithin (149 + n + r) (member k d ms)
more key is are = record { within = omega (arith, key.few, is.within, are.within) }

object_within : {r : ℕ} {ms : Members} → AreWithin r ms → IsWithin (38 + r) (object ms)
object_within are = record { within = omega (arith, are.within) }

items_within : {X : Type 0} (P : X → Type 0) (f : X → Data) (k : ℕ) → ((x : X) → P x → IsWithin k (f x)) → (xs : List X) → AllByRecursion P xs
    → items_cost (items_of (map f xs)) ≤ k * length xs
items_within P f k one [] h = omega arith
items_within P f k one (x ∷ xs) h = omega (arith, (one x h.0).within, items_within P f k one xs h.1)

array_within : {X : Type 0} (P : X → Type 0) (f : X → Data) (k : ℕ) → ((x : X) → P x → IsWithin k (f x)) → (xs : List X) → AllByRecursion P xs
    → IsWithin (38 + k * length xs) (array_of (map f xs))
array_within P f k one xs h = record { within = omega (arith, items_within P f k one xs h) }

string_within : (s : List ℕ) → IsShort s → IsWithin 148 (string s)
string_within s is = record { within = omega (arith, is.few) }

number_within : (n : ℕ) → IsWithin 82 (whole_number n)
number_within n = record { within = omega (arith, number_length n) }

-- ---- numbers of at most two digits

either : (b : Bool) (most : ℕ) (x y : List ℕ) → length x ≤ most → length y ≤ most → length (if b then x else y) ≤ most
either true most x y h k = h
either false most x y h k = k

one_digit : (j n : ℕ) (acc : List ℕ) → n < 10 → length (digits_onto (suc j) 10 false n acc) ≤ suc (length acc)
one_digit j n acc low = let none : n / 10 ≡ 0 = omega (arith, low) in rw none (omega arith)

two_onto : (j n : ℕ) (acc : List ℕ) → n < 100 → length (digits_onto (suc (suc j)) 10 false n acc) ≤ 2 + length acc
two_onto j n acc low =
    let digit = digit_glyph false (n % 10) in
    let ten : n / 10 < 10 = omega (arith, low) in
    either (n / 10 == 0) (2 + length acc) (digit ∷ acc) (digits_onto (suc j) 10 false (n / 10) (digit ∷ acc)) (omega arith)
    (omega (arith, one_digit j (n / 10) (digit ∷ acc) ten))

two_digits : (n : ℕ) → n < 100 → length (decimal n) ≤ 2
unfolding digits
two_digits n low = two_onto 62 n [] low

-- ---- judgements

record IsSmall (j : ℕ × ℕ × Bounds) : Type 0 where
  upper : j.0 < 100
  lower : j.1 < 100
  least : j.2.lo < 100
  most : j.2.hi < 100

judgement_cost : (j : ℕ × ℕ × Bounds) → IsSmall j → cost (judgement_data j) ≤ 118
judgement_cost (p, q, range) is =
    omega (arith, two_digits p is.upper, two_digits q is.lower, two_digits range.lo is.least, two_digits range.hi is.most)

one_judged : (judged : Bool) (j : ℕ × ℕ × Bounds) (js : List (ℕ × ℕ × Bounds)) (n : ℕ) → IsSmall j → items_cost (items_of (map judgement_data js)) ≤ n
    → items_cost (items_of (map judgement_data ((if judged then j ∷ [] else []) ++ js))) ≤ 118 + n
one_judged true j js n small rest = omega (arith, judgement_cost j small, rest)
one_judged false j js n small rest = omega (arith, rest)

cell_within : (cells : List (Bounds × Bool)) (i : ℕ) → AllByRecursion IsCell cells → IsRange (get_or cells i (full, false)).0
cell_within [] i h = (omega arith, omega arith)
cell_within (cell ∷ cells) zero h = h.0.0
cell_within (cell ∷ cells) (suc i) h = cell_within cells i h.1

judged_cost : (m : Judgements) (ps : List (ℕ × ℕ)) → m.size ≤ LIMIT → AllByRecursion IsCell m.cells → AllByRecursion (λ pair. IsPair m.size pair.0 pair.1) ps
    → items_cost (items_of (map judgement_data (flat_map (judged_at m) ps))) ≤ 118 * length ps
judged_cost m [] most cells h = omega arith
judged_cost m (pair ∷ ps) most cells h =
    let range : IsRange (cell_at m pair.0 pair.1).0 = cell_within m.cells (place m.size pair.0 pair.1) cells in
    let small : IsSmall (pair.0, pair.1, (cell_at m pair.0 pair.1).0) = record {
      upper = omega (arith, most, h.0.1, h.0.2);
      lower = omega (arith, most, h.0.2);
      least = omega (arith, range.0, range.1);
      most = omega (arith, range.1);
    } in
    omega (
      arith,
      one_judged (cell_at m pair.0 pair.1).1 (pair.0, pair.1, (cell_at m pair.0 pair.1).0) (flat_map (judged_at m) ps) (118 * length ps) small
          (judged_cost m ps most cells h.1),
    )

-- how many pairs there are

more_elements : (n most k : ℕ) → n ≤ most → pairs_before n k ≤ pairs_before most k
more_elements n most zero h = omega arith
more_elements n most (suc k) h = omega (arith, h, more_elements n most k h)

more_rows : (n k rows : ℕ) → pairs_before n k ≤ pairs_before n (rows + k)
more_rows n k zero =
    let sum : zero + k ≡ k = omega arith in
    let same : pairs_before n (zero + k) ≡ pairs_before n k = ap (pairs_before n) sum in
    omega (arith, same)
more_rows n k (suc rows) =
    let sum : suc rows + k ≡ suc (rows + k) = omega arith in
    let same : pairs_before n (suc rows + k) ≡ pairs_before n (suc (rows + k)) = ap (pairs_before n) sum in
    omega (arith, same, more_rows n k rows)

few_pairs : (n most : ℕ) → n ≤ most → length (pairs n) ≤ pairs_before most (most - 1)
few_pairs n most h =
    let left = most - 1 - (n - 1) in
    let sum : left + (n - 1) ≡ most - 1 = omega (arith, h) in
    let same : pairs_before most (left + (n - 1)) ≡ pairs_before most (most - 1) = ap (pairs_before most) sum in
    omega (arith, length-pairs n, more_elements n most (n - 1) h, more_rows most (n - 1) left, same)

judgements_within : (m : Judgements) (k : ℕ) → IsMatrix m → length (pairs m.size) ≤ k → IsWithin (38 + 118 * k) (judgements_data m)
unfolding judgements_data
judgements_within m k is few =
    let all = judged_cost m (pairs m.size) is.most (recursion_from_All IsCell m.cells is.cells_are) (every-pairs m.size (IsPair m.size) (λ p q h. h)) in
    record { within = omega (arith, few, all) }

-- ---- groups and criteria

-- as many pairs as a matrix may have
abbrev most_pairs : ℕ
most_pairs = LIMIT * (LIMIT - 1) / 2

-- a criterion with as many elements as it may have
abbrev criterion_cost : ℕ
criterion_cost = 1804 + (38 + 148 * LIMIT) + (38 + 118 * most_pairs)

key_within : (m : ModelState) (k : List ℕ) (group : Option ℕ) (ms : Members) (r : ℕ) → AllByRecursion (λ g. IsNamed g.name) m.groups → IsShort k → AreWithin r ms
    → AreWithin (297 + r) (with_group_key m k group ms)
key_within m k None ms r groups key are = record { within = omega (arith, are.within) }
key_within m k (Some g) ms r groups key are =
    let name : length (escape (group_name m g)) ≤ 128 = (short_group m.groups g groups).few in
    record { within = omega (arith, key.few, name, are.within) }

group_within : (m : ModelState) (group : GroupState) → AllByRecursion (λ g. IsNamed g.name) m.groups → IsNamed group.name → IsWithin 640 (group_data m group)
unfolding group_data
group_within m group groups is =
    let all = object_within (more (short_words (codes "name") refl refl) (string_within group.name (short_name group.name is))
    (key_within m (codes "parent") group.parent no_members 0 groups (short_words (codes "parent") refl refl) nothing)) in
    up 640 all (omega arith)

criterion_within : (m : ModelState) (c : CriterionState) → AllByRecursion (λ g. IsNamed g.name) m.groups → IsNamedCriterion c
    → IsWithin criterion_cost (criterion_data m c)
unfolding criterion_data
criterion_within m c groups is =
    let names = recursion_from_All IsNamed c.elements is.elements in
    let few : length c.elements ≤ LIMIT = is.keeps.most in
    let elements : IsWithin (38 + 148 * LIMIT) (array_of (map string c.elements)) =
    up (38 + 148 * LIMIT) (array_within IsNamed string 148 (λ s h. string_within s (short_name s h)) c.elements names) (omega (arith, few)) in
    let judgements = judgements_within c.matrix most_pairs is.matrix (few_pairs c.matrix.size LIMIT is.matrix.most) in
    let members = more (short_words (codes "judgements") refl refl) judgements
    (more (short_words (codes "name") refl refl) (string_within c.name (short_name c.name is.named))
    (more (short_words (codes "neutral") refl refl) (string_within (element_name c c.neutral) (short_at c.elements (c.neutral - 1) names))
    (more (short_words (codes "reach") refl refl) (number_within c.reach) nothing))) in
    let all = object_within (more (short_words (codes "elements") refl refl) elements
    (more (short_words (codes "good") refl refl) (string_within (element_name c c.good) (short_at c.elements (c.good - 1) names))
    (key_within m (codes "group") c.group _ _ groups (short_words (codes "group") refl refl) members))) in
    up criterion_cost all (omega arith)

-- ---- options

put_at : (o : Ordering) (k l : List ℕ) (d e : Data) (ms : Members) → IsShort k → members_cost (put k d ms) ≤ 149 + cost d + members_cost ms
    → members_cost (match_ordering o (member k d (member l e ms)) (member l d ms) (member l e (put k d ms))) ≤ 149 + cost d + members_cost (member l e ms)
put_at Less k l d e ms key later = omega (arith, key.few)
put_at Equal k l d e ms key later = omega arith
put_at Greater k l d e ms key later = omega (arith, later)

put_cost : (k : List ℕ) (d : Data) (ms : Members) → IsShort k → members_cost (put k d ms) ≤ 149 + cost d + members_cost ms
put_cost k d no_members key = omega (arith, key.few)
put_cost k d (member l e ms) key = put_at (slice_cmp nat_cmp k l) k l d e ms key (put_cost k d ms key)

put_within : (k : List ℕ) (d : Data) (ms : Members) (r : ℕ) → IsShort k → IsWithin 148 d → AreWithin r ms → AreWithin (297 + r) (put k d ms)
put_within k d ms r key is are = record { within = omega (arith, put_cost k d ms key, is.within, are.within) }

performances_within : (cs : List CriterionState) (row : List (Option ℕ)) (ms : Members) (r : ℕ) → AllByRecursion IsNamedCriterion cs → AreWithin r ms
    → members_cost (performance_members cs row ms) ≤ 297 * length cs + r
unfolding performance_members
performances_within [] row ms r named are = omega (arith, are.within)
performances_within (c ∷ cs) [] ms r named are = omega (arith, are.within)
performances_within (c ∷ cs) (None ∷ row) ms r named are = omega (arith, performances_within cs row ms r named.1 are)
performances_within (c ∷ cs) (Some e ∷ row) ms r named are =
    let names = recursion_from_All IsNamed c.elements named.0.elements in
    let value = string_within (element_name c e) (short_at c.elements (e - 1) names) in
    let here = put_within c.name (string (element_name c e)) ms r (short_name c.name named.0.named) value are in
    omega (arith, performances_within cs row (put c.name (string (element_name c e)) ms) (297 + r) named.1 here)

option_within : (m : ModelState) → length m.criteria ≤ 11 → AllByRecursion IsNamedCriterion m.criteria → (option : List ℕ × List (Option ℕ)) → IsNamed option.0
    → IsWithin 3800 (option_data m option)
unfolding option_data
option_within m few named option is =
    let performances : AreWithin 3267 (performance_members m.criteria option.1 no_members) =
    record { within = omega (arith, few, performances_within m.criteria option.1 no_members 0 named nothing) } in
    let all = object_within (more (short_words (codes "name") refl refl) (string_within option.0 (short_name option.0 is))
    (more (short_words (codes "performances") refl refl) (object_within performances) nothing)) in
    up 3800 all (omega arith)

few_options : (names : List (List ℕ)) (rows : List (List (Option ℕ))) → length (options_with_rows names rows) ≤ length names
few_options [] rows = omega arith
few_options (name ∷ names) [] = omega arith
few_options (name ∷ names) (row ∷ rows) = omega (arith, few_options names rows)

-- ---- the whole

weighting_within : (m : ModelState) → IsNamedModel m → AllByRecursion IsNamedCriterion m.criteria → IsWithin 9900 (weighting_data m)
unfolding weighting_data
weighting_within m is named =
    let few : length m.criteria ≤ 11 = is.keeps.few_criteria in
    let size : m.weighting.size ≤ 12 = omega (arith, few, is.keeps.size) in
    let judgements = judgements_within m.weighting 66 is.weighting (few_pairs m.weighting.size 12 size) in
    let order : IsWithin 1666 (array_of (map (λ c. string (criterion_name m c)) m.order)) =
    up 1666 (array_within (λ c. Unit {0}) (λ c. string (criterion_name m c)) 148 (λ c h. string_within (criterion_name m c) (short_criterion m.criteria c named)) m.order
    (anything m.order)) (omega (arith, few, is.keeps.order_is.each)) in
    let all = object_within (more (short_words (codes "judgements") refl refl) judgements (more (short_words (codes "order") refl refl) order nothing)) in
    up 9900 all (omega arith)

model_within : (m : ModelState) → IsNamedModel m → IsWithin DUMP_TEXT (model_data m)
unfolding model_data
model_within m is =
    let few_criteria : length m.criteria ≤ 11 = is.keeps.few_criteria in
    let few_groups : length m.groups ≤ 32 = is.keeps.few_groups in
    let few : length m.options ≤ 64 = is.keeps.few_options in
    let named = recursion_from_All IsNamedCriterion m.criteria is.criteria in
    let named_groups = recursion_from_All (λ g. IsNamed g.name) m.groups is.groups in
    let each = named_options m.options m.performances (recursion_from_All IsNamed m.options is.options) in
    let criteria : IsWithin (38 + 11 * criterion_cost) (array_of (map (criterion_data m) m.criteria)) =
    up (38 + 11 * criterion_cost) (array_within IsNamedCriterion (criterion_data m) criterion_cost (λ c h. criterion_within m c named_groups h) m.criteria named) (omega (arith, few_criteria)) in
    let groups : IsWithin 20518 (array_of (map (group_data m) m.groups)) =
    up 20518 (array_within (λ g. IsNamed g.name) (group_data m) 640 (λ g h. group_within m g named_groups h) m.groups named_groups) (omega (arith, few_groups)) in
    let options : IsWithin 243238 (array_of (map (option_data m) (options_with_rows m.options m.performances))) =
    up 243238 (array_within (λ o. IsNamed o.0) (option_data m) 3800 (option_within m few_criteria named) (options_with_rows m.options m.performances) each)
    (omega (arith, few, few_options m.options m.performances)) in
    let all = object_within (more (short_words (codes "criteria") refl refl) criteria
    (more (short_words (codes "groups") refl refl) groups
    (more (short_words (codes "macbeth") refl refl) (number_within 2)
    (more (short_words (codes "options") refl refl) options
    (more (short_words (codes "weighting") refl refl) (weighting_within m is named) nothing))))) in
    up DUMP_TEXT all (omega arith)

pub size_of_dump : (m : ModelState) → IsNamedModel m → length (dump_text m) ≤ DUMP_TEXT
unfolding dump_text
size_of_dump m is = omega (arith, layout_size (model_data m) (flat_model m), (model_within m is).within)
