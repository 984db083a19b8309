-- The value of a model has no float and nests little, so it has one text, which reads back.
use Rattle.std.proofs.Common.{◌≡◌, ℕ, suc, ◌≤◌, ◌||◌, List, [], ◌∷◌, map, Bool, true, false, Option, Some, None, Ordering, Less, Equal, Greater, refl, ap, ◌∙◌, arith, codes}
use Rattle.std.specs.Prelude.{IsUtf8}
use Rattle.std.specs.Cmp.Lexicographic.{slice_cmp}
use Rattle.std.specs.Ordering.{nat_cmp, match_ordering}
use Rattle.std.proofs.lemmas.Str.{is_utf8-from_IsUtf8}
use Rattle.json.specs.Lex.{tokens}
use Rattle.json.specs.Layout.{pretty}
use Rattle.serde_json.specs.Data.{Data, string, object, Members, member, no_members, put, depth, members_depth}
use Rattle.serde_json.specs.Read.{read, max_depth}
use Rattle.serde_json.specs.View.{items_of}
use Rattle.serde_json.specs.Written.{IsInOrder, has_float, items_have_float, members_have_float}
use Rattle.serde_json.proofs.Texts.{tokens_from_order}
use Rattle.judgement_matrix.specs.Range.{Bounds}
use Rattle.judgement_matrix.specs.Matrix.{Judgements}
use Rattle.model_core.specs.State.{CriterionState, GroupState, ModelState}
use Rattle.model_json.specs.Text.{json_of}
use Rattle.model_json.specs.Writing.{whole_number, array_of, judged_pairs, judgement_data, judgements_data, group_name, with_group_key, group_data, element_name, criterion_data, with_performance_key, performance_members, option_data, weighting_data, options_with_rows, criterion_name, model_data, dump_text}

pub json_some : (bytes : List ℕ) (d : Data) → IsUtf8 bytes → read bytes ≡ Some d → json_of bytes ≡ Some d
unfolding json_of
json_some bytes d text e = rw (is_utf8-from_IsUtf8 bytes text) e

-- ---- values with no float, that nest so little

record IsPlain (limit : ℕ) (d : Data) : Type 0 where
  no_float : has_float d ≡ false
  shallow : depth d ≤ limit

record AreMembersPlain (limit : ℕ) (ms : Members) : Type 0 where
  no_float : members_have_float ms ≡ false
  shallow : members_depth ms ≤ limit

neither : (a b : Bool) → a ≡ false → b ≡ false → (a || b) ≡ false
neither a b e f = rw (e, f) refl

deeper : (n k : ℕ) (d : Data) → n ≤ k → IsPlain n d → IsPlain k d
deeper n k d more is = record { no_float = is.no_float; shallow = omega (arith, more, is.shallow) }

plain_string : (n : ℕ) (s : List ℕ) → IsPlain n (string s)
plain_string n s = record { no_float = refl; shallow = omega arith }

plain_number : (n k : ℕ) → IsPlain n (whole_number k)
plain_number n k = record { no_float = refl; shallow = omega arith }

nothing : (n : ℕ) → AreMembersPlain n no_members
nothing n = record { no_float = refl; shallow = omega arith }

more : (n : ℕ) (k : List ℕ) (d : Data) (ms : Members) → IsPlain n d → AreMembersPlain n ms → AreMembersPlain n (member k d ms)
more n k d ms is are = record {
  no_float = neither (has_float d) (members_have_float ms) is.no_float are.no_float;
  shallow = omega (arith, is.shallow, are.shallow);
}

plain_object : (n : ℕ) (ms : Members) → AreMembersPlain n ms → IsPlain (suc n) (object ms)
plain_object n ms are = record { no_float = are.no_float; shallow = omega (arith, are.shallow) }

plain_array : {X : Type 0} (f : X → Data) (n : ℕ) → ((x : X) → IsPlain n (f x)) → (xs : List X) → IsPlain (suc n) (array_of (map f xs))
plain_array f n one [] = record { no_float = refl; shallow = omega arith }
plain_array f n one (x ∷ xs) =
    let first = one x in
    let rest = plain_array f n one xs in
    record {
      no_float = neither (has_float (f x)) (items_have_float (items_of (map f xs))) first.no_float rest.no_float;
      shallow = omega (arith, first.shallow, rest.shallow);
    }

put_at : (o : Ordering) (n : ℕ) (k l : List ℕ) (d e : Data) (ms : Members) → IsPlain n d → IsPlain n e → AreMembersPlain n ms → AreMembersPlain n (put k d ms)
    → AreMembersPlain n (match_ordering o (member k d (member l e ms)) (member l d ms) (member l e (put k d ms)))
put_at Less n k l d e ms new here rest later = more n k d (member l e ms) new (more n l e ms here rest)
put_at Equal n k l d e ms new here rest later = more n l d ms new rest
put_at Greater n k l d e ms new here rest later = more n l e (put k d ms) here later

or_parts : (a b : Bool) → (a || b) ≡ false → (a ≡ false) × (b ≡ false)
or_parts true b e = cc
or_parts false b e = (refl, e)

first_of : (n : ℕ) (l : List ℕ) (e : Data) (ms : Members) → AreMembersPlain n (member l e ms) → IsPlain n e
first_of n l e ms are = record { no_float = (or_parts (has_float e) (members_have_float ms) are.no_float).0; shallow = omega (arith, are.shallow) }

rest_of : (n : ℕ) (l : List ℕ) (e : Data) (ms : Members) → AreMembersPlain n (member l e ms) → AreMembersPlain n ms
rest_of n l e ms are = record { no_float = (or_parts (has_float e) (members_have_float ms) are.no_float).1; shallow = omega (arith, are.shallow) }

plain_put : (n : ℕ) (k : List ℕ) (d : Data) (ms : Members) → IsPlain n d → AreMembersPlain n ms → AreMembersPlain n (put k d ms)
plain_put n k d no_members new are = more n k d no_members new are
plain_put n k d (member l e ms) new are =
    let here = first_of n l e ms are in
    let rest = rest_of n l e ms are in
    put_at (slice_cmp nat_cmp k l) n k l d e ms new here rest (plain_put n k d ms new rest)

-- ---- those of a model

plain_judgement : (j : ℕ × ℕ × Bounds) → IsPlain 1 (judgement_data j)
plain_judgement (p, q, range) = record { no_float = refl; shallow = omega arith }

plain_judgements : (m : Judgements) → IsPlain 2 (judgements_data m)
unfolding judgements_data
plain_judgements m = plain_array judgement_data 1 plain_judgement (judged_pairs m)

plain_key : (m : ModelState) (k : List ℕ) (n : ℕ) (group : Option ℕ) (ms : Members) → AreMembersPlain n ms → AreMembersPlain n (with_group_key m k group ms)
plain_key m k n None ms are = are
plain_key m k n (Some g) ms are = more n k (string (group_name m g)) ms (plain_string n (group_name m g)) are

plain_group : (m : ModelState) (group : GroupState) → IsPlain 1 (group_data m group)
unfolding group_data
plain_group m group = plain_object 0 _ (more 0 (codes "name") _ _ (plain_string 0 group.name)
    (plain_key m (codes "parent") 0 group.parent no_members (nothing 0)))

plain_criterion : (m : ModelState) (c : CriterionState) → IsPlain 3 (criterion_data m c)
unfolding criterion_data
plain_criterion m c =
    let elements = deeper 1 2 (array_of (map string c.elements)) (omega arith) (plain_array string 0 (plain_string 0) c.elements) in
    plain_object 2 _ (more 2 (codes "elements") _ _ elements
    (more 2 (codes "good") _ _ (plain_string 2 (element_name c c.good))
    (plain_key m (codes "group") 2 c.group _
    (more 2 (codes "judgements") _ _ (plain_judgements c.matrix)
    (more 2 (codes "name") _ _ (plain_string 2 c.name)
    (more 2 (codes "neutral") _ _ (plain_string 2 (element_name c c.neutral))
    (more 2 (codes "reach") _ _ (plain_number 2 c.reach) (nothing 2))))))))

plain_performance : (c : CriterionState) (performance : Option ℕ) (ms : Members) → AreMembersPlain 0 ms
    → AreMembersPlain 0 (with_performance_key c performance ms)
plain_performance c None ms are = are
plain_performance c (Some e) ms are = plain_put 0 c.name (string (element_name c e)) ms (plain_string 0 (element_name c e)) are

plain_performances : (cs : List CriterionState) (row : List (Option ℕ)) (ms : Members) → AreMembersPlain 0 ms
    → AreMembersPlain 0 (performance_members cs row ms)
unfolding performance_members
plain_performances [] row ms are = are
plain_performances (c ∷ cs) [] ms are = are
plain_performances (c ∷ cs) (performance ∷ row) ms are = plain_performances cs row (with_performance_key c performance ms)
    (plain_performance c performance ms are)

plain_option : (m : ModelState) (option : List ℕ × List (Option ℕ)) → IsPlain 2 (option_data m option)
unfolding option_data
plain_option m option = plain_object 1 _ (more 1 (codes "name") _ _ (plain_string 1 option.0)
    (more 1 (codes "performances") _ _ (plain_object 0 _ (plain_performances m.criteria option.1 no_members (nothing 0))) (nothing 1)))

plain_weighting : (m : ModelState) → IsPlain 3 (weighting_data m)
unfolding weighting_data
plain_weighting m =
    let order = deeper 1 2 _ (omega arith) (plain_array (λ c. string (criterion_name m c)) 0 (λ c. plain_string 0 (criterion_name m c)) m.order) in
    plain_object 2 _ (more 2 (codes "judgements") _ _ (plain_judgements m.weighting) (more 2 (codes "order") _ _ order (nothing 2)))

plain_model : (m : ModelState) → IsPlain 5 (model_data m)
unfolding model_data
plain_model m =
    let criteria = plain_array (criterion_data m) 3 (plain_criterion m) m.criteria in
    let groups = deeper 2 4 _ (omega arith) (plain_array (group_data m) 1 (plain_group m) m.groups) in
    let options = deeper 3 4 _ (omega arith) (plain_array (option_data m) 2 (plain_option m) (options_with_rows m.options m.performances)) in
    let weighting = deeper 3 4 (weighting_data m) (omega arith) (plain_weighting m) in
    plain_object 4 _ (more 4 (codes "criteria") _ _ criteria
    (more 4 (codes "groups") _ _ groups
    (more 4 (codes "macbeth") _ _ (plain_number 4 2)
    (more 4 (codes "options") _ _ options
    (more 4 (codes "weighting") _ _ weighting (nothing 4))))))

-- ---- the text

pub flat_model : (m : ModelState) → depth (model_data m) ≤ 8
flat_model m = let is = plain_model m in omega (arith, is.shallow)

pub shallow_model : (m : ModelState) → depth (model_data m) ≤ max_depth
shallow_model m = let is = plain_model m in omega (arith, is.shallow)

-- a text in this layout, with the items of the model in order
pub text_from_order : (text : List ℕ) (m : ModelState) → text ≡ pretty (tokens text) → IsInOrder text (model_data m) → text ≡ dump_text m
unfolding dump_text
text_from_order text m layout order = layout ∙ ap pretty (tokens_from_order text (model_data m) order (plain_model m).no_float)
