-- Rows of Cross by their positions.
use Rattle.std.specs.Prelude.{Some, slice_get, option_map, sum}
use Rattle.std.specs.List.{flat_map}
use Rattle.std.proofs.Common.{◌≡◌, inl, inr, ℕ, ◌+◌, ◌-◌, ◌<◌, ◌≤◌, List, [], ◌∷◌, ◌++◌, length, get_or, take, drop, map, refl, sym, ap, ap₂, subst, ◌∙◌, arith}
use Rattle.std.proofs.lemmas.List.{get_or-map, length-map, map-append, map_more, take-map, drop_all, length-append, get_or_append_left, get_or-append_right}
use Rattle.std.proofs.lemmas.Bool.{cases_lt}
use Rattle.std.proofs.lemmas.List.Concat.{length-flat_map, get_or-flat_map}
use Rattle.std.proofs.lemmas.List.Sums.{sum-map}
use Rattle.std.proofs.lemmas.Option.{slice_get-get_or, slice_get-map}
use Rattle.judgement_matrix.specs.Matrix.{Judgements, pairs}
use Rattle.judgement_matrix.specs.Rows.{lower_rows, zero_rows, cross_rows, cross_rows_under, cross_rows_of}
use Rattle.judgement_matrix.specs.declared.tag.Tag.{Tag}
use Rattle.judgement_matrix.specs.declared.tag.Tag.TheVariants.{Cross}
use Rattle.lp_macbeth.specs.Rows.{judged_rows}
use Rattle.lp_macbeth.specs.RowTags.{cross_counts, pairs_below}

-- ---- rows of Cross

-- those of all pairs
pub sum-cross_counts : (m : Judgements) → sum (cross_counts m) ≡ length (cross_rows m)
sum-cross_counts m =
    let ps = pairs m.size in
    sum-map (λ (left : ℕ × ℕ). length (cross_rows_under m left ps)) ps ∙ sym (length-flat_map (λ (left : ℕ × ℕ). cross_rows_under m left ps) ps)

-- those of the pairs before one
sum-before : (m : Judgements) (ps : List (ℕ × ℕ)) (place : ℕ)
    → sum (take place (map (λ (left : ℕ × ℕ). length (cross_rows_under m left ps)) ps))
    ≡ length (flat_map (λ (left : ℕ × ℕ). cross_rows_under m left ps) (take place ps))
sum-before m ps place =
    ap sum (take-map (λ (left : ℕ × ℕ). length (cross_rows_under m left ps)) place ps)
    ∙ sum-map (λ (left : ℕ × ℕ). length (cross_rows_under m left ps)) (take place ps)
    ∙ sym (length-flat_map (λ (left : ℕ × ℕ). cross_rows_under m left ps) (take place ps))

-- a pair has as many as there are pairs below it
length-cross_rows_under : (m : Judgements) (left : ℕ × ℕ) (rights : List (ℕ × ℕ)) → rights ≡ pairs_below m left
    → length rights ≡ length (cross_rows_under m left (pairs m.size))
length-cross_rows_under m left rights is = ap length is ∙ sym (length-map (pairs_below m left) (λ (right : ℕ × ℕ). Cross left.0 left.1 right.0 right.1))

-- a count for each pair
pub length-cross_counts : (m : Judgements) (counts : List ℕ) → counts ≡ cross_counts m → length counts ≡ length (pairs m.size)
length-cross_counts m counts is =
    ap length is ∙ length-map (pairs m.size) (λ (left : ℕ × ℕ). length (cross_rows_under m left (pairs m.size)))

-- the count of a pair
pub count_at : (m : Judgements) (counts : List ℕ) (place : ℕ) (left : ℕ × ℕ) (rights : List (ℕ × ℕ)) → counts ≡ cross_counts m
    → place < length (pairs m.size) → left ≡ get_or (pairs m.size) place (0, 0) → rights ≡ pairs_below m left → get_or counts place 0 ≡ length rights
count_at m counts place left rights is inside first below =
    ap (λ l. get_or l place 0) is
    ∙ get_or-map (λ (left : ℕ × ℕ). length (cross_rows_under m left (pairs m.size))) (pairs m.size) place (0, 0) 0 inside
    ∙ ap (λ left. length (cross_rows_under m left (pairs m.size))) (sym first)
    ∙ sym (length-cross_rows_under m left rights below)

-- the row at a position stands in the part of a pair
cross_in_part : (m : Judgements) (ps : List (ℕ × ℕ)) (place left_over position : ℕ) → place < length ps
    → left_over < length (cross_rows_under m (get_or ps place (0, 0)) ps)
    → sum (take place (map (λ (left : ℕ × ℕ). length (cross_rows_under m left ps)) ps)) + left_over ≡ position
    → position < length (cross_rows_of m ps ps)
    → slice_get (cross_rows_of m ps ps) position ≡ slice_get (cross_rows_under m (get_or ps place (0, 0)) ps) left_over
cross_in_part m ps place left_over position inside within before row =
    let d : Tag = Cross 0 0 0 0 in
    let f = λ (left : ℕ × ℕ). cross_rows_under m left ps in
    let at : length (flat_map f (take place ps)) + left_over ≡ position = ap (λ k. k + left_over) (sym (sum-before m ps place)) ∙ before in
    slice_get-get_or (cross_rows_of m ps ps) position d row
    ∙ ap Some (ap (λ k. get_or (cross_rows_of m ps ps) k d) (sym at) ∙ get_or-flat_map f ps place left_over (0, 0) d inside within)
    ∙ sym (slice_get-get_or (f (get_or ps place (0, 0))) left_over d within)

-- a row among those of a pair
cross_under_at : (m : Judgements) (left right : ℕ × ℕ) (rights : List (ℕ × ℕ)) (k : ℕ) → rights ≡ pairs_below m left → k < length rights
    → right ≡ get_or rights k (0, 0) → slice_get (cross_rows_under m left (pairs m.size)) k ≡ Some (Cross left.0 left.1 right.0 right.1)
cross_under_at m left right rights k is within second =
    let tag : ℕ × ℕ → Tag = λ r. Cross left.0 left.1 r.0 r.1 in
    ap (λ l. slice_get (map tag l) k) (sym is)
    ∙ slice_get-map tag rights k
    ∙ ap (option_map tag) (slice_get-get_or rights k (0, 0) within ∙ ap Some (sym second))

-- the tag of a row: the pair in whose part it stands, and the one of those below it that stands there
pub cross_at : (m : Judgements) (place left_over position : ℕ) (left right : ℕ × ℕ) (counts : List ℕ) (rights : List (ℕ × ℕ))
    → counts ≡ cross_counts m → rights ≡ pairs_below m left → position < length (cross_rows m) → place < length (pairs m.size)
    → left_over < length rights → left ≡ get_or (pairs m.size) place (0, 0) → right ≡ get_or rights left_over (0, 0)
    → sum (take place counts) + left_over ≡ position → slice_get (cross_rows m) position ≡ Some (Cross left.0 left.1 right.0 right.1)
cross_at m place left_over position left right counts rights is below row inside within first second before =
    let ps = pairs m.size in
    let within_part : left_over < length (cross_rows_under m left ps) = omega (arith, length-cross_rows_under m left rights below) in
    cross_in_part m ps place left_over position inside (subst (λ (l : ℕ × ℕ). left_over < length (cross_rows_under m l ps)) first within_part)
    (subst (λ l. sum (take place l) + left_over ≡ position) is before) row
    ∙ ap (λ l. slice_get (cross_rows_under m l ps) left_over) (sym first)
    ∙ cross_under_at m left right rights left_over below within second

-- ---- the loops' steps

pub count_next : (m : Judgements) (ps : List (ℕ × ℕ)) (i : ℕ) (done now : List ℕ) (rights : List (ℕ × ℕ)) → ps ≡ pairs m.size → i < length ps
    → rights ≡ pairs_below m (get_or ps i (0, 0))
    → done ≡ map (λ (left : ℕ × ℕ). length (cross_rows_under m left ps)) (take i ps) → now ≡ done ++ length rights ∷ []
    → now ≡ map (λ (left : ℕ × ℕ). length (cross_rows_under m left ps)) (take (i + 1) ps)
count_next m ps i done now rights all inside below invariant pushed =
    pushed ∙ ap (λ l. l ++ length rights ∷ []) invariant
    ∙ ap (λ k. map (λ (left : ℕ × ℕ). length (cross_rows_under m left ps)) (take i ps) ++ k ∷ [])
    (length-cross_rows_under m (get_or ps i (0, 0)) rights below ∙ ap (λ l. length (cross_rows_under m (get_or ps i (0, 0)) l)) (sym all))
    ∙ sym (map_more (λ (left : ℕ × ℕ). length (cross_rows_under m left ps)) ps i (0, 0) inside)

-- ---- tags by their positions

-- one more
pub tags_next : (rows : List Tag) (positions : List ℕ) (i : ℕ) (tag : Tag) (done now : List Tag) → i < length positions
    → slice_get rows (get_or positions i 0) ≡ Some tag → map Some done ≡ map (slice_get rows) (take i positions) → now ≡ done ++ tag ∷ []
    → map Some now ≡ map (slice_get rows) (take (i + 1) positions)
tags_next rows positions i tag done now below is so_far made =
    ap (map Some) made ∙ map-append Some done (tag ∷ []) ∙ ap₂ (λ a b. a ++ b ∷ []) so_far (sym is) ∙ sym (map_more (slice_get rows) positions i 0 below)

-- ---- a row by the lists that it stands in

-- among the tags of Lower and Zero
pub single_at : (m : Judgements) (single : List Tag) (i : ℕ) (d : Tag) → single ≡ lower_rows m ++ zero_rows m → i < length single
    → slice_get (judged_rows m) i ≡ Some (get_or single i d)
single_at m single i d is within =
    let all : judged_rows m ≡ single ++ cross_rows m = ap (λ l. l ++ cross_rows m) (sym is) in
    ap (λ l. slice_get l i) all
    ∙ slice_get-get_or (single ++ cross_rows m) i d (omega (arith, length-append single (cross_rows m)))
    ∙ ap Some (get_or_append_left single (cross_rows m) d i within)

-- behind them
pub cross_within : (m : Judgements) (single : List Tag) (i : ℕ) → single ≡ lower_rows m ++ zero_rows m → length single ≤ i → i < length (judged_rows m)
    → i - length single < length (cross_rows m)
cross_within m single i is past row =
    let all : judged_rows m ≡ single ++ cross_rows m = ap (λ l. l ++ cross_rows m) (sym is) in
    omega (arith, ap length all, length-append single (cross_rows m))

pub cross_after : (m : Judgements) (single : List Tag) (i : ℕ) → single ≡ lower_rows m ++ zero_rows m → length single ≤ i → i < length (judged_rows m)
    → slice_get (judged_rows m) i ≡ slice_get (cross_rows m) (i - length single)
cross_after m single i is past row =
    let d : Tag = Cross 0 0 0 0 in
    let all : judged_rows m ≡ single ++ cross_rows m = ap (λ l. l ++ cross_rows m) (sym is) in
    slice_get-get_or (judged_rows m) i d row
    ∙ ap Some (ap (λ l. get_or l i d) all ∙ get_or-append_right single (cross_rows m) (length single) i d refl past)
    ∙ sym (slice_get-get_or (cross_rows m) (i - length single) d (cross_within m single i is past row))

-- ---- parts of a length each

-- a position in what is left is in one of its parts
pub part_inside : (xs : List ℕ) (i k : ℕ) → k < sum (drop i xs) → i < length xs
part_inside xs i k below = elim (cases_lt i (length xs)) [
  | inl inside ↦ inside
  | inr past ↦ absurd (let none : k < 0 = subst (λ l. k < sum l) (drop_all i xs past) below in omega arith)
]
