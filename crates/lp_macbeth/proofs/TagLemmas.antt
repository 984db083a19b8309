-- The tags of a matrix: lists of them joined, and that each is one of the matrix's elements.
use Rattle.std.specs.Prelude.{nat_le, ◌==◌}
use Rattle.std.specs.List.{AllByRecursion, filter, range_with_len}
use Rattle.std.proofs.Common.{◌≡◌, ℕ, suc, ◌+◌, ◌-◌, ◌<◌, Bool, true, ◌∷◌, ◌++◌, List, length, get_or, drop, map, All, ap, ◌∙◌, arith, zero-add}
use Rattle.std.proofs.Math.Seq.{drop-cons}
use Rattle.std.proofs.lemmas.List.{map-append, get_or-map}
use Rattle.std.proofs.lemmas.List.Elements.{filter-append, All-append}
use Rattle.integers.specs.Counting.{numbers_from}
use Rattle.integers.proofs.Numbers.{length-numbers_from, get_or-numbers_from}
use Rattle.integers.proofs.Loops.{join_next}
use Rattle.judgement_matrix.specs.Matrix.{Judgements, IsPair, pairs, range_at}
use Rattle.judgement_matrix.specs.Rows.{order_rows, rows, IsTagAmong}
use Rattle.judgement_matrix.specs.Walk.{lower_rows_of, zero_rows_of, cross_rows_under, cross_rows_of}
use Rattle.judgement_matrix.proofs.EveryLemmas.{every-append, every-append_left, every-append_right, every-map, every-filter, every-flat_map, every-pairs, every-range, every_weaker}
use Rattle.judgement_matrix.specs.declared.tag.Tag.{Tag}
use Rattle.judgement_matrix.specs.declared.tag.Tag.TheVariants.{Lower, Zero, Cross, Order}
use Rattle.lp_macbeth.specs.Closed.{closed_tags}
use Rattle.lp_macbeth.specs.Pairs.{under}
use Rattle.lp_macbeth.specs.Rows.{judged_rows}
use Rattle.lp_macbeth.proofs.PairLemmas.{All-from_every}

pub lower_rows_of-append : (m : Judgements) (ps qs : List (ℕ × ℕ)) → lower_rows_of m (ps ++ qs) ≡ lower_rows_of m ps ++ lower_rows_of m qs
lower_rows_of-append m ps qs =
    ap (map (λ (pair : ℕ × ℕ). Lower pair.0 pair.1)) (filter-append (λ (pair : ℕ × ℕ). nat_le 1 (range_at m pair.0 pair.1).lo) ps qs)
    ∙ map-append (λ (pair : ℕ × ℕ). Lower pair.0 pair.1) (filter (λ (pair : ℕ × ℕ). nat_le 1 (range_at m pair.0 pair.1).lo) ps)
    (filter (λ (pair : ℕ × ℕ). nat_le 1 (range_at m pair.0 pair.1).lo) qs)

pub zero_rows_of-append : (m : Judgements) (ps qs : List (ℕ × ℕ)) → zero_rows_of m (ps ++ qs) ≡ zero_rows_of m ps ++ zero_rows_of m qs
zero_rows_of-append m ps qs =
    ap (map (λ (pair : ℕ × ℕ). Zero pair.0 pair.1)) (filter-append (λ (pair : ℕ × ℕ). (range_at m pair.0 pair.1).hi == 0) ps qs)
    ∙ map-append (λ (pair : ℕ × ℕ). Zero pair.0 pair.1) (filter (λ (pair : ℕ × ℕ). (range_at m pair.0 pair.1).hi == 0) ps)
    (filter (λ (pair : ℕ × ℕ). (range_at m pair.0 pair.1).hi == 0) qs)

-- ---- each tag is one of the matrix's elements

-- what holds of each pair holds of those that pass a test
some_pairs : (n : ℕ) (P : ℕ × ℕ → Type 0) (test : ℕ × ℕ → Bool) → ((p q : ℕ) → IsPair n p q → P (p, q)) → AllByRecursion P (filter test (pairs n))
some_pairs n P test h =
    every-filter P test (pairs n) (every_weaker P (λ pair. test pair ≡ true → P pair) (λ pair k e. k) (pairs n) (every-pairs n (λ p q. P (p, q)) h))

every-judged_rows : (m : Judgements) → AllByRecursion (IsTagAmong m.size) (judged_rows m)
every-judged_rows m =
    let Among : Tag → Type 0 = IsTagAmong m.size in
    let lower : AllByRecursion Among (lower_rows_of m (pairs m.size)) =
    every-map Among (λ (pair : ℕ × ℕ). Lower pair.0 pair.1) _ (some_pairs m.size (λ pair. Among (Lower pair.0 pair.1)) _ (λ p q h. h)) in
    let zero : AllByRecursion Among (zero_rows_of m (pairs m.size)) =
    every-map Among (λ (pair : ℕ × ℕ). Zero pair.0 pair.1) _ (some_pairs m.size (λ pair. Among (Zero pair.0 pair.1)) _ (λ p q h. h)) in
    let cross : AllByRecursion Among (cross_rows_of m (pairs m.size) (pairs m.size)) =
    every-flat_map Among _ (pairs m.size) (every-pairs m.size (λ p q. AllByRecursion Among (cross_rows_under m (p, q) (pairs m.size)))
    (λ p q h. every-map Among (λ (right : ℕ × ℕ). Cross p q right.0 right.1) _
    (some_pairs m.size (λ right. Among (Cross p q right.0 right.1)) _ (λ x y k. (h, k))))) in
    every-append Among _ _ (every-append Among _ _ lower zero) cross

every-order_rows : (m : Judgements) → AllByRecursion (IsTagAmong m.size) (order_rows m)
every-order_rows m = every-map (IsTagAmong m.size) (λ p. Order p) (range_with_len 1 (m.size - 1))
    (every-range (λ p. IsTagAmong m.size (Order p)) 1 (m.size - 1) (λ k low high. (low, omega arith)))

every-closed_tags : (m : Judgements) → AllByRecursion (IsTagAmong m.size) (closed_tags m)
every-closed_tags m =
    let Among : Tag → Type 0 = IsTagAmong m.size in
    let lower = lower_rows_of m (pairs m.size) in
    let zero = zero_rows_of m (pairs m.size) in
    let cross = cross_rows_of m (pairs m.size) (pairs m.size) in
    let all = every-judged_rows m in
    every-append Among zero cross (every-append_right Among lower zero (every-append_left Among (lower ++ zero) cross all))
    (every-append_right Among (lower ++ zero) cross all)

pub All-closed_tags : (m : Judgements) → All (IsTagAmong m.size) (closed_tags m)
All-closed_tags m = All-from_every (IsTagAmong m.size) (closed_tags m) (every-closed_tags m)

pub All-judged_rows : (m : Judgements) → All (IsTagAmong m.size) (judged_rows m)
All-judged_rows m = All-from_every (IsTagAmong m.size) (judged_rows m) (every-judged_rows m)

pub All-rows : (m : Judgements) → All (IsTagAmong m.size) (rows m)
All-rows m = All-append (IsTagAmong m.size) (judged_rows m) (order_rows m) (All-judged_rows m)
    (All-from_every (IsTagAmong m.size) (order_rows m) (every-order_rows m))

-- ---- the pairs under a category, as the code looks them up

-- the list of a category
pub rights_are : (m : Judgements) (ps : List (ℕ × ℕ)) (lists : List (List (ℕ × ℕ))) (category : ℕ) (rights : List (ℕ × ℕ))
    → lists ≡ map (λ (i : ℕ). under m ps i) (numbers_from 0 7) → category < 7 → rights ≡ get_or lists category rights → rights ≡ under m ps category
rights_are m ps lists category rights made below is =
    is ∙ ap (λ l. get_or l category rights) made ∙ get_or-map (λ (i : ℕ). under m ps i) (numbers_from 0 7) category 0 rights
    (omega (arith, length-numbers_from 0 7))
    ∙ ap (λ i. under m ps i) (get_or-numbers_from 0 7 category 0 below ∙ zero-add category)

-- the rows of the next pair
pub cross_next : (m : Judgements) (ps : List (ℕ × ℕ)) (i : ℕ) (done all now : List Tag) (rights : List (ℕ × ℕ)) → i < length ps
    → rights ≡ under m ps (range_at m (get_or ps i (0, 0)).0 (get_or ps i (0, 0)).1).lo → done ++ cross_rows_of m (drop i ps) ps ≡ all
    → now ≡ done ++ map (λ right. Cross (get_or ps i (0, 0)).0 (get_or ps i (0, 0)).1 right.0 right.1) rights
    → now ++ cross_rows_of m (drop (i + 1) ps) ps ≡ all
cross_next m ps i done all now rights below is invariant added =
    let left : ℕ × ℕ = get_or ps i (0, 0) in
    let more : suc i ≡ i + 1 = omega arith in
    let next : drop i ps ≡ left ∷ drop (i + 1) ps = drop-cons ps i (0, 0) below ∙ ap (λ k. left ∷ drop k ps) more in
    join_next done all (cross_rows_of m (drop i ps) ps) (cross_rows_of m (drop (i + 1) ps) ps) now (cross_rows_under m left ps) invariant
    (ap (λ l. cross_rows_of m l ps) next) (added ∙ ap (λ l. done ++ map (λ (right : ℕ × ℕ). Cross left.0 left.1 right.0 right.1) l) is)
