-- The loops of a translation: weights for ranges, weights at category 0, entries put in place, and the entries of weights.
use Rattle.std.specs.Prelude.{Bool, true, false, cond, not, unsigned_abs}
use Rattle.std.specs.Ordering.{int_eq}
use Rattle.std.proofs.Common.{◌≡◌, ◌≢◌, ℕ, ◌+◌, ◌<◌, ℤ, pos, List, [], ◌∷◌, ◌++◌, length, get_or, map, set, drop, sym, ap, ap₂, ◌∙◌, add-one}
use Rattle.std.proofs.lemmas.Bool.{not-true, not-false}
use Rattle.integers.proofs.Loops.{push_next}
use Rattle.frac128.specs.Entries.{entries_from}
use Rattle.judgement_matrix.specs.Range.{Bounds}
use Rattle.lp_macbeth.specs.declared.kinds.Kind.{Kind}
use Rattle.lp_macbeth.specs.Passing.{with_entries, has_row, category_of, spread, after_spread, at_zero}
use Rattle.lp_macbeth.proofs.LoopLemmas.{rest_next}
use Rattle.lp_macbeth.proofs.PassLemmas.{same_category, other_category}

-- ---- weights for ranges

pub spread_next : (kind : Kind) (ranges : List Bounds) (i : ℕ) (range : Bounds) (t : Bool) (category w : ℕ) (ws rest : List ℕ) (done all now : List (ℕ × ℕ))
    → drop i ranges ≡ range ∷ drop (i + 1) ranges → has_row kind range ≡ t → category ≡ category_of kind range → w ≡ cond t (get_or ws 0 0) 0
    → rest ≡ cond t (drop 1 ws) ws → done ++ spread kind (drop i ranges) ws ≡ all → now ≡ done ++ (category, w) ∷ []
    → now ++ spread kind (drop (i + 1) ranges) rest ≡ all
spread_next kind ranges i range t category w ws rest done all now first has of weight left so_far made =
    let item : (category_of kind range, cond (has_row kind range) (get_or ws 0 0) 0) ≡ (category, w) =
    ap₂ (λ a b. (a, b)) (sym of) (ap (λ s. cond s (get_or ws 0 0) 0) has ∙ sym weight) in
    push_next done all (spread kind (drop i ranges) ws) (spread kind (drop (i + 1) ranges) rest) now (category, w) so_far
    (ap (λ l. spread kind l ws) first
    ∙ ap₂ (λ x vs. x ∷ spread kind (drop (i + 1) ranges) vs) item (ap (λ s. cond s (drop 1 ws) ws) has ∙ sym left)) made

pub after_next : (kind : Kind) (ranges : List Bounds) (i : ℕ) (range : Bounds) (t : Bool) (ws rest all : List ℕ) → drop i ranges ≡ range ∷ drop (i + 1) ranges
    → has_row kind range ≡ t → rest ≡ cond t (drop 1 ws) ws → after_spread kind (drop i ranges) ws ≡ all
    → after_spread kind (drop (i + 1) ranges) rest ≡ all
after_next kind ranges i range t ws rest all first has left so_far =
    ap (after_spread kind (drop (i + 1) ranges)) (left ∙ ap (λ s. cond s (drop 1 ws) ws) (sym has)) ∙ ap (λ l. after_spread kind l ws) (sym first) ∙ so_far

-- ---- weights at category 0

pub zero_take : (xs : List (ℕ × ℕ)) (i : ℕ) (x : ℕ × ℕ) (done all now : List ℕ) → drop i xs ≡ x ∷ drop (i + 1) xs → x.0 ≡ 0
    → done ++ at_zero (drop i xs) ≡ all → now ≡ done ++ x.1 ∷ [] → now ++ at_zero (drop (i + 1) xs) ≡ all
zero_take xs i x done all now first zero so_far made =
    let split : at_zero (x ∷ drop (i + 1) xs) ≡ x.1 ∷ at_zero (drop (i + 1) xs) = rw (same_category x.0 0 zero) in
    push_next done all (at_zero (drop i xs)) (at_zero (drop (i + 1) xs)) now x.1 so_far (ap at_zero first ∙ split) made

pub zero_skip : (xs : List (ℕ × ℕ)) (i : ℕ) (x : ℕ × ℕ) (done all now : List ℕ) → drop i xs ≡ x ∷ drop (i + 1) xs → x.0 ≢ 0
    → done ++ at_zero (drop i xs) ≡ all → now ≡ done → now ++ at_zero (drop (i + 1) xs) ≡ all
zero_skip xs i x done all now first above so_far stays =
    let split : at_zero (x ∷ drop (i + 1) xs) ≡ at_zero (drop (i + 1) xs) = rw (other_category x.0 0 above) in
    ap₂ (λ a b. a ++ b) stays (sym (ap at_zero first ∙ split)) ∙ so_far

-- ---- entries put in place

pub put_next : (weights all : List ℕ) (on : List (ℕ × ℤ)) (i w : ℕ) → i < length on → w ≡ unsigned_abs (get_or on i (0, pos 0)).1
    → with_entries weights (drop i on) ≡ all → with_entries (set weights (get_or on i (0, pos 0)).0 w) (drop (i + 1) on) ≡ all
put_next weights all on i w below is so_far =
    ap (λ z. with_entries (set weights (get_or on i (0, pos 0)).0 z) (drop (i + 1) on)) is
    ∙ ap (with_entries weights) (sym (rest_next on i (0, pos 0) below)) ∙ so_far

-- ---- the entries of weights

entries_split : (i w : ℕ) (ws : List ℤ) (t : Bool) → int_eq (pos w) (pos 0) ≡ t
    → entries_from i (pos w ∷ ws) ≡ elim t [ true ↦ entries_from (i + 1) ws | false ↦ (i, pos w) ∷ entries_from (i + 1) ws ]
entries_split i w ws t is =
    ap (λ k. elim (int_eq (pos w) (pos 0)) [ true ↦ entries_from k ws | false ↦ (i, pos w) ∷ entries_from k ws ]) (sym (add-one i))
    ∙ ap (λ s. elim s [ true ↦ entries_from (i + 1) ws | false ↦ (i, pos w) ∷ entries_from (i + 1) ws ]) is

pub entries_take : (ws : List ℕ) (i w : ℕ) (b : Bool) (done all now : List (ℕ × ℤ)) → drop i ws ≡ w ∷ drop (i + 1) ws
    → b ≡ not (int_eq (pos w) (pos 0)) → b ≡ true → done ++ entries_from i (map (λ w. pos w) (drop i ws)) ≡ all → now ≡ done ++ (i, pos w) ∷ []
    → now ++ entries_from (i + 1) (map (λ w. pos w) (drop (i + 1) ws)) ≡ all
entries_take ws i w b done all now first test holds so_far made =
    let rest : List ℤ = map (λ w. pos w) (drop (i + 1) ws) in
    push_next done all (entries_from i (map (λ w. pos w) (drop i ws))) (entries_from (i + 1) rest) now (i, pos w) so_far
    (ap (λ l. entries_from i (map (λ w. pos w) l)) first ∙ entries_split i w rest false (not-true (int_eq (pos w) (pos 0)) (sym test ∙ holds))) made

pub entries_skip : (ws : List ℕ) (i w : ℕ) (b : Bool) (done all now : List (ℕ × ℤ)) → drop i ws ≡ w ∷ drop (i + 1) ws
    → b ≡ not (int_eq (pos w) (pos 0)) → b ≡ false → done ++ entries_from i (map (λ w. pos w) (drop i ws)) ≡ all → now ≡ done
    → now ++ entries_from (i + 1) (map (λ w. pos w) (drop (i + 1) ws)) ≡ all
entries_skip ws i w b done all now first test fails so_far stays =
    let rest : List ℤ = map (λ w. pos w) (drop (i + 1) ws) in
    ap₂ (λ a b. a ++ b) stays
    (sym (ap (λ l. entries_from i (map (λ w. pos w) l)) first ∙ entries_split i w rest true (not-false (int_eq (pos w) (pos 0)) (sym test ∙ fails))))
    ∙ so_far
