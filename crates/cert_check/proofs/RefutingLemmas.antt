-- Entries by tags: the rows that they name, placed among all rows of a matrix or numbered by themselves, make one combination.
use Rattle.std.specs.Prelude.{Bool, true, false, Result, Ok, Err, Option, Some, slice_get}
use Rattle.std.specs.List.{AllByRecursion, position_or_len}
use Rattle.std.proofs.Common.{◌≡◌, ◌⊎◌, inl, inr, ℕ, zero, suc, ◌+◌, ◌-◌, ◌<◌, ◌≤◌, List, [], ◌∷◌, length, get_or, map, replicate, All, ℤ, pos, ◌*ℤ◌, ◌≤ℤ◌, ◌<ℤ◌, refl, sym, ap, ap₂, subst, ◌∙◌, arith}
use Rattle.std.proofs.lemmas.Bool.{cases_lt}
use Rattle.std.proofs.lemmas.List.{length-map, get_or-map}
use Rattle.std.proofs.lemmas.List.Elements.{All-nil}
use Rattle.std.proofs.lemmas.Option.{get_or_from_slice_get, slice_get_within}
use Rattle.integers.specs.Vector.{dot, add, weighted_sum}
use Rattle.frac128.specs.Problem.{ProblemData, AreRowMultipliers, IsFarkasCertificate, row_at, multipliers, rows_on, combination}
use Rattle.frac128.specs.Range.{IsInRange}
use Rattle.frac128.specs.declared.number.TooWide.{TooWide}
use Rattle.frac128.specs.declared.problem.Cert.{Cert}
use Rattle.frac128.specs.declared.problem.Row.{Row}
use Rattle.judgement_matrix.specs.Matrix.{Judgements, IsMatrix}
use Rattle.judgement_matrix.specs.declared.tag.Tag.{Tag}
use Rattle.judgement_matrix.specs.declared.tag.Tag.TheVariants.{Lower, Zero, Cross, Order}
use Rattle.judgement_matrix.specs.Rows.{IsTagAmong}
use Rattle.lp_macbeth.specs.Rows.{row_of, judged_rows, problem_of, problem_on}
use Rattle.cert_check.specs.Entries.{IsEntry, entry_at, products_on, added_in_turn, coefficient, bound}
use Rattle.cert_check.specs.Lines.{IsBefore, Passes, IsReached, IsFirstTooWide, IsCommonLine, farkas_check}
use Rattle.cert_check.specs.declared.verdict.Place.{Place}
use Rattle.cert_check.specs.declared.verdict.Place.TheVariants.{Den, Entry, Column, Bound}
use Rattle.cert_check.specs.Places.{at_place, is_same_tag, rank, Rise}
use Rattle.cert_check.specs.Refuting.{placed_on, Refute, TellsWhetherFarkas, tag_at, IsRowOf, AreRowsInOrder, numbered}
use Rattle.cert_check.proofs.EntryLemmas.{AreRowMultipliers-from_entries, IsEntry-at}
use Rattle.cert_check.specs.Rows.{AreNamed, by_place, by_tag}
use Rattle.cert_check.proofs.PlaceLemmas.{Rise-judged_rows, place-found}
use Rattle.cert_check.proofs.RowLemmas.{Stands, Stands-below, Stands-listed, listed-Stands, IsRowOf-listed, listed-IsRowOf, tag_is_same}

-- ---- a combination by the rows that are named, each with its multiplier

abbrev weighed : List Row → List (ℕ × ℤ) → List (Row × ℤ)
weighed rows on = map (λ (e : ℕ × ℤ). (row_at rows e.0, e.1)) on

products_are : (number : Row → ℤ) (rows : List Row) (on : List (ℕ × ℤ))
    → products_on number rows on ≡ map (λ (x : Row × ℤ). x.1 *ℤ number x.0) (weighed rows on)
products_are number rows [] = refl
products_are number rows (e ∷ on) = ap (λ l. (e.1 *ℤ number (row_at rows e.0)) ∷ l) (products_are number rows on)

multipliers_are : (rows : List Row) (on : List (ℕ × ℤ)) → multipliers on ≡ map (λ (x : Row × ℤ). x.1) (weighed rows on)
multipliers_are rows [] = refl
multipliers_are rows (e ∷ on) = ap (λ l. e.1 ∷ l) (multipliers_are rows on)

coefs_are : (rows : List Row) (on : List (ℕ × ℤ)) → map (λ (r : Row). r.coefs) (rows_on rows on) ≡ map (λ (x : Row × ℤ). x.0.coefs) (weighed rows on)
coefs_are rows [] = refl
coefs_are rows (e ∷ on) = ap (λ l. (row_at rows e.0).coefs ∷ l) (coefs_are rows on)

bounds_are : (rows : List Row) (on : List (ℕ × ℤ)) → map (λ (r : Row). r.bound) (rows_on rows on) ≡ map (λ (x : Row × ℤ). x.0.bound) (weighed rows on)
bounds_are rows [] = refl
bounds_are rows (e ∷ on) = ap (λ l. (row_at rows e.0).bound ∷ l) (bounds_are rows on)

abbrev sum_of : ℕ → List (Row × ℤ) → Row
sum_of vars xs = record {
  coefs = add (replicate vars (pos 0)) (weighted_sum (map (λ (x : Row × ℤ). x.1) xs) (map (λ (x : Row × ℤ). x.0.coefs) xs));
  bound = dot (map (λ (x : Row × ℤ). x.1) xs) (map (λ (x : Row × ℤ). x.0.bound) xs);
}

combination_is : (p : ProblemData) (on : List (ℕ × ℤ)) → combination p on ≡ sum_of p.vars (weighed p.rows on)
combination_is p on =
    let coefs : add (replicate p.vars (pos 0)) (weighted_sum (multipliers on) (map (λ (r : Row). r.coefs) (rows_on p.rows on)))
    ≡ (sum_of p.vars (weighed p.rows on)).coefs =
    ap₂ (λ (ys : List ℤ) (rows : List (List ℤ)). add (replicate p.vars (pos 0)) (weighted_sum ys rows)) (multipliers_are p.rows on) (coefs_are p.rows on) in
    let bound : dot (multipliers on) (map (λ (r : Row). r.bound) (rows_on p.rows on)) ≡ (sum_of p.vars (weighed p.rows on)).bound =
    ap₂ (λ (ys bs : List ℤ). dot ys bs) (multipliers_are p.rows on) (bounds_are p.rows on) in
    λ i. record { coefs = coefs i; bound = bound i }

-- ---- the rows that entries name

abbrev named : Judgements → List (Tag × ℤ) → List (Row × ℤ)
named m on = map (λ (e : Tag × ℤ). (row_of m e.0, e.1)) on

-- among all rows
placed_are : (m : Judgements) (tags : List Tag) (on : List (Tag × ℤ)) → AllByRecursion (λ (e : Tag × ℤ). Stands tags e.0) on
    → weighed (map (row_of m) tags) (map (at_place tags) on) ≡ named m on
placed_are m tags [] h = refl
placed_are m tags (e ∷ on) h =
    let s = h.0 in
    let i : ℕ = position_or_len (is_same_tag e.0) tags in
    let here : row_at (map (row_of m) tags) i ≡ row_of m e.0 =
    get_or-map (row_of m) tags i (Lower 0 0) (record { coefs = []; bound = pos 0 }) s.below ∙ ap (row_of m) s.is in
    ap₂ (λ (r : Row) (l : List (Row × ℤ)). (r, e.1) ∷ l) here (placed_are m tags on h.1)

-- by themselves
abbrev later : ℕ × ℤ → ℕ × ℤ
later e = (suc e.0, e.1)

numbered_later : (k : ℕ) (on : List (Tag × ℤ)) → numbered (suc k) on ≡ map later (numbered k on)
numbered_later k [] = refl
numbered_later k (e ∷ on) =
    let next : suc k + 1 ≡ suc (k + 1) = omega arith in ap (λ l. (suc k, e.1) ∷ l) (ap (λ n. numbered n on) next ∙ numbered_later (k + 1) on)

weighed_later : (r : Row) (rows : List Row) (on : List (ℕ × ℤ)) → weighed (r ∷ rows) (map later on) ≡ weighed rows on
weighed_later r rows [] = refl
weighed_later r rows (e ∷ on) = ap (λ l. (row_at rows e.0, e.1) ∷ l) (weighed_later r rows on)

numbered_are : (m : Judgements) (on : List (Tag × ℤ)) → weighed (map (row_of m) (map (λ (e : Tag × ℤ). e.0) on)) (numbered 0 on) ≡ named m on
numbered_are m [] = refl
numbered_are m (e ∷ on) =
    let rows : List Row = map (row_of m) (map (λ (x : Tag × ℤ). x.0) on) in
    ap (λ l. (row_of m e.0, e.1) ∷ l)
    (ap (weighed (row_of m e.0 ∷ rows)) (numbered_later 0 on) ∙ weighed_later (row_of m e.0) rows (numbered 0 on) ∙ numbered_are m on)

-- ---- the entries, one by one

length-numbered : (k : ℕ) (on : List (Tag × ℤ)) → length (numbered k on) ≡ length on
length-numbered k [] = refl
length-numbered k (e ∷ on) = ap suc (length-numbered (k + 1) on)

multiplier_at : List (Tag × ℤ) → ℕ → ℤ
multiplier_at on i = (get_or on i (Lower 0 0, pos 0)).1

numbered_at : (k : ℕ) (on : List (Tag × ℤ)) (i : ℕ) → i < length on → entry_at (numbered k on) i ≡ (k + i, multiplier_at on i)
unfolding multiplier_at
numbered_at k [] i below = absurd (omega arith)
numbered_at k (e ∷ on) zero below = let same : k ≡ k + 0 = omega arith in ap (λ n. (n, e.1)) same
numbered_at k (e ∷ on) (suc i) below =
    let same : k + 1 + i ≡ k + suc i = omega arith in
    numbered_at (k + 1) on i (omega arith) ∙ ap (λ n. (n, multiplier_at on i)) same

placed_at : (tags : List Tag) (on : List (Tag × ℤ)) (i : ℕ) → i < length on
    → entry_at (map (at_place tags) on) i ≡ (position_or_len (is_same_tag (tag_at on i)) tags, multiplier_at on i)
unfolding multiplier_at
placed_at tags on i below = get_or-map (at_place tags) on i (Lower 0 0, pos 0) (0, pos 0) below

-- no multiplier is below 0
abbrev AreNonNegative : List (Tag × ℤ) → Type 0
AreNonNegative on = (i : ℕ) → i < length on → pos 0 ≤ℤ multiplier_at on i

numbered_entries : (on : List (Tag × ℤ)) (count : ℕ) → count ≡ length on → AreNonNegative on → AreRowMultipliers count (numbered 0 on)
numbered_entries on count is h = AreRowMultipliers-from_entries count (numbered 0 on) each
  where
    each : (i : ℕ) → i < length (numbered 0 on) → IsEntry count (numbered 0 on) i
    each i inside =
        let below : i < length on = subst (λ n. i < n) (length-numbered 0 on) inside in
        let at = numbered_at 0 on i below in
        record {
          names_row = subst (λ (e : ℕ × ℤ). e.0 < count) (sym at) (omega arith);
          after_last = λ k next.
              let before = numbered_at 0 on k (omega arith) in
              subst (λ (e : ℕ × ℤ). e.0 < (entry_at (numbered 0 on) i).0) (sym before)
              (subst (λ (e : ℕ × ℤ). 0 + k < e.0) (sym at) (omega arith));
          nonneg = subst (λ (e : ℕ × ℤ). pos 0 ≤ℤ e.1) (sym at) (h i below);
        }

numbered_nonneg : (on : List (Tag × ℤ)) (count : ℕ) → AreRowMultipliers count (numbered 0 on) → AreNonNegative on
numbered_nonneg on count h i below =
    subst (λ (e : ℕ × ℤ). pos 0 ≤ℤ e.1) (numbered_at 0 on i below)
    (h.nonneg i (0, pos 0) (subst (λ n. i < n) (sym (length-numbered 0 on)) below))

-- where tags stand in the order of their ranks
before_by_rank : (tags : List Tag) (a b : Tag) → Rise tags → Stands tags a → Stands tags b → rank a < rank b
    → position_or_len (is_same_tag a) tags < position_or_len (is_same_tag b) tags
before_by_rank tags a b rise s t less = elim (cases_lt (position_or_len (is_same_tag a) tags) (position_or_len (is_same_tag b) tags)) [
  | inl before ↦ before
  | inr past ↦ absurd (by (cases_lt (position_or_len (is_same_tag b) tags) (position_or_len (is_same_tag a) tags)) past)
]
  where
    by : (position_or_len (is_same_tag b) tags < position_or_len (is_same_tag a) tags) ⊎ (position_or_len (is_same_tag a) tags ≤ position_or_len (is_same_tag b) tags)
        → position_or_len (is_same_tag b) tags ≤ position_or_len (is_same_tag a) tags → ⊥
    by (inl l) past =
        let up = rise (position_or_len (is_same_tag b) tags) (position_or_len (is_same_tag a) tags) l s.below in
        let at_a = ap rank s.is in
        let at_b = ap rank t.is in
        omega arith
    by (inr l) past =
        let same : position_or_len (is_same_tag a) tags ≡ position_or_len (is_same_tag b) tags = omega arith in
        let at : a ≡ b = sym s.is ∙ ap (λ n. get_or tags n (Lower 0 0)) same ∙ t.is in
        let ranks = ap rank at in
        omega arith

rank_by_place : (tags : List Tag) (a b : Tag) → Rise tags → Stands tags a → Stands tags b
    → position_or_len (is_same_tag a) tags < position_or_len (is_same_tag b) tags → rank a < rank b
rank_by_place tags a b rise s t less =
    let up = rise (position_or_len (is_same_tag a) tags) (position_or_len (is_same_tag b) tags) less t.below in
    let at_a = ap rank s.is in
    let at_b = ap rank t.is in
    omega arith

stands_at : (m : Judgements) (on : List (Tag × ℤ)) → AreRowsInOrder m on → (i : ℕ) → i < length on → Stands (judged_rows m) (tag_at on i)
stands_at m on are i below =
    let r = are i below in Stands-listed (judged_rows m) (tag_at on i) (listed-IsRowOf m (tag_at on i) r.is_row)

every_stands : (tags : List Tag) (on : List (Tag × ℤ)) → ((i : ℕ) → i < length on → Stands tags (tag_at on i))
    → AllByRecursion (λ (e : Tag × ℤ). Stands tags e.0) on
every_stands tags [] h = tt
every_stands tags (e ∷ on) h = (h 0 (omega arith), every_stands tags on (λ i below. h (suc i) (omega arith)))

placed_entries : (m : Judgements) (on : List (Tag × ℤ)) (count : ℕ) → count ≡ length (judged_rows m) → IsMatrix m → AreRowsInOrder m on → AreNonNegative on
    → AreRowMultipliers count (map (at_place (judged_rows m)) on)
placed_entries m on count is matrix are h = AreRowMultipliers-from_entries count (map (at_place (judged_rows m)) on) each
  where
    each : (i : ℕ) → i < length (map (at_place (judged_rows m)) on) → IsEntry count (map (at_place (judged_rows m)) on) i
    each i inside =
        let below : i < length on = subst (λ n. i < n) (length-map on (at_place (judged_rows m))) inside in
        let at = placed_at (judged_rows m) on i below in
        let here = stands_at m on are i below in
        record {
          names_row = subst (λ (e : ℕ × ℤ). e.0 < count) (sym at) (subst (λ n. position_or_len (is_same_tag (tag_at on i)) (judged_rows m) < n) (sym is) here.below);
          after_last = λ k next.
              let before = placed_at (judged_rows m) on k (omega arith) in
              let order = are i below in
              subst (λ (e : ℕ × ℤ). e.0 < (entry_at (map (at_place (judged_rows m)) on) i).0) (sym before)
              (subst (λ (e : ℕ × ℤ). position_or_len (is_same_tag (tag_at on k)) (judged_rows m) < e.0) (sym at)
              (before_by_rank (judged_rows m) (tag_at on k) (tag_at on i) (Rise-judged_rows m matrix)
              (stands_at m on are k (omega arith)) here (order.after_last k next)));
          nonneg = subst (λ (e : ℕ × ℤ). pos 0 ≤ℤ e.1) (sym at) (h i below);
        }

-- and back
stands_from_placed : (m : Judgements) (on : List (Tag × ℤ)) → AreRowMultipliers (length (judged_rows m)) (map (at_place (judged_rows m)) on)
    → (i : ℕ) → i < length on → Stands (judged_rows m) (tag_at on i)
stands_from_placed m on h i below =
    Stands-below (judged_rows m) (tag_at on i)
    (subst (λ (e : ℕ × ℤ). e.0 < length (judged_rows m)) (placed_at (judged_rows m) on i below)
    (h.positions_below i (0, pos 0) (subst (λ n. i < n) (sym (length-map on (at_place (judged_rows m)))) below)))

placed_nonneg : (m : Judgements) (on : List (Tag × ℤ)) → AreRowMultipliers (length (judged_rows m)) (map (at_place (judged_rows m)) on) → AreNonNegative on
placed_nonneg m on h i below =
    subst (λ (e : ℕ × ℤ). pos 0 ≤ℤ e.1) (placed_at (judged_rows m) on i below)
    (h.nonneg i (0, pos 0) (subst (λ n. i < n) (sym (length-map on (at_place (judged_rows m)))) below))

in_order_from_placed : (m : Judgements) (on : List (Tag × ℤ)) → IsMatrix m → AreRowMultipliers (length (judged_rows m)) (map (at_place (judged_rows m)) on)
    → AreRowsInOrder m on
in_order_from_placed m on matrix h i below = record {
  is_row = IsRowOf-listed m (tag_at on i) (listed-Stands (judged_rows m) (tag_at on i) here);
  after_last = λ k next.
      let entry = IsEntry-at (length (judged_rows m)) (map (at_place (judged_rows m)) on) h i (subst (λ n. i < n) (sym (length-map on (at_place (judged_rows m)))) below) in
      let less = entry.after_last k next in
      let before = placed_at (judged_rows m) on k (omega arith) in
      let at = placed_at (judged_rows m) on i below in
      rank_by_place (judged_rows m) (tag_at on k) (tag_at on i) (Rise-judged_rows m matrix) (stands_from_placed m on h k (omega arith)) here
      (subst (λ (e : ℕ × ℤ). e.0 < position_or_len (is_same_tag (tag_at on i)) (judged_rows m)) before
      (subst (λ (e : ℕ × ℤ). (entry_at (map (at_place (judged_rows m)) on) k).0 < e.0) at less));
}
  where
    here : Stands (judged_rows m) (tag_at on i)
    here = stands_from_placed m on h i below

-- the tags are of the elements of the matrix
among : (m : Judgements) (tag : Tag) → IsRowOf m tag → IsTagAmong m.size tag
among m (Lower p q) h = h.0
among m (Zero p q) h = h.0
among m (Cross p q x y) h = (h.0, h.1)
among m (Order p) h = absurd h

pub tags_among : (m : Judgements) (on : List (Tag × ℤ)) → AreRowsInOrder m on → All (IsTagAmong m.size) (map (λ (e : Tag × ℤ). e.0) on)
tags_among m on are i d inside =
    let below : i < length on = subst (λ n. i < n) (length-map on (λ (e : Tag × ℤ). e.0)) inside in
    let r = are i below in
    subst (IsTagAmong m.size) (sym (get_or-map (λ (e : Tag × ℤ). e.0) on i (Lower 0 0, pos 0) d below)) (among m (tag_at on i) r.is_row)

-- ---- one answer for both

abbrev pub own_tags : List (Tag × ℤ) → List Tag
own_tags on = map (λ (e : Tag × ℤ). e.0) on

abbrev pub own_cert : List (Tag × ℤ) → Cert
own_cert on = record { den = pos 1; on = numbered 0 on }

module _ (m : Judgements) (on : List (Tag × ℤ)) (matrix : IsMatrix m) (are : AreRowsInOrder m on) where
  abbrev whole : ProblemData
  whole = problem_of m

  abbrev part : ProblemData
  part = problem_on m (own_tags on)

  same_weighed : weighed whole.rows (placed_on m on).on ≡ weighed part.rows (own_cert on).on
  same_weighed = placed_are m (judged_rows m) on (every_stands (judged_rows m) on (stands_at m on are)) ∙ sym (numbered_are m on)

  same_combination : combination whole (placed_on m on).on ≡ combination part (own_cert on).on
  same_combination =
      combination_is whole (placed_on m on).on ∙ ap (sum_of (m.size - 1)) same_weighed ∙ sym (combination_is part (own_cert on).on)

  same_products : (number : Row → ℤ) → products_on number whole.rows (placed_on m on).on ≡ products_on number part.rows (own_cert on).on
  same_products number =
      products_are number whole.rows (placed_on m on).on ∙ ap (map (λ (x : Row × ℤ). x.1 *ℤ number x.0)) same_weighed
      ∙ sym (products_are number part.rows (own_cert on).on)

  whole_count : length whole.rows ≡ length (judged_rows m)
  whole_count = length-map (judged_rows m) (row_of m)

  part_count : length part.rows ≡ length on
  part_count = length-map (own_tags on) (row_of m) ∙ length-map on (λ (e : Tag × ℤ). e.0)

  refutes_whole : IsFarkasCertificate part (own_cert on) → Refute m on
  refutes_whole h = record {
    entries = placed_entries m on (length whole.rows) whole_count matrix are (numbered_nonneg on (length part.rows) h.entries);
    none_above = subst (λ (r : Row). All (λ c. c ≤ℤ pos 0) r.coefs) (sym same_combination) h.none_above;
    bound_above = subst (λ (r : Row). pos 0 <ℤ r.bound) (sym same_combination) h.bound_above;
  }

  refutes_part : Refute m on → IsFarkasCertificate part (own_cert on)
  refutes_part h = record {
    entries = numbered_entries on (length part.rows) part_count
        (placed_nonneg m on (subst (λ n. AreRowMultipliers n (map (at_place (judged_rows m)) on)) whole_count h.entries));
    none_above = subst (λ (r : Row). All (λ c. c ≤ℤ pos 0) r.coefs) same_combination h.none_above;
    bound_above = subst (λ (r : Row). pos 0 <ℤ r.bound) same_combination h.bound_above;
  }

  -- a line that the check of the part passes
  passes : AreNonNegative on → (line : Place) → IsCommonLine whole (placed_on m on) line
      → (IsCommonLine part (own_cert on) line → Passes (farkas_check part (own_cert on)) line) → Passes (farkas_check whole (placed_on m on)) line
  passes h Den is_line pass = absurd is_line
  passes h (Entry k) is_line pass = (
    IsEntry-at (length whole.rows) (placed_on m on).on (placed_entries m on (length whole.rows) whole_count matrix are h) (k - 1) (omega arith),
    All-nil IsInRange,
  )
  passes h (Column j) is_line pass = (
    subst (λ (r : Row). get_or r.coefs (j - 1) (pos 0) ≤ℤ pos 0) (sym same_combination) (pass is_line).0,
    subst (λ l. All IsInRange (added_in_turn (pos 0) l)) (sym (same_products (coefficient (j - 1)))) (pass is_line).1,
  )
  passes h Bound is_line pass = (
    subst (λ (r : Row). pos 0 <ℤ r.bound) (sym same_combination) (pass is_line).0,
    subst (λ l. All IsInRange (added_in_turn (pos 0) l)) (sym (same_products bound)) (pass is_line).1,
  )

  -- where the check of the part comes to a line behind the entries, no multiplier is below 0
  nonneg_where_reached : (line : Place) → ((k : ℕ) → IsBefore (Entry k) line) → IsReached (farkas_check part (own_cert on)) line → AreNonNegative on
  nonneg_where_reached line behind reached = numbered_nonneg on (length part.rows)
      (Rattle.cert_check.proofs.FarkasLemmas.entries_from_lines part (own_cert on) (λ k is_line. (reached.passed (Entry k) is_line (behind k)).0))

  too_wide : (line : Place) → IsFirstTooWide (farkas_check part (own_cert on)) line → IsFirstTooWide (farkas_check whole (placed_on m on)) line
  too_wide Den h = absurd (h.reached.is_line)
  too_wide (Entry k) h = absurd (h.too_wide (All-nil IsInRange))
  too_wide (Column j) h = record {
    reached = record {
      is_line = h.reached.is_line;
      passed = λ line is_line before. passes (nonneg_where_reached (Column j) (λ k. tt) h.reached) line is_line (λ is. h.reached.passed line is before);
    };
    too_wide = λ fits. h.too_wide (subst (λ l. All IsInRange (added_in_turn (pos 0) l)) (same_products (coefficient (j - 1))) fits);
  }
  too_wide Bound h = record {
    reached = record {
      is_line = tt;
      passed = λ line is_line before. passes (nonneg_where_reached Bound (λ k. tt) h.reached) line is_line (λ is. h.reached.passed line is before);
    };
    too_wide = λ fits. h.too_wide (subst (λ l. All IsInRange (added_in_turn (pos 0) l)) (same_products bound) fits);
  }

  pub tells : (result : Result Bool TooWide) → TellsWhetherFarkas part (own_cert on) result → TellsWhetherFarkas whole (placed_on m on) result
  tells (Ok is_one) h = (λ t. refutes_whole (h.0 t), λ r. h.1 (refutes_part r))
  tells (Err wide) h = (h.0, too_wide h.0 h.1)

-- entries that are no rows in order don't refute
pub not_in_order : (m : Judgements) (on : List (Tag × ℤ)) → IsMatrix m → ¬ AreRowsInOrder m on → TellsWhetherFarkas (problem_of m) (placed_on m on) (Ok false)
not_in_order m on matrix none = (
  λ t. absurd (cc t),
  λ r. absurd (none (in_order_from_placed m on matrix
      (subst (λ n. AreRowMultipliers n (map (at_place (judged_rows m)) on)) (length-map (judged_rows m) (row_of m)) r.entries))),
)

-- ---- a certificate by tags, where it is one by positions

named_is_placed : (m : Judgements) → Rise (judged_rows m) → (on : List (Tag × ℤ)) (placed : List (ℕ × ℤ)) → AreNamed m on placed
    → placed ≡ map (at_place (judged_rows m)) on
named_is_placed m rise [] [] h = refl
named_is_placed m rise [] (p ∷ placed) h = absurd (cc)
named_is_placed m rise (e ∷ on) [] h = absurd (cc)
named_is_placed m rise (e ∷ on) (p ∷ placed) h =
    let first : ◌≡◌ {A = Option Tag × ℤ} (by_place m p) (by_tag e) = cc in
    let rest : map (by_place m) placed ≡ map by_tag on = cc in
    let tag : slice_get (judged_rows m) p.0 ≡ Some e.0 = ap (λ (x : Option Tag × ℤ). x.0) first in
    let multiplier : p.1 ≡ e.1 = ap (λ (x : Option Tag × ℤ). x.1) first in
    let inside = slice_get_within (judged_rows m) p.0 e.0 tag in
    let here : get_or (judged_rows m) p.0 (Lower 0 0) ≡ e.0 = get_or_from_slice_get (judged_rows m) p.0 e.0 (Lower 0 0) tag in
    let place : p.0 ≡ position_or_len (is_same_tag e.0) (judged_rows m) =
    place-found (judged_rows m) e.0 p.0 inside
    (λ k l. let up = rise k p.0 l inside in let at = ap rank here in omega arith)
    (subst (λ t. is_same_tag e.0 t ≡ true) (sym here) (tag_is_same e.0)) in
    ap₂ (λ (x : ℕ × ℤ) (l : List (ℕ × ℤ)). x ∷ l) (λ i. (place i, multiplier i)) (named_is_placed m rise on placed rest)

-- a Farkas certificate refutes by its tags
pub named_refutes : (m : Judgements) (on : List (Tag × ℤ)) (cert : Cert) → IsMatrix m → AreNamed m on cert.on → IsFarkasCertificate (problem_of m) cert → Refute m on
named_refutes m on cert matrix named h =
    let placed = named_is_placed m (Rise-judged_rows m matrix) on cert.on named in
    subst (λ l. IsFarkasCertificate (problem_of m) (record { den = pos 1; on = l })) placed
    (record { entries = h.entries; none_above = h.none_above; bound_above = h.bound_above })
