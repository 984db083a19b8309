-- The points of the threshold form of a closed problem, cut, are those of the problem.
use lib.IntN.{zero-*ℤ, *ℤ-zero, +ℤ_idr}
use Rattle.std.specs.Prelude.{nat_le}
use Rattle.std.specs.List.{AllByRecursion, filter}
use Rattle.std.proofs.Common.{◌≡◌, ◌⊎◌, inl, inr, ◌↔◌, ℕ, suc, ◌+◌, ◌-◌, ◌<◌, ◌≤◌, Bool, true, ℤ, pos, ◌+ℤ◌, ◌*ℤ◌, ◌≤ℤ◌, List, [], ◌∷◌, ◌++◌, length, take, drop, map, replicate, All, refl, sym, ap, ap₂, subst, ◌∙◌, arith}
use Rattle.std.proofs.lemmas.Bool.{cases_lt}
use Rattle.std.proofs.lemmas.Grind.{common_steps}
use Rattle.std.proofs.lemmas.List.{take-append-drop, length-take, length-drop, length-append, length-replicate, map-append}
use Rattle.std.proofs.lemmas.List.Elements.{All-append, All-nil, All-cons, All-head, All-tail, All-map, All-replicate, All-weaker, filter-append}
use Rattle.frac128.specs.Problem.{ProblemData, IsProblem, IsRow, IsRowMetBy, IsFeasible, problem_of}
use Rattle.frac128.specs.Range.{IsInRange}
use Rattle.std.specs.Int.Signed.{≤ℤ_refl}
use Rattle.frac128.specs.declared.problem.Row.{Row}
use Rattle.integers.specs.Vector.{dot, AreNonNegative}
use Rattle.integers.proofs.Laws.{lin}
use Rattle.integers.proofs.Lists.{All-parts}
use Rattle.integers.proofs.Vector.{dot-append, dot_comm, dot-zeros}
use Rattle.judgement_matrix.specs.Matrix.{Judgements, IsMatrix, IsPair, pairs, range_at}
use Rattle.judgement_matrix.specs.Scale.{IsMetInUnit}
use Rattle.judgement_matrix.proofs.EveryLemmas.{every-append, every-append_left, every-append_right, every-map, every_from_map}
use Rattle.lp_macbeth.specs.declared.threshold_tags.ThresholdTag.{ThresholdTag}
use Rattle.lp_macbeth.specs.declared.threshold_tags.ThresholdTag.TheVariants.{At}
use Rattle.lp_macbeth.specs.Gaps.{scale_of}
use Rattle.lp_macbeth.specs.Threshold.{at_rows_of, equal_rows_of, below_rows_of, step_rows, threshold_rows, threshold_row_of, IsThresholdTagOf}
use Rattle.lp_macbeth.specs.ClosedThreshold.{high_rows_of, closed_threshold_rows, closed_threshold_row_of, with_thresholds, threshold_form_of, IsThresholdForm}
use Rattle.lp_macbeth.proofs.FormLemmas.{form_from_points}
use Rattle.lp_macbeth.proofs.MeetLemmas.{threshold_at, TagHolds, Separates, met_tag, every_tag, separates_iff}
use Rattle.lp_macbeth.proofs.PairLemmas.{All-from_every, every_from_All}
use Rattle.lp_macbeth.proofs.RangeLemmas.{small_in_range}
use Rattle.lp_macbeth.proofs.ScaleLemmas.{every_both, scale_falls}
use Rattle.lp_macbeth.proofs.ThresholdLemmas.{cuts, cuts_nonneg, met_from_separates, separates_from_met}
use Rattle.lp_macbeth.proofs.ThresholdProblemLemmas.{row_fits}
use Rattle.lp_macbeth.proofs.ThresholdTagLemmas.{starts, All-threshold_rows}

-- ---- the rows that are listed

-- a range that begins at 1 or above begins at 1, or at 2 or above
starts_cases : (lo : ℕ) → nat_le 1 lo ≡ true → (lo ≡ 1) ⊎ (nat_le 2 lo ≡ true)
starts_cases lo h = elim (cases_lt lo 2) [ inl l ↦ inl (at_one l) | inr g ↦ inr (high g) ]
  where
    at_one : lo < 2 → lo ≡ 1
    at_one l = grind (arith, common_steps)

    high : 2 ≤ lo → nat_le 2 lo ≡ true
    high g = grind (arith, common_steps)

pub starts_high : (lo : ℕ) → nat_le 2 lo ≡ true → nat_le 1 lo ≡ true
starts_high lo h = grind (arith, common_steps)

-- what holds where a range begins at 1 holds of all rows of the open problem where it holds of all listed ones
pub every_listed : (m : Judgements) (P : ThresholdTag → Type 0) → ((p q : ℕ) → IsPair m.size p q → (range_at m p q).lo ≡ 1 → P (At p q))
    → AllByRecursion P (closed_threshold_rows m) ↔ AllByRecursion P (threshold_rows m)
every_listed m P at_one = (to, from)
  where
    ps : List (ℕ × ℕ)
    ps = pairs m.size

    first : AllByRecursion P (high_rows_of m ps) → AllByRecursion P (at_rows_of m ps)
    first h =
        let high = (every_tag m.size P (λ pair. At pair.0 pair.1) (λ pair. nat_le 2 (range_at m pair.0 pair.1).lo)).0 h in
        (every_tag m.size P (λ pair. At pair.0 pair.1) (starts m)).1 (λ p q in_n e.
        elim (starts_cases (range_at m p q).lo e) [ inl one ↦ at_one p q in_n one | inr more ↦ high p q in_n more ])

    back : AllByRecursion P (at_rows_of m ps) → AllByRecursion P (high_rows_of m ps)
    back h =
        let all = (every_tag m.size P (λ pair. At pair.0 pair.1) (starts m)).0 h in
        (every_tag m.size P (λ pair. At pair.0 pair.1) (λ pair. nat_le 2 (range_at m pair.0 pair.1).lo)).1 (λ p q in_n e.
        all p q in_n (starts_high (range_at m p q).lo e))

    swap : (xs ys : List ThresholdTag) → (AllByRecursion P xs → AllByRecursion P ys)
        → AllByRecursion P (xs ++ equal_rows_of m ps ++ below_rows_of m ps ++ step_rows)
        → AllByRecursion P (ys ++ equal_rows_of m ps ++ below_rows_of m ps ++ step_rows)
    swap xs ys f h =
        let equal : List ThresholdTag = equal_rows_of m ps in
        let below : List ThresholdTag = below_rows_of m ps in
        let three = every-append_left P (xs ++ equal ++ below) step_rows h in
        let two = every-append_left P (xs ++ equal) below three in
        every-append P (ys ++ equal ++ below) step_rows (every-append P (ys ++ equal) below (every-append P ys equal (f (every-append_left P xs equal two))
        (every-append_right P xs equal two)) (every-append_right P (xs ++ equal) below three)) (every-append_right P (xs ++ equal ++ below) step_rows h)

    to : AllByRecursion P (closed_threshold_rows m) → AllByRecursion P (threshold_rows m)
    to h = swap (high_rows_of m ps) (at_rows_of m ps) first h

    from : AllByRecursion P (threshold_rows m) → AllByRecursion P (closed_threshold_rows m)
    from h = swap (at_rows_of m ps) (high_rows_of m ps) back h

-- each is one of the matrix's
pub every-closed_threshold_rows : (m : Judgements) → AllByRecursion (IsThresholdTagOf m) (closed_threshold_rows m)
every-closed_threshold_rows m =
    (every_listed m (IsThresholdTagOf m) (λ p q in_n one. (in_n, omega (arith, one)))).1
    (every_from_All (IsThresholdTagOf m) (threshold_rows m) (All-threshold_rows m))

pub All-closed_threshold_rows : (m : Judgements) → All (IsThresholdTagOf m) (closed_threshold_rows m)
All-closed_threshold_rows m = All-from_every (IsThresholdTagOf m) (closed_threshold_rows m) (every-closed_threshold_rows m)

-- some pairs and some more
pub high_rows_of-append : (m : Judgements) (ps qs : List (ℕ × ℕ)) → high_rows_of m (ps ++ qs) ≡ high_rows_of m ps ++ high_rows_of m qs
high_rows_of-append m ps qs =
    let high : ℕ × ℕ → Bool = λ pair. nat_le 2 (range_at m pair.0 pair.1).lo in
    ap (map (λ (pair : ℕ × ℕ). At pair.0 pair.1)) (filter-append high ps qs) ∙ map-append (λ (pair : ℕ × ℕ). At pair.0 pair.1) (filter high ps) (filter high qs)

-- ---- one row

-- numbers before zeros take the front of a list
dot-before_zeros : (xs y : List ℤ) (k further : ℕ) → length xs ≡ k → length y ≡ k + further → dot (xs ++ replicate further (pos 0)) y ≡ dot xs (take k y)
dot-before_zeros xs y k further first each =
    let front : length xs ≡ length (take k y) = first ∙ sym (length-take k y ∙ omega (arith, each)) in
    ap (dot (xs ++ replicate further (pos 0))) (sym (take-append-drop k y))
    ∙ dot-append xs (replicate further (pos 0)) (take k y) (drop k y) front
    ∙ ap (λ z. dot xs (take k y) +ℤ z) (dot_comm (replicate further (pos 0)) (drop k y) ∙ dot-zeros (drop k y) further)
    ∙ +ℤ_idr (dot xs (take k y))

-- a row of pairs and thresholds says in any unit what the open problem's row says in unit 0
row_apart : (m : Judgements) (further : ℕ) (tag : ThresholdTag) (y t : List ℤ) (n : ℤ) → IsMatrix m → IsThresholdTagOf m tag → length y ≡ m.size - 1 + further
    → IsRowMetBy (y ++ t) n (closed_threshold_row_of m further tag) ↔ IsRowMetBy (take (m.size - 1) y ++ t) (pos 0) (threshold_row_of m tag)
row_apart m further tag y t n matrix of each =
    let k : ℕ = m.size - 1 in
    let c : List ℤ = (threshold_row_of m tag).coefs in
    let fits : IsRow (m.size - 1 + 5) (threshold_row_of m tag) = row_fits m matrix tag of in
    let front : length (take k c) ≡ k = length-take k c ∙ omega (arith, fits.one_each) in
    let zeros : List ℤ = replicate further (pos 0) in
    let long : length (take k c ++ zeros) ≡ length y = omega (arith, length-append (take k c) zeros, length-replicate further (pos 0), front, each) in
    let own : dot ((take k c ++ zeros) ++ drop k c) (y ++ t) ≡ dot (take k c) (take k y) +ℤ dot (drop k c) t =
    dot-append (take k c ++ zeros) (drop k c) y t long
    ∙ ap (λ z. z +ℤ dot (drop k c) t) (dot-before_zeros (take k c) y k further front each) in
    let theirs : dot c (take k y ++ t) ≡ dot (take k c) (take k y) +ℤ dot (drop k c) t =
    ap (λ l. dot l (take k y ++ t)) (sym (take-append-drop k c))
    ∙ dot-append (take k c) (drop k c) (take k y) t (front ∙ sym (length-take k y ∙ omega (arith, each))) in
    let none : pos 0 *ℤ n ≡ pos 0 = zero-*ℤ n in
    let bound : (threshold_row_of m tag).bound *ℤ pos 0 ≡ pos 0 = *ℤ-zero (threshold_row_of m tag).bound in
    (λ h. omega (arith, lin, own, theirs, none, bound, h), λ h. omega (arith, lin, own, theirs, none, bound, h))

-- a named row asks nothing of the thresholds
named_apart : (row : Row) (y t : List ℤ) (n : ℤ) → length row.coefs ≡ length y → IsRowMetBy (y ++ t) n (with_thresholds row) ↔ IsRowMetBy y n row
named_apart row y t n each =
    let same : dot (row.coefs ++ replicate 5 (pos 0)) (y ++ t) ≡ dot row.coefs y =
    dot-append row.coefs (replicate 5 (pos 0)) y t each ∙ ap (λ c. dot row.coefs y +ℤ c) (dot_comm (replicate 5 (pos 0)) t ∙ dot-zeros t 5)
    ∙ +ℤ_idr (dot row.coefs y) in
    (λ h. subst (λ z. (row.bound *ℤ n) ≤ℤ z) same h, λ h. subst (λ z. (row.bound *ℤ n) ≤ℤ z) (sym same) h)

-- ---- all rows

-- the rows of pairs and thresholds hold where the thresholds separate the pairs
pub pairs_apart : (m : Judgements) (further : ℕ) (y t : List ℤ) (n : ℤ) → IsMatrix m → 2 ≤ m.size → length y ≡ m.size - 1 + further → length t ≡ 5
    → AreNonNegative (take (m.size - 1) y)
    → All (IsRowMetBy (y ++ t) n) (map (closed_threshold_row_of m further) (closed_threshold_rows m)) ↔ Separates m (scale_of (take (m.size - 1) y)) t (pos 0)
pairs_apart m further y t n matrix two each five nonneg =
    let x : List ℤ = take (m.size - 1) y in
    let first : suc (length x) ≡ m.size = omega (arith, length-take (m.size - 1) y, each, two) in
    let R : ThresholdTag → Row = closed_threshold_row_of m further in
    let Of : ThresholdTag → Type 0 = IsThresholdTagOf m in
    let Met : ThresholdTag → Type 0 = λ tag. IsRowMetBy (y ++ t) n (R tag) in
    let Holds : ThresholdTag → Type 0 = TagHolds m (scale_of x) t (pos 0) in
    let tags : List ThresholdTag = closed_threshold_rows m in
    let of : AllByRecursion Of tags = every-closed_threshold_rows m in
    let listed = every_listed m Holds (λ p q in_n one. at_one m x t p q first nonneg in_n one) in
    let separate = separates_iff m (scale_of x) t (pos 0) in
    let there = every_both Of Met Holds (λ tag among met.
    (met_tag m x t (pos 0) tag first five among).0 ((row_apart m further tag y t n matrix among each).0 met)) tags of in
    let back = every_both Of Holds Met (λ tag among holds.
    (row_apart m further tag y t n matrix among each).1 ((met_tag m x t (pos 0) tag first five among).1 holds)) tags of in (
      λ h. separate.0 (listed.0 (there (every_from_map (IsRowMetBy (y ++ t) n) R tags (every_from_All (IsRowMetBy (y ++ t) n) (map R tags) h)))),
      λ h. All-from_every (IsRowMetBy (y ++ t) n) (map R tags) (every-map (IsRowMetBy (y ++ t) n) R tags (back (listed.1 (separate.1 h)))),
    )
  where
    at_one : (m : Judgements) (x t : List ℤ) (p q : ℕ) → suc (length x) ≡ m.size → AreNonNegative x → IsPair m.size p q → (range_at m p q).lo ≡ 1
        → TagHolds m (scale_of x) t (pos 0) (At p q)
    at_one m x t p q first nonneg in_n one =
        let falls = scale_falls m.size x p q first in_n nonneg in
        let none : threshold_at t ((range_at m p q).lo - 1) ≡ pos 0 = ap (λ lo. threshold_at t (lo - 1)) one in
        let unit : pos 0 *ℤ pos (range_at m p q).lo ≡ pos 0 = zero-*ℤ (pos (range_at m p q).lo) in
        omega (arith, lin, falls, none, unit)

-- named rows hold as they did
named_rows_apart : (named : List Row) (y t : List ℤ) (n : ℤ) → All (λ (row : Row). length row.coefs ≡ length y) named
    → All (IsRowMetBy (y ++ t) n) (map with_thresholds named) ↔ All (IsRowMetBy y n) named
named_rows_apart [] y t n each = (λ h. All-nil (IsRowMetBy y n), λ h. All-nil (IsRowMetBy (y ++ t) n))
named_rows_apart (row ∷ rows) y t n each =
    let L : Row → Type 0 = λ row. length row.coefs ≡ length y in
    let one = named_apart row y t n (All-head L row rows each) in
    let rest = named_rows_apart rows y t n (All-tail L row rows each) in
    let more : List Row = map with_thresholds rows in (
      λ h. All-cons (IsRowMetBy y n) row rows (one.0 (All-head (IsRowMetBy (y ++ t) n) (with_thresholds row) more h))
          (rest.0 (All-tail (IsRowMetBy (y ++ t) n) (with_thresholds row) more h)),
      λ h. All-cons (IsRowMetBy (y ++ t) n) (with_thresholds row) more (one.1 (All-head (IsRowMetBy y n) row rows h))
          (rest.1 (All-tail (IsRowMetBy y n) row rows h)),
    )

-- ---- points

-- a closed problem: its points meet the judgements in unit 0 and the named rows
pub record IsClosedForm (m : Judgements) (further : ℕ) (named : List Row) (p : ProblemData) : Type 0 where
  pub vars : p.vars ≡ m.size - 1 + further
  pub costs : length p.cost ≡ p.vars
  pub named_each : All (λ (row : Row). length row.coefs ≡ p.vars) named
  pub rows : (y : List ℤ) (n : ℤ) → length y ≡ p.vars → AreNonNegative y
      → All (IsRowMetBy y n) p.rows ↔ (IsMetInUnit m (pos 0) (scale_of (take (m.size - 1) y)) × All (IsRowMetBy y n) named)

pub closed_form_is : (m : Judgements) (further : ℕ) (named : List Row) (p : ProblemData) → IsMatrix m → 2 ≤ m.size → IsClosedForm m further named p
    → IsThresholdForm p (threshold_form_of m further p.cost named)
closed_form_is m further named p matrix two is = form_from_points p q 5 refl is.costs cut extended
  where
    q : ProblemData
    q = threshold_form_of m further p.cost named

    k : ℕ
    k = m.size - 1

    front_nonneg : (y : List ℤ) → AreNonNegative y → AreNonNegative (take k y)
    front_nonneg y h = ((All-parts (λ c. pos 0 ≤ℤ c) (take k y) (drop k y)).0 (subst AreNonNegative (sym (take-append-drop k y)) h)).0

    each_of : (y : List ℤ) → length y ≡ p.vars → All (λ (row : Row). length row.coefs ≡ length y) named
    each_of y long = subst (λ v. All (λ (row : Row). length row.coefs ≡ v) named) (sym long) is.named_each

    parts : (y t : List ℤ) (n : ℤ) → length y ≡ p.vars → length t ≡ 5 → IsFeasible q (y ++ t) n → IsFeasible p y n
    parts y t n long five h =
        let each : length y ≡ k + further = long ∙ is.vars in
        let signs = (All-parts (λ c. pos 0 ≤ℤ c) y t).0 h.nonneg in
        let all = (All-parts (IsRowMetBy (y ++ t) n) (map (closed_threshold_row_of m further) (closed_threshold_rows m))
        (map with_thresholds named)).0 h.meets in
        let first : suc (length (take k y)) ≡ m.size = omega (arith, length-take k y, each, two) in
        let low = front_nonneg y signs.0 in
        let apart = (pairs_apart m further y t n matrix two each five low).0 all.0 in
        let met = met_from_separates m (scale_of (take k y)) t (pos 0) matrix signs.1 (λ a b in_n. scale_falls m.size (take k y) a b first in_n low) apart in
        record {
          den_pos = h.den_pos;
          one_each = long;
          nonneg = signs.0;
          meets = (is.rows y n long signs.0).1 (met, (named_rows_apart named y t n (each_of y long)).0 all.1);
        }

    cut : (z : List ℤ) (n : ℤ) → IsFeasible q z n → IsFeasible p (take p.vars z) n
    cut z n h =
        let v : ℕ = p.vars in
        let long : length z ≡ v + 5 = h.one_each ∙ ap (λ j. j + 5) (sym is.vars) in
        parts (take v z) (drop v z) n (length-take v z ∙ omega (arith, long)) (length-drop v z ∙ omega (arith, long))
        (subst (λ y. IsFeasible q y n) (sym (take-append-drop v z)) h)

    extended : (y : List ℤ) (n : ℤ) → IsFeasible p y n → (t : List ℤ) × IsFeasible q (y ++ t) n
    extended y n h =
        let w : List ℤ = scale_of (take k y) in
        let t : List ℤ = cuts m w (pos 0) in
        let each : length y ≡ k + further = h.one_each ∙ is.vars in
        let both = (is.rows y n h.one_each h.nonneg).0 h.meets in
        let apart = separates_from_met m w (pos 0) matrix both.0 in (
          t,
          record {
            den_pos = h.den_pos;
            one_each = length-append y t ∙ ap (λ j. j + 5) each;
            nonneg = All-append (λ c. pos 0 ≤ℤ c) y t h.nonneg (cuts_nonneg m w (pos 0));
            meets = All-append (IsRowMetBy (y ++ t) n) (map (closed_threshold_row_of m further) (closed_threshold_rows m)) (map with_thresholds named)
                ((pairs_apart m further y t n matrix two each refl (front_nonneg y h.nonneg)).1 apart)
                ((named_rows_apart named y t n (each_of y h.one_each)).1 both.1);
          },
        )

-- ---- the form is a problem

-- a row of pairs and thresholds
closed_row_fits : (m : Judgements) (further : ℕ) (tag : ThresholdTag) → IsMatrix m → IsThresholdTagOf m tag
    → IsRow (m.size - 1 + further + 5) (closed_threshold_row_of m further tag)
closed_row_fits m further tag matrix of =
    let k : ℕ = m.size - 1 in
    let c : List ℤ = (threshold_row_of m tag).coefs in
    let fits : IsRow (m.size - 1 + 5) (threshold_row_of m tag) = row_fits m matrix tag of in
    let zeros : List ℤ = replicate further (pos 0) in
    let in_range = (All-parts IsInRange (take k c) (drop k c)).0 (subst (All IsInRange) (sym (take-append-drop k c)) fits.coefs_in_range) in
    let zero : IsInRange (pos 0) = small_in_range (pos 0) (omega arith) in
    record {
      one_each = length-append (take k c ++ zeros) (drop k c)
          ∙ omega (arith, length-append (take k c) zeros, length-replicate further (pos 0), length-take k c, length-drop k c, fits.one_each);
      coefs_in_range = All-append IsInRange (take k c ++ zeros) (drop k c) (All-append IsInRange (take k c) zeros in_range.0 (All-replicate IsInRange further (pos 0) zero))
          in_range.1;
      bound_in_range = zero;
    }

-- a named row
named_row_fits : (v : ℕ) (row : Row) → IsRow v row → IsRow (v + 5) (with_thresholds row)
named_row_fits v row fits = record {
  one_each = length-append row.coefs (replicate 5 (pos 0)) ∙ omega (arith, fits.one_each, length-replicate 5 (pos 0));
  coefs_in_range = All-append IsInRange row.coefs (replicate 5 (pos 0)) fits.coefs_in_range
      (All-replicate IsInRange 5 (pos 0) (small_in_range (pos 0) (omega arith)));
  bound_in_range = fits.bound_in_range;
}

pub IsProblem-threshold_form_of : (m : Judgements) (further : ℕ) (cost : List ℤ) (named : List Row) → IsMatrix m → length cost ≡ m.size - 1 + further
    → AreNonNegative cost → All IsInRange cost → All (IsRow (m.size - 1 + further)) named → IsProblem (threshold_form_of m further cost named)
IsProblem-threshold_form_of m further cost named matrix each nonneg in_range fit =
    let v : ℕ = m.size - 1 + further in
    let zeros : List ℤ = replicate 5 (pos 0) in
    record {
      one_each = length-append cost zeros ∙ omega (arith, each, length-replicate 5 (pos 0));
      cost_nonneg = All-append (λ x. pos 0 ≤ℤ x) cost zeros nonneg (All-replicate (λ x. pos 0 ≤ℤ x) 5 (pos 0) (≤ℤ_refl (pos 0)));
      cost_in_range = All-append IsInRange cost zeros in_range (All-replicate IsInRange 5 (pos 0) (small_in_range (pos 0) (omega arith)));
      rows_fit = All-append (IsRow (v + 5)) (map (closed_threshold_row_of m further) (closed_threshold_rows m)) (map with_thresholds named)
          (All-map (IsRow (v + 5)) (closed_threshold_row_of m further) (closed_threshold_rows m)
          (All-weaker (IsThresholdTagOf m) (λ tag. IsRow (v + 5) (closed_threshold_row_of m further tag)) (λ tag of. closed_row_fits m further tag matrix of)
          (closed_threshold_rows m) (All-closed_threshold_rows m)))
          (All-map (IsRow (v + 5)) with_thresholds named (All-weaker (IsRow v) (λ row. IsRow (v + 5) (with_thresholds row)) (named_row_fits v) named fit));
    }

-- the parts that the code makes
pub threshold_form_is : (m : Judgements) (further n : ℕ) (cost given : List ℤ) (named compared rows : List Row) → n ≡ m.size
    → cost ≡ given ++ replicate 5 (pos 0) → compared ≡ map (closed_threshold_row_of m further) (closed_threshold_rows m)
    → rows ≡ compared ++ map with_thresholds named → problem_of (n - 1 + further + 5) cost rows ≡ threshold_form_of m further given named
threshold_form_is m further n cost given named compared rows size costs pairs all =
    ap₂ (problem_of (n - 1 + further + 5)) costs (all ∙ ap (λ l. l ++ map with_thresholds named) pairs)
    ∙ ap (λ s. problem_of (s - 1 + further + 5) (given ++ replicate 5 (pos 0))
    (map (closed_threshold_row_of m further) (closed_threshold_rows m) ++ map with_thresholds named)) size
