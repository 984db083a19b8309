-- The interval that the rows leave is the slack of an element.
use lib.IntN.{*ℤ_comm, zero-*ℤ}
use Rattle.std.specs.Prelude.{◌==◌}
use Rattle.std.specs.Result.{IfOk}
use Rattle.std.proofs.Common.{◌≡◌, ◌≢◌, ◌⊎◌, inl, inr, ◌↔◌, ℕ, ◌-◌, ◌<◌, ◌≤◌, ◌+◌, true, false, ℤ, pos, ◌*ℤ◌, ◌≤ℤ◌, ◌-ℤ◌, List, [], ◌∷◌, ◌++◌, length, get_or, set, Result, Ok, Err, OnOk, OnErr, refl, sym, ap, subst, subst₂, ◌∙◌, arith}
use Rattle.std.specs.List.{AllByRecursion, range_with_len}
use Rattle.std.proofs.lemmas.List.{get_or-set_same, get_or-set_other, get_or_default, length-set, set-get_or}
use Rattle.std.proofs.lemmas.Bool.Decides.{nat_tests}
use Rattle.std.proofs.lemmas.List.Elements.{All-get_or}
use Rattle.std.proofs.lemmas.Result.{IfOk-weaker, IfOk-at_ok}
use Rattle.integers.specs.Fraction.{Fraction, IsFraction, AreFractions, FractionAtMost, SameFraction, IsWriting, fraction_of, common_den, common_nums}
use Rattle.integers.specs.Vector.{scale}
use Rattle.integers.proofs.Laws.{lin, *ℤ-one}
use Rattle.integers.proofs.Order.{mul_pos, le_of_lt, le_antisymm, cancel_le, zero_of_mul}
use Rattle.integers.proofs.Ring.{con, neg, ◌⊖◌, ◌⊗◌, ◌≗◌, ◌≼◌, ◌✶◌, ◌⇐◌, ring1, ring2, combine6}
use Rattle.integers.proofs.Fractions.{SameFractions-over_scale}
use Rattle.integers.proofs.VectorLaws.{length-scale, get_or-scale}
use Rattle.integers.proofs.FractionSums.{IsFraction-whole}
use Rattle.integers.proofs.Writings.{IsWriting-length, IsWriting-at, common_writing}
use Rattle.frac128.specs.declared.number.TooWide.{TooWide}
use Rattle.judgement_matrix.specs.Matrix.{Judgements}
use Rattle.judgement_matrix.specs.Scale.{value_at, IsMetBy}
use Rattle.judgement_matrix.specs.Rows.{RowHolds, lower_rows, zero_rows, cross_rows, order_rows, rows}
use Rattle.judgement_matrix.specs.declared.tag.Tag.{Tag}
use Rattle.judgement_matrix.specs.declared.tag.Tag.TheVariants.{Order}
use Rattle.judgement_matrix.proofs.AmongLemmas.{every-rows}
use Rattle.judgement_matrix.proofs.EveryLemmas.{every-append_right, every_from_map, every_in_range}
use Rattle.judgement_matrix.proofs.FitLemmas.{met_from_rows, rows_from_met}
use Rattle.judgement_matrix.proofs.ScaleLemmas.{IsMetBy-same}
use Rattle.value_scale.specs.Slack.{replaced, IsAllowed, IsIn, IsSlackOf, MeetValues, HasWideEnd, IsTooWideToWork}
use Rattle.value_scale.specs.Narrowing.{from_next, with_rows, only_zero, checked_slack}
use Rattle.value_scale.specs.declared.slacks.Interval.{Interval}
use Rattle.value_scale.proofs.IntervalLemmas.{Holds, same_members, AllWith, with_rows_members, Refuses, with_rows_refuses}

-- ---- an element that isn't the last

module _ (m : Judgements) (w : List ℤ) (n : ℤ) (x : ℕ) (met : IsMetBy m w n) (low : 1 ≤ x) (above : x < m.size) where
  -- the numbers with t in place of that of x
  last_stays : (t : Fraction) → value_at (replaced w n x t) m.size ≡ pos 0
  last_stays t =
      let apart : m.size - 1 ≢ x - 1 = λ h. absurd (omega arith) in
      get_or-set_other (scale t.den w) (x - 1) (m.size - 1) (t.num *ℤ n) (pos 0) apart ∙ get_or-scale t.den w (m.size - 1) ∙ ap (λ z. t.den *ℤ z) met.scale.last
      ∙ ring1 (λ d. d ⊗ con (pos 0) ≗ con (pos 0)) refl t.den

  -- a value is allowed where all rows hold with it
  allowed_by_rows : (t : Fraction) → IsFraction t → IsAllowed m w n x t ↔ AllByRecursion (RowHolds m (replaced w n x t) (n *ℤ t.den)) (rows m)
  allowed_by_rows t p = (
    λ h. rows_from_met m (replaced w n x t) (n *ℤ t.den) (le_of_lt (pos 0) (n *ℤ t.den) (mul_pos n t.den met.scale.den_pos p)) h.meets,
    λ h. record {
      scale = record {
        den_pos = mul_pos n t.den met.scale.den_pos p;
        each = length-set (scale t.den w) (x - 1) (t.num *ℤ n) ∙ length-scale t.den w ∙ met.scale.each;
        last = last_stays t;
      };
      meets = met_from_rows m (replaced w n x t) (n *ℤ t.den) h;
    },
  )

  -- the order row of x is one of them
  order_row : (P : Tag → Type 0) → AllByRecursion P (rows m) → P (Order x)
  order_row P h =
      let orders = every-append_right P (lower_rows m ++ zero_rows m ++ cross_rows m) (order_rows m) h in
      every_in_range (λ p. P (Order p)) 1 (m.size - 1) x (every_from_map P (λ p. Order p) (range_with_len 1 (m.size - 1)) orders) low (omega arith)

  -- it holds from the value of the next element on
  order_from : (f t : Fraction) → IsFraction f → SameFraction (record { num = value_at w (x + 1); den = n }) f
      → RowHolds m (replaced w n x t) (n *ℤ t.den) (Order x) ↔ FractionAtMost f t
  order_from f t pf is_f =
      let in_w : x - 1 < length w = omega (arith, met.scale.each) in
      let here : value_at (replaced w n x t) x ≡ t.num *ℤ n = get_or-set_same (scale t.den w) (x - 1) (t.num *ℤ n) (pos 0)
      (omega (arith, length-scale t.den w)) in
      let apart : x + 1 - 1 ≢ x - 1 = λ h. absurd (omega arith) in
      let next : value_at (replaced w n x t) (x + 1) ≡ t.den *ℤ value_at w (x + 1) = get_or-set_other (scale t.den w) (x - 1) (x + 1 - 1) (t.num *ℤ n)
      (pos 0) apart ∙ get_or-scale t.den w (x + 1 - 1) in
      let y = value_at w (x + 1) in (
        λ h.
            let s : pos 0 ≤ℤ (t.num *ℤ n -ℤ t.den *ℤ y) = rw (here, next) at h in
            cancel_le (f.num *ℤ t.den) (t.num *ℤ f.den) n met.scale.den_pos
            (combine6 (λ y n a c p d. a ⊗ d ⊗ n ≼ p ⊗ c ⊗ n ⇐ c ✶ (con (pos 0) ≼ p ⊗ n ⊖ d ⊗ y) ∷ neg d ✶ (y ⊗ c ≗ a ⊗ n) ∷ []) refl y n f.num f.den t.num
            t.den (le_of_lt (pos 0) f.den pf) s is_f),
        λ h.
            rw (here, next)
            (cancel_le (pos 0) (t.num *ℤ n -ℤ t.den *ℤ y) f.den pf
            (combine6 (λ y n a c p d. con (pos 0) ⊗ c ≼ (p ⊗ n ⊖ d ⊗ y) ⊗ c ⇐ n ✶ (a ⊗ d ≼ p ⊗ c) ∷ d ✶ (y ⊗ c ≗ a ⊗ n) ∷ []) refl y n f.num f.den t.num t.den
            (le_of_lt (pos 0) n met.scale.den_pos) h is_f)),
      )

-- the value of the next element, from which the rows narrow
abbrev next_value : List Fraction → ℕ → Fraction
next_value fs x = get_or fs x (fraction_of (pos 0))

-- the rows leave the slack, between fractions
slack_over : (m : Judgements) (fs : List Fraction) (w : List ℤ) (n : ℤ) (x : ℕ) → AreFractions fs → IsWriting fs w n → IsMetBy m w n → 1 ≤ x → x < m.size
    → IfOk (with_rows m fs x (rows m) (from_next (next_value fs x))) (λ out. Holds out (IsAllowed m w n x))
slack_over m fs w n x are writing met low above =
    let each = IsWriting-length fs w n writing in
    let next = next_value fs x in
    let nought = fraction_of (pos 0) in
    let within : x ≤ length w = omega (arith, met.scale.each) in
    let in_fs : x < length fs = omega (arith, met.scale.each, each) in
    let pf : IsFraction next = All-get_or IsFraction fs x nought in_fs are in
    let e : x + 1 - 1 ≡ x = omega arith in
    let at_x : SameFraction (record { num = get_or w x (pos 0); den = n }) next = IsWriting-at fs w n x (pos 0) nought in_fs writing in
    let is_f : SameFraction (record { num = value_at w (x + 1); den = n }) next = rw e at_x in
    let P : Fraction → Type 0 = λ t. RowHolds m (replaced w n x t) (n *ℤ t.den) (Order x) in
    let AllHold : Fraction → Type 0 = λ t. P t × AllWith m fs w n x are writing.same writing.den_pos low within (rows m) t in
    let start : Holds (from_next next) P = record {
      low_pos = pf;
      high_pos = tt;
      exactly = λ t p. let o = order_from m w n x met low above next t pf is_f in (λ h. (o.0 h, tt), λ h. o.1 h.0);
    } in
    IfOk-weaker (with_rows m fs x (rows m) (from_next next)) (λ out. Holds out AllHold) (λ out. Holds out (IsAllowed m w n x))
    (λ out h. same_members out AllHold (IsAllowed m w n x) (λ t p.
    let a = allowed_by_rows m w n x met low above t p in (
      λ k. a.1 k.1,
      λ k. let all = a.0 k in (order_row m w n x met low above (RowHolds m (replaced w n x t) (n *ℤ t.den)) all, all),
    )) h)
    (with_rows_members m fs w n x are writing.same writing.den_pos low within (rows m) (from_next next) P (every-rows m)
    (rows_from_met m w n (le_of_lt (pos 0) n writing.den_pos) met.meets) start)

-- what is so in each writing is so of what is answered
in_each_writing : (m : Judgements) (fs : List Fraction) (x : ℕ) (r : Result Interval TooWide)
    → ((w : List ℤ) (n : ℤ) → IsWriting fs w n → IfOk r (λ out. Holds out (IsAllowed m w n x))) → IfOk r (IsSlackOf m fs x)
in_each_writing m fs x (Ok i) h = λ w n writing. (h w n writing).exactly
in_each_writing m fs x (Err e) h = tt

slack_is : (m : Judgements) (fs : List Fraction) (x : ℕ) → AreFractions fs → MeetValues m fs → 1 ≤ x → x < m.size
    → IfOk (with_rows m fs x (rows m) (from_next (next_value fs x))) (IsSlackOf m fs x)
slack_is m fs x are met low above =
    in_each_writing m fs x (with_rows m fs x (rows m) (from_next (next_value fs x)))
    (λ w n writing. slack_over m fs w n x are writing (met w n writing) low above)

-- so the rows are worked that the definition says
pub worked_is : (m : Judgements) (fs : List Fraction) (x : ℕ) (next : Fraction) → x < length fs → x < m.size → next ≡ get_or fs x next
    → with_rows m fs x (rows m) (from_next next) ≡ checked_slack m fs x
worked_is m fs x next inside above is_next =
    let other : (x == m.size) ≡ false = grind (arith, nat_tests) in
    let same = is_next ∙ get_or_default fs x next (fraction_of (pos 0)) inside in
    rw other (ap (λ f. with_rows m fs x (rows m) (from_next f)) same)

-- ---- the last element

zero_in : (a d : ℤ) → a ≡ pos 0 → ((pos 0 *ℤ d) ≤ℤ (a *ℤ pos 1)) × ((a *ℤ pos 1) ≤ℤ (pos 0 *ℤ d))
zero_in a d h = (omega (arith, lin, h, zero-*ℤ d, *ℤ-one a), omega (arith, lin, h, zero-*ℤ d, *ℤ-one a))

zero_from : (a d : ℤ) → (pos 0 *ℤ d) ≤ℤ (a *ℤ pos 1) → (a *ℤ pos 1) ≤ℤ (pos 0 *ℤ d) → a ≡ pos 0
zero_from a d up down = le_antisymm a (pos 0) (omega (arith, lin, down, zero-*ℤ d, *ℤ-one a)) (omega (arith, lin, up, zero-*ℤ d, *ℤ-one a))

slack_last : (m : Judgements) (fs : List Fraction) → 1 ≤ m.size → MeetValues m fs
    → IsSlackOf m fs m.size only_zero
slack_last m fs least met w n writing t p = (there, back)
  where
    is_met : IsMetBy m w n
    is_met = met w n writing

    there : IsAllowed m w n m.size t → IsIn only_zero t
    there h =
        let in_w : m.size - 1 < length (scale t.den w) = omega (arith, length-scale t.den w, is_met.scale.each) in
        let none : t.num *ℤ n ≡ pos 0 = sym (get_or-set_same (scale t.den w) (m.size - 1) (t.num *ℤ n) (pos 0) in_w) ∙ h.scale.last in
        let zero_num : t.num ≡ pos 0 = zero_of_mul t.num n writing.den_pos none in
        zero_in t.num t.den zero_num

    back : IsIn only_zero t → IsAllowed m w n m.size t
    back k =
        let up : (pos 0 *ℤ t.den) ≤ℤ (t.num *ℤ pos 1) = k.0 in
        let down : (t.num *ℤ pos 1) ≤ℤ (pos 0 *ℤ t.den) = k.1 in
        let zero_num : t.num ≡ pos 0 = zero_from t.num t.den up down in
        let own : t.num *ℤ n ≡ get_or (scale t.den w) (m.size - 1) (pos 0) =
        rw zero_num (ring2 (λ n d. con (pos 0) ⊗ n ≗ d ⊗ con (pos 0)) refl n t.den) ∙ ap (λ z. t.den *ℤ z) (sym is_met.scale.last)
        ∙ sym (get_or-scale t.den w (m.size - 1)) in
        let same : replaced w n m.size t ≡ scale t.den w = ap (λ z. set (scale t.den w) (m.size - 1) z) own ∙ set-get_or (scale t.den w) (m.size - 1) (pos 0) in
        subst₂ (λ v k. IsMetBy m v k) (sym same) (*ℤ_comm t.den n)
        (IsMetBy-same m w (scale t.den w) n (t.den *ℤ n) (mul_pos t.den n p writing.den_pos) (SameFractions-over_scale t.den w n) is_met)

-- ---- the formula

last_or_before : (x n : ℕ) → x ≤ n → (x < n) ⊎ (x ≡ n)
last_or_before x n h = grind (arith, h)

-- what holds where the rows are worked, and for the last element, holds of what the formula gives
by_place : (m : Judgements) (fs : List Fraction) (x : ℕ) (P : ℕ → Interval → Type 0) → x ≤ m.size
    → (x < m.size → IfOk (with_rows m fs x (rows m) (from_next (next_value fs x))) (P x)) → P m.size only_zero → IfOk (checked_slack m fs x) (P x)
by_place m fs x P most before last = at (last_or_before x m.size most)
  where
    at : (x < m.size) ⊎ (x ≡ m.size) → IfOk (checked_slack m fs x) (P x)
    at (inl above) = let other : (x == m.size) ≡ false = grind (arith, nat_tests) in rw other (before above)
    at (inr is) =
        let own : (m.size == m.size) ≡ true = grind (arith, nat_tests) in
        let there : IfOk (checked_slack m fs m.size) (P m.size) = rw own last in
        subst (λ y. IfOk (checked_slack m fs y) (P y)) (sym is) there

-- what the formula gives is the slack
pub checked_slack-ok : (m : Judgements) (fs : List Fraction) (x : ℕ) → AreFractions fs → MeetValues m fs → 1 ≤ x → x ≤ m.size
    → IfOk (checked_slack m fs x) (IsSlackOf m fs x)
checked_slack-ok m fs x are met low most =
    by_place m fs x (IsSlackOf m fs) most (λ above. slack_is m fs x are met low above) (slack_last m fs (omega arith) met)

pub checked_slack-means : (m : Judgements) (fs : List Fraction) (x : ℕ) (interval : Interval) → AreFractions fs → MeetValues m fs → 1 ≤ x → x ≤ m.size
    → checked_slack m fs x ≡ Ok interval → IsSlackOf m fs x interval
checked_slack-means m fs x interval are met low most is = IfOk-at_ok (IsSlackOf m fs x) is (checked_slack-ok m fs x are met low most)

-- its lower end has a positive denominator
pub checked_slack-low : (m : Judgements) (fs : List Fraction) (x : ℕ) (interval : Interval) → AreFractions fs → MeetValues m fs → 1 ≤ x → x ≤ m.size
    → checked_slack m fs x ≡ Ok interval → IsFraction interval.low
checked_slack-low m fs x interval are met low most is =
    let writing = common_writing fs are in
    let w = common_nums fs in
    let n = common_den fs in
    IfOk-at_ok (λ out. IsFraction out.low) is
    (by_place m fs x (λ y out. IsFraction out.low) most
    (λ above. IfOk-weaker (with_rows m fs x (rows m) (from_next (next_value fs x))) (λ out. Holds out (IsAllowed m w n x)) (λ out. IsFraction out.low)
    (λ out h. h.low_pos) (slack_over m fs w n x are writing (met w n writing) low above))
    (IsFraction-whole (pos 0)))

-- ---- refusals

pub fits_is : (m : Judgements) (fs : List Fraction) (x : ℕ) (i : Interval) → OnOk (with_rows m fs x (rows m) i) (¬ IsTooWideToWork m fs x)
fits_is m fs x i = by_answer (with_rows m fs x (rows m) i) (with_rows_refuses m fs x (rows m) i)
  where
    by_answer : (r : Result Interval TooWide) → Refuses r (HasWideEnd m fs x (rows m)) → OnOk r (¬ IsTooWideToWork m fs x)
    by_answer (Ok j) h = λ k. h k.1
    by_answer (Err e) h = tt

pub too_wide_is : (m : Judgements) (fs : List Fraction) (x : ℕ) (i : Interval) → x < m.size → OnErr (with_rows m fs x (rows m) i) (IsTooWideToWork m fs x)
too_wide_is m fs x i above = by_answer (with_rows m fs x (rows m) i) (with_rows_refuses m fs x (rows m) i)
  where
    by_answer : (r : Result Interval TooWide) → Refuses r (HasWideEnd m fs x (rows m)) → OnErr r (IsTooWideToWork m fs x)
    by_answer (Ok j) h = tt
    by_answer (Err e) h = (above, h)
