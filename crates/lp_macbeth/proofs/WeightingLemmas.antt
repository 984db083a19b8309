-- The closed problem of a weighting: what its numbers are, what its points are, and what they cost.
use lib.IntN.{zero-*ℤ, *ℤ-zero}
use Rattle.std.specs.Prelude.{reverse}
use Rattle.std.specs.Result.{IfOk}
use Rattle.std.specs.Int.Signed.{≤ℤ_refl}
use Rattle.std.proofs.Common.{◌≡◌, ◌↔◌, ℕ, suc, ◌+◌, ◌-◌, ◌<◌, ◌≤◌, ℤ, pos, neg_ℤ, ◌+ℤ◌, ◌-ℤ◌, ◌*ℤ◌, ◌≤ℤ◌, ◌<ℤ◌, List, [], ◌∷◌, ◌++◌, length, map, drop, get_or, All, refl, sym, ap, subst, ◌∙◌, Ok, arith}
use Rattle.std.proofs.lemmas.List.{length-append, length-map, length-reverse, get_or-map, reverse-append, reverse-reverse}
use Rattle.std.proofs.lemmas.List.Elements.{All-append, All-cons, All-nil, All-head, All-tail, All-map}
use Rattle.std.proofs.lemmas.Result.{IfOk-at_ok}
use Rattle.integers.specs.Fraction.{Fraction, IsFraction, AreFractions, SameFraction, SameFractions, FractionAtMost, IsWriting, fraction_of, fraction_difference, over}
use Rattle.integers.specs.Vector.{dot, int_sum, running_sums, AreNonNegative}
use Rattle.integers.proofs.Fractions.{SameFractions-length, SameFractions-trans, AreFractions-over, length-over}
use Rattle.integers.proofs.Laws.{lin}
use Rattle.integers.proofs.Lists.{All-parts}
use Rattle.integers.proofs.Order.{mul_pos, cancel_eq}
use Rattle.integers.proofs.Ring.{con, neg, ◌⊕◌, ◌⊖◌, ◌⊗◌, ◌≗◌, ◌✶◌, ◌⇐◌, ring1, ring4, combine8, combine10}
use Rattle.integers.proofs.Writings.{IsWriting-at}
use Rattle.frac128.specs.Problem.{ProblemData, IsRowMetBy, IsFeasible, cost_at}
use Rattle.frac128.specs.Range.{IsInRange}
use Rattle.frac128.proofs.FormulaLemmas.{IfOk-bind}
use Rattle.judgement_matrix.specs.Matrix.{Judgements}
use Rattle.judgement_matrix.specs.Scale.{IsScale, IsMetInUnit}
use Rattle.judgement_matrix.specs.declared.tag.Tag.{Tag}
use Rattle.lp_macbeth.specs.Closed.{closed_tags}
use Rattle.lp_macbeth.specs.Gaps.{heights, scale_of, gaps_of}
use Rattle.lp_macbeth.specs.Rows.{row_of}
use Rattle.integers.specs.Counting.{IsOrder}
use Rattle.lp_macbeth.specs.ClosedWeighting.{in_order, weighting_row_of, falling, sum_up, sum_down, weighting_problem_of, least_of, checked_excesses, checked_multiple, checked_numerators, checked_costs, checked_weighting, differences_from, weights_of, IsLeastOf, AreCostNumbers, weighted_gap, IsClosedWeighting}
use Rattle.lp_macbeth.specs.declared.weighting.ClosedWeighting.{ClosedWeighting}
use Rattle.lp_macbeth.proofs.ClosedLemmas.{compared_iff_met, two_rows}
use Rattle.lp_macbeth.proofs.CostLemmas.{AreExcesses, excesses_are, IsCommon, multiple_is, AreNumerators, numerators_are, AreCosts, costs_are}
use Rattle.lp_macbeth.proofs.GapLemmas.{scale_of-gaps_of, gaps_of-scale_of}
use Rattle.lp_macbeth.proofs.LeastGapLemmas.{least_is}
use Rattle.lp_macbeth.proofs.RangeLemmas.{small_in_range}
use Rattle.lp_macbeth.proofs.ScaleLemmas.{dot-opposite, IsScale-scale_of, met_where_rows_are}
use Rattle.lp_macbeth.proofs.WeightSumLemmas.{length-running_sums, running_sums_nonneg, All-reverse, dot-costs, sum-weights_of}

-- ---- the numbers

-- the common denominator is above 0 and in range, and the numbers are the excesses over it
pub record AreNumbers (gaps : List Fraction) (least : Fraction) (l : ℤ) (numbers : List ℤ) : Type 0 where
  pub positive : pos 0 <ℤ l
  pub in_range : IsInRange l
  pub nonneg : AreNonNegative numbers
  pub same : SameFractions (over numbers l) (differences_from least gaps)

-- and the costs are their sums in order
pub record AreWeighed (order : List ℕ) (gaps : List Fraction) (least : Fraction) (l : ℤ) (numbers cost : List ℤ) : Type 0 where
  pub are : AreNumbers gaps least l numbers
  pub costs : AreCosts (in_order (pos 0) order numbers) cost

-- numerators over a common denominator are the excesses
pub numerators_same : (least : Fraction) (gaps es : List Fraction) (l : ℤ) (numbers : List ℤ) → IsFraction least → AreFractions gaps
    → AreExcesses least gaps es → pos 0 <ℤ l → AreNumerators l es numbers → SameFractions (over numbers l) (differences_from least gaps)
numerators_same least gaps es l numbers pl pg e positive n =
    SameFractions-trans (over numbers l) es (differences_from least gaps) (AreFractions-over numbers l positive) e.fractions (differences_positive gaps pg)
    n.same e.same
  where
    differences_positive : (gaps : List Fraction) → AreFractions gaps → AreFractions (differences_from least gaps)
    differences_positive gaps pg = All-map IsFraction (λ f. fraction_difference f least) gaps
        (λ k d below. mul_pos (get_or gaps k d).den least.den (pg k d below) pl)

-- the numbers that the formula gives
numbers_are : (least : Fraction) (gaps es : List Fraction) (l : ℤ) (numbers : List ℤ) → IsFraction least → AreFractions gaps → AreExcesses least gaps es
    → IsCommon (pos 1) es l → AreNumerators l es numbers → AreNumbers gaps least l numbers
numbers_are least gaps es l numbers pl pg e c n =
    record { positive = c.positive; in_range = c.in_range; nonneg = n.nonneg; same = numerators_same least gaps es l numbers pl pg e c.positive n }

one_above_zero : pos 0 <ℤ pos 1
one_above_zero = omega (arith, lin)

one_in_range : IsInRange (pos 1)
one_in_range = small_in_range (pos 1) (omega arith)

pub numbers_given : (gaps : List Fraction) (least : Fraction) (es : List Fraction) (l : ℤ) (numbers : List ℤ) → 1 ≤ length gaps → AreFractions gaps
    → least ≡ least_of gaps
    → checked_excesses least gaps ≡ Ok es → checked_multiple (pos 1) es ≡ Ok l → checked_numerators l es ≡ Ok numbers → AreNumbers gaps least l numbers
numbers_given gaps least es l numbers some pg is a b c =
    let lowest = least_is gaps some pg in
    let pl : IsFraction least = subst IsFraction (sym is) lowest.0 in
    let below : All (FractionAtMost least) gaps = subst (λ f. All (FractionAtMost f) gaps) (sym is) lowest.1.none_below in
    let e : AreExcesses least gaps es = IfOk-at_ok (AreExcesses least gaps) a (excesses_are least gaps pl pg below) in
    let m : IsCommon (pos 1) es l = IfOk-at_ok (IsCommon (pos 1) es) b (multiple_is (pos 1) es one_above_zero one_in_range e.fractions) in
    let n : AreNumerators l es numbers = IfOk-at_ok (AreNumerators l es) c (numerators_are l es m.positive e.fractions e.nonneg m.of_each) in
    numbers_are least gaps es l numbers pl pg e m n

-- one number for each gap
pub length-numbers : (least : Fraction) (gaps : List Fraction) (l : ℤ) (numbers : List ℤ) → SameFractions (over numbers l) (differences_from least gaps)
    → length numbers ≡ length gaps
length-numbers least gaps l numbers same =
    sym (length-over numbers l) ∙ SameFractions-length (over numbers l) (differences_from least gaps) same ∙ length-map gaps
    (λ f. fraction_difference f least)

-- what holds of all holds in any order
pub All-in_order : {A : Type 0} (P : A → Type 0) (none : A) (order : List ℕ) (xs : List A) → All (λ c. c < length xs) order → All P xs
    → All P (in_order none order xs)
All-in_order P none order xs within all = All-map P (λ c. get_or xs c none) order (λ k d below. all (get_or order k d) none (within k d below))

pub length-in_order : {A : Type 0} (none : A) (order : List ℕ) (xs : List A) → length (in_order none order xs) ≡ length order
length-in_order none order xs = length-map order (λ c. get_or xs c none)

-- the costs of a problem
pub record AreGapCosts (count : ℕ) (cost : List ℤ) : Type 0 where
  pub each : length cost ≡ count
  pub nonneg : AreNonNegative cost
  pub in_range : All IsInRange cost

pub gap_costs_are : (order : List ℕ) (gaps : List Fraction) (least : Fraction) (l : ℤ) (numbers cost : List ℤ) → IsOrder (length gaps) order
    → AreWeighed order gaps least l numbers cost → AreGapCosts (length gaps) cost
gap_costs_are order gaps least l numbers cost o h =
    let listed = in_order (pos 0) order numbers in
    let sums = running_sums (pos 0) listed in
    let within = subst (λ k. All (λ c. c < k) order) (sym (length-numbers least gaps l numbers h.are.same)) o.within in
    let low = All-in_order (λ z. pos 0 ≤ℤ z) (pos 0) order numbers within h.are.nonneg in
    record {
      each = ap length h.costs.is ∙ length-reverse sums ∙ length-running_sums (pos 0) listed ∙ length-in_order (pos 0) order numbers ∙ o.each;
      nonneg = subst AreNonNegative (sym h.costs.is) (All-reverse (λ z. pos 0 ≤ℤ z) sums (running_sums_nonneg (pos 0) listed (≤ℤ_refl (pos 0)) low));
      in_range = h.costs.in_range;
    }

pub gap_costs_given : (order : List ℕ) (gaps : List Fraction) (least : Fraction) (es : List Fraction) (l : ℤ) (numbers cost : List ℤ) → 1 ≤ length gaps
    → AreFractions gaps → IsOrder (length gaps) order → least ≡ least_of gaps
    → checked_excesses least gaps ≡ Ok es → checked_multiple (pos 1) es ≡ Ok l → checked_numerators l es ≡ Ok numbers
    → checked_costs (in_order (pos 0) order numbers) ≡ Ok cost → AreGapCosts (length gaps) cost
gap_costs_given order gaps least es l numbers cost some pg o is a b c d =
    gap_costs_are order gaps least l numbers cost o
    (record {
      are = numbers_given gaps least es l numbers some pg is a b c;
      costs = IfOk-at_ok (AreCosts (in_order (pos 0) order numbers)) d
          (costs_are (in_order (pos 0) order numbers));
    })

-- ---- what the formula gives

-- the least gap, numbers and costs, and the problem with these costs
pub record IsWeighting (m : Judgements) (order : List ℕ) (gaps : List Fraction) (closed : ClosedWeighting) : Type 0 where
  pub least : closed.least ≡ least_of gaps
  pub problem : closed.problem ≡ weighting_problem_of m closed.problem.cost
  pub weighed : (numbers : List ℤ) × AreWeighed order gaps closed.least closed.scale numbers closed.problem.cost

pub weighting_is : (m : Judgements) (order : List ℕ) (gaps : List Fraction) → 1 ≤ length gaps → AreFractions gaps
    → IfOk (checked_weighting m order gaps) (IsWeighting m order gaps)
unfolding checked_weighting
weighting_is m order gaps some pg =
    let mu = least_of gaps in
    let lowest = least_is gaps some pg in
    IfOk-bind (checked_excesses mu gaps) _ (AreExcesses mu gaps) (IsWeighting m order gaps) (excesses_are mu gaps lowest.0 pg lowest.1.none_below) (λ es e.
    IfOk-bind (checked_multiple (pos 1) es) _ (IsCommon (pos 1) es) (IsWeighting m order gaps)
    (multiple_is (pos 1) es one_above_zero one_in_range e.fractions) (λ l c.
    IfOk-bind (checked_numerators l es) _ (AreNumerators l es) (IsWeighting m order gaps) (numerators_are l es c.positive e.fractions e.nonneg c.of_each)
    (λ numbers n.
    IfOk-bind (checked_costs (in_order (pos 0) order numbers)) _ (AreCosts (in_order (pos 0) order numbers)) (IsWeighting m order gaps)
    (costs_are (in_order (pos 0) order numbers)) (λ cost k. record {
      least = refl;
      problem = refl;
      weighed = (numbers, record { are = numbers_are mu gaps es l numbers lowest.0 pg e c n; costs = k });
    }))))

-- the numbers in the law's words
pub cost_numbers : (m : Judgements) (order : List ℕ) (gaps : List Fraction) (closed : ClosedWeighting) → IsOrder (length gaps) order
    → IsWeighting m order gaps closed → (numbers : List ℤ) × AreCostNumbers order gaps closed numbers
cost_numbers m order gaps closed o h =
    let numbers = h.weighed.0 in
    let w = h.weighed.1 in (
      numbers,
      record {
        nonneg = w.are.nonneg;
        same = w.are.same;
        cost = λ x each. ap (λ c. dot c x) w.costs.is ∙ dot-costs (in_order (pos 0) order numbers) x
            (length-in_order (pos 0) order numbers ∙ o.each ∙ sym each);
      },
    )

-- ---- costs and gaps

-- the excesses in order
in_order_same : (least : Fraction) (gaps : List Fraction) (l : ℤ) (numbers : List ℤ) (order : List ℕ) → pos 0 <ℤ l
    → SameFractions (over numbers l) (differences_from least gaps) → All (λ c. c < length gaps) order
    → SameFractions (over (in_order (pos 0) order numbers) l) (differences_from least (in_order (fraction_of (pos 0)) order gaps))
in_order_same least gaps l numbers [] positive same within = tt
in_order_same least gaps l numbers (c ∷ order) positive same within =
    let f : Fraction → Fraction = λ g. fraction_difference g least in
    let zero : Fraction = fraction_of (pos 0) in
    let inside : c < length gaps = All-head (λ c. c < length gaps) c order within in
    let below : c < length (differences_from least gaps) = omega (arith, inside, length-map gaps f) in
    let at = IsWriting-at (differences_from least gaps) numbers l c (pos 0) (f zero) below (record { den_pos = positive; same = same }) in (
      subst (λ (e : Fraction). SameFraction (record { num = get_or numbers c (pos 0); den = l }) e) (get_or-map f gaps c zero (f zero) inside) at,
      in_order_same least gaps l numbers order positive same (All-tail (λ c. c < length gaps) c order within),
    )

-- a number over l and its gap y over d
one_number : (number fd md fn mn l y d : ℤ) → pos 0 <ℤ fd → number *ℤ (fd *ℤ md) ≡ (fn *ℤ md -ℤ mn *ℤ fd) *ℤ l → y *ℤ fd ≡ fn *ℤ d
    → number *ℤ md *ℤ d ≡ l *ℤ (md *ℤ y -ℤ mn *ℤ d)
one_number number fd md fn mn l y d pf a b =
    cancel_eq (number *ℤ md *ℤ d) (l *ℤ (md *ℤ y -ℤ mn *ℤ d)) fd pf
    (combine8 (λ n fd md fn mn l y d. n ⊗ md ⊗ d ⊗ fd ≗ l ⊗ (md ⊗ y ⊖ mn ⊗ d) ⊗ fd ⇐ d ✶ (n ⊗ (fd ⊗ md) ≗ (fn ⊗ md ⊖ mn ⊗ fd) ⊗ l) ∷ neg (md ⊗ l) ✶
    (y ⊗ fd ≗ fn ⊗ d) ∷ []) refl number fd md fn mn l y d a b)

-- numbers times weights
all_numbers : (least : Fraction) (fs : List Fraction) (l : ℤ) (numbers g k : List ℤ) (d : ℤ) → AreFractions fs
    → SameFractions (over numbers l) (differences_from least fs) → SameFractions (over g d) fs → length k ≡ length fs
    → dot numbers k *ℤ (least.den *ℤ d) ≡ l *ℤ (least.den *ℤ dot k g -ℤ least.num *ℤ d *ℤ int_sum k)
all_numbers least [] l [] [] [] d pf same written each =
    ring4 (λ m l a d. con (pos 0) ⊗ (m ⊗ d) ≗ l ⊗ (m ⊗ con (pos 0) ⊖ a ⊗ d ⊗ con (pos 0))) refl least.den l least.num d
all_numbers least [] l (n ∷ numbers) g k d pf same written each = absurd same
all_numbers least [] l [] (y ∷ g) k d pf same written each = absurd written
all_numbers least [] l [] [] (x ∷ k) d pf same written each = absurd (omega (arith, each))
all_numbers least (f ∷ fs) l [] g k d pf same written each = absurd same
all_numbers least (f ∷ fs) l (n ∷ numbers) [] k d pf same written each = absurd written
all_numbers least (f ∷ fs) l (n ∷ numbers) (y ∷ g) [] d pf same written each = absurd (omega (arith, each))
all_numbers least (f ∷ fs) l (n ∷ numbers) (y ∷ g) (x ∷ k) d pf same written each =
    let first = one_number n f.den least.den f.num least.num l y d (All-head IsFraction f fs pf) same.0 written.0 in
    let rest = all_numbers least fs l numbers g k d (All-tail IsFraction f fs pf) same.1 written.1 (omega (arith, each)) in
    combine10 (λ n x t md d l y mn e s. (n ⊗ x ⊕ t) ⊗ (md ⊗ d) ≗ l ⊗ (md ⊗ (x ⊗ y ⊕ e) ⊖ mn ⊗ d ⊗ (x ⊕ s))
    ⇐ x ✶ (n ⊗ md ⊗ d ≗ l ⊗ (md ⊗ y ⊖ mn ⊗ d)) ∷ con (pos 1) ✶ (t ⊗ (md ⊗ d) ≗ l ⊗ (md ⊗ e ⊖ mn ⊗ d ⊗ s)) ∷ []) refl
    n x (dot numbers k) least.den d l y least.num (dot k g) (int_sum k) first rest

-- over the scale, and with the least gap, the cost is the weighted sum of the gaps
from_numbers : (t n l md mn d e s : ℤ) → s ≡ n → t *ℤ (md *ℤ d) ≡ l *ℤ (md *ℤ e -ℤ mn *ℤ d *ℤ s)
    → (t *ℤ pos 1 *ℤ md +ℤ mn *ℤ (n *ℤ l)) *ℤ (n *ℤ d) ≡ e *ℤ (n *ℤ l *ℤ md)
from_numbers =
    combine8 (λ t n l md mn d e s. (t ⊗ con (pos 1) ⊗ md ⊕ mn ⊗ (n ⊗ l)) ⊗ (n ⊗ d) ≗ e ⊗ (n ⊗ l ⊗ md)
    ⇐ neg (n ⊗ l ⊗ mn ⊗ d) ✶ (s ≗ n) ∷ n ✶ (t ⊗ (md ⊗ d) ≗ l ⊗ (md ⊗ e ⊖ mn ⊗ d ⊗ s)) ∷ []) refl

pub cost_is_weighted_gap : (order : List ℕ) (gaps : List Fraction) (closed : ClosedWeighting) (numbers x g : List ℤ) (n d : ℤ) → AreFractions gaps
    → IsOrder (length gaps) order → pos 0 <ℤ closed.scale → AreCostNumbers order gaps closed numbers → length x ≡ length gaps
    → int_sum (weights_of x) ≡ n → IsWriting (in_order (fraction_of (pos 0)) order gaps) g d
    → SameFraction (weighted_gap closed (record { num = dot closed.problem.cost x; den = n })) (record { num = dot (weights_of x) g; den = n *ℤ d })
cost_is_weighted_gap order gaps closed numbers x g n d pg o positive h each sum written =
    let listed = in_order (fraction_of (pos 0)) order gaps in
    let k = weights_of x in
    let long : length k ≡ length listed = length-reverse (running_sums (pos 0) x) ∙ length-running_sums (pos 0) x ∙ each ∙ sym
    (length-in_order (fraction_of (pos 0)) order gaps ∙ o.each) in
    let same = in_order_same closed.least gaps closed.scale numbers order positive h.same o.within in
    let all = all_numbers closed.least listed closed.scale (in_order (pos 0) order numbers) g k d
    (All-in_order IsFraction (fraction_of (pos 0)) order gaps o.within pg) same written.same long in
    from_numbers (dot closed.problem.cost x) n closed.scale closed.least.den closed.least.num d (dot k g) (int_sum k) sum
    (subst (λ t. t *ℤ (closed.least.den *ℤ d) ≡ closed.scale *ℤ (closed.least.den *ℤ dot k g -ℤ closed.least.num *ℤ d *ℤ int_sum k)) (sym (h.cost x each))
    all)

-- ---- points

-- the weights and 0 are the scale that the gaps make
heights-running : (z : ℤ) (x : List ℤ) → heights z x ≡ z ∷ running_sums z x
heights-running z [] = refl
heights-running z (x ∷ xs) = ap (λ hs. z ∷ hs) (heights-running (z +ℤ x) xs)

pub weights_and_zero : (x : List ℤ) → scale_of x ≡ weights_of x ++ pos 0 ∷ []
weights_and_zero x = ap reverse (heights-running (pos 0) x) ∙ reverse-append (pos 0 ∷ []) (running_sums (pos 0) x)

pub length-weights_of : (x : List ℤ) → length (weights_of x) ≡ length x
length-weights_of x = length-reverse (running_sums (pos 0) x) ∙ length-running_sums (pos 0) x

-- gaps and weights make each other
without_zero : (k l : List ℤ) → k ++ pos 0 ∷ [] ≡ l ++ pos 0 ∷ [] → k ≡ l
without_zero k l h =
    let turned : pos 0 ∷ reverse k ≡ pos 0 ∷ reverse l = sym (reverse-append k (pos 0 ∷ [])) ∙ ap reverse h ∙ reverse-append l (pos 0 ∷ []) in
    sym (reverse-reverse k) ∙ ap reverse (ap (drop 1) turned) ∙ reverse-reverse l

ends_with : (k : List ℤ) (z : ℤ) → get_or (k ++ z ∷ []) (length k) (pos 0) ≡ z
ends_with [] z = refl
ends_with (x ∷ k) z = ends_with k z

pub weights_of-gaps_of : (k : List ℤ) → weights_of (gaps_of (k ++ pos 0 ∷ [])) ≡ k
weights_of-gaps_of k =
    let w : List ℤ = k ++ pos 0 ∷ [] in
    let long : length w ≡ length k + 1 = length-append k (pos 0 ∷ []) in
    let last : get_or w (length w - 1) (pos 0) ≡ pos 0 = ap (λ i. get_or w i (pos 0)) (omega (arith, long)) ∙ ends_with k (pos 0) in
    without_zero (weights_of (gaps_of w)) k (sym (weights_and_zero (gaps_of w)) ∙ scale_of-gaps_of w (omega (arith, long)) last)

pub gaps_of-weights_of : (x : List ℤ) → gaps_of (weights_of x ++ pos 0 ∷ []) ≡ x
gaps_of-weights_of x = ap gaps_of (sym (weights_and_zero x)) ∙ gaps_of-scale_of x

-- a tag's constraint in unit 0
weighting_met_tag : (m : Judgements) (x : List ℤ) (n : ℤ) (tag : Tag) → IsRowMetBy x n (weighting_row_of m tag) ↔ IsRowMetBy x (pos 0) (row_of m tag)
weighting_met_tag m x n tag =
    let none : pos 0 *ℤ n ≡ pos 0 = zero-*ℤ n in
    let bound : (row_of m tag).bound *ℤ pos 0 ≡ pos 0 = *ℤ-zero (row_of m tag).bound in
    (λ h. omega (arith, lin, none, bound, h), λ h. omega (arith, lin, none, bound, h))

times_one : (n : ℤ) → n *ℤ pos 1 ≡ n
times_one n = ring1 (λ n. n ⊗ con (pos 1) ≗ n) refl n

-- a point is a list of weights of the closure
pub weighting_iff : (m : Judgements) (cost x : List ℤ) (n : ℤ) → 2 ≤ m.size
    → IsFeasible (weighting_problem_of m cost) x n ↔ IsClosedWeighting m (weights_of x) n
weighting_iff m cost x n two = (to, from)
  where
    compared : suc (length x) ≡ m.size → AreNonNegative x
        → All (IsRowMetBy x n) (map (weighting_row_of m) (closed_tags m)) ↔ IsMetInUnit m (pos 0) (scale_of x)
    compared each nonneg = compared_iff_met m x x n (weighting_row_of m) (λ tag among. weighting_met_tag m x n tag) each nonneg

    summed : suc (length x) ≡ m.size → dot (falling (m.size - 1)) x ≡ int_sum (weights_of x)
    summed each =
        let size : m.size - 1 ≡ length x = omega (arith, each) in
        ap (λ j. dot (falling j) x) size ∙ sym (sum-weights_of x)

    to : IsFeasible (weighting_problem_of m cost) x n → IsClosedWeighting m (weights_of x) n
    to h =
        let each : suc (length x) ≡ m.size = omega (arith, h.one_each) in
        let parts = (All-parts (IsRowMetBy x n) (map (weighting_row_of m) (closed_tags m)) (sum_up (m.size - 1) ∷ sum_down (m.size - 1) ∷ [])).0 h.meets in
        let up = All-head (IsRowMetBy x n) (sum_up (m.size - 1)) (sum_down (m.size - 1) ∷ []) parts.1 in
        let down = All-head (IsRowMetBy x n) (sum_down (m.size - 1)) []
        (All-tail (IsRowMetBy x n) (sum_up (m.size - 1)) (sum_down (m.size - 1) ∷ []) parts.1) in
        let s : ℤ = int_sum (weights_of x) in
        let up_s = subst (λ v. (pos 1 *ℤ n) ≤ℤ v) (summed each) up in
        let down_s = subst (λ v. (neg_ℤ (pos 1) *ℤ n) ≤ℤ v) (dot-opposite (falling (m.size - 1)) x ∙ ap neg_ℤ (summed each)) down in
        let one : s ≡ n *ℤ pos 1 = (two_rows (pos 1) s n).0 (up_s, down_s) in
        record {
          scale = subst (λ w. IsScale m w n) (weights_and_zero x) (IsScale-scale_of m x n each h.den_pos);
          nonneg = All-reverse (λ z. pos 0 ≤ℤ z) (running_sums (pos 0) x) (running_sums_nonneg (pos 0) x (≤ℤ_refl (pos 0)) h.nonneg);
          sum = one ∙ times_one n;
          meets = subst (IsMetInUnit m (pos 0)) (weights_and_zero x) ((compared each h.nonneg).0 parts.0);
        }

    from : IsClosedWeighting m (weights_of x) n → IsFeasible (weighting_problem_of m cost) x n
    from h =
        let each : suc (length x) ≡ m.size = omega (arith, h.scale.each, length-append (weights_of x) (pos 0 ∷ []), length-weights_of x) in
        let met = subst (IsMetInUnit m (pos 0)) (sym (weights_and_zero x)) h.meets in
        let nonneg = ((met_where_rows_are m x (pos 0) each (≤ℤ_refl (pos 0))).1 met).0 in
        let s : ℤ = int_sum (weights_of x) in
        let one : s ≡ n *ℤ pos 1 = h.sum ∙ sym (times_one n) in
        let sums = (two_rows (pos 1) s n).1 one in
        let up = subst (λ v. (pos 1 *ℤ n) ≤ℤ v) (sym (summed each)) sums.0 in
        let down = subst (λ v. (neg_ℤ (pos 1) *ℤ n) ≤ℤ v) (sym (dot-opposite (falling (m.size - 1)) x ∙ ap neg_ℤ (summed each))) sums.1 in
        record {
          den_pos = h.scale.den_pos;
          one_each = omega (arith, each);
          nonneg = nonneg;
          meets = All-append (IsRowMetBy x n) (map (weighting_row_of m) (closed_tags m)) (sum_up (m.size - 1) ∷ sum_down (m.size - 1) ∷ [])
              ((compared each nonneg).1 met)
              (All-cons (IsRowMetBy x n) (sum_up (m.size - 1)) (sum_down (m.size - 1) ∷ []) up
              (All-cons (IsRowMetBy x n) (sum_down (m.size - 1)) [] down (All-nil (IsRowMetBy x n))));
        }

-- ---- the laws, of what the formula gives

pub points_of : (m : Judgements) (order : List ℕ) (gaps : List Fraction) (closed : ClosedWeighting) (x : List ℤ) (n : ℤ) → 2 ≤ m.size
    → IsWeighting m order gaps closed → IsFeasible closed.problem x n ↔ IsClosedWeighting m (weights_of x) n
points_of m order gaps closed x n two h =
    subst (λ p. IsFeasible p x n ↔ IsClosedWeighting m (weights_of x) n) (sym h.problem) (weighting_iff m closed.problem.cost x n two)

pub sum_of : (m : Judgements) (order : List ℕ) (gaps : List Fraction) (closed : ClosedWeighting) (x g : List ℤ) (n d : ℤ) → length gaps ≡ m.size - 1
    → 2 ≤ m.size → AreFractions gaps → IsOrder (length gaps) order → IsWeighting m order gaps closed
    → IsFeasible closed.problem x n → IsWriting (in_order (fraction_of (pos 0)) order gaps) g d
    → SameFraction (weighted_gap closed (cost_at closed.problem x n)) (record { num = dot (weights_of x) g; den = n *ℤ d })
sum_of m order gaps closed x g n d count two pg o h feasible written =
    let weights = (points_of m order gaps closed x n two h).0 feasible in
    let given = cost_numbers m order gaps closed o h in
    let vars : closed.problem.vars ≡ m.size - 1 = ap (λ (p : ProblemData). p.vars) h.problem in
    cost_is_weighted_gap order gaps closed given.0 x g n d pg o h.weighed.1.are.positive given.1 (feasible.one_each ∙ vars ∙ sym count) weights.sum written

pub least_of_gaps : (m : Judgements) (order : List ℕ) (gaps : List Fraction) (closed : ClosedWeighting) → 1 ≤ length gaps → AreFractions gaps
    → IsWeighting m order gaps closed → IsLeastOf gaps closed.least
least_of_gaps m order gaps closed some pg h = subst (IsLeastOf gaps) (sym h.least) (least_is gaps some pg).1
