-- What the formula of a weighting's costs gives: each least gap less the least of all, as whole numbers over a common multiple of
-- the denominators, and their sums in weighting order.
use Rattle.std.specs.Prelude.{reverse, int_div}
use Rattle.std.specs.Result.{IfOk}
use Rattle.std.proofs.Common.{◌≡◌, ℕ, Bool, true, false, ℤ, pos, ◌+ℤ◌, ◌*ℤ◌, ◌≤ℤ◌, ◌<ℤ◌, List, [], ◌∷◌, All, unsigned_abs, refl, sym, ap, subst, ◌∙◌, Result, Ok, Err, arith}
use Rattle.std.proofs.lemmas.Bool.Decides.{nat_tests}
use Rattle.std.proofs.lemmas.List.Elements.{All-nil, All-cons, All-head, All-tail}
use Rattle.std.proofs.lemmas.Result.{IfOk-weaker}
use Rattle.integers.specs.Divisibility.{gcd_of}
use Rattle.integers.specs.Fraction.{Fraction, IsFraction, AreFractions, SameFraction, SameFractions, FractionAtMost, fraction_difference, over}
use Rattle.integers.specs.Vector.{running_sums, AreNonNegative}
use Rattle.integers.proofs.Divisibility.{pos-unsigned_abs, int_div-mul, quotient_whole, quotient_positive, IsGcdOf-gcd_of, gcd_of_pos, unsigned_abs_pos}
use Rattle.integers.proofs.FractionOrder.{FractionAtMost-difference}
use Rattle.integers.proofs.Order.{mul_pos, mul_nonneg, nonneg_of_mul, le_of_lt}
use Rattle.integers.proofs.Ring.{con, neg, ◌⊗◌, ◌≗◌, ◌✶◌, ◌⇐◌, ring1, ring2, ring3, combine4, combine5}
use Rattle.frac128.specs.Chain.{◌>>=◌}
use Rattle.frac128.specs.Checked.{checked_difference}
use Rattle.frac128.specs.Range.{IsInRange, is_in_range}
use Rattle.frac128.specs.declared.number.TooWide.{TooWide}
use Rattle.frac128.proofs.FormulaLemmas.{IfOk-bind, IsValued, checked_difference-value}
use Rattle.lp_macbeth.specs.ClosedWeighting.{checked_whole, checked_excesses, checked_multiple, checked_numerators, checked_sums, checked_costs, differences_from}
use Rattle.lp_macbeth.proofs.WeightSumLemmas.{All-reverse}

-- a checked number is the number, in range
abbrev IsWhole : ℤ → ℤ → Type 0
IsWhole z y = (y ≡ z) × IsInRange z

-- the answer by the test
abbrev answer : ℤ → Bool → Result ℤ TooWide
answer z b = elim b [ true ↦ Ok z | false ↦ Err (record {}) ]

checked_whole-is : (z : ℤ) → IfOk (checked_whole z) (IsWhole z)
checked_whole-is z = cases (is_in_range z) refl
  where
    cases : (b : Bool) → is_in_range z ≡ b → IfOk (answer z b) (IsWhole z)
    cases true e = (refl, grind (arith, nat_tests))
    cases false e = tt

-- ---- the excesses

abbrev pub IsNotBelowZero : Fraction → Type 0
IsNotBelowZero f = pos 0 ≤ℤ f.num

-- fractions of at least 0, each a gap less the least one
pub record AreExcesses (least : Fraction) (gaps excesses : List Fraction) : Type 0 where
  pub fractions : AreFractions excesses
  pub nonneg : All IsNotBelowZero excesses
  pub same : SameFractions excesses (differences_from least gaps)

-- a difference from the least is at least 0
excess_nonneg : (least gap excess : Fraction) → IsFraction least → IsFraction gap → IsFraction excess → FractionAtMost least gap
    → SameFraction excess (fraction_difference gap least) → IsNotBelowZero excess
excess_nonneg least gap excess pl pg pe most same =
    nonneg_of_mul excess.num (gap.den *ℤ least.den) (mul_pos gap.den least.den pg pl)
    (subst (λ z. pos 0 ≤ℤ z) (sym same) (mul_nonneg (fraction_difference gap least).num excess.den ((FractionAtMost-difference least gap).0 most)
    (le_of_lt (pos 0) excess.den pe)))

pub excesses_are : (least : Fraction) (gaps : List Fraction) → IsFraction least → AreFractions gaps → All (FractionAtMost least) gaps
    → IfOk (checked_excesses least gaps) (AreExcesses least gaps)
unfolding checked_excesses
excesses_are least [] pl pg most = record { fractions = All-nil IsFraction; nonneg = All-nil IsNotBelowZero; same = tt }
excesses_are least (gap ∷ gaps) pl pg most =
    let first = All-head IsFraction gap gaps pg in
    IfOk-bind (checked_difference gap least) (λ excess. (checked_excesses least gaps) >>= (λ others. Ok (excess ∷ others)))
    (IsValued (fraction_difference gap least)) (AreExcesses least (gap ∷ gaps)) (checked_difference-value gap least first pl) (λ excess h.
    IfOk-bind (checked_excesses least gaps) (λ others. Ok (excess ∷ others)) (AreExcesses least gaps) (AreExcesses least (gap ∷ gaps))
    (excesses_are least gaps pl (All-tail IsFraction gap gaps pg) (All-tail (FractionAtMost least) gap gaps most)) (λ others k. record {
      fractions = All-cons IsFraction excess others h.0 k.fractions;
      nonneg = All-cons IsNotBelowZero excess others (excess_nonneg least gap excess pl first h.0 (All-head (FractionAtMost least) gap gaps most) h.1)
          k.nonneg;
      same = (h.1, k.same);
    }))

-- ---- the common denominator

-- m is a multiple of z
abbrev pub IsMultiple : ℤ → ℤ → Type 0
IsMultiple m z = (q : ℤ) × (m ≡ q *ℤ z)

-- the quotient of a multiple
int_div_is : (m z q : ℤ) → pos 0 <ℤ z → m ≡ q *ℤ z → int_div m z ≡ q
int_div_is m z q pz is =
    let d : ℕ = unsigned_abs z in
    let same : pos d ≡ z = pos-unsigned_abs z (le_of_lt (pos 0) z pz) in
    ap (int_div m) (sym same) ∙ ap (λ y. int_div y (pos d)) (is ∙ ap (λ y. q *ℤ y) (sym same) ∙ ring2 (λ q d. q ⊗ d ≗ d ⊗ q) refl q (pos d)) ∙ int_div-mul q
    d (unsigned_abs_pos z pz)

IsMultiple-trans : (a b c : ℤ) → IsMultiple a b → IsMultiple b c → IsMultiple a c
IsMultiple-trans a b c (p, e) (q, f) = (p *ℤ q, e ∙ ap (λ y. p *ℤ y) f ∙ ring3 (λ p q c. p ⊗ (q ⊗ c) ≗ p ⊗ q ⊗ c) refl p q c)

-- one more factor
pub record IsNext (l d next : ℤ) : Type 0 where
  pub positive : pos 0 <ℤ next
  pub of_number : IsMultiple next l
  pub of_other : IsMultiple next d

next_is : (l d : ℤ) → pos 0 <ℤ l → pos 0 <ℤ d → IsNext l d (int_div l (gcd_of l d) *ℤ d)
next_is l d pl pd =
    let g : ℤ = gcd_of l d in
    let pg : pos 0 <ℤ g = gcd_of_pos l d pd in
    let common = IsGcdOf-gcd_of l d in
    let a : ℤ = int_div l g in
    let b : ℤ = int_div d g in
    let l_is : l ≡ a *ℤ g = quotient_whole l g pg common.0 in
    let d_is : d ≡ b *ℤ g = quotient_whole d g pg common.1 in
    record {
      positive = mul_pos a d (quotient_positive l g pl pg common.0) pd;
      of_number = (b, combine5 (λ a b g l d. a ⊗ d ≗ b ⊗ l ⇐ a ✶ (d ≗ b ⊗ g) ∷ neg b ✶ (l ≗ a ⊗ g) ∷ []) refl a b g l d d_is l_is);
      of_other = (a, refl);
    }

-- above 0, in range, and a multiple of the number and of each denominator
pub record IsCommon (l : ℤ) (es : List Fraction) (m : ℤ) : Type 0 where
  pub positive : pos 0 <ℤ m
  pub in_range : IsInRange m
  pub of_number : IsMultiple m l
  pub of_each : All (λ (e : Fraction). IsMultiple m e.den) es

pub multiple_is : (l : ℤ) (es : List Fraction) → pos 0 <ℤ l → IsInRange l → AreFractions es → IfOk (checked_multiple l es) (IsCommon l es)
unfolding checked_multiple
multiple_is l [] pl rl pe =
    record {
      positive = pl;
      in_range = rl;
      of_number = (pos 1, ring1 (λ l. l ≗ con (pos 1) ⊗ l) refl l);
      of_each = All-nil
          (λ (e : Fraction). IsMultiple l e.den);
    }
multiple_is l (e ∷ es) pl rl pe =
    let step = next_is l e.den pl (All-head IsFraction e es pe) in
    IfOk-bind (checked_whole (int_div l (gcd_of l e.den) *ℤ e.den)) (λ next. checked_multiple next es) (λ next. IsNext l e.den next × IsInRange next)
    (IsCommon l (e ∷ es))
    (IfOk-weaker (checked_whole (int_div l (gcd_of l e.den) *ℤ e.den)) (IsWhole (int_div l (gcd_of l e.den) *ℤ e.den))
    (λ next. IsNext l e.den next × IsInRange next) (λ next h. (subst (IsNext l e.den) (sym h.0) step, subst IsInRange (sym h.0) h.1))
    (checked_whole-is (int_div l (gcd_of l e.den) *ℤ e.den)))
    (λ next n. IfOk-weaker (checked_multiple next es) (IsCommon next es) (IsCommon l (e ∷ es))
    (λ m h. record {
      positive = h.positive;
      in_range = h.in_range;
      of_number = IsMultiple-trans m next l h.of_number n.0.of_number;
      of_each = All-cons (λ (e : Fraction). IsMultiple m e.den) e es (IsMultiple-trans m next e.den h.of_number n.0.of_other) h.of_each;
    })
    (multiple_is next es n.0.positive n.1 (All-tail IsFraction e es pe)))

-- ---- the numerators

-- none is below 0, and over the common denominator they are the fractions
pub record AreNumerators (m : ℤ) (es : List Fraction) (numbers : List ℤ) : Type 0 where
  pub nonneg : AreNonNegative numbers
  pub same : SameFractions (over numbers m) es

numerator_same : (m : ℤ) (e : Fraction) → IsFraction e → IsMultiple m e.den → e.num *ℤ int_div m e.den *ℤ e.den ≡ e.num *ℤ m
numerator_same m e pe (q, is) =
    ap (λ y. e.num *ℤ y *ℤ e.den) (int_div_is m e.den q pe is)
    ∙ combine4 (λ a q d m. a ⊗ q ⊗ d ≗ a ⊗ m ⇐ neg a ✶ (m ≗ q ⊗ d) ∷ []) refl e.num q e.den m is

numerator_nonneg : (m n : ℤ) (e : Fraction) → pos 0 <ℤ m → IsFraction e → IsNotBelowZero e → n *ℤ e.den ≡ e.num *ℤ m → pos 0 ≤ℤ n
numerator_nonneg m n e pm pe low is =
    nonneg_of_mul n e.den pe (subst (λ z. pos 0 ≤ℤ z) (sym is) (mul_nonneg e.num m low (le_of_lt (pos 0) m pm)))

pub numerators_are : (m : ℤ) (es : List Fraction) → pos 0 <ℤ m → AreFractions es → All IsNotBelowZero es → All (λ (e : Fraction). IsMultiple m e.den) es
    → IfOk (checked_numerators m es) (AreNumerators m es)
unfolding checked_numerators
numerators_are m [] pm pe low each = record { nonneg = All-nil (λ z. pos 0 ≤ℤ z); same = tt }
numerators_are m (e ∷ es) pm pe low each =
    let z : ℤ = e.num *ℤ int_div m e.den in
    let first = All-head IsFraction e es pe in
    let same = numerator_same m e first (All-head (λ (e : Fraction). IsMultiple m e.den) e es each) in
    IfOk-bind (checked_whole z) (λ numerator. (checked_numerators m es) >>= (λ others. Ok (numerator ∷ others))) (IsWhole z) (AreNumerators m (e ∷ es))
    (checked_whole-is z) (λ n h.
    let is : n *ℤ e.den ≡ e.num *ℤ m = ap (λ y. y *ℤ e.den) h.0 ∙ same in
    IfOk-bind (checked_numerators m es) (λ others. Ok (n ∷ others)) (AreNumerators m es) (AreNumerators m (e ∷ es))
    (numerators_are m es pm (All-tail IsFraction e es pe) (All-tail IsNotBelowZero e es low) (All-tail (λ (e : Fraction). IsMultiple m e.den) e es each))
    (λ others k. record {
      nonneg = All-cons (λ z. pos 0 ≤ℤ z) n others (numerator_nonneg m n e pm first (All-head IsNotBelowZero e es low) is) k.nonneg;
      same = (is, k.same);
    }))

-- ---- the sums

-- they are the running sums, each in range
abbrev AreSums : ℤ → List ℤ → List ℤ → Type 0
AreSums s xs sums = (sums ≡ running_sums s xs) × All IsInRange sums

sums_are : (s : ℤ) (xs : List ℤ) → IfOk (checked_sums s xs) (AreSums s xs)
unfolding checked_sums
sums_are s [] = (refl, All-nil IsInRange)
sums_are s (x ∷ xs) =
    IfOk-bind (checked_whole (s +ℤ x)) (λ sum. (checked_sums sum xs) >>= (λ others. Ok (sum ∷ others))) (IsWhole (s +ℤ x)) (AreSums s (x ∷ xs))
    (checked_whole-is (s +ℤ x)) (λ sum h.
    IfOk-bind (checked_sums sum xs) (λ others. Ok (sum ∷ others)) (AreSums sum xs) (AreSums s (x ∷ xs)) (sums_are sum xs)
    (λ others k. (
      ap (λ zs. sum ∷ zs) k.0 ∙ ap (λ z. z ∷ running_sums z xs) h.0,
      All-cons IsInRange sum others (subst IsInRange (sym h.0) h.1) k.1,
    )))

-- the costs of the gaps, bottom first
pub record AreCosts (numbers cost : List ℤ) : Type 0 where
  pub is : cost ≡ reverse (running_sums (pos 0) numbers)
  pub in_range : All IsInRange cost

pub costs_are : (numbers : List ℤ) → IfOk (checked_costs numbers) (AreCosts numbers)
unfolding checked_costs
costs_are numbers =
    IfOk-bind (checked_sums (pos 0) numbers) (λ sums. Ok (reverse sums)) (AreSums (pos 0) numbers) (AreCosts numbers) (sums_are (pos 0) numbers)
    (λ sums h. record { is = ap reverse h.0; in_range = All-reverse IsInRange sums h.1 })
