-- The values that gap sums give are the scale that the gaps make.
use Rattle.std.specs.Result.{IfOk}
use Rattle.std.proofs.Common.{◌≡◌, ◌+◌, ℤ, pos, ◌+ℤ◌, ◌*ℤ◌, ◌<ℤ◌, List, [], ◌∷◌, All, length, reverse, refl, ap, Result, Ok, Err, arith}
use Rattle.std.proofs.lemmas.List.Elements.{All-head, All-tail, All-cons, All-nil, All-append}
use Rattle.std.proofs.lemmas.List.{reverse-append}
use Rattle.std.proofs.lemmas.Result.{IfOk-weaker, IfOk-at_ok}
use Rattle.integers.specs.Fraction.{Fraction, IsFraction, AreFractions, SameFraction, IsWriting, fraction_of, fraction_sum, common_den, common_nums}
use Rattle.integers.specs.Vector.{running_sums}
use Rattle.integers.proofs.Divisibility.{IsLowest-whole}
use Rattle.integers.proofs.Fractions.{SameFraction-sym, SameFraction-trans}
use Rattle.integers.proofs.FractionSums.{fraction_sum-same, IsFraction-sum, IsFraction-whole}
use Rattle.integers.proofs.Ring.{con, ◌⊕◌, ◌⊗◌, ◌≗◌, ring1, ring3}
use Rattle.integers.proofs.Writings.{IsWriting-append, IsWriting-length, IsWriting-same, common_writing}
use Rattle.frac128.specs.Chain.{◌>>=◌}
use Rattle.frac128.specs.Checked.{checked_sum}
use Rattle.frac128.specs.Frac.{IsReduced}
use Rattle.frac128.specs.declared.number.TooWide.{TooWide}
use Rattle.frac128.proofs.FormulaLemmas.{IfOk-bind, IsValued, checked_sum-value}
use Rattle.lp_macbeth.specs.Gaps.{heights, scale_of}
use Rattle.lp_macbeth.proofs.GapLemmas.{length-scale_of}
use Rattle.value_scale.specs.GapSums.{AreScaleOf, checked_heights, checked_column, checked_values}
use Rattle.frac128.proofs.ReducedLemmas.{checked_sum-reduced, reduced_are_fractions}

-- fractions with positive denominators, and w over n is a writing of them
abbrev pub IsWritten : List ℤ → ℤ → List Fraction → Type 0
IsWritten w n fs = AreFractions fs × IsWriting fs w n

-- 0 over any number
zero_over : (n : ℤ) → pos 0 *ℤ pos 1 ≡ pos 0 *ℤ n
zero_over n = ring1 (λ n. con (pos 0) ⊗ con (pos 1) ≗ con (pos 0) ⊗ n) refl n

-- a height, and its gap on top
stacked : (a gap height : Fraction) (z x n : ℤ) → IsFraction a → IsFraction gap → IsFraction height → pos 0 <ℤ n → SameFraction (record { num = z; den = n }) a → SameFraction (record { num = x; den = n }) gap
    → SameFraction height (fraction_sum a gap) → SameFraction (record { num = z +ℤ x; den = n }) height
stacked a gap height z x n pa pg ph pn za xg h =
    let low : Fraction = record { num = z; den = n } in
    let more : Fraction = record { num = x; den = n } in
    let split : SameFraction (record { num = z +ℤ x; den = n }) (fraction_sum low more) = ring3 (λ z x n. (z ⊕ x) ⊗ (n ⊗ n) ≗ (z ⊗ n ⊕ x ⊗ n) ⊗ n) refl z x n in
    let same = SameFraction-trans (record { num = z +ℤ x; den = n }) (fraction_sum low more) (fraction_sum a gap) pn (IsFraction-sum low more pn pn) (IsFraction-sum a gap pa pg) split (fraction_sum-same low more a gap za xg) in
    SameFraction-trans (record { num = z +ℤ x; den = n }) (fraction_sum a gap) height pn (IsFraction-sum a gap pa pg) ph same (SameFraction-sym height (fraction_sum a gap) h)

-- the heights above a are the running sums
heights_written : (a : Fraction) (gaps : List Fraction) (z : ℤ) (x : List ℤ) (n : ℤ) → IsFraction a → AreFractions gaps → SameFraction (record { num = z; den = n }) a → IsWriting gaps x n
    → IfOk (checked_heights a gaps) (IsWritten (running_sums z x) n)
unfolding checked_heights
heights_written a [] z [] n pa pg za w = (pg, w)
heights_written a [] z (x ∷ xs) n pa pg za w = absurd w.same
heights_written a (gap ∷ gaps) z [] n pa pg za w = absurd w.same
heights_written a (gap ∷ gaps) z (x ∷ xs) n pa pg za w =
    let first = All-head IsFraction gap gaps pg in
    IfOk-bind (checked_sum a gap) (λ height. (checked_heights height gaps) >>= (λ above. Ok (height ∷ above))) (IsValued (fraction_sum a gap)) (IsWritten (running_sums z (x ∷ xs)) n) (checked_sum-value a gap pa first) (λ height h.
    let same = stacked a gap height z x n pa first h.0 w.den_pos za w.same.0 h.1 in
    IfOk-bind (checked_heights height gaps) (λ above. Ok (height ∷ above)) (IsWritten (running_sums (z +ℤ x) xs) n) (IsWritten (running_sums z (x ∷ xs)) n)
    (heights_written height gaps (z +ℤ x) xs n h.0 (All-tail IsFraction gap gaps pg) same (record { den_pos = w.den_pos; same = w.same.1 }))
    (λ above k. (All-cons IsFraction height above h.0 k.0, record { den_pos = w.den_pos; same = (same, k.1.same) })))

-- the running sums behind a number are its heights
heights-running : (z : ℤ) (x : List ℤ) → heights z x ≡ z ∷ running_sums z x
heights-running z [] = refl
heights-running z (x ∷ xs) = ap (λ hs. z ∷ hs) (heights-running (z +ℤ x) xs)

-- the other way round
reverse_written : (fs : List Fraction) (w : List ℤ) (n : ℤ) → IsWritten w n fs → IsWritten (reverse w) n (reverse fs)
reverse_written [] [] n h = h
reverse_written [] (x ∷ w) n h = absurd h.1.same
reverse_written (f ∷ fs) [] n h = absurd h.1.same
reverse_written (f ∷ fs) (x ∷ w) n h =
    let rest = reverse_written fs w n (All-tail IsFraction f fs h.0, record { den_pos = h.1.den_pos; same = h.1.same.1 }) in
    let first = All-cons IsFraction f [] (All-head IsFraction f fs h.0) (All-nil IsFraction) in
    rw (reverse-append (f ∷ []) fs, reverse-append (x ∷ []) w) (
      All-append IsFraction (reverse fs) (f ∷ []) rest.0 first,
      IsWriting-append (reverse fs) (f ∷ []) (reverse w) (x ∷ []) n rest.1 (record { den_pos = h.1.den_pos; same = (h.1.same.0, tt) }),
    )

-- all elements from the bottom one upwards
column_written : (gaps : List Fraction) (x : List ℤ) (n : ℤ) → AreFractions gaps → IsWriting gaps x n → IfOk (checked_column gaps) (IsWritten (heights (pos 0) x) n)
unfolding checked_column
column_written gaps x n pg w =
    let zero : Fraction = fraction_of (pos 0) in
    let same : SameFraction (record { num = pos 0; den = n }) zero = zero_over n in
    IfOk-bind (checked_heights zero gaps) (λ above. Ok (zero ∷ above)) (IsWritten (running_sums (pos 0) x) n) (IsWritten (heights (pos 0) x) n)
    (heights_written zero gaps (pos 0) x n (IsFraction-whole (pos 0)) pg same w)
    (λ above h. rw (heights-running (pos 0) x) (All-cons IsFraction zero above (IsFraction-whole (pos 0)) h.0, record { den_pos = w.den_pos; same = (same, h.1.same) }))

-- the values are the scale of the gaps
pub values_written : (gaps : List Fraction) (x : List ℤ) (n : ℤ) → AreFractions gaps → IsWriting gaps x n → IfOk (checked_values gaps) (IsWritten (scale_of x) n)
unfolding checked_values
values_written gaps x n pg w =
    IfOk-bind (checked_column gaps) (λ column. Ok (reverse column)) (IsWritten (heights (pos 0) x) n) (IsWritten (scale_of x) n) (column_written gaps x n pg w)
    (λ column h. reverse_written column (heights (pos 0) x) n h)

-- ---- they are in lowest terms

heights_reduced : (a : Fraction) (gaps : List Fraction) → IsFraction a → AreFractions gaps → IfOk (checked_heights a gaps) (All IsReduced)
unfolding checked_heights
heights_reduced a [] p h = All-nil IsReduced
heights_reduced a (gap ∷ gaps) p h =
    IfOk-bind (checked_sum a gap) (λ height. (checked_heights height gaps) >>= (λ above. Ok (height ∷ above))) IsReduced (All IsReduced)
    (checked_sum-reduced a gap p (All-head IsFraction gap gaps h)) (λ height low.
    IfOk-bind (checked_heights height gaps) (λ above. Ok (height ∷ above)) (All IsReduced) (All IsReduced)
    (heights_reduced height gaps low.0 (All-tail IsFraction gap gaps h)) (λ above rest. All-cons IsReduced height above low rest))

reverse_reduced : (fs : List Fraction) → All IsReduced fs → All IsReduced (reverse fs)
reverse_reduced [] h = h
reverse_reduced (f ∷ fs) h =
    rw (reverse-append (f ∷ []) fs) (All-append IsReduced (reverse fs) (f ∷ []) (reverse_reduced fs (All-tail IsReduced f fs h))
    (All-cons IsReduced f [] (All-head IsReduced f fs h) (All-nil IsReduced)))

column_reduced : (gaps : List Fraction) → AreFractions gaps → IfOk (checked_column gaps) (All IsReduced)
unfolding checked_column
column_reduced gaps h =
    let zero : Fraction = fraction_of (pos 0) in
    IfOk-bind (checked_heights zero gaps) (λ above. Ok (zero ∷ above)) (All IsReduced) (All IsReduced)
    (heights_reduced zero gaps (IsFraction-whole (pos 0)) h)
    (λ above rest. All-cons IsReduced zero above (IsFraction-whole (pos 0), IsLowest-whole (pos 0)) rest)

pub values_reduced : (gaps : List Fraction) → AreFractions gaps → IfOk (checked_values gaps) (All IsReduced)
unfolding checked_values
values_reduced gaps h =
    IfOk-bind (checked_column gaps) (λ column. Ok (reverse column)) (All IsReduced) (All IsReduced) (column_reduced gaps h)
    (λ column low. reverse_reduced column low)

-- ---- what the formula gives

pub values_scale : (gaps : List Fraction) → AreFractions gaps → IfOk (checked_values gaps) (AreScaleOf gaps)
values_scale gaps pg = for_each (checked_values gaps) (λ x n written. values_written gaps x n pg written)
  where
    for_each : (r : Result (List Fraction) TooWide) → ((x : List ℤ) (n : ℤ) → IsWriting gaps x n → IfOk r (IsWritten (scale_of x) n)) → IfOk r (AreScaleOf gaps)
    for_each (Ok values) h = λ x n w k hx hw. IsWriting-same values w k (scale_of x) n (h x n hx).0 hw (h x n hx).1
    for_each (Err e) h = tt

pub values_length : (gaps : List Fraction) → AreFractions gaps → IfOk (checked_values gaps) (λ values. length values ≡ length gaps + 1)
values_length gaps pg =
    let x = common_nums gaps in
    let n = common_den gaps in
    let writing = common_writing gaps pg in
    IfOk-weaker (checked_values gaps) (IsWritten (scale_of x) n) (λ values. length values ≡ length gaps + 1)
    (λ values h. omega (arith, IsWriting-length values (scale_of x) n h.1, length-scale_of x, IsWriting-length gaps x n writing))
    (values_written gaps x n pg writing)

pub checked_values-means : (gaps values : List Fraction) → AreFractions gaps → checked_values gaps ≡ Ok values → AreScaleOf gaps values
checked_values-means gaps values pg is = IfOk-at_ok (AreScaleOf gaps) is (values_scale gaps pg)

pub checked_values-length : (gaps values : List Fraction) → AreFractions gaps → checked_values gaps ≡ Ok values → length values ≡ length gaps + 1
checked_values-length gaps values pg is = IfOk-at_ok (λ (vs : List Fraction). length vs ≡ length gaps + 1) is (values_length gaps pg)

pub checked_values-reduced : (gaps values : List Fraction) → AreFractions gaps → checked_values gaps ≡ Ok values → All IsReduced values
checked_values-reduced gaps values pg is = IfOk-at_ok (All IsReduced) is (values_reduced gaps pg)

pub checked_values-fractions : (gaps values : List Fraction) → AreFractions gaps → checked_values gaps ≡ Ok values → AreFractions values
checked_values-fractions gaps values pg is = reduced_are_fractions values (checked_values-reduced gaps values pg is)
