-- Numbers that are read only as they are printed.
use Rattle.std.proofs.Common.{◌≡◌, ◌≢◌, ◌↔◌, ℕ, ◌≤◌, List, Result, Ok, ℤ, pos, refl, sym, ap, subst, ◌∙◌, arith}
use Rattle.std.specs.Fmt.{decimal, signed_decimal}
use Rattle.std.specs.Result.{IfOk, IsErrOf}
use Rattle.std.proofs.Math.Nat.{eq-one_of_dvd-one}
use Rattle.std.proofs.lemmas.Int.{ints}
use Rattle.integers.specs.Fraction.{Fraction}
use Rattle.frac128.specs.Range.{IsInRange}
use Rattle.frac128.specs.Text.{frac_text, IsReading, WritesNone, IsTooWide}
use Rattle.frac128.specs.declared.reading.FracFault.{FracFault}
use Rattle.frac128.specs.declared.reading.FracFault.TheVariants.{BadNumber, TooWide}
use Rattle.frac128.proofs.PrintingLemmas.{reading_of_printed, one_fraction, read_back, frac_text_whole}
use Rattle.cert_check.specs.Text.{IsValue}

-- the bytes that print a fraction are read as it
pub reads : (value : Fraction) → IsValue value → IsReading (frac_text value) value
reads value h = reading_of_printed value h.0 h.1 h.2

-- a fraction's text is that of no other
pub one_value : (word : List ℕ) (f g : Fraction) → IsValue f → IsValue g → word ≡ frac_text f → word ≡ frac_text g → f ≡ g
one_value word f g hf hg e d =
    sym (one_fraction f g word (subst (λ w. IsReading w f) (sym e) (reads f hf)) (subst (λ w. IsReading w g) (sym d) (reads g hg)))

-- what is read where the bytes print a fraction
pub value_read : (word : List ℕ) (r : Result Fraction FracFault) (value : Fraction) → IsValue value → word ≡ frac_text value
    → IfOk r (λ frac. IsReading word frac) → IsErrOf r BadNumber ↔ WritesNone word → IsErrOf r TooWide ↔ IsTooWide word → r ≡ Ok value
value_read word r value h e ok bad wide = read_back value word r (subst (λ w. IsReading w value) (sym e) (reads value h)) ok bad wide

-- ---- whole numbers

-- a whole number over 1
abbrev pub whole : ℤ → Fraction
whole z = record { num = z; den = pos 1 }

-- it is a fraction in lowest terms
pub IsValue-whole : (z : ℤ) → IsInRange z → IsValue (whole z)
IsValue-whole z h = ((omega (arith, ints), (λ d over under. eq-one_of_dvd-one under)), h, omega arith)

-- and its text is the number's
pub whole_text : (z : ℤ) → frac_text (whole z) ≡ signed_decimal z
whole_text z = frac_text_whole (whole z) refl

-- a whole number's text is that of no other
pub one_whole : (word : List ℕ) (y z : ℤ) → IsInRange y → IsInRange z → word ≡ signed_decimal y → word ≡ signed_decimal z → y ≡ z
one_whole word y z hy hz e d =
    ap (λ (f : Fraction). f.num) (one_value word (whole y) (whole z) (IsValue-whole y hy) (IsValue-whole z hz) (e ∙ sym (whole_text y))
    (d ∙ sym (whole_text z)))

-- a fraction that prints a whole number is over 1
pub whole_den : (word : List ℕ) (f : Fraction) (z : ℤ) → IsValue f → IsInRange z → word ≡ frac_text f → word ≡ signed_decimal z → f.den ≡ pos 1
whole_den word f z hf hz e d = ap (λ (f : Fraction). f.den) (one_value word f (whole z) hf (IsValue-whole z hz) e (d ∙ sym (whole_text z)))

-- ---- positions

-- a position's text as that of a whole number
pub position_is : (word : List ℕ) (number : ℤ) (place : ℕ) → IsInRange number → word ≡ signed_decimal number → place ≤ 255 → word ≡ decimal place
    → number ≡ pos place
position_is word number place h e small d = one_whole word number (pos place) h (omega arith) e d

-- a position's text is that of no other
pub one_position : (word : List ℕ) (p q : ℕ) → p ≤ 255 → q ≤ 255 → word ≡ decimal p → word ≡ decimal q → p ≡ q
one_position word p q hp hq e d = let same = one_whole word (pos p) (pos q) (omega arith) (omega arith) e d in omega (arith, ints)

-- bytes other than the text of the fraction that was read are no fraction's text
pub printed_otherwise : (word text : List ℕ) (r : Result Fraction FracFault) (read value : Fraction) → r ≡ Ok read → r ≡ Ok value → text ≡ frac_text read
    → word ≡ frac_text value → text ≢ word → ⊥
printed_otherwise word text r read value is would printed e other =
    let same : read ≡ value = cc in
    other (printed ∙ ap frac_text same ∙ sym e)
