-- The fraction that a text writes: the steps by which it is read find what the text writes, and nothing else.
use Rattle.std.proofs.Common.{◌≡◌, ℕ, ◌+◌, ◌^◌, ◌<◌, Bool, true, false, ◌&&◌, cond, List, [], ◌∷◌, length, take, drop, ℤ, pos, neg_ℤ, Option, Some, None, Result, Ok, Err, inl, inr, refl, sym, ap, subst, ◌∙◌, arith}
use Rattle.std.specs.Prelude.{nat_lt, ◌==◌, unsigned_abs, MatchResult}
use Rattle.std.specs.Result.{result_ok}
use Rattle.std.specs.List.{list_all, position}
use Rattle.std.specs.Char.{is_ascii_digit}
use Rattle.std.specs.Option.{option_map, option_map_or, option_and_then}
use Rattle.std.specs.Str.Parse.{IsNumeral, digits_value}
use Rattle.std.proofs.lemmas.Bool.Decides.{nat_tests}
use Rattle.std.proofs.lemmas.Int.{ints}
use Rattle.integers.specs.Fraction.{Fraction, IsFraction, SameFraction}
use Rattle.integers.proofs.Divisibility.{unsigned_abs-neg}
use Rattle.frac128.specs.Frac.{IsReduced, lowest_terms}
use Rattle.frac128.specs.Range.{IsInRange}
use Rattle.frac128.specs.Text.{WritesUnsigned, Writes, WritesNone, IsReading, IsTooWide}
use Rattle.frac128.specs.Reading.{slash, IsReadingFault}
use Rattle.frac128.specs.Reader.{minus, digits_of, quotient_of, sizes_of, fraction_from, read_fraction}
use Rattle.frac128.specs.declared.reading.FracFault.{FracFault}
use Rattle.frac128.specs.declared.reading.FracFault.TheVariants.{BadNumber, TooWide}
use Rattle.frac128.proofs.Checked.{lowest_terms-is, lowest_terms-unique}
use Rattle.frac128.proofs.DigitLemmas.{AllDigits-from_test, test-from_AllDigits}
use Rattle.frac128.proofs.ReadingLemmas.{no_slash, first_slash_is, parts_at_slash, written_den_positive}
use Rattle.frac128.proofs.TextLemmas.{digits_without_slash, quotient_at_slash, first_digit, one_reading}

-- both tests pass
both : (a b : Bool) → (a && b) ≡ true → (a ≡ true) × (b ≡ true)
both true b h = (refl, h)
both false b h = absurd (cc)

-- ---- digits

-- what was read is digits and their number
digits_sound : (text : List ℕ) (n : ℕ) → digits_of text ≡ Some n → IsNumeral 10 text × (n ≡ digits_value 10 text)
digits_sound text n h = by_test (nat_lt 0 (length text) && list_all is_ascii_digit text) refl h
  where
    by_test : (b : Bool) → (nat_lt 0 (length text) && list_all is_ascii_digit text) ≡ b → cond b (Some (digits_value 10 text)) None ≡ Some n → IsNumeral 10 text × (n ≡ digits_value 10 text)
    by_test true e k =
        let parts = both (nat_lt 0 (length text)) (list_all is_ascii_digit text) e in
        let filled : 0 < length text = grind (arith, nat_tests) in
        ((filled, AllDigits-from_test text parts.1), cc)
    by_test false e k = absurd (cc)

-- digits are read
digits_complete : (text : List ℕ) → IsNumeral 10 text → digits_of text ≡ Some (digits_value 10 text)
digits_complete text h =
    let filled : nat_lt 0 (length text) ≡ true = grind (arith, nat_tests) in
    rw (filled, test-from_AllDigits text h.1) refl

-- ---- two numbers

-- around a `/`
quotient_sound : (top bottom : Option ℕ) (s : ℕ × ℕ) → quotient_of top bottom ≡ Some s → (top ≡ Some s.0) × (bottom ≡ Some s.1) × (0 < s.1)
quotient_sound None bottom s h = absurd (cc)
quotient_sound (Some n) None s h = absurd (cc)
quotient_sound (Some n) (Some d) s h = by_test (nat_lt 0 d) refl h
  where
    by_test : (b : Bool) → nat_lt 0 d ≡ b → cond b (Some (n, d)) None ≡ Some s → (Some n ≡ Some s.0) × (Some d ≡ Some s.1) × (0 < s.1)
    by_test true e k =
        let pair : (n, d) ≡ s = cc in
        let above : 0 < d = grind (arith, nat_tests) in
        (ap (λ (p : ℕ × ℕ). Some p.0) pair, ap (λ (p : ℕ × ℕ). Some p.1) pair, subst (λ (p : ℕ × ℕ). 0 < p.1) pair above)
    by_test false e k = absurd (cc)

-- what was read is written
sizes_sound : (text : List ℕ) (s : ℕ × ℕ) → sizes_of text ≡ Some s → WritesUnsigned text s.0 s.1
sizes_sound text s h = by_place (position (λ b. b == slash) text) refl h
  where
    whole : (o : Option ℕ) → digits_of text ≡ o → option_map (λ n. (n, 1)) o ≡ Some s → WritesUnsigned text s.0 s.1
    whole None e k = absurd (cc)
    whole (Some n) e k =
        let d = digits_sound text n e in
        let pair : (n, 1) ≡ s = cc in
        subst (λ (p : ℕ × ℕ). WritesUnsigned text p.0 p.1) pair (inl (d.0, d.1, refl))

    by_place : (o : Option ℕ) → position (λ b. b == slash) text ≡ o
        → option_map_or (λ at. quotient_of (digits_of (take at text)) (digits_of (drop (at + 1) text))) o (option_map (λ n. (n, 1)) (digits_of text)) ≡ Some s → WritesUnsigned text s.0 s.1
    by_place None e k = whole (digits_of text) refl k
    by_place (Some at) e k =
        let q = quotient_sound (digits_of (take at text)) (digits_of (drop (at + 1) text)) s k in
        let top = digits_sound (take at text) s.0 q.0 in
        let bottom = digits_sound (drop (at + 1) text) s.1 q.1 in
        inr (record {
          top = take at text;
          bottom = drop (at + 1) text;
          parts = parts_at_slash text at (first_slash_is text at e);
          top_digits = top.0;
          bottom_digits = bottom.0;
          num_is = top.1;
          den_is = bottom.1;
          den_positive = q.2;
        })

-- what is written is read
sizes_complete : (text : List ℕ) (n d : ℕ) → WritesUnsigned text n d → sizes_of text ≡ Some (n, d)
sizes_complete text n d h = by_place (position (λ b. b == slash) text) refl
  where
    by_place : (o : Option ℕ) → position (λ b. b == slash) text ≡ o
        → option_map_or (λ at. quotient_of (digits_of (take at text)) (digits_of (drop (at + 1) text))) o (option_map (λ n. (n, 1)) (digits_of text)) ≡ Some (n, d)
    by_place None e =
        let w = digits_without_slash text n d (no_slash text e) h in
        rw (digits_complete text w.0, ← w.1, w.2) refl
    by_place (Some at) e =
        let s = first_slash_is text at e in
        let q = quotient_at_slash text at n d s.inside s.here s.before h in
        let above : nat_lt 0 d ≡ true = let p = q.den_positive in grind (arith, nat_tests) in
        rw (digits_complete (take at text) q.top_digits, digits_complete (drop (at + 1) text) q.bottom_digits, ← q.num_is, ← q.den_is, above) refl

-- ---- with a sign

-- one step of a chain
step_some : {A B : Type 0} (o : Option A) (f : A → Option B) (y : B) → option_and_then f o ≡ Some y → (a : A) × (o ≡ Some a) × (f a ≡ Some y)
step_some None f y h = absurd (cc)
step_some (Some a) f y h = (a, refl, h)

-- what a fraction comes from
from_sound : (sign : ℕ → ℤ) (s : ℕ × ℕ) (f : Fraction) → fraction_from sign s ≡ Some f
    → (s.0 < 2 ^ 127) × (s.1 < 2 ^ 127) × (f ≡ lowest_terms (record { num = sign s.0; den = pos s.1 }))
from_sound sign s f h = by_test (nat_lt s.0 (2 ^ 127) && nat_lt s.1 (2 ^ 127)) refl h
  where
    by_test : (b : Bool) → (nat_lt s.0 (2 ^ 127) && nat_lt s.1 (2 ^ 127)) ≡ b
        → cond b (Some (lowest_terms (record { num = sign s.0; den = pos s.1 }))) None ≡ Some f
        → (s.0 < 2 ^ 127) × (s.1 < 2 ^ 127) × (f ≡ lowest_terms (record { num = sign s.0; den = pos s.1 }))
    by_test true e k =
        let parts = both (nat_lt s.0 (2 ^ 127)) (nat_lt s.1 (2 ^ 127)) e in
        let num : s.0 < 2 ^ 127 = let p = parts.0 in grind (arith, nat_tests) in
        let den : s.1 < 2 ^ 127 = let p = parts.1 in grind (arith, nat_tests) in
        (num, den, cc)
    by_test false e k = absurd (cc)

from_complete : (sign : ℕ → ℤ) (n d : ℕ) → n < 2 ^ 127 → d < 2 ^ 127 → fraction_from sign (n, d) ≡ Some (lowest_terms (record { num = sign n; den = pos d }))
from_complete sign n d h k =
    let num : nat_lt n (2 ^ 127) ≡ true = grind (arith, nat_tests) in
    let den : nat_lt d (2 ^ 127) ≡ true = grind (arith, nat_tests) in
    rw (num, den) refl

-- ---- the fraction

-- a fraction of two numbers that are written
reading_of : (bytes : List ℕ) (num : ℤ) (d : ℕ) → Writes bytes num d → IsInRange num → d < 2 ^ 127 → IsReading bytes (lowest_terms (record { num = num; den = pos d }))
reading_of bytes num d w fits below =
    let above = written_den_positive bytes num d w in
    let terms = lowest_terms-is (record { num = num; den = pos d }) (omega (arith, ints, above)) in
    (terms.0, (num, (d, w, (fits, below, terms.1))))

-- what was read is written
pub read_sound : (bytes : List ℕ) (f : Fraction) → read_fraction bytes ≡ Some f → IsReading bytes f
read_sound [] f h = absurd (cc)
read_sound (b ∷ bytes) f h = by_test (b == minus) refl h
  where
    by_test : (t : Bool) → (b == minus) ≡ t → cond t (option_and_then (fraction_from (λ n. neg_ℤ (pos n))) (sizes_of bytes)) (option_and_then (fraction_from (λ n. pos n)) (sizes_of (b ∷ bytes))) ≡ Some f → IsReading (b ∷ bytes) f
    by_test true e k =
        let s = step_some (sizes_of bytes) (fraction_from (λ n. neg_ℤ (pos n))) f k in
        let fits = from_sound (λ n. neg_ℤ (pos n)) s.0 f s.2 in
        let minus : b ≡ minus = grind (arith, nat_tests) in
        let num_fits : unsigned_abs (neg_ℤ (pos s.0.0)) < 2 ^ 127 = rw (unsigned_abs-neg (pos s.0.0)) fits.0 in
        let w : Writes (b ∷ bytes) (neg_ℤ (pos s.0.0)) s.0.1 = inr (record { rest = bytes; size = s.0.0; parts = ap (λ x. x ∷ bytes) minus; unsigned = sizes_sound bytes s.0 s.1; num_is = refl }) in
        subst (IsReading (b ∷ bytes)) (sym fits.2) (reading_of (b ∷ bytes) (neg_ℤ (pos s.0.0)) s.0.1 w num_fits fits.1)
    by_test false e k =
        let s = step_some (sizes_of (b ∷ bytes)) (fraction_from (λ n. pos n)) f k in
        let fits = from_sound (λ n. pos n) s.0 f s.2 in
        let w : Writes (b ∷ bytes) (pos s.0.0) s.0.1 = inl (record { size = s.0.0; unsigned = sizes_sound (b ∷ bytes) s.0 s.1; num_is = refl }) in
        subst (IsReading (b ∷ bytes)) (sym fits.2) (reading_of (b ∷ bytes) (pos s.0.0) s.0.1 w fits.0 fits.1)

-- the fraction in lowest terms
terms_of : (f : Fraction) (num : ℤ) (d : ℕ) (bytes : List ℕ) → Writes bytes num d → IsReduced f → SameFraction f (record { num = num; den = pos d }) → lowest_terms (record { num = num; den = pos d }) ≡ f
terms_of f num d bytes w reduced same =
    let above = written_den_positive bytes num d w in
    sym (lowest_terms-unique f (record { num = num; den = pos d }) (omega (arith, ints, above)) reduced same)

-- a text without a sign
plain_complete : (bytes : List ℕ) (n d : ℕ) → WritesUnsigned bytes n d → n < 2 ^ 127 → d < 2 ^ 127 → read_fraction bytes ≡ Some (lowest_terms (record { num = pos n; den = pos d }))
plain_complete [] n d w h k = absurd (let e = (first_digit [] n d w).0 in omega (arith, e))
plain_complete (b ∷ bytes) n d w h k =
    let no_minus : (b == minus) ≡ false = let e = (first_digit (b ∷ bytes) n d w).1 in grind (arith, nat_tests) in
    rw (no_minus, sizes_complete (b ∷ bytes) n d w) (from_complete (λ n. pos n) n d h k)

-- what is written is read
pub read_complete : (bytes : List ℕ) (f : Fraction) → IsReading bytes f → read_fraction bytes ≡ Some f
read_complete bytes f (reduced, (num, (d, inl w, fits))) =
    let size : w.size < 2 ^ 127 = subst (λ z. unsigned_abs z < 2 ^ 127) w.num_is fits.0 in
    plain_complete bytes w.size d w.unsigned size fits.1 ∙ ap (λ z. Some (lowest_terms (record { num = z; den = pos d }))) (sym w.num_is) ∙ ap (λ g. Some g) (terms_of f num d bytes (inl w) reduced fits.2)
read_complete bytes f (reduced, (num, (d, inr w, fits))) =
    let size : w.size < 2 ^ 127 = rw (unsigned_abs-neg (pos w.size)) at (subst (λ z. unsigned_abs z < 2 ^ 127) w.num_is fits.0) in
    let minus : read_fraction (minus ∷ w.rest) ≡ Some (lowest_terms (record { num = neg_ℤ (pos w.size); den = pos d })) = rw (sizes_complete w.rest w.size d w.unsigned) (from_complete (λ n. neg_ℤ (pos n)) w.size d size fits.1) in
    ap read_fraction w.parts ∙ minus ∙ ap (λ z. Some (lowest_terms (record { num = z; den = pos d }))) (sym w.num_is) ∙ ap (λ g. Some g) (terms_of f num d bytes (inr w) reduced fits.2)

-- what is refused isn't read
pub read_none : (bytes : List ℕ) → ((f : Fraction) → ¬ IsReading bytes f) → read_fraction bytes ≡ None
read_none bytes h = by_value (read_fraction bytes) refl
  where
    by_value : (o : Option Fraction) → read_fraction bytes ≡ o → o ≡ None
    by_value None e = refl
    by_value (Some f) e = absurd (h f (read_sound bytes f e))

-- a text that writes nothing is no reading
pub bad_number : (bytes : List ℕ) → WritesNone bytes → (f : Fraction) → ¬ IsReading bytes f
bad_number bytes h f k = h k.1.0 k.1.1.0 k.1.1.1

-- and one that writes numbers out of the range
pub too_wide : (bytes : List ℕ) → IsTooWide bytes → (f : Fraction) → ¬ IsReading bytes f
too_wide bytes h f k =
    let same = one_reading bytes h.0 k.1.0 h.1.0 k.1.1.0 h.1.1 k.1.1.1 in
    h.1.2 (subst IsInRange (sym same.0) k.1.1.2.0, subst (λ d. IsInRange (pos d)) (sym same.1) k.1.1.2.1)

-- a fraction that was read has a positive denominator
pub read_positive : (bytes : List ℕ) (f : Fraction) → read_fraction bytes ≡ Some f → IsFraction f
read_positive bytes f h = (read_sound bytes f h).0.0

-- what the reader answers is what the bytes write
pub value_is : (bytes : List ℕ) (r : Result Fraction FracFault) → MatchResult r (IsReading bytes) (IsReadingFault bytes)
    → result_ok r ≡ read_fraction bytes
value_is bytes (Ok f) h = sym (read_complete bytes f h)
value_is bytes (Err BadNumber) h = sym (read_none bytes (bad_number bytes h))
value_is bytes (Err TooWide) h = sym (read_none bytes (too_wide bytes h))
