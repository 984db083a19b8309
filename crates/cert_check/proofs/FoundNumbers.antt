-- Which number a word prints, where it prints one.
use Rattle.std.proofs.Common.{◌≡◌, inl, inr, ℕ, ◌<◌, ◌^◌, List, Option, Some, None, pos, negsuc, unsigned_abs, refl, sym, subst, ◌∙◌, arith}
use Rattle.std.proofs.lemmas.Int.{ints}
use Rattle.integers.specs.Fraction.{Fraction}
use Rattle.frac128.specs.Range.{IsInRange}
use Rattle.frac128.specs.Reader.{read_fraction}
use Rattle.frac128.specs.Text.{frac_text, IsReading}
use Rattle.frac128.proofs.PrintingLemmas.{frac_text_whole}
use Rattle.frac128.proofs.ReaderLemmas.{read_sound, read_complete}
use Rattle.cert_check.specs.Reading.{IsPrintedValue, IsPrintedWhole, IsPrintedCount, IsPrintedPlace, ArePrintedPlaces}
use Rattle.cert_check.proofs.DecidedLemmas.{Decided, OneOrNone, decided_less, decided_same_int, decided_text}
use Rattle.cert_check.proofs.NumberLemmas.{reads, whole, IsValue-whole, whole_text, whole_den, one_whole, one_position, position_is}

-- ---- fractions

-- it is the one that is read
printed_is_read : (word : List ℕ) (f value : Fraction) → read_fraction word ≡ Some f → IsPrintedValue word value → f ≡ value
printed_is_read word f value e h =
    let read : read_fraction word ≡ Some value = read_complete word value (subst (λ w. IsReading w value) (sym h.1) (reads value h.0)) in
    cc

-- where that has numbers in range and prints as the word
found_read : (word : List ℕ) (f : Fraction) → read_fraction word ≡ Some f → Decided (IsInRange f.num) → Decided (IsInRange f.den)
    → Decided (word ≡ frac_text f) → OneOrNone (IsPrintedValue word)
found_read word f e (inl num) (inl den) (inl same) = inl (f, (((read_sound word f e).0, num, den), same))
found_read word f e (inr wide) den same = inr (λ value h. wide (subst (λ (g : Fraction). IsInRange g.num) (sym (printed_is_read word f value e h)) h.0.1))
found_read word f e (inl num) (inr wide) same = inr (λ value h. wide (subst (λ (g : Fraction). IsInRange g.den) (sym (printed_is_read word f value e h)) h.0.2))
found_read word f e (inl num) (inl den) (inr other) =
    inr (λ value h. other (subst (λ (g : Fraction). word ≡ frac_text g) (sym (printed_is_read word f value e h)) h.1))

pub found_value : (word : List ℕ) → OneOrNone (IsPrintedValue word)
found_value word = by_reading (read_fraction word) refl
  where
    by_reading : (o : Option Fraction) → read_fraction word ≡ o → OneOrNone (IsPrintedValue word)
    by_reading None e = inr (λ value h.
        let read : read_fraction word ≡ Some value = read_complete word value (subst (λ w. IsReading w value) (sym h.1) (reads value h.0)) in
        absurd (cc))
    by_reading (Some f) e = found_read word f e (decided_less (unsigned_abs f.num) (2 ^ 127)) (decided_less (unsigned_abs f.den) (2 ^ 127))
        (decided_text word (frac_text f))

-- ---- whole numbers

pub found_whole : (word : List ℕ) → OneOrNone (IsPrintedWhole word)
found_whole word = by_value (found_value word)
  where
    by_den : (f : Fraction) → IsPrintedValue word f → Decided (f.den ≡ pos 1) → OneOrNone (IsPrintedWhole word)
    by_den f h (inl one) = inl (f.num, (h.0.1, h.1 ∙ frac_text_whole f one))
    by_den f h (inr more) = inr (λ z k. more (whole_den word f z h.0 k.0 h.1 k.1))

    by_value : OneOrNone (IsPrintedValue word) → OneOrNone (IsPrintedWhole word)
    by_value (inl (f, h)) = by_den f h (decided_same_int f.den (pos 1))
    by_value (inr none) = inr (λ z h. none (whole z) (IsValue-whole z h.0, h.1 ∙ sym (whole_text z)))

-- the number of entries
pub found_count : (word : List ℕ) → OneOrNone (IsPrintedCount word)
found_count word = by_whole (found_whole word)
  where
    by_whole : OneOrNone (IsPrintedWhole word) → OneOrNone (IsPrintedCount word)
    by_whole (inl (pos n, h)) = inl (n, h)
    by_whole (inl (negsuc n, h)) = inr (λ count k.
        let same = one_whole word (negsuc n) (pos count) h.0 k.0 h.1 k.1 in
        omega (arith, ints))
    by_whole (inr none) = inr (λ count h. none (pos count) h)

-- ---- positions

pub found_place : (word : List ℕ) → OneOrNone (IsPrintedPlace word)
found_place word = by_whole (found_whole word)
  where
    by_bounds : (n : ℕ) → IsPrintedWhole word (pos n) → Decided (0 < n) → Decided (n < 256) → OneOrNone (IsPrintedPlace word)
    by_bounds n h (inl least) (inl most) = inl (n, (omega arith, omega arith, h.1))
    by_bounds n h (inr zero) most = inr (λ place k.
        let same = position_is word (pos n) place h.0 h.1 k.1 k.2 in
        zero (omega (arith, ints)))
    by_bounds n h (inl least) (inr above) = inr (λ place k.
        let same = position_is word (pos n) place h.0 h.1 k.1 k.2 in
        above (omega (arith, ints)))

    by_whole : OneOrNone (IsPrintedWhole word) → OneOrNone (IsPrintedPlace word)
    by_whole (inl (pos n, h)) = by_bounds n h (decided_less 0 n) (decided_less n 256)
    by_whole (inl (negsuc n, h)) = inr (λ place k.
        let same = position_is word (negsuc n) place h.0 h.1 k.1 k.2 in
        omega (arith, ints))
    by_whole (inr none) = inr (λ place h. none (pos place) (omega arith, h.2))

-- of two elements, the first above the second
pub found_places : (upper lower : List ℕ) → OneOrNone (ArePrintedPlaces upper lower)
found_places upper lower = by_both (found_place upper) (found_place lower)
  where
    by_order : (p q : ℕ) → IsPrintedPlace upper p → IsPrintedPlace lower q → Decided (p < q) → OneOrNone (ArePrintedPlaces upper lower)
    by_order p q h k (inl less) = inl ((p, q), ((h.0, less, k.1), h.2, k.2))
    by_order p q h k (inr most) = inr (λ pair both.
        let p_is = one_position upper p pair.0 h.1 (omega arith) h.2 both.1 in
        let q_is = one_position lower q pair.1 k.1 (omega arith) k.2 both.2 in
        most (omega arith))

    by_both : OneOrNone (IsPrintedPlace upper) → OneOrNone (IsPrintedPlace lower) → OneOrNone (ArePrintedPlaces upper lower)
    by_both (inl (p, h)) (inl (q, k)) = by_order p q h k (decided_less p q)
    by_both (inr none) lower_one = inr (λ pair both. none pair.0 (omega arith, omega arith, both.1))
    by_both (inl p) (inr none) = inr (λ pair both. none pair.1 (omega arith, omega arith, both.2))
