-- From the parts of a text to the two numbers that it writes.
use Rattle.std.proofs.Common.{◌≡◌, ◌≢◌, ℕ, ◌-◌, suc, Result, Ok, Err, ◌+◌, ◌^◌, ◌<◌, inl, inr, List, [], ◌∷◌, ◌++◌, None, Some, length, get_or, take, drop, refl, ap, subst, sym, ◌∙◌, arith, ℤ, pos, ◌==◌, neg_ℤ, ◌↔◌}
use Rattle.std.proofs.Math.IntN.{neg_ℤ-neg_ℤ}
use Rattle.std.proofs.Math.Seq.{drop-cons}
use Rattle.std.proofs.lemmas.List.{take-append-drop}
use Rattle.std.specs.Result.{MatchResult, IsErrOf}
use Rattle.std.proofs.lemmas.List.Sums.{fails_before_first}
use Rattle.std.proofs.lemmas.Grind.{common_steps}
use Rattle.std.proofs.lemmas.List.Quantifiers.{position-Some}
use Rattle.std.proofs.lemmas.Bool.Decides.{nat_tests}
use Rattle.std.specs.List.{position, position_or_len}
use Rattle.std.specs.Str.Parse.{IsNumeral, digits_value}
use Rattle.integers.specs.Fraction.{Fraction}
use Rattle.integers.proofs.Divisibility.{unsigned_abs-neg}
use Rattle.frac128.specs.Range.{IsInRange}
use Rattle.frac128.specs.Text.{WritesUnsigned, Writes, WritesNone, IsTooWide, IsReading}
use Rattle.frac128.specs.Reading.{WritesNumber, IsNumberFault, WriteQuotient, IsQuotientFault, WritesSizes, IsSizesFault, WritesSigned, IsReadingFault}
use Rattle.frac128.specs.declared.reading.FracFault.{FracFault}
use Rattle.frac128.specs.declared.reading.FracFault.TheVariants.{BadNumber, TooWide}
use Rattle.frac128.proofs.TextLemmas.{digits_without_slash, quotient_at_slash, first_digit, one_reading}

-- no byte is `/`
pub no_slash : (text : List ℕ) → position (λ byte. byte == 47) text ≡ None → (k : ℕ) → k < length text → get_or text k 0 ≢ 47
no_slash text e k inside at =
    let below : k < position_or_len (λ (byte : ℕ). byte == 47) text = grind (arith, nat_tests) in
    let fails = fails_before_first (λ (byte : ℕ). byte == 47) text k 0 below in
    grind (arith, nat_tests)

-- the first byte that is `/`
pub record FirstSlash (text : List ℕ) (i : ℕ) : Type 0 where
  pub inside : i < length text
  pub here : get_or text i 0 ≡ 47
  pub before : (k : ℕ) → k < i → get_or text k 0 ≢ 47

pub first_slash_is : (text : List ℕ) (i : ℕ) → position (λ byte. byte == 47) text ≡ Some i → FirstSlash text i
first_slash_is text i e =
    let h = position-Some (λ (byte : ℕ). byte == 47) text i 0 e in
    record {
      inside = h.0;
      here = let t = h.1 in grind (arith, nat_tests);
      before = λ k l at. let t = h.2 k l in grind (arith, nat_tests);
    }

-- the text around its first `/`
pub parts_at_slash : (text : List ℕ) (i : ℕ) → FirstSlash text i → text ≡ take i text ++ 47 ∷ drop (i + 1) text
parts_at_slash text i h =
    let next : suc i ≡ i + 1 = omega arith in
    sym (take-append-drop i text) ∙ ap (λ t. take i text ++ t)
    (drop-cons text i 0 h.inside ∙ ap (λ b. b ∷ drop (suc i) text) h.here ∙ ap (λ k. 47 ∷ drop k text) next)

-- a text without `/`
pub sizes_of_whole : (text : List ℕ) (num den : ℤ) → WritesNumber text num → den ≡ pos 1 → WritesSizes text num den
sizes_of_whole text num den h e =
    record { num_size = digits_value 10 text; den_size = 1; unsigned = inl (h.0, refl, refl); num_fits = h.1; den_fits = omega arith; num_is = h.2; den_is = e }

pub fault_of_whole : (text : List ℕ) (fault : FracFault) → position (λ byte. byte == 47) text ≡ None → IsNumberFault text fault → IsSizesFault text fault
fault_of_whole text BadNumber none h = λ n d w. h (digits_without_slash text n d (no_slash text none) w).0
fault_of_whole text TooWide none h = record { num_size = digits_value 10 text; den_size = 1; unsigned = inl (h.0, refl, refl); wide = λ w. h.1 w.0 }

-- a text with `/`
module _ (text : List ℕ) (i : ℕ) (e : position (λ byte. byte == 47) text ≡ Some i) where
  writes : IsNumeral 10 (take i text) → IsNumeral 10 (drop (i + 1) text) → 0 < digits_value 10 (drop (i + 1) text)
      → WritesUnsigned text (digits_value 10 (take i text)) (digits_value 10 (drop (i + 1) text))
  writes p q r =
      inr (record {
        top = take i text;
        bottom = drop (i + 1) text;
        parts = parts_at_slash text i (first_slash_is text i e);
        top_digits = p;
        bottom_digits = q;
        num_is = refl;
        den_is = refl;
        den_positive = r;
      })

  pub sizes_of_quotient : (num den : ℤ) → WriteQuotient (take i text) (drop (i + 1) text) num den → WritesSizes text num den
  sizes_of_quotient num den h =
      record {
        num_size = digits_value 10 (take i text);
        den_size = digits_value 10 (drop (i + 1) text);
        unsigned = writes h.0.0 h.1.0 h.2;
        num_fits = h.0.1;
        den_fits = h.1.1;
        num_is = h.0.2;
        den_is = h.1.2;
      }

  pub fault_of_quotient : (fault : FracFault) → IsQuotientFault (take i text) (drop (i + 1) text) fault → IsSizesFault text fault
  fault_of_quotient BadNumber h = λ n d w.
      let s = first_slash_is text i e in
      let q = quotient_at_slash text i n d s.inside s.here s.before w in
      h (q.top_digits, q.bottom_digits, subst (λ m. 0 < m) q.den_is q.den_positive)
  fault_of_quotient TooWide h =
      record { num_size = digits_value 10 (take i text); den_size = digits_value 10 (drop (i + 1) text); unsigned = writes h.0.0 h.0.1 h.0.2; wide = h.1 }

-- what the two steps answer, as what the whole answers
pub reads_whole : (text : List ℕ) (r : Result (ℤ × ℤ) FracFault) → position (λ byte. byte == 47) text ≡ None
    → MatchResult r (λ sizes. WritesNumber text sizes.0 × (sizes.1 ≡ pos 1)) (λ fault. IsNumberFault text fault)
    → MatchResult r (λ sizes. WritesSizes text sizes.0 sizes.1) (λ fault. IsSizesFault text fault)
reads_whole text (Ok sizes) none h = sizes_of_whole text sizes.0 sizes.1 h.0 h.1
reads_whole text (Err fault) none h = fault_of_whole text fault none h

pub reads_quotient : (text : List ℕ) (i : ℕ) (top bottom : List ℕ) (r : Result (ℤ × ℤ) FracFault) → position (λ byte. byte == 47) text ≡ Some i
    → top ≡ take i text → bottom ≡ drop (i + 1) text
    → MatchResult r (λ sizes. WriteQuotient top bottom sizes.0 sizes.1) (λ fault. IsQuotientFault top bottom fault)
    → MatchResult r (λ sizes. WritesSizes text sizes.0 sizes.1) (λ fault. IsSizesFault text fault)
reads_quotient text i top bottom (Ok sizes) e p q h =
    sizes_of_quotient text i e sizes.0 sizes.1 (subst (λ t. WriteQuotient t (drop (i + 1) text) sizes.0 sizes.1) p
    (subst (λ b. WriteQuotient top b sizes.0 sizes.1) q h))
reads_quotient text i top bottom (Err fault) e p q h =
    fault_of_quotient text i e fault (subst (λ t. IsQuotientFault t (drop (i + 1) text) fault) p (subst (λ b. IsQuotientFault top b fault) q h))

-- the denominator is not 0
den_positive : (text : List ℕ) (n d : ℕ) → WritesUnsigned text n d → 0 < d
den_positive text n d (inl h) = omega (arith, h.2)
den_positive text n d (inr q) = q.den_positive

pub written_den_positive : (bytes : List ℕ) (num : ℤ) (d : ℕ) → Writes bytes num d → 0 < d
written_den_positive bytes num d (inl a) = den_positive bytes a.size d a.unsigned
written_den_positive bytes num d (inr b) = den_positive b.rest b.size d b.unsigned

-- a text that begins with no `-`
pub reads_plain : (bytes : List ℕ) (r : Result (ℤ × ℤ) FracFault) → (0 < length bytes → get_or bytes 0 0 ≢ 45)
    → MatchResult r (λ sizes. WritesSizes bytes sizes.0 sizes.1) (λ fault. IsSizesFault bytes fault)
    → MatchResult r (λ sizes. WritesSigned bytes sizes.0 sizes.1) (λ fault. IsReadingFault bytes fault)
reads_plain bytes (Ok sizes) plain h = record {
  size = h.den_size;
  written = inl (record { size = h.num_size; unsigned = h.unsigned; num_is = h.num_is });
  den_is = h.den_is;
  positive = den_positive bytes h.num_size h.den_size h.unsigned;
  num_fits = subst IsInRange (sym h.num_is) h.num_fits;
  den_fits = h.den_fits;
}
reads_plain bytes (Err BadNumber) plain h =
    λ num den w. elim w [ inl a ↦ h a.size den a.unsigned | inr b ↦ plain (omega (arith, ap length b.parts)) (ap (λ t. get_or t 0 0) b.parts) ]
reads_plain bytes (Err TooWide) plain h = (pos h.num_size, (h.den_size, inl (record { size = h.num_size; unsigned = h.unsigned; num_is = refl }), h.wide))

neg-neg : (z w : ℤ) → neg_ℤ z ≡ w → z ≡ neg_ℤ w
neg-neg z w e = sym (neg_ℤ-neg_ℤ z) ∙ ap neg_ℤ e

-- a text behind a `-`
pub reads_negative : (rest : List ℕ) (r : Result (ℤ × ℤ) FracFault)
    → MatchResult r (λ sizes. WritesSizes rest (neg_ℤ sizes.0) sizes.1) (λ fault. IsSizesFault rest fault)
    → MatchResult r (λ sizes. WritesSigned (45 ∷ rest) sizes.0 sizes.1) (λ fault. IsReadingFault (45 ∷ rest) fault)
reads_negative rest (Ok sizes) h =
    let is = neg-neg sizes.0 (pos h.num_size) h.num_is in
    record {
      size = h.den_size;
      written = inr (record { rest = rest; size = h.num_size; parts = refl; unsigned = h.unsigned; num_is = is });
      den_is = h.den_is;
      positive = den_positive rest h.num_size h.den_size h.unsigned;
      num_fits = subst IsInRange (sym is) (subst (λ n. n < 2 ^ 127) (sym (unsigned_abs-neg (pos h.num_size))) h.num_fits);
      den_fits = h.den_fits;
    }
reads_negative rest (Err BadNumber) h = λ num den w. elim w [
  | inl a ↦ (first_digit (45 ∷ rest) a.size den a.unsigned).1 refl
  | inr b ↦ h b.size den (subst (λ t. WritesUnsigned t b.size den) (sym (ap (drop 1) b.parts)) b.unsigned)
]
reads_negative rest (Err TooWide) h = (
  neg_ℤ (pos h.num_size),
  (
    h.den_size,
    inr (record { rest = rest; size = h.num_size; parts = refl; unsigned = h.unsigned; num_is = refl }),
    λ w. h.wide
        (subst (λ n. n < 2 ^ 127) (unsigned_abs-neg (pos h.num_size)) w.0, w.1),
  ),
)

-- a text that begins with `-`
pub reads_minus : (bytes rest : List ℕ) (r : Result (ℤ × ℤ) FracFault) → 0 < length bytes → get_or bytes 0 0 ≡ 45 → rest ≡ drop 1 bytes
    → MatchResult r (λ sizes. WritesSizes rest (neg_ℤ sizes.0) sizes.1) (λ fault. IsSizesFault rest fault)
    → MatchResult r (λ sizes. WritesSigned bytes sizes.0 sizes.1) (λ fault. IsReadingFault bytes fault)
reads_minus [] rest r some at e h = absurd (omega arith)
reads_minus (b ∷ bs) rest r some at e h =
    let whole : 45 ∷ rest ≡ b ∷ bs = ap (λ x. x ∷ rest) (sym at) ∙ ap (λ t. b ∷ t) e in
    subst (λ t. MatchResult r (λ sizes. WritesSigned t sizes.0 sizes.1) (λ fault. IsReadingFault t fault)) whole (reads_negative rest r h)

-- the three cases shut each other out
pub bad_number_is : (bytes : List ℕ) (r : Result Fraction FracFault) → MatchResult r (λ f. IsReading bytes f) (λ fault. IsReadingFault bytes fault)
    → IsErrOf r BadNumber ↔ WritesNone bytes
bad_number_is bytes (Ok f) h = let w = h.1 in ((λ e. cc), λ none. absurd (none w.0 w.1.0 w.1.1))
bad_number_is bytes (Err BadNumber) h = ((λ e. h), λ none. refl)
bad_number_is bytes (Err TooWide) h = ((λ e. cc), λ none. absurd (none h.0 h.1.0 h.1.1))

pub too_wide_is : (bytes : List ℕ) (r : Result Fraction FracFault) → MatchResult r (λ f. IsReading bytes f) (λ fault. IsReadingFault bytes fault)
    → IsErrOf r TooWide ↔ IsTooWide bytes
too_wide_is bytes (Ok f) h = (
  (λ e. cc),
  λ w.
      let r = h.1 in
      let same = one_reading bytes r.0 w.0 r.1.0 w.1.0 r.1.1 w.1.1 in
      absurd (w.1.2 (subst IsInRange same.0 r.1.2.0, subst (λ d. IsInRange (pos d)) same.1 r.1.2.1)),
)
too_wide_is bytes (Err BadNumber) h = ((λ e. cc), λ w. absurd (h w.0 w.1.0 w.1.1))
too_wide_is bytes (Err TooWide) h = ((λ e. h), λ w. refl)

-- a slice up to the end is the rest
pub take-rest : (k : ℕ) (xs : List ℕ) → take (length xs - k) (drop k xs) ≡ drop k xs
take-rest k xs = grind (arith, common_steps)
