-- The printed text writes the fraction's own numbers, and so reads as the fraction.
use Rattle.std.proofs.Common.{◌≡◌, ◌↔◌, ℕ, suc, ◌^◌, ◌<◌, ◌==◌, Bool, true, false, inl, inr, List, [], ◌∷◌, ◌++◌, Result, Ok, Err, refl, ap, subst, sym, ◌∙◌, arith, ℤ, pos, negsuc, ◌<ℤ◌, ◌*ℤ◌, unsigned_abs, if◌then◌else◌, append-nil}
use Rattle.std.proofs.lemmas.Bool.Decides.{nat_tests}
use Rattle.std.proofs.lemmas.Fmt.{decimal_is_IsNumeral_wide}
use Rattle.std.proofs.lemmas.Int.{ints}
use Rattle.std.specs.Fmt.{decimal, signed_decimal}
use Rattle.std.specs.Result.{IfOk, IsErrOf}
use Rattle.integers.specs.Fraction.{Fraction}
use Rattle.integers.proofs.Order.{fraction_eq_eq, le_of_lt}
use Rattle.integers.proofs.Divisibility.{same_parts, pos-unsigned_abs, unsigned_abs_pos}
use Rattle.frac128.specs.Frac.{IsReduced}
use Rattle.frac128.specs.Range.{IsInRange}
use Rattle.frac128.specs.Text.{WritesUnsigned, Writes, WritesNone, IsTooWide, IsReading, frac_text}
use Rattle.frac128.specs.declared.reading.FracFault.{FracFault}
use Rattle.frac128.specs.declared.reading.FracFault.TheVariants.{BadNumber, TooWide}
use Rattle.frac128.proofs.TextLemmas.{one_reading}
use Rattle.frac128.proofs.ReadingLemmas.{written_den_positive}

-- what stands behind the numerator
abbrev den_text : ℕ → Bool → List ℕ
den_text d b = if b then [] else 47 ∷ decimal d

-- digits and what stands behind them write the two sizes
writes_sizes : (n d : ℕ) (b : Bool) → n < 10 ^ 64 → 0 < d → d < 10 ^ 64 → (b ≡ true → d ≡ 1) → WritesUnsigned (decimal n ++ den_text d b) n d
writes_sizes n d true p some q one =
    let k = decimal_is_IsNumeral_wide n p in
    subst (λ t. WritesUnsigned t n d) (sym (append-nil (decimal n))) (inl (k.0, sym k.1, one refl))
writes_sizes n d false p some q one =
    let k = decimal_is_IsNumeral_wide n p in
    let m = decimal_is_IsNumeral_wide d q in
    inr (record {
      top = decimal n;
      bottom = decimal d;
      parts = refl;
      top_digits = k.0;
      bottom_digits = m.0;
      num_is = sym k.1;
      den_is = sym m.1;
      den_positive = some;
    })

-- the numerator with its sign
writes_signed : (z : ℤ) (d : ℕ) (b : Bool) → unsigned_abs z < 10 ^ 64 → 0 < d → d < 10 ^ 64 → (b ≡ true → d ≡ 1) → Writes (signed_decimal z ++ den_text d b) z d
writes_signed (pos n) d b p some q one = inl (record { size = n; unsigned = writes_sizes n d b p some q one; num_is = refl })
writes_signed (negsuc n) d b p some q one =
    inr (record { rest = decimal (suc n) ++ den_text d b; size = suc n; parts = refl; unsigned = writes_sizes (suc n) d b p some q one; num_is = refl })

-- the fraction is what its text is read as
pub reading_of_printed : (f : Fraction) → IsReduced f → IsInRange f.num → IsInRange f.den → IsReading (frac_text f) f
reading_of_printed f low p q =
    let d = unsigned_abs f.den in
    let one : (d == 1) ≡ true → d ≡ 1 = grind (arith, nat_tests) in
    let written = writes_signed f.num d (d == 1) (omega arith) (unsigned_abs_pos f.den low.0) (omega arith) one in
    (low, (f.num, (d, written, (p, q, ap (λ z. f.num *ℤ z) (pos-unsigned_abs f.den (le_of_lt (pos 0) f.den low.0))))))

-- with the denominator 1, the text is the numerator
pub frac_text_whole : (f : Fraction) → f.den ≡ pos 1 → frac_text f ≡ signed_decimal f.num
frac_text_whole f e = ap (λ (z : ℤ). signed_decimal f.num ++ den_text (unsigned_abs z) (unsigned_abs z == 1)) e ∙ append-nil (signed_decimal f.num)

-- bytes that are read as a fraction are read as no other
pub one_fraction : (f g : Fraction) (bytes : List ℕ) → IsReading bytes f → IsReading bytes g → g ≡ f
one_fraction f g bytes h k =
    let v = h.1 in
    let w = k.1 in
    let same = one_reading bytes v.0 w.0 v.1.0 w.1.0 v.1.1 w.1.1 in
    let some = written_den_positive bytes v.0 v.1.0 v.1.1 in
    let positive : pos 0 <ℤ pos v.1.0 = omega (arith, ints) in
    let g_same : g.num *ℤ pos v.1.0 ≡ v.0 *ℤ g.den = ap (λ d. g.num *ℤ pos d) same.1 ∙ w.1.2.2 ∙ ap (λ z. z *ℤ g.den) (sym same.0) in
    let cross = fraction_eq_eq g.num g.den v.0 (pos v.1.0) f.num f.den k.0.0 positive h.0.0 g_same (sym v.1.2.2) in
    let parts = same_parts g.num g.den f.num f.den k.0.1 h.0.1 k.0.0 h.0.0 cross in
    λ i. record { num = parts.0 i; den = parts.1 i }

-- and are not refused
pub read_back : (f : Fraction) (bytes : List ℕ) (r : Result Fraction FracFault) → IsReading bytes f → IfOk r (λ g. IsReading bytes g) → IsErrOf r BadNumber
    ↔ WritesNone bytes → IsErrOf r TooWide ↔ IsTooWide bytes → r ≡ Ok f
read_back f bytes (Ok g) h k bad wide = ap Ok (one_fraction f g bytes h k)
read_back f bytes (Err BadNumber) h k bad wide = let v = h.1 in absurd (bad.0 refl v.0 v.1.0 v.1.1)
read_back f bytes (Err TooWide) h k bad wide =
    let v = h.1 in
    let w = wide.0 refl in
    let same = one_reading bytes v.0 w.0 v.1.0 w.1.0 v.1.1 w.1.1 in
    absurd (w.1.2 (subst IsInRange same.0 v.1.2.0, subst (λ n. n < 2 ^ 127) same.1 v.1.2.1))
