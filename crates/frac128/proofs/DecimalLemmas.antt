-- Decimal digits by division, and the nearest whole number.
use Rattle.std.proofs.Common.{Decides, ◌<ℤ◌, ◌≡◌, ℕ, zero, suc, ◌+◌, ◌-◌, ◌*◌, ◌/◌, ◌%◌, ◌^◌, ◌&&◌, ◌<◌, ◌≤◌, List, [], ◌∷◌, ◌++◌, length, refl, ap, subst, sym, ◌∙◌, arith, ℤ, pos, negsuc, neg_ℤ, ◌-ℤ◌, ◌*ℤ◌, unsigned_abs, Bool, true, false, ◌↔◌, append-nil, replicate, ⊎_elim}
use Rattle.std.proofs.Math.Nat.{mul-le-mul_left, pow-le-pow_right}
use Rattle.std.proofs.lemmas.Fmt.{decimal_is_IsNumeral_wide, length-decimal-le_wide}
use Rattle.std.proofs.lemmas.Grind.{pow_more}
use Rattle.std.proofs.lemmas.Nat.{div-mul-add, mod-mul-add}
use Rattle.std.proofs.lemmas.Bool.Decides.{nat_tests, Decides-and}
use Rattle.std.specs.Prelude.{int_lt, nat_lt}
use Rattle.std.proofs.lemmas.Bool.{cases_lt, false≢true}
use Rattle.std.specs.Fmt.{padded_integral, char_count, format_spec, decimal}
use Rattle.std.proofs.lemmas.Int.{ints}
use Rattle.std.specs.Str.Parse.{AllDigits, digits_value}
use Rattle.integers.specs.Fraction.{Fraction}
use Rattle.integers.proofs.Ring.{neg, ◌⊖◌, ◌⊗◌, ◌≗◌, ring4}
use Rattle.integers.proofs.Divisibility.{pos-unsigned_abs, unsigned_abs-neg}
use Rattle.integers.proofs.Order.{le_of_lt}
use Rattle.integers.proofs.OrderTests.{int_lt-Decides}
use Rattle.frac128.specs.Decimal.{IsNearest, IsDecimal, IsHalfUp, sign_text, padded_digits, pointed_text, half_up, rounded_size, decimal_text}

-- a power of ten more
pub ten_more : (i : ℕ) → 10 ^ (i + 1) ≡ 10 * 10 ^ i
ten_more i = omega (arith, pow_more 10 i)

pub ten_positive : (i : ℕ) → 0 < 10 ^ i
ten_positive i = omega (arith, pow-le-pow_right {n = 10} (omega arith) {i = 0} {j = i} (omega arith))

pub ten_small : (i : ℕ) → i ≤ 18 → 10 ^ i ≤ 1000000000000000000
ten_small i h = omega (arith, pow-le-pow_right {n = 10} (omega arith) h)

-- one more digit
pub digit_more : (part left next digit den rest i : ℕ) → part * den + left ≡ 10 ^ i * rest → digit * den + next ≡ 10 * left
    → (part * 10 + digit) * den + next ≡ 10 ^ (i + 1) * rest
digit_more part left next digit den rest i h k = omega (arith, h, k, ap (λ x. x * rest) (ten_more i))

-- rounding from a quotient and a remainder
module _ (s num den whole rest part left : ℕ) (n : num ≡ whole * den + rest) (h : part * den + left ≡ s * rest) (below : left < den) where
  scaled : s * num ≡ (whole * s + part) * den + left
  scaled = omega (arith, ap (λ x. s * x) n, h)

  pub rounds_down : left * 2 < den → IsHalfUp (s * num) den (whole * s + part)
  rounds_down l = (omega (arith, scaled), omega (arith, scaled))

  pub rounds_up : den ≤ left * 2 → IsHalfUp (s * num) den (whole * s + (part + 1))
  rounds_up l = (omega (arith, scaled), omega (arith, scaled))

  pub rounds_over : den ≤ left * 2 → part + 1 ≡ s → IsHalfUp (s * num) den ((whole + 1) * s + 0)
  rounds_over l e =
      let same : whole * s + (part + 1) ≡ (whole + 1) * s + 0 = omega arith in
      subst (IsHalfUp (s * num) den) same (rounds_up l)

-- the distance of two numbers
dist_below : (a b k : ℕ) → a + k ≡ b → unsigned_abs (pos a -ℤ pos b) ≡ k
dist_below a b k e = let is : pos a -ℤ pos b ≡ neg_ℤ (pos k) = omega (arith, ints) in ap unsigned_abs is ∙ unsigned_abs-neg (pos k)

dist_above : (a b k : ℕ) → b + k ≡ a → unsigned_abs (pos a -ℤ pos b) ≡ k
dist_above a b k e = let is : pos a -ℤ pos b ≡ pos k = omega (arith, ints) in ap unsigned_abs is

-- rounding half up, as distances
pub record IsNear (a b d : ℕ) : Type 0 where
  pub near : 2 * unsigned_abs (pos a -ℤ pos b) ≤ d
  pub away : 2 * unsigned_abs (pos a -ℤ pos b) ≡ d → a ≤ b

near_from_half_up : (a b d : ℕ) → 2 * b ≤ 2 * a + d → 2 * a < 2 * b + d → IsNear a b d
near_from_half_up a b d low high = ⊎_elim
    (λ l. let e = dist_above a b (a - b) (omega arith) in record { near = omega (arith, e); away = λ h. omega (arith, e) })
    (λ l. let e = dist_below a b (b - a) (omega arith) in record { near = omega (arith, e); away = λ h. l })
    (cases_lt b a)

-- the nearest number by sizes
nearest_from : (s n d m : ℕ) (f : Fraction) (k : ℤ) → IsHalfUp (s * n) d m → unsigned_abs f.num ≡ n → unsigned_abs f.den ≡ d → unsigned_abs k ≡ m
    → unsigned_abs (pos s *ℤ f.num -ℤ k *ℤ f.den) ≡ unsigned_abs (pos (s * n) -ℤ pos (m * d)) → IsNearest s f k
nearest_from s n d m f k half a b c e =
    let h = near_from_half_up (s * n) (m * d) d half.0 half.1 in
    record {
      near = omega (arith, e, b, h.near);
      away =
          λ t. let le = h.away (ap (λ x. 2 * x) (sym e) ∙ t ∙ b) in omega (arith, le, ap (λ x. s * x) a, ap (λ x. x * unsigned_abs f.den) c, ap (λ x. m * x) b);
    }

-- at 0 or more, and below 0
pub nearest_plain : (s n d m : ℕ) → IsHalfUp (s * n) d m → IsNearest s (record { num = pos n; den = pos d }) (pos m)
nearest_plain s n d m half = nearest_from s n d m _ (pos m) half refl refl refl refl

pub nearest_negative : (s n d m : ℕ) → IsHalfUp (s * n) d m → IsNearest s (record { num = neg_ℤ (pos n); den = pos d }) (neg_ℤ (pos m))
nearest_negative s n d m half = nearest_from s n d m _ (neg_ℤ (pos m)) half (unsigned_abs-neg (pos n)) refl (unsigned_abs-neg (pos m))
    (ap unsigned_abs (ring4 (λ s n m d. s ⊗ neg n ⊖ neg m ⊗ d ≗ neg (s ⊗ n ⊖ m ⊗ d)) refl (pos s) (pos n) (pos m) (pos d))
    ∙ unsigned_abs-neg (pos s *ℤ pos n -ℤ pos m *ℤ pos d))

-- zeros before digits
zeros_value : (count : ℕ) (ds : List ℕ) → digits_value 10 (replicate count 48 ++ ds) ≡ digits_value 10 ds
zeros_value zero ds = refl
zeros_value (suc count) ds = zeros_value count ds

zeros_digits : (count : ℕ) (ds : List ℕ) → AllDigits 10 ds → AllDigits 10 (replicate count 48 ++ ds)
zeros_digits zero ds h = h
zeros_digits (suc count) ds h = (omega arith, zeros_digits count ds h)

zeros_length : (count : ℕ) (ds : List ℕ) → length (replicate count 48 ++ ds) ≡ count + length ds
zeros_length zero ds = omega arith
zeros_length (suc count) ds = omega (arith, zeros_length count ds)

-- the text of the rounded size, with its sign
pub decimal_from : (f : Fraction) (k : ℤ) (places whole part : ℕ) (text : List ℕ) → 1 ≤ places → places ≤ 18 → part < 10 ^ places → IsNearest (10 ^ places) f k
    → unsigned_abs k ≡ whole * 10 ^ places + part → text ≡ sign_text k ++ (decimal whole ++ 46 ∷ padded_digits places part) → IsDecimal f places text
decimal_from f k places whole part text some few below near size parts =
    let small : part < 10 ^ 64 = omega (arith, ten_small places few) in
    let numeral = decimal_is_IsNumeral_wide part small in
    let fits = length-decimal-le_wide places part some below small in
    let count = places - length (decimal part) in
    record {
      rounded = k;
      whole = whole;
      tail = padded_digits places part;
      nearest = near;
      parts = parts;
      tail_digits = zeros_digits count (decimal part) numeral.0.1;
      tail_length = omega (arith, zeros_length count (decimal part));
      size_is = omega (arith, size, zeros_value count (decimal part), numeral.1);
    }

-- a whole part and a part behind the point that are not both 0 make a size that is not 0
size_positive : (whole part places : ℕ) → 0 < whole + part → 0 < whole * 10 ^ places + part
size_positive whole part places some = omega (arith, mul-le-mul_left whole (ten_positive places))

-- the text is the fraction's decimal
module _ (d places whole part : ℕ) (text : List ℕ) (some : 1 ≤ places) (few : places ≤ 18) (below : part < 10 ^ places) where
  plain : (n : ℕ) (minus : Bool) → IsHalfUp (10 ^ places * n) d (whole * 10 ^ places + part) → (minus ≡ true → ⊥) → text ≡ pointed_text minus whole part places
      → IsDecimal (record { num = pos n; den = pos d }) places text
  plain n true half refuted e = absurd (refuted refl)
  plain n false half refuted e =
      decimal_from _ (pos (whole * 10 ^ places + part)) places whole part text some few below
      (nearest_plain (10 ^ places) n d (whole * 10 ^ places + part) half) refl e

  negative : (n m : ℕ) (minus : Bool) → m ≡ whole * 10 ^ places + part → IsHalfUp (10 ^ places * n) d m → minus ≡ true ↔ 0 < whole + part
      → text ≡ pointed_text minus whole part places → IsDecimal (record { num = neg_ℤ (pos n); den = pos d }) places text
  negative n zero true size half sign e = absurd (omega (arith, size_positive whole part places (sign.0 refl)))
  negative n zero false size half sign e = decimal_from _ (pos 0) places whole part text some few below (nearest_negative (10 ^ places) n d 0 half) size e
  negative n (suc m) true size half sign e =
      decimal_from _ (negsuc m) places whole part text some few below (nearest_negative (10 ^ places) n d (suc m) half) size e
  negative n (suc m) false size half sign e =
      let nothing : ¬ (0 < whole + part) = λ l. absurd (false≢true (sign.1 l)) in
      let no_whole : whole ≡ 0 = omega arith in
      absurd (omega (arith, size, ap (λ w. w * 10 ^ places) no_whole))

  either : (num : ℤ) (minus : Bool) → IsHalfUp (10 ^ places * unsigned_abs num) d (whole * 10 ^ places + part) → minus ≡ true
      ↔ ((num <ℤ pos 0) × (0 < whole + part)) → text ≡ pointed_text minus whole part places → IsDecimal (record { num = num; den = pos d }) places text
  either (pos n) minus half sign e = plain n minus half (λ t. let l = (sign.0 t).0 in omega (arith, ints)) e
  either (negsuc n) minus half sign e =
      let below_zero : negsuc n <ℤ pos 0 = record { lt = tt } in
      negative (suc n) (whole * 10 ^ places + part) minus refl half ((λ t. (sign.0 t).1), λ l. sign.1 (below_zero, l)) e

pub decimal_is : (f : Fraction) (places whole part : ℕ) (minus : Bool) (text : List ℕ) → 1 ≤ places → places ≤ 18 → part < 10 ^ places → pos 0 <ℤ f.den
    → IsHalfUp (10 ^ places * unsigned_abs f.num) (unsigned_abs f.den) (whole * 10 ^ places + part) → minus ≡ true ↔ ((f.num <ℤ pos 0) × (0 < whole + part))
    → text ≡ pointed_text minus whole part places → IsDecimal f places text
decimal_is f places whole part minus text some few below positive half sign e =
    subst (λ z. IsDecimal (record { num = f.num; den = z }) places text) (pos-unsigned_abs f.den (le_of_lt (pos 0) f.den positive))
    (either (unsigned_abs f.den) places whole part text some few below f.num minus half sign e)

-- what `{:0width$}` writes
module _ (width : ℕ) (numeral : List ℕ) where
  padding_is : width - length numeral - 0 - 0 ≡ width - length numeral
  padding_is = omega arith

  zeros_before : padded_integral (format_spec 32 0 4 width (2 ^ 64 - 1)) false [] numeral ≡ replicate (width - length numeral) 48 ++ numeral
  unfolding padded_integral char_count
  zeros_before = rw (padding_is, append-nil numeral)

pub padded_is : (width places part : ℕ) → width ≡ places
    → padded_integral (format_spec 32 0 4 width (2 ^ 64 - 1)) false [] (decimal part) ≡ padded_digits places part
padded_is width places part e = zeros_before width (decimal part) ∙ ap (λ w. padded_digits w part) e

-- what is rounded half up is the quotient
half_up_is : (x den m : ℕ) → IsHalfUp x den m → half_up x den ≡ m
half_up_is x den m h =
    let whole : 2 * x + den ≡ m * (2 * den) + (2 * x + den - 2 * (m * den)) = omega (arith, h.0) in
    ap (λ n. n / (2 * den)) whole ∙ div-mul-add m (2 * den) (2 * x + den - 2 * (m * den)) (omega (arith, h.1))

-- two tests that pass together
same_tests : (a b : Bool) → (a ≡ true → b ≡ true) → (b ≡ true → a ≡ true) → a ≡ b
same_tests true b there back = sym (there refl)
same_tests false true there back = back refl
same_tests false false there back = refl

nat_lt-Decides : (n : ℕ) → Decides (nat_lt 0 n) (0 < n)
nat_lt-Decides n = (λ e. grind (arith, nat_tests), λ h. grind (arith, nat_tests))

-- a size that is not 0 has a part that is not 0
part_positive : (whole part s : ℕ) → 0 < whole * s + part → 0 < whole + part
part_positive zero part s l = omega (arith, l)
part_positive (suc whole) part s l = omega arith

-- `-` by its test
minus_is : (num : ℤ) (minus : Bool) (size whole part : ℕ) → (0 < whole + part → 0 < size) → (0 < size → 0 < whole + part) → minus ≡ true ↔ ((num <ℤ pos 0) × (0 < whole + part))
    → minus ≡ (int_lt num (pos 0) && nat_lt 0 size)
minus_is num minus size whole part some more sign = same_tests minus (int_lt num (pos 0) && nat_lt 0 size)
    (λ t. (Decides-and (int_lt num (pos 0)) (nat_lt 0 size) (int_lt-Decides num (pos 0)) (nat_lt-Decides size)).1 ((sign.0 t).0, some (sign.0 t).1))
    (λ t. let both = (Decides-and (int_lt num (pos 0)) (nat_lt 0 size) (int_lt-Decides num (pos 0)) (nat_lt-Decides size)).0 t in sign.1 (both.0, more both.1))

-- the text by its size
pub decimal_text_is : (f : Fraction) (places whole part : ℕ) (minus : Bool) (text : List ℕ) → part < 10 ^ places
    → IsHalfUp (10 ^ places * unsigned_abs f.num) (unsigned_abs f.den) (whole * 10 ^ places + part) → minus ≡ true ↔ ((f.num <ℤ pos 0) × (0 < whole + part))
    → text ≡ pointed_text minus whole part places → text ≡ decimal_text f places
decimal_text_is f places whole part minus text below half sign e =
    let size : rounded_size f places ≡ whole * 10 ^ places + part = half_up_is (10 ^ places * unsigned_abs f.num) (unsigned_abs f.den) (whole * 10 ^ places + part) half in
    let whole_is : rounded_size f places / 10 ^ places ≡ whole = ap (λ n. n / 10 ^ places) size ∙ div-mul-add whole (10 ^ places) part below in
    let part_is : rounded_size f places % 10 ^ places ≡ part = ap (λ n. n % 10 ^ places) size ∙ mod-mul-add whole (10 ^ places) part below in
    let some : 0 < whole + part → 0 < rounded_size f places = λ l. omega (arith, size, size_positive whole part places l) in
    let more : 0 < rounded_size f places → 0 < whole + part = λ l. part_positive whole part (10 ^ places) (omega (arith, size, l)) in
    e ∙ λ i. pointed_text (minus_is f.num minus (rounded_size f places) whole part some more sign i) (sym whole_is i) (sym part_is i) places
