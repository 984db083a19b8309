-- Texts without a newline, and the lines of a text.
use Rattle.std.proofs.Common.{◌≡◌, ℕ, zero, suc, ◌+◌, ◌/◌, ◌%◌, ◌≤◌, ◌==◌, nat_lt, List, [], ◌∷◌, ◌++◌, length, replicate, Bool, true, false, not, refl, ◌∙◌, subst, arith}
use Rattle.std.specs.Prelude.{if◌then◌else◌}
use Rattle.std.specs.List.{AllByRecursion, slice_split, onto_first}
use Rattle.word_table.specs.Lines.{is_line}
use Rattle.std.specs.Fmt.{decimal, digits, digits_onto, digit_glyph}
use Rattle.std.proofs.lemmas.Bool.{and_from, and_parts}
use Rattle.std.proofs.lemmas.Bool.Decides.{nat_tests}
use Rattle.std.proofs.lemmas.List.Folds.{list_all-append}

pub line-append : (a b : List ℕ) → is_line a ≡ true → is_line b ≡ true → is_line (a ++ b) ≡ true
line-append a b h k = list_all-append (λ byte. not (byte == 10)) a b ∙ and_from (is_line a) (is_line b) h k

pub line-spaces : (k : ℕ) → is_line (replicate k 32) ≡ true
line-spaces zero = refl
line-spaces (suc k) = line-spaces k

-- ---- the digits of a number

glyph_is : (b : Bool) (d : ℕ) → not ((if b then 48 + d else 87 + d) == 10) ≡ true
glyph_is true d = grind (arith, nat_tests)
glyph_is false d = grind (arith, nat_tests)

-- no newline, and at most so many bytes
abbrev IsLineWithin : ℕ → List ℕ → Type 0
IsLineWithin most text = (is_line text ≡ true) × (length text ≤ most)

one_of : (b : Bool) (most : ℕ) (x y : List ℕ) → IsLineWithin most x → IsLineWithin most y → IsLineWithin most (if b then x else y)
one_of true most x y h k = h
one_of false most x y h k = k

onto_line : (k n most : ℕ) (acc : List ℕ) → IsLineWithin most acc → IsLineWithin (k + most) (digits_onto k 10 false n acc)
onto_line zero n most acc h = (h.0, omega (arith, h.1))
onto_line (suc k) n most acc h =
    let digit = digit_glyph false (n % 10) in
    let line : is_line (digit ∷ acc) ≡ true = and_from (not (digit == 10)) (is_line acc) (glyph_is (nat_lt (n % 10) 10) (n % 10)) h.0 in
    let more : IsLineWithin (suc k + most) (digits_onto k 10 false (n / 10) (digit ∷ acc)) =
    subst (λ m. IsLineWithin m (digits_onto k 10 false (n / 10) (digit ∷ acc))) (omega arith)
    (onto_line k (n / 10) (suc most) (digit ∷ acc) (line, omega (arith, h.1))) in
    one_of (n / 10 == 0) (suc k + most) (digit ∷ acc) (digits_onto k 10 false (n / 10) (digit ∷ acc)) (line, omega (arith, h.1)) more

number_is : (n : ℕ) → IsLineWithin 64 (decimal n)
unfolding digits
number_is n = onto_line 64 n 0 [] (refl, omega arith)

pub number_line : (n : ℕ) → is_line (decimal n) ≡ true
number_line n = (number_is n).0

pub number_length : (n : ℕ) → length (decimal n) ≤ 64
number_length n = (number_is n).1

-- ---- lines

-- the first part and n bytes before it are at most that long, and so is each other part
abbrev FirstFits : ℕ → ℕ → List (List ℕ) → Type 0
FirstFits most n [] = n ≤ most
FirstFits most n (line ∷ lines) = (n + length line ≤ most) × AllByRecursion (λ l. length l ≤ most) lines

-- the lines of a text are at most that long, the first one with n bytes before it
abbrev pub Fits : ℕ → ℕ → List ℕ → Type 0
Fits most n text = FirstFits most n (slice_split (λ byte. byte == 10) text)

module _ (most : ℕ) where
  onto_parts : (n x : ℕ) (parts : List (List ℕ)) → FirstFits most (suc n) parts → FirstFits most n (onto_first x parts)
  onto_parts n x [] h = (omega (arith, h), tt)
  onto_parts n x (part ∷ parts) h = (omega (arith, h.0), h.1)

  all_parts : (parts : List (List ℕ)) → FirstFits most 0 parts → AllByRecursion (λ l. length l ≤ most) parts
  all_parts [] h = tt
  all_parts (part ∷ parts) h = (omega (arith, h.0), h.1)

  -- one more byte on a line
  pub byte_on : (n x : ℕ) (text : List ℕ) → (x == 10) ≡ false → Fits most (suc n) text → Fits most n (x ∷ text)
  byte_on n x text other h = rw other (onto_parts n x (slice_split (λ byte. byte == 10) text) h)

  -- a line ends
  pub line_ends : (n : ℕ) (text : List ℕ) → n ≤ most → Fits most 0 text → Fits most n (10 ∷ text)
  line_ends n text low h = (omega (arith, low), all_parts (slice_split (λ byte. byte == 10) text) h)

  is_false : (b : Bool) → not b ≡ true → b ≡ false
  is_false true e = cc
  is_false false e = refl

  -- a line goes on
  pub text_on : (n : ℕ) (words text : List ℕ) → is_line words ≡ true → Fits most (n + length words) text → Fits most n (words ++ text)
  text_on n [] text line h = subst (λ k. Fits most k text) (omega arith) h
  text_on n (x ∷ words) text line h =
      let parts = and_parts (not (x == 10)) (is_line words) line in
      byte_on n x (words ++ text) (is_false (x == 10) parts.0) (text_on (suc n) words text parts.1 (subst (λ k. Fits most k text) (omega arith) h))

  -- so is each line of the text
  pub each_fits : (text : List ℕ) → Fits most 0 text → AllByRecursion (λ l. length l ≤ most) (slice_split (λ byte. byte == 10) text)
  each_fits text h = all_parts (slice_split (λ byte. byte == 10) text) h
