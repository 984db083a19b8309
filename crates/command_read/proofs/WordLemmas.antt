-- The words of a line, one after the other.
use Rattle.std.proofs.Common.{◌≡◌, ℕ, zero, suc, ◌+◌, ◌<◌, ◌≤◌, Bool, true, false, not, List, [], ◌∷◌, ◌++◌, length, take, drop, Option, Some, None, refl, sym, ap, subst, ◌∙◌, append_assoc, arith}
use Rattle.std.specs.Prelude.{position, MatchOption}
use Rattle.std.specs.List.{prefix_len}
use Rattle.std.specs.Option.{option_map, option_map_or}
use Rattle.std.proofs.lemmas.List.{length-drop, map-append}
use Rattle.command_read.specs.Words.{is_blank, is_quote, plain_word, quoted_word, word_at, first_word, words_within, words}

-- what follows a word is shorter than what it was read from
abbrev pub IsShorter : List ℕ → List ℕ × List ℕ → Type 0
IsShorter text word = length word.1 < length text

plain_shorter : (byte : ℕ) (bytes : List ℕ) → is_blank byte ≡ false → IsShorter (byte ∷ bytes) (plain_word (byte ∷ bytes))
plain_shorter byte bytes letter =
    let s : 1 + prefix_len (λ b. not (is_blank b)) bytes ≡ suc (prefix_len (λ b. not (is_blank b)) bytes) = omega arith in
    rw (letter, s) (omega (arith, length-drop (prefix_len (λ b. not (is_blank b)) bytes) bytes))

quoted_shorter : (byte : ℕ) (bytes : List ℕ) → is_blank byte ≡ false → (o : Option ℕ)
    → IsShorter (byte ∷ bytes) (option_map_or (λ word. word) (option_map (λ at. (take at bytes, drop (at + 1) bytes)) o) (plain_word (byte ∷ bytes)))
quoted_shorter byte bytes letter None = plain_shorter byte bytes letter
quoted_shorter byte bytes letter (Some at) = omega (arith, length-drop (at + 1) bytes)

word_shorter : (byte : ℕ) (bytes : List ℕ) → is_blank byte ≡ false → (word : List ℕ × List ℕ)
    → word_at (byte ∷ bytes) ≡ Some word → IsShorter (byte ∷ bytes) word
word_shorter byte bytes letter word h = by_test (is_quote byte) refl
  where
    by_test : (t : Bool) → is_quote byte ≡ t → IsShorter (byte ∷ bytes) word
    by_test true e =
        let w : option_map_or (λ v. v) (quoted_word bytes) (plain_word (byte ∷ bytes)) ≡ word = let k = rw e at h in cc in
        subst (IsShorter (byte ∷ bytes)) w (quoted_shorter byte bytes letter (position is_quote bytes))
    by_test false e =
        let w : plain_word (byte ∷ bytes) ≡ word = let k = rw e at h in cc in
        subst (IsShorter (byte ∷ bytes)) w (plain_shorter byte bytes letter)

-- behind the first word of a line fewer bytes are left
pub first_shorter : (line : List ℕ) (word : List ℕ × List ℕ) → first_word line ≡ Some word → IsShorter line word
first_shorter [] word h = absurd (cc)
first_shorter (x ∷ xs) word h = by_test (first_shorter xs word) (is_blank x) refl
  where
    by_test : (first_word xs ≡ Some word → IsShorter xs word) → (t : Bool) → is_blank x ≡ t → IsShorter (x ∷ xs) word
    by_test behind true e =
        let s : 1 + prefix_len is_blank xs ≡ suc (prefix_len is_blank xs) = omega arith in
        omega (arith, behind (rw (e, s) at h))
    by_test behind false e = word_shorter x xs e word (rw e at h)

-- it matters not how many words more a line may have than bytes
words_enough : (n m : ℕ) (line : List ℕ) → length line ≤ n → length line ≤ m → words_within n line ≡ words_within m line
words_enough zero zero line h k = refl
words_enough zero (suc m) [] h k = refl
words_enough (suc n) zero [] h k = refl
words_enough zero (suc m) (x ∷ xs) h k = absurd (omega arith)
words_enough (suc n) zero (x ∷ xs) h k = absurd (omega arith)
words_enough (suc n) (suc m) line h k = by_word (words_enough n m) (first_word line) refl
  where
    by_word : ((rest : List ℕ) → length rest ≤ n → length rest ≤ m → words_within n rest ≡ words_within m rest)
        → (o : Option (List ℕ × List ℕ)) → first_word line ≡ o
        → option_map_or (λ word. word.0 ∷ words_within n word.1) o [] ≡ option_map_or (λ word. word.0 ∷ words_within m word.1) o []
    by_word behind None e = refl
    by_word behind (Some word) e =
        let s = first_shorter line word e in
        ap (λ ws. word.0 ∷ ws) (behind word.1 (omega arith) (omega arith))

-- the words of a line are its first word and those of what follows it
pub words_from_first : (line : List ℕ) → words line ≡ option_map_or (λ word. word.0 ∷ words word.1) (first_word line) []
words_from_first [] = refl
words_from_first (x ∷ xs) = by_word (first_word (x ∷ xs)) refl
  where
    by_word : (o : Option (List ℕ × List ℕ)) → first_word (x ∷ xs) ≡ o
        → option_map_or (λ word. word.0 ∷ words_within (length xs) word.1) o [] ≡ option_map_or (λ word. word.0 ∷ words word.1) o []
    by_word None e = refl
    by_word (Some word) e =
        let s = first_shorter (x ∷ xs) word e in
        ap (λ ws. word.0 ∷ ws) (words_enough (length xs) (length word.1) word.1 (omega arith) (omega arith))

-- the same by what a reader of the first word answers
pub words_match : {A : Type 0} (view : A → List ℕ × List ℕ) (line : List ℕ) (answer : Option A) → option_map view answer ≡ first_word line
    → MatchOption answer (words line ≡ []) (λ a. words line ≡ (view a).0 ∷ words (view a).1)
words_match view line None e = words_from_first line ∙ rw (sym e) refl
words_match view line (Some a) e = words_from_first line ∙ rw (sym e) refl
