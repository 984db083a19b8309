-- The words of a certificate's text have no space and no newline in them.
use Rattle.std.proofs.Common.{◌≡◌, ℕ, suc, ◌<◌, ◌^◌, ◌==◌, nat_lt, List, [], ◌∷◌, ◌++◌, true, false, Bool, ℤ, pos, negsuc, unsigned_abs, refl, ◌∙◌, arith}
use Rattle.std.specs.Prelude.{if◌then◌else◌, ⊤}
use Rattle.std.specs.List.{list_all}
use Rattle.std.specs.Fmt.{decimal, signed_decimal}
use Rattle.std.specs.Char.{is_ascii_digit}
use Rattle.std.proofs.lemmas.Bool.Decides.{nat_tests}
use Rattle.std.proofs.lemmas.Fmt.{decimal_is_IsNumeral_wide}
use Rattle.std.proofs.lemmas.List.Folds.{list_all-append}
use Rattle.integers.specs.Fraction.{Fraction}
use Rattle.frac128.specs.Text.{frac_text}
use Rattle.frac128.proofs.DigitLemmas.{test-from_AllDigits}
use Rattle.judgement_matrix.specs.declared.tag.Tag.{Tag}
use Rattle.judgement_matrix.specs.declared.tag.Tag.TheVariants.{Lower, Zero, Cross, Order}
use Rattle.cert_check.specs.Text.{IsTagText, IsEntryText, IsClaim, IsHead, IsValue, tag_words, entry_words, claim_words, head_words}
use Rattle.cert_check.specs.declared.text.Head.{Head}
use Rattle.cert_check.specs.declared.text.TheConstants.{ROWS}
use Rattle.cert_check.specs.declared.text.Claim.{Claim}
use Rattle.cert_check.specs.declared.text.Claim.TheVariants.{Least, Nothing}

-- no byte is a space or below
abbrev pub IsWord : List ℕ → Type 0
IsWord word = list_all (λ b. nat_lt 32 b) word ≡ true

-- so are all of them
abbrev pub AreWords : List (List ℕ) → Type 0
AreWords [] = ⊤
AreWords (word ∷ words) = IsWord word × AreWords words

-- a word and another behind it
word-append : (a b : List ℕ) → IsWord a → IsWord b → IsWord (a ++ b)
word-append a b h k = list_all-append (λ b. nat_lt 32 b) a b ∙ grind (arith, nat_tests)

-- words and others behind them
pub words-append : (a b : List (List ℕ)) → AreWords a → AreWords b → AreWords (a ++ b)
words-append [] b h k = k
words-append (word ∷ words) b h k = (h.0, words-append words b h.1 k)

-- digits
digits_are_word : (ds : List ℕ) → list_all is_ascii_digit ds ≡ true → IsWord ds
digits_are_word [] h = refl
digits_are_word (d ∷ ds) h =
    let first : is_ascii_digit d ≡ true = grind (arith, nat_tests) in
    let rest : list_all is_ascii_digit ds ≡ true = grind (arith, nat_tests) in
    let tail = digits_are_word ds rest in
    grind (arith, nat_tests)

-- a number without sign
pub decimal_is_word : (n : ℕ) → n < 10 ^ 64 → IsWord (decimal n)
decimal_is_word n small = digits_are_word (decimal n) (test-from_AllDigits (decimal n) (decimal_is_IsNumeral_wide n small).0.1)

-- a whole number
pub signed_is_word : (z : ℤ) → unsigned_abs z < 10 ^ 64 → IsWord (signed_decimal z)
signed_is_word (pos n) small = decimal_is_word n small
signed_is_word (negsuc n) small = word-append (45 ∷ []) (decimal (suc n)) refl (decimal_is_word (suc n) small)

-- what stands behind a numerator
den_is_word : (d : ℕ) (one : Bool) → d < 10 ^ 64 → IsWord (if one then [] else 47 ∷ decimal d)
den_is_word d true small = refl
den_is_word d false small = word-append (47 ∷ []) (decimal d) refl (decimal_is_word d small)

-- a fraction
pub value_is_word : (value : Fraction) → IsValue value → IsWord (frac_text value)
value_is_word value h =
    word-append (signed_decimal value.num) (if unsigned_abs value.den == 1 then [] else 47 ∷ decimal (unsigned_abs value.den))
    (signed_is_word value.num (omega arith)) (den_is_word (unsigned_abs value.den) (unsigned_abs value.den == 1) (omega arith))

-- a tag
tag_is_words : (tag : Tag) → IsTagText tag → AreWords (tag_words tag)
tag_is_words (Lower p q) h = (refl, (decimal_is_word p (omega arith), (decimal_is_word q (omega arith), tt)))
tag_is_words (Zero p q) h = (refl, (decimal_is_word p (omega arith), (decimal_is_word q (omega arith), tt)))
tag_is_words (Cross p q x y) h = (
  refl,
  (
    decimal_is_word p (omega arith),
    (decimal_is_word q (omega arith), (decimal_is_word x (omega arith), (decimal_is_word y (omega arith), tt))),
  ),
)
tag_is_words (Order p) h = absurd h

-- an entry
pub entry_is_words : (entry : Tag × ℤ) → IsEntryText entry → AreWords (entry_words entry)
entry_is_words entry h = words-append (tag_words entry.0) (signed_decimal entry.1 ∷ []) (tag_is_words entry.0 h.0) (signed_is_word entry.1 (omega arith), tt)

-- a claim
claim_is_words : (claim : Claim) (den : ℤ) → IsClaim claim den → AreWords (claim_words claim den)
claim_is_words (Least value) den h = (refl, (value_is_word value h.0, (refl, (signed_is_word den (let fits = h.1 in omega arith), tt))))
claim_is_words Nothing den h = (refl, tt)

-- a first line
pub head_is_words : (head : Head) → IsHead head → AreWords (head_words head)
head_is_words head h = words-append (claim_words head.claim head.den) (ROWS.now ∷ decimal head.count ∷ []) (claim_is_words head.claim head.den h.claim)
    (refl, (decimal_is_word head.count (let fits = h.count_fits in omega arith), tt))
