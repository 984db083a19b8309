-- Lines at the start of a text.
use Rattle.std.proofs.Common.{◌≡◌, ◌≢◌, ℕ, ◌==◌, List, [], ◌∷◌, ◌++◌, false, refl, sym, ap, subst, ◌∙◌, arith, append_assoc}
use Rattle.std.specs.Prelude.{All}
use Rattle.std.specs.List.{join_with_byte}
use Rattle.std.proofs.lemmas.Bool.Decides.{nat_tests}
use Rattle.std.proofs.lemmas.List.Elements.{All-nil, All-cons, All-head, All-tail, All-append}
use Rattle.std.proofs.lemmas.List.Splits.{slice_split_none, slice_split_at, join_with_byte-slice_split}
use Rattle.cert_check.specs.Reading.{words}
use Rattle.cert_check.specs.Text.{line_of, BeginWithNo}
use Rattle.cert_check.proofs.PrintedWords.{IsWord, AreWords}

-- ---- words and the line of them

-- a word has no space
no_space : (word : List ℕ) → IsWord word → All (λ b. (b == 32) ≡ false) word
no_space [] h = All-nil (λ b. (b == 32) ≡ false)
no_space (b ∷ bs) h =
    let first : (b == 32) ≡ false = grind (arith, nat_tests) in
    let rest : IsWord bs = grind (arith, nat_tests) in
    All-cons (λ b. (b == 32) ≡ false) b bs first (no_space bs rest)

-- and no newline
no_newline : (word : List ℕ) → IsWord word → All (λ b. b ≢ 10) word
no_newline [] h = All-nil (λ b. b ≢ 10)
no_newline (b ∷ bs) h =
    let first : b ≢ 10 = λ e. grind (arith, nat_tests) in
    let rest : IsWord bs = grind (arith, nat_tests) in
    All-cons (λ b. b ≢ 10) b bs first (no_newline bs rest)

-- the words of a line are those that it is made of
pub words-join : (word : List ℕ) (rest : List (List ℕ)) → AreWords (word ∷ rest) → words (join_with_byte 32 (word ∷ rest)) ≡ word ∷ rest
words-join word [] h = slice_split_none (λ (b : ℕ). b == 32) word (no_space word h.0)
words-join word (next ∷ rest) h =
    slice_split_at (λ (b : ℕ). b == 32) word 32 (join_with_byte 32 (next ∷ rest)) (no_space word h.0) refl ∙ ap (λ l. word ∷ l) (words-join next rest h.1)

-- no newline is in it
line_has_none : (ws : List (List ℕ)) → AreWords ws → All (λ b. b ≢ 10) (join_with_byte 32 ws)
line_has_none [] h = All-nil (λ b. b ≢ 10)
line_has_none (word ∷ []) h = no_newline word h.0
line_has_none (word ∷ next ∷ rest) h =
    All-append (λ b. b ≢ 10) word (32 ∷ join_with_byte 32 (next ∷ rest)) (no_newline word h.0)
    (All-cons (λ b. b ≢ 10) 32 (join_with_byte 32 (next ∷ rest)) (λ e. omega arith) (line_has_none (next ∷ rest) h.1))

-- ---- the first line of a text

-- a text is cut at its first newline in one way
pub one_cut : (a b x y : List ℕ) → All (λ b. b ≢ 10) a → All (λ b. b ≢ 10) b → a ++ 10 ∷ x ≡ b ++ 10 ∷ y → (a ≡ b) × (x ≡ y)
one_cut [] [] x y h k e = (refl, cc)
one_cut [] (c ∷ b) x y h k e = absurd (All-head (λ b. b ≢ 10) c b k (cc))
one_cut (c ∷ a) [] x y h k e = absurd (All-head (λ b. b ≢ 10) c a h (cc))
one_cut (c ∷ a) (d ∷ b) x y h k e =
    let tails : a ++ 10 ∷ x ≡ b ++ 10 ∷ y = cc in
    let heads : c ≡ d = cc in
    let rest = one_cut a b x y (All-tail (λ b. b ≢ 10) c a h) (All-tail (λ b. b ≢ 10) d b k) tails in
    let same = rest.0 in
    (cc, rest.1)

-- where there is no newline, there is no line
pub no_line : {A : Type 0} (Is : A → Type 0) (words_of : A → List (List ℕ)) (text : List ℕ) → All (λ b. b ≢ 10) text → BeginWithNo Is words_of text
no_line Is words_of text h x rest is e = has (join_with_byte 32 (words_of x))
    (subst (All (λ b. b ≢ 10)) (e ∙ append_assoc (join_with_byte 32 (words_of x)) (10 ∷ []) rest) h)
  where
    has : (front : List ℕ) → All (λ b. b ≢ 10) (front ++ 10 ∷ rest) → ⊥
    has [] all = All-head (λ b. b ≢ 10) 10 rest all refl
    has (b ∷ front) all = has front (All-tail (λ b. b ≢ 10) b (front ++ 10 ∷ rest) all)

-- where the first line has other words, there is none of these
pub other_line : {A : Type 0} (Is : A → Type 0) (words_of : A → List (List ℕ)) (text line after : List ℕ)
    → ((x : A) → Is x → AreWords (words_of x)) → ((x : A) → Is x → words_of x ≢ [])
    → text ≡ line ++ 10 ∷ after → All (λ b. b ≢ 10) line → ((x : A) → Is x → words line ≢ words_of x) → BeginWithNo Is words_of text
other_line Is words_of text line after are filled parts free other x rest is e =
    let ws : List (List ℕ) = words_of x in
    let cut = one_cut line (join_with_byte 32 ws) after rest free (line_has_none ws (are x is))
    (sym parts ∙ e ∙ append_assoc (join_with_byte 32 ws) (10 ∷ []) rest) in
    other x is (ap words cut.0 ∙ words_of_join ws (are x is) (filled x is))
  where
    words_of_join : (ws : List (List ℕ)) → AreWords ws → ws ≢ [] → words (join_with_byte 32 ws) ≡ ws
    words_of_join [] are some = absurd (some refl)
    words_of_join (word ∷ ws) are some = words-join word ws are

-- where the first line has these words, it is the line of them
pub this_line : (text line after : List ℕ) (ws : List (List ℕ)) → text ≡ line ++ 10 ∷ after → words line ≡ ws → text ≡ line_of ws ++ after
this_line text line after ws parts is =
    parts ∙ ap (λ l. l ++ 10 ∷ after) (sym (join_with_byte-slice_split 32 line) ∙ ap (join_with_byte 32) is)
    ∙ sym (append_assoc (join_with_byte 32 ws) (10 ∷ []) after)

-- two lines of words at the start of one text are one
pub same_words : (xs ys : List (List ℕ)) (a b : List ℕ) → AreWords xs → AreWords ys → xs ≢ [] → ys ≢ [] → line_of xs ++ a ≡ line_of ys ++ b → (xs ≡ ys)
    × (a ≡ b)
same_words [] ys a b h k some other e = absurd (some refl)
same_words (x ∷ xs) [] a b h k some other e = absurd (other refl)
same_words (x ∷ xs) (y ∷ ys) a b h k some other e =
    let cut = one_cut (join_with_byte 32 (x ∷ xs)) (join_with_byte 32 (y ∷ ys)) a b (line_has_none (x ∷ xs) h) (line_has_none (y ∷ ys) k)
    (sym (append_assoc (join_with_byte 32 (x ∷ xs)) (10 ∷ []) a) ∙ e ∙ append_assoc (join_with_byte 32 (y ∷ ys)) (10 ∷ []) b) in
    (sym (words-join x xs h) ∙ ap words cut.0 ∙ words-join y ys k, cut.1)
