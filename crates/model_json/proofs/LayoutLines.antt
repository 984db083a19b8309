-- The lines of the pretty layout of a value whose strings are short.
use Rattle.std.proofs.Common.{◌≡◌, ℕ, suc, ◌+◌, ◌-◌, ◌*◌, ◌^◌, ◌≤◌, ◌&&◌, ◌==◌, min, List, [], ◌∷◌, ◌++◌, length, replicate, Bool, true, false, cond, pos, negsuc, refl, sym, ap, subst, ◌∙◌, arith, append_assoc, append-nil}
use Rattle.std.proofs.lemmas.List.{length-append, length-replicate}
use Rattle.json.specs.Token.{Token}
use Rattle.json.specs.Print.{escape, quoted, token_text}
use Rattle.json.specs.Layout.{Last, is_value, gap, pretty_from}
use Rattle.json.specs.Tree.{json_tokens, items_tokens, members_tokens}
use Rattle.serde_json.specs.Data.{Num, unsigned, negative, float, Data, null, boolean, number, string, array, object, Items, no_items, item, Members, no_members, member, depth, items_depth, members_depth}
use Rattle.serde_json.specs.Written.{number_text, outline, items_outline, members_outline}
use Rattle.word_table.specs.Lines.{is_line}
use Rattle.model_json.proofs.LineLemmas.{line-append, line-spaces, number_line, number_length, Fits, byte_on, line_ends, text_on}

-- what is written for a string of at most 64 bytes has at most two bytes for each of them
pub record IsShort (s : List ℕ) : Type 0 where
  pub few : length (escape s) ≤ 128
  pub line : is_line (escape s) ≡ true

abbrev mutual
  pub HasShort : Data → Type 0
  HasShort null = Unit {0}
  HasShort (boolean b) = Unit {0}
  HasShort (number n) = Unit {0}
  HasShort (string s) = IsShort s
  HasShort (array ds) = ItemsShort ds
  HasShort (object ms) = MembersShort ms

  pub ItemsShort : Items → Type 0
  ItemsShort no_items = Unit {0}
  ItemsShort (item d ds) = HasShort d × ItemsShort ds

  pub MembersShort : Members → Type 0
  MembersShort no_members = Unit {0}
  MembersShort (member k d ms) = IsShort k × HasShort d × MembersShort ms

-- ---- a token on its line

-- the most bytes of a line up to what was written last
abbrev pub bound : Last → ℕ
bound Last.nothing = 0
bound Last.bracket = 160
bound Last.name = 150
bound Last.value = 290

-- in a list a bracket or a value was written last
abbrev in_list : Bool → Last
in_list true = Last.value
in_list false = Last.bracket

-- the spaces at the front of a line, and words behind them
indented : (at : ℕ) (w more : List ℕ) → at ≤ 8 → is_line w ≡ true → ((k : ℕ) → k ≤ 16 + length w → Fits 300 k more)
    → Fits 300 0 ((replicate (2 * at) 32 ++ w) ++ more)
indented at w more deep line next =
    let size : length (replicate (2 * at) 32 ++ w) ≡ 2 * at + length w =
    length-append (replicate (2 * at) 32) w ∙ ap (λ n. n + length w) (length-replicate (2 * at) 32) in
    text_on 300 0 (replicate (2 * at) 32 ++ w) more (line-append (replicate (2 * at) 32) w (line-spaces (2 * at)) line)
    (next (0 + length (replicate (2 * at) 32 ++ w)) (omega (arith, size, deep)))

placed : (before : Last) (at n : ℕ) (w more : List ℕ) → n ≤ bound before → at ≤ 8 → is_line w ≡ true → ((k : ℕ) → k ≤ 151 + length w → Fits 300 k more)
    → Fits 300 n ((cond (is_value before && true) (44 ∷ []) [] ++ (gap before true at ++ w)) ++ more)
placed Last.nothing at n w more low deep line next = text_on 300 n w more line (next (n + length w) (omega (arith, low)))
placed Last.bracket at n w more low deep line next =
    line_ends 300 n ((replicate (2 * at) 32 ++ w) ++ more) (omega (arith, low)) (indented at w more deep line (λ k h. next k (omega (arith, h))))
placed Last.name at n w more low deep line next =
    byte_on 300 n 32 (w ++ more) refl (text_on 300 (suc n) w more line (next (suc n + length w) (omega (arith, low))))
placed Last.value at n w more low deep line next =
    byte_on 300 n 44 (10 ∷ ((replicate (2 * at) 32 ++ w) ++ more)) refl
    (line_ends 300 (suc n) ((replicate (2 * at) 32 ++ w) ++ more) (omega (arith, low)) (indented at w more deep line (λ k h. next k (omega (arith, h)))))

-- a key
placed_key : (later : Bool) (at n : ℕ) (w more : List ℕ) → n ≤ bound (in_list later) → at ≤ 8 → is_line w ≡ true
    → ((k : ℕ) → k ≤ 16 + length w → Fits 300 k more)
    → Fits 300 n ((cond (is_value (in_list later) && true) (44 ∷ []) [] ++ (gap (in_list later) true at ++ w)) ++ more)
placed_key false at n w more low deep line next = line_ends 300 n ((replicate (2 * at) 32 ++ w) ++ more) (omega (arith, low))
    (indented at w more deep line next)
placed_key true at n w more low deep line next =
    byte_on 300 n 44 (10 ∷ ((replicate (2 * at) 32 ++ w) ++ more)) refl
    (line_ends 300 (suc n) ((replicate (2 * at) 32 ++ w) ++ more) (omega (arith, low)) (indented at w more deep line next))

-- a closing bracket
placed_end : (later : Bool) (at n c : ℕ) (more : List ℕ) → (c == 10) ≡ false → n ≤ bound (in_list later) → at ≤ 8 → ((k : ℕ) → k ≤ 290 → Fits 300 k more)
    → Fits 300 n ((cond (is_value (in_list later) && false) (44 ∷ []) [] ++ (gap (in_list later) false at ++ c ∷ [])) ++ more)
placed_end false at n c more other low deep next = byte_on 300 n c more other (next (suc n) (omega (arith, low)))
placed_end true at n c more other low deep next =
    let line : is_line (c ∷ []) ≡ true = rw other refl in
    line_ends 300 n ((replicate (2 * at) 32 ++ c ∷ []) ++ more) (omega (arith, low)) (indented at (c ∷ []) more deep line (λ k h. next k (omega (arith, h))))

-- ---- texts of tokens

number_fits : (n : Num) → (is_line (number_text n) ≡ true) × (length (number_text n) ≤ 65)
number_fits (unsigned n) = (number_line n, omega (arith, number_length n))
number_fits (negative (pos n)) = (number_line n, omega (arith, number_length n))
number_fits (negative (negsuc n)) = (number_line (suc n), omega (arith, number_length (suc n)))
number_fits (float x) = (refl, omega arith)

quoted_line : (s : List ℕ) → IsShort s → is_line (quoted s) ≡ true
quoted_line s is = line-append (escape s) (34 ∷ []) is.line refl

quoted_length : (s : List ℕ) → IsShort s → length (quoted s) ≤ 130
quoted_length s is = omega (arith, length-append (escape s) (34 ∷ []), is.few)

one_deeper : (at : ℕ) → at ≤ 8 → min (at + 1) (2 ^ 64 - 1) ≡ at + 1
one_deeper at deep = omega (arith, deep)

one_back : (at : ℕ) → at + 1 - 1 ≡ at
one_back at = omega arith

mutual
  unfolding pretty_from

  value_fits : (d : Data) (before : Last) (at n : ℕ) (rest : List Token) → HasShort d → n ≤ bound before → at + depth d ≤ 8
      → ((k : ℕ) → k ≤ 290 → Fits 300 k (pretty_from (Last.value, at) rest)) → Fits 300 n (pretty_from (before, at) (json_tokens (outline d) ++ rest))
  value_fits null before at n rest short low deep next =
      placed before at n (token_text Token.null) (pretty_from (Last.value, at) rest) low (omega (arith, deep)) refl (λ k h. next k (omega (arith, h)))
  value_fits (boolean true) before at n rest short low deep next =
      placed before at n (token_text (Token.boolean true)) (pretty_from (Last.value, at) rest) low (omega (arith, deep)) refl (λ k h. next k (omega (arith, h)))
  value_fits (boolean false) before at n rest short low deep next =
      placed before at n (token_text (Token.boolean false)) (pretty_from (Last.value, at) rest) low (omega (arith, deep)) refl
      (λ k h. next k (omega (arith, h)))
  value_fits (number num) before at n rest short low deep next =
      let is = number_fits num in
      placed before at n (number_text num) (pretty_from (Last.value, at) rest) low (omega (arith, deep)) is.0 (λ k h. next k (omega (arith, h, is.1)))
  value_fits (string s) before at n rest short low deep next =
      let few = quoted_length s short in
      placed before at n (quoted s) (pretty_from (Last.value, at) rest) low (omega (arith, deep)) (quoted_line s short) (λ k h. next k (omega (arith, h, few)))
  value_fits (array ds) before at n rest short low deep next =
      placed before at n (91 ∷ []) (pretty_from (Last.bracket, min (at + 1) (2 ^ 64 - 1)) (items_tokens (items_outline ds) ++ rest)) low
      (omega (arith, deep)) refl
      (λ k h. subst (λ a. Fits 300 k (pretty_from (Last.bracket, a) (items_tokens (items_outline ds) ++ rest))) (sym (one_deeper at (omega (arith, deep))))
      (items_fit ds false at k rest short (omega (arith, h)) (omega (arith, deep)) next))
  value_fits (object ms) before at n rest short low deep next =
      placed before at n (123 ∷ []) (pretty_from (Last.bracket, min (at + 1) (2 ^ 64 - 1)) (members_tokens (members_outline ms) ++ rest)) low
      (omega (arith, deep)) refl
      (λ k h. subst (λ a. Fits 300 k (pretty_from (Last.bracket, a) (members_tokens (members_outline ms) ++ rest))) (sym (one_deeper at (omega (arith, deep))))
      (members_fit ms false at k rest short (omega (arith, h)) (omega (arith, deep)) next))

  items_fit : (ds : Items) (later : Bool) (at n : ℕ) (rest : List Token) → ItemsShort ds → n ≤ bound (in_list later) → at + 1 + items_depth ds ≤ 8
      → ((k : ℕ) → k ≤ 290 → Fits 300 k (pretty_from (Last.value, at) rest))
      → Fits 300 n (pretty_from (in_list later, at + 1) (items_tokens (items_outline ds) ++ rest))
  items_fit no_items later at n rest short low deep next =
      placed_end later (at + 1 - 1) n 93 (pretty_from (Last.value, at + 1 - 1) rest) refl low (omega (arith, deep))
      (λ k h. subst (λ a. Fits 300 k (pretty_from (Last.value, a) rest)) (sym (one_back at)) (next k h))
  items_fit (item d ds) later at n rest short low deep next =
      rw (append_assoc (json_tokens (outline d)) (items_tokens (items_outline ds)) rest)
      (value_fits d (in_list later) (at + 1) n (items_tokens (items_outline ds) ++ rest) short.0 low (omega (arith, deep))
      (λ k h. items_fit ds true at k rest short.1 h (omega (arith, deep)) next))

  members_fit : (ms : Members) (later : Bool) (at n : ℕ) (rest : List Token) → MembersShort ms → n ≤ bound (in_list later) → at + 1 + members_depth ms ≤ 8
      → ((k : ℕ) → k ≤ 290 → Fits 300 k (pretty_from (Last.value, at) rest))
      → Fits 300 n (pretty_from (in_list later, at + 1) (members_tokens (members_outline ms) ++ rest))
  members_fit no_members later at n rest short low deep next =
      placed_end later (at + 1 - 1) n 125 (pretty_from (Last.value, at + 1 - 1) rest) refl low (omega (arith, deep))
      (λ k h. subst (λ a. Fits 300 k (pretty_from (Last.value, a) rest)) (sym (one_back at)) (next k h))
  members_fit (member key d ms) later at n rest short low deep next =
      let size : length (quoted key ++ 58 ∷ []) ≤ 131 = omega (arith, length-append (quoted key) (58 ∷ []), quoted_length key short.0) in
      placed_key later (at + 1) n (quoted key ++ 58 ∷ []) (pretty_from (Last.name, at + 1)
      ((json_tokens (outline d) ++ members_tokens (members_outline ms)) ++ rest)) low (omega (arith, deep))
      (line-append (quoted key) (58 ∷ []) (quoted_line key short.0) refl)
      (λ k h. rw (append_assoc (json_tokens (outline d)) (members_tokens (members_outline ms)) rest)
      (value_fits d Last.name (at + 1) k (members_tokens (members_outline ms) ++ rest) short.1 (omega (arith, h, size)) (omega (arith, deep))
      (λ j i. members_fit ms true at j rest short.2 i (omega (arith, deep)) next)))

-- the text of a value
pub layout_fits : (d : Data) → HasShort d → depth d ≤ 8 → Fits 300 0 (pretty_from (Last.nothing, 0) (json_tokens (outline d)))
unfolding pretty_from
layout_fits d short deep =
    subst (λ ts. Fits 300 0 (pretty_from (Last.nothing, 0) ts)) (append-nil (json_tokens (outline d)))
    (value_fits d Last.nothing 0 0 [] short (omega arith) (omega (arith, deep)) (λ k h. (omega (arith, h), tt)))
