-- How long the text of a value is at most.
use Rattle.std.proofs.Common.{◌≡◌, ℕ, ◌+◌, ◌-◌, ◌*◌, ◌^◌, ◌≤◌, ◌&&◌, min, List, [], ◌∷◌, ◌++◌, length, replicate, Bool, true, false, cond, sym, ap, subst, arith, append_assoc, append-nil}
use Rattle.std.proofs.lemmas.List.{length-append, length-replicate}
use Rattle.json.specs.Token.{Token}
use Rattle.json.specs.Print.{escape, quoted, token_text}
use Rattle.json.specs.Layout.{Last, is_value, gap, pretty_from}
use Rattle.json.specs.Tree.{json_tokens, items_tokens, members_tokens}
use Rattle.serde_json.specs.Data.{Data, null, boolean, number, string, array, object, Items, no_items, item, Members, no_members, member, depth, items_depth, members_depth}
use Rattle.serde_json.specs.Written.{number_text, outline, items_outline, members_outline}

-- the most bytes of a value's tokens, each with a comma, a newline and 16 spaces before it
abbrev mutual
  pub cost : Data → ℕ
  cost null = 22
  cost (boolean b) = 23
  cost (number n) = 18 + length (number_text n)
  cost (string s) = 20 + length (escape s)
  cost (array ds) = 38 + items_cost ds
  cost (object ms) = 38 + members_cost ms

  pub items_cost : Items → ℕ
  items_cost no_items = 0
  items_cost (item d ds) = cost d + items_cost ds

  pub members_cost : Members → ℕ
  members_cost no_members = 0
  members_cost (member k d ms) = 21 + length (escape k) + cost d + members_cost ms

-- ---- one token

-- a comma, a gap and a text
placed_size : (before : Last) (opens : Bool) (at : ℕ) (w more : List ℕ) → at ≤ 8
    → length ((cond (is_value before && opens) (44 ∷ []) [] ++ (gap before opens at ++ w)) ++ more) ≤ 18 + length w + length more
placed_size Last.nothing opens at w more deep = omega (arith, length-append w more)
placed_size Last.bracket true at w more deep =
    omega (arith, length-append (replicate (2 * at) 32 ++ w) more, length-append (replicate (2 * at) 32) w, length-replicate {A = ℕ} (2 * at) 32, deep)
placed_size Last.bracket false at w more deep = omega (arith, length-append w more)
placed_size Last.name opens at w more deep = omega (arith, length-append w more)
placed_size Last.value true at w more deep =
    omega (arith, length-append (replicate (2 * at) 32 ++ w) more, length-append (replicate (2 * at) 32) w, length-replicate {A = ℕ} (2 * at) 32, deep)
placed_size Last.value false at w more deep =
    omega (arith, length-append (replicate (2 * at) 32 ++ w) more, length-append (replicate (2 * at) 32) w, length-replicate {A = ℕ} (2 * at) 32, deep)

quoted_size : (s : List ℕ) → length (quoted s) ≡ 2 + length (escape s)
quoted_size s = omega (arith, length-append (escape s) (34 ∷ []))

one_deeper : (at : ℕ) → at ≤ 8 → min (at + 1) (2 ^ 64 - 1) ≡ at + 1
one_deeper at deep = omega (arith, deep)

one_back : (at : ℕ) → at + 1 - 1 ≡ at
one_back at = omega arith

-- ---- a value and what follows

mutual
  unfolding pretty_from

  value_size : (d : Data) (before : Last) (at : ℕ) (rest : List Token) → at + depth d ≤ 8
      → length (pretty_from (before, at) (json_tokens (outline d) ++ rest)) ≤ cost d + length (pretty_from (Last.value, at) rest)
  value_size null before at rest deep = omega (arith, placed_size before true at (token_text Token.null) (pretty_from (Last.value, at) rest) (omega (arith, deep)))
  value_size (boolean true) before at rest deep =
      omega (arith, placed_size before true at (token_text (Token.boolean true)) (pretty_from (Last.value, at) rest) (omega (arith, deep)))
  value_size (boolean false) before at rest deep =
      omega (arith, placed_size before true at (token_text (Token.boolean false)) (pretty_from (Last.value, at) rest) (omega (arith, deep)))
  value_size (number n) before at rest deep =
      omega (arith, placed_size before true at (number_text n) (pretty_from (Last.value, at) rest) (omega (arith, deep)))
  value_size (string s) before at rest deep =
      omega (arith, placed_size before true at (quoted s) (pretty_from (Last.value, at) rest) (omega (arith, deep)), quoted_size s)
  value_size (array ds) before at rest deep =
      let inner = items_tokens (items_outline ds) ++ rest in
      let here = placed_size before true at (91 ∷ []) (pretty_from (Last.bracket, min (at + 1) (2 ^ 64 - 1)) inner) (omega (arith, deep)) in
      let there = subst (λ a. length (pretty_from (Last.bracket, a) inner) ≤ 19 + items_cost ds + length (pretty_from (Last.value, at) rest))
      (sym (one_deeper at (omega (arith, deep)))) (items_size ds Last.bracket at rest (omega (arith, deep))) in
      omega (arith, here, there)
  value_size (object ms) before at rest deep =
      let inner = members_tokens (members_outline ms) ++ rest in
      let here = placed_size before true at (123 ∷ []) (pretty_from (Last.bracket, min (at + 1) (2 ^ 64 - 1)) inner) (omega (arith, deep)) in
      let there = subst (λ a. length (pretty_from (Last.bracket, a) inner) ≤ 19 + members_cost ms + length (pretty_from (Last.value, at) rest))
      (sym (one_deeper at (omega (arith, deep)))) (members_size ms Last.bracket at rest (omega (arith, deep))) in
      omega (arith, here, there)

  items_size : (ds : Items) (before : Last) (at : ℕ) (rest : List Token) → at + 1 + items_depth ds ≤ 8
      → length (pretty_from (before, at + 1) (items_tokens (items_outline ds) ++ rest)) ≤ 19 + items_cost ds + length (pretty_from (Last.value, at) rest)
  items_size no_items before at rest deep =
      let here = placed_size before false (at + 1 - 1) (93 ∷ []) (pretty_from (Last.value, at + 1 - 1) rest) (omega (arith, deep)) in
      let same : length (pretty_from (Last.value, at + 1 - 1) rest) ≡ length (pretty_from (Last.value, at) rest) =
      ap (λ a. length (pretty_from (Last.value, a) rest)) (one_back at) in
      omega (arith, here, same)
  items_size (item d ds) before at rest deep =
      rw (append_assoc (json_tokens (outline d)) (items_tokens (items_outline ds)) rest)
      (omega (arith, value_size d before (at + 1) (items_tokens (items_outline ds) ++ rest) (omega (arith, deep)), items_size ds Last.value at rest (omega (arith, deep))))

  members_size : (ms : Members) (before : Last) (at : ℕ) (rest : List Token) → at + 1 + members_depth ms ≤ 8
      → length (pretty_from (before, at + 1) (members_tokens (members_outline ms) ++ rest)) ≤ 19 + members_cost ms + length (pretty_from (Last.value, at) rest)
  members_size no_members before at rest deep =
      let here = placed_size before false (at + 1 - 1) (125 ∷ []) (pretty_from (Last.value, at + 1 - 1) rest) (omega (arith, deep)) in
      let same : length (pretty_from (Last.value, at + 1 - 1) rest) ≡ length (pretty_from (Last.value, at) rest) =
      ap (λ a. length (pretty_from (Last.value, a) rest)) (one_back at) in
      omega (arith, here, same)
  members_size (member k d ms) before at rest deep =
      let after = (json_tokens (outline d) ++ members_tokens (members_outline ms)) ++ rest in
      let key = placed_size before true (at + 1) (quoted k ++ 58 ∷ []) (pretty_from (Last.name, at + 1) after) (omega (arith, deep)) in
      let size : length (quoted k ++ 58 ∷ []) ≡ 3 + length (escape k) = omega (arith, length-append (quoted k) (58 ∷ []), quoted_size k) in
      let later : length (pretty_from (Last.name, at + 1) after) ≤ cost d + length (pretty_from (Last.value, at + 1) (members_tokens (members_outline ms) ++ rest)) =
      rw (append_assoc (json_tokens (outline d)) (members_tokens (members_outline ms)) rest)
      (value_size d Last.name (at + 1) (members_tokens (members_outline ms) ++ rest) (omega (arith, deep))) in
      omega (arith, key, size, later, members_size ms Last.value at rest (omega (arith, deep)))

-- the text of a value
pub layout_size : (d : Data) → depth d ≤ 8 → length (pretty_from (Last.nothing, 0) (json_tokens (outline d))) ≤ cost d
unfolding pretty_from
layout_size d deep =
    let all = value_size d Last.nothing 0 [] (omega (arith, deep)) in
    let same : length (pretty_from (Last.nothing, 0) (json_tokens (outline d) ++ [])) ≡ length (pretty_from (Last.nothing, 0) (json_tokens (outline d))) =
    ap (λ ts. length (pretty_from (Last.nothing, 0) ts)) (append-nil (json_tokens (outline d))) in
    omega (arith, all, same)
