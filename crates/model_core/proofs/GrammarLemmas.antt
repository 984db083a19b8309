-- The ranges that are read are those of the grammar.
use Rattle.std.proofs.Common.{◌≡◌, ℕ, suc, zero, ◌+◌, ◌-◌, ◌≤◌, ◌<◌, inl, inr, arith, Bool, true, false, not, cond, ◌&&◌, ◌==◌, List, [], ◌∷◌, ◌++◌, Option, None, Some, length, take, drop, position, nat_le, nat_lt, slice_get, slice_index_or, codes, if◌then◌else◌, refl, sym, ap, subst, ◌∙◌}
use Rattle.std.specs.Option.{option_and_then, option_map_or}
use Rattle.std.specs.Str.{bytes_eq}
use Rattle.std.specs.Cmp.Lexicographic.{bytes_decides}
use Rattle.std.proofs.lemmas.Bool.Decides.{nat_tests}
use Rattle.std.proofs.lemmas.List.{take-append-drop, append_assoc, length-append}
use Rattle.std.proofs.Math.Seq.{take-append_seam, drop-append_seam}
use Rattle.std.specs.List.{prefix_len}
use Rattle.std.proofs.lemmas.Option.{slice_get_within}
use Rattle.word_table.specs.Words.{find_word}
use Rattle.word_table.proofs.WordLemmas.{found}
use Rattle.judgement_matrix.specs.Range.{Bounds, IsRange, bounds}
use Rattle.model_core.specs.Categories.{category_words, category_word, digit_of, category_of, range_between, joined_range, range_of, WritesCategory, WritesRange}
use Rattle.model_core.proofs.CategoryLemmas.{below_seven}

same_some : {A : Type 0} (x y : A) → Some x ≡ Some y → x ≡ y
same_some x y h = cc

-- a digit

digit_if : (d c : ℕ) (b : Bool) → (nat_le 48 d && nat_le d 54) ≡ b → (if b then Some (d - 48) else None) ≡ Some c → (c ≤ 6) × (d ≡ 48 + c)
digit_if d c true test h = let is : d - 48 ≡ c = same_some (d - 48) c h in (grind (arith, nat_tests), grind (arith, nat_tests))
digit_if d c false test h = cc

digit_writes : (bytes : List ℕ) (c : ℕ) → digit_of bytes ≡ Some c → (c ≤ 6) × (bytes ≡ (48 + c) ∷ [])
digit_writes [] c h = cc
digit_writes (d ∷ []) c h = let is = digit_if d c (nat_le 48 d && nat_le d 54) refl h in (is.0, ap (λ e. e ∷ []) is.1)
digit_writes (d ∷ e ∷ bytes) c h = cc

-- a word

word_at : (words : List (List ℕ)) (c : ℕ) (bytes : List ℕ) → slice_get words c ≡ Some bytes → bytes ≡ slice_index_or words c []
word_at [] c bytes h = cc
word_at (w ∷ ws) zero bytes h = sym (same_some w bytes h)
word_at (w ∷ ws) (suc c) bytes h = word_at ws c bytes h

word_writes : (bytes : List ℕ) (c : ℕ) → find_word category_words bytes ≡ Some c → (c ≤ 6) × (bytes ≡ category_word c)
word_writes bytes c h =
    let at = found category_words bytes c h in
    let within : c < 7 = slice_get_within category_words c bytes at in
    (omega arith, word_at category_words c bytes at)

category_if : (bytes : List ℕ) (c : ℕ) (digit : Option ℕ) → digit_of bytes ≡ digit → option_map_or (λ d. Some d) digit (find_word category_words bytes) ≡ Some c
    → WritesCategory bytes c
category_if bytes c None is h = let word = word_writes bytes c h in (word.0, inr word.1)
category_if bytes c (Some d) is h = let digit = digit_writes bytes c (is ∙ h) in (digit.0, inl digit.1)

category_writes : (bytes : List ℕ) (c : ℕ) → category_of bytes ≡ Some c → WritesCategory bytes c
category_writes bytes c h = category_if bytes c (digit_of bytes) refl h

-- two categories in order

ordered : (a b : ℕ) (range : Bounds) (t : Bool) → nat_le a b ≡ t → (if t then Some (bounds a b) else None) ≡ Some range
    → (a ≡ range.lo) × (b ≡ range.hi) × (a ≤ b)
ordered a b range true test h =
    let is : bounds a b ≡ range = same_some (bounds a b) range h in (ap (λ r. r.lo) is, ap (λ r. r.hi) is, grind (arith, nat_tests))
ordered a b range false test h = cc

both_found : (x y : Option ℕ) (range : Bounds) → option_and_then (λ a. option_and_then (λ b. if nat_le a b then Some (bounds a b) else None) y) x ≡ Some range
    → (x ≡ Some range.lo) × (y ≡ Some range.hi) × (range.lo ≤ range.hi)
both_found None y range h = cc
both_found (Some a) None range h = cc
both_found (Some a) (Some b) range h =
    let is = ordered a b range (nat_le a b) refl h in
    (ap Some is.0, ap Some is.1, subst (λ l. l ≤ range.hi) is.0 (subst (λ h. a ≤ h) is.1 is.2))

between : (lo hi : List ℕ) (range : Bounds) → range_between lo hi ≡ Some range
    → (category_of lo ≡ Some range.lo) × (category_of hi ≡ Some range.hi) × (range.lo ≤ range.hi)
between lo hi range h = both_found (category_of lo) (category_of hi) range h

-- what is read is written

joint_if : (lo rest : List ℕ) (range : Bounds) (short joined : Bool) → bytes_eq (take 2 rest) (codes "..") ≡ joined
    → (if short then None else (if joined then range_between lo (drop 2 rest) else None)) ≡ Some range
    → (rest ≡ codes ".." ++ drop 2 rest) × (range_between lo (drop 2 rest) ≡ Some range)
joint_if lo rest range true joined is h = cc
joint_if lo rest range false false is h = cc
joint_if lo rest range false true is h =
    let joint : take 2 rest ≡ codes ".." = (bytes_decides (take 2 rest) (codes "..")).0 is in
    (sym (take-append-drop 2 rest) ∙ ap (λ front. front ++ drop 2 rest) joint, h)

joined_writes : (bytes : List ℕ) (point : ℕ) (range : Bounds) → joined_range (take point bytes) (drop point bytes) ≡ Some range → WritesRange bytes range
joined_writes bytes point range h =
    let lo = take point bytes in
    let rest = drop point bytes in
    let joint = joint_if lo rest range (nat_lt (length rest) 2) (bytes_eq (take 2 rest) (codes "..")) refl h in
    let is = between lo (drop 2 rest) range joint.1 in
    inr (inr (
      lo,
      drop 2 rest,
      sym (take-append-drop point bytes) ∙ ap (λ back. lo ++ back) joint.0 ∙ sym (append_assoc lo (codes "..") (drop 2 rest)),
      category_writes lo range.lo is.0,
      category_writes (drop 2 rest) range.hi is.1,
      is.2,
    ))

one_writes : (bytes : List ℕ) (range : Bounds) → range_between bytes bytes ≡ Some range → WritesRange bytes range
one_writes bytes range h =
    let is = between bytes bytes range h in
    inr (inl (category_writes bytes range.lo is.0, same_some range.lo range.hi (sym is.0 ∙ is.1)))

point_if : (bytes : List ℕ) (range : Bounds) (point : Option ℕ)
    → option_map_or (λ at. joined_range (take at bytes) (drop at bytes)) point (range_between bytes bytes) ≡ Some range → WritesRange bytes range
point_if bytes range None h = one_writes bytes range h
point_if bytes range (Some at) h = joined_writes bytes at range h

range_if : (bytes : List ℕ) (range : Bounds) (positive : Bool) → bytes_eq bytes (codes "positive") ≡ positive
    → (if positive then Some (bounds 1 6)
    else option_map_or (λ at. joined_range (take at bytes) (drop at bytes)) (position (λ byte. byte == 46) bytes) (range_between bytes bytes)) ≡ Some range
    → WritesRange bytes range
range_if bytes range true is h = inl ((bytes_decides bytes (codes "positive")).0 is, sym (same_some (bounds 1 6) range h))
range_if bytes range false is h = point_if bytes range (position (λ byte. byte == 46) bytes) h

pub written : (bytes : List ℕ) (range : Bounds) → range_of bytes ≡ Some range → WritesRange bytes range
written bytes range h = range_if bytes range (bytes_eq bytes (codes "positive")) refl h

-- what is written is read

word_reads : (c : ℕ) → c ≤ 6 → category_of (category_word c) ≡ Some c
word_reads = below_seven (λ c. category_of (category_word c) ≡ Some c) refl refl refl refl refl refl refl

digit_reads : (c : ℕ) → c ≤ 6 → category_of ((48 + c) ∷ []) ≡ Some c
digit_reads = below_seven (λ c. category_of ((48 + c) ∷ []) ≡ Some c) refl refl refl refl refl refl refl

reads : (bytes : List ℕ) (c : ℕ) → WritesCategory bytes c → category_of bytes ≡ Some c
reads bytes c writes = elim writes.1 [
  | inl digit ↦ ap category_of digit ∙ digit_reads c writes.0
  | inr word ↦ ap category_of word ∙ word_reads c writes.0
]

one_digit : (c : ℕ) → c ≤ 6 → range_of ((48 + c) ∷ []) ≡ Some (bounds c c)
one_digit = below_seven (λ c. range_of ((48 + c) ∷ []) ≡ Some (bounds c c)) refl refl refl refl refl refl refl

one_word : (c : ℕ) → c ≤ 6 → range_of (category_word c) ≡ Some (bounds c c)
one_word = below_seven (λ c. range_of (category_word c) ≡ Some (bounds c c)) refl refl refl refl refl refl refl

one_reads : (bytes : List ℕ) (c : ℕ) → WritesCategory bytes c → range_of bytes ≡ Some (bounds c c)
one_reads bytes c writes = elim writes.1 [
  | inl digit ↦ ap range_of digit ∙ one_digit c writes.0
  | inr word ↦ ap range_of word ∙ one_word c writes.0
]

-- where these bytes stand before two points, the first of the points stands behind them
Leads : List ℕ → Type 0
Leads lo =
    (hi : List ℕ) → (bytes_eq (lo ++ codes ".." ++ hi) (codes "positive") ≡ false)
    × (prefix_len (λ byte. not (byte == 46)) (lo ++ codes ".." ++ hi) ≡ length lo)

digit_leads : (c : ℕ) → c ≤ 6 → Leads ((48 + c) ∷ [])
unfolding Leads
digit_leads = below_seven (λ c. Leads ((48 + c) ∷ []))
    (λ hi. (refl, refl)) (λ hi. (refl, refl)) (λ hi. (refl, refl)) (λ hi. (refl, refl)) (λ hi. (refl, refl)) (λ hi. (refl, refl)) (λ hi. (refl, refl))

word_leads : (c : ℕ) → c ≤ 6 → Leads (category_word c)
unfolding Leads
word_leads = below_seven (λ c. Leads (category_word c))
    (λ hi. (refl, refl)) (λ hi. (refl, refl)) (λ hi. (refl, refl)) (λ hi. (refl, refl)) (λ hi. (refl, refl)) (λ hi. (refl, refl)) (λ hi. (refl, refl))

leads : (lo : List ℕ) (c : ℕ) → WritesCategory lo c → Leads lo
leads lo c writes = elim writes.1 [
  | inl digit ↦ subst Leads (sym digit) (digit_leads c writes.0)
  | inr word ↦ subst Leads (sym word) (word_leads c writes.0)
]

-- the range of two categories
from_to : Option ℕ → Option ℕ → Option Bounds
from_to lo hi = option_and_then (λ a. option_and_then (λ b. if nat_le a b then Some (bounds a b) else None) hi) lo

between_reads : (lo hi : List ℕ) (range : Bounds) → WritesCategory lo range.lo → WritesCategory hi range.hi → range.lo ≤ range.hi
    → range_between lo hi ≡ Some range
unfolding from_to
between_reads lo hi range low high order =
    let test : nat_le range.lo range.hi ≡ true = grind (arith, nat_tests) in
    (λ i. from_to (reads lo range.lo low i) (reads hi range.hi high i)) ∙ ap (λ t. if t then Some range else None) test

joined_reads : (lo hi : List ℕ) (range : Bounds) → WritesCategory lo range.lo → WritesCategory hi range.hi → range.lo ≤ range.hi
    → range_of (lo ++ codes ".." ++ hi) ≡ Some range
unfolding Leads
joined_reads lo hi range low high order =
    let bytes = lo ++ codes ".." ++ hi in
    let back = codes ".." ++ hi in
    let front = leads lo range.lo low hi in
    let is : bytes ≡ lo ++ back = append_assoc lo (codes "..") hi in
    let size : length bytes ≡ length lo + length back = ap length is ∙ length-append lo back in
    let inside : nat_lt (length lo) (length bytes) ≡ true = grind (arith, nat_tests) in
    let point : position (λ byte. byte == 46) bytes ≡ Some (length lo) =
    ap (λ n. cond (nat_lt n (length bytes)) (Some n) None) front.1 ∙ ap (λ t. cond t (Some (length lo)) None) inside in
    let taken : take (length lo) bytes ≡ lo = ap (take (length lo)) is ∙ take-append_seam lo back in
    let dropped : drop (length lo) bytes ≡ back = ap (drop (length lo)) is ∙ drop-append_seam lo back in
    let long : nat_lt (length back) 2 ≡ false = grind (arith, nat_tests) in
    ap (λ t. if t then Some (bounds 1 6)
    else option_map_or (λ at. joined_range (take at bytes) (drop at bytes)) (position (λ byte. byte == 46) bytes) (range_between bytes bytes)) front.0
    ∙ ap (λ p. option_map_or (λ at. joined_range (take at bytes) (drop at bytes)) p (range_between bytes bytes)) point
    ∙ (λ i. joined_range (taken i) (dropped i))
    ∙ ap (λ t. if t then None else range_between lo hi) long
    ∙ between_reads lo hi range low high order

pub read : (bytes : List ℕ) (range : Bounds) → WritesRange bytes range → range_of bytes ≡ Some range
read bytes range writes = elim writes [
  | inl positive ↦ ap range_of positive.0 ∙ ap Some (sym positive.1)
  | inr rest ↦ elim rest [
    | inl one ↦ one_reads bytes range.lo one.0 ∙ ap (λ hi. Some (bounds range.lo hi)) one.1
    | inr two ↦ ap range_of two.2 ∙ joined_reads two.0 two.1 range two.3 two.4 two.5
  ]
]

-- what is written is a range
pub range_of-IsRange : (bytes : List ℕ) (range : Bounds) → range_of bytes ≡ Some range → IsRange range
range_of-IsRange bytes range h = by_form (written bytes range h)
  where
    by_form : WritesRange bytes range → IsRange range
    by_form (inl (positive, is)) = subst IsRange (sym is) (omega arith, omega arith)
    by_form (inr (inl (writes, same))) = (omega (arith, same), omega (arith, writes.0, same))
    by_form (inr (inr (lo, hi, joined, first, second, ordered))) = (ordered, second.0)
