-- Ranges of categories as text.
use Rattle.std.specs.Prelude.{◌≡◌, ◌⊎◌, ℕ, ◌+◌, ◌-◌, ◌≤◌, ◌++◌, ◌&&◌, ◌==◌, List, [], ◌∷◌, map, Option, Some, None, nat_le, nat_lt, length, if◌then◌else◌, position, take, drop, slice_index_or, codes}
use Rattle.std.specs.Option.{option_and_then, option_map_or}
use Rattle.std.specs.Str.{bytes_eq}
use Rattle.word_table.specs.Words.{find_word}
use Rattle.word_table.specs.declared.tables.TheConstants.{CATEGORIES}
use Rattle.judgement_matrix.specs.Range.{Bounds, bounds}

-- the words of the categories, from 0 on
abbrev pub category_words : List (List ℕ)
category_words = map (λ word. word.now) CATEGORIES

-- a digit from 0 to 6 stands for itself
abbrev pub digit_of : List ℕ → Option ℕ
digit_of [] = None
digit_of (d ∷ []) = if nat_le 48 d && nat_le d 54 then Some (d - 48) else None
digit_of (d ∷ e ∷ bytes) = None

-- the category that these bytes write, by its number or its word
abbrev pub category_of : List ℕ → Option ℕ
category_of bytes = option_map_or (λ c. Some c) (digit_of bytes) (find_word category_words bytes)

-- from one category to the other, where they stand in this order
abbrev pub range_between : List ℕ → List ℕ → Option Bounds
range_between lo hi = option_and_then (λ a. option_and_then (λ b. if nat_le a b then Some (bounds a b) else None) (category_of hi)) (category_of lo)

-- from the category before a joint of two points to the one after it
abbrev pub joined_range : List ℕ → List ℕ → Option Bounds
joined_range lo rest =
    if nat_lt (length rest) 2 then None else (if bytes_eq (take 2 rest) (codes "..") then range_between lo (drop 2 rest) else None)

-- the range that these bytes write: `positive`, a category, or two categories joined by `..`
abbrev pub range_of : List ℕ → Option Bounds
range_of bytes =
    if bytes_eq bytes (codes "positive") then Some (bounds 1 6)
    else option_map_or (λ point. joined_range (take point bytes) (drop point bytes)) (position (λ byte. byte == 46) bytes) (range_between bytes bytes)

-- the word of a category
abbrev pub category_word : ℕ → List ℕ
category_word c = slice_index_or category_words c []

-- the text of a range: the word of its category, or the words of its least and its greatest category, joined
abbrev pub range_text : Bounds → List ℕ
range_text range = if range.lo == range.hi then category_word range.lo else category_word range.lo ++ codes ".." ++ category_word range.hi

-- ---- the same as a grammar

-- the bytes write a category: its digit or its word
abbrev pub WritesCategory : List ℕ → ℕ → Type 0
WritesCategory bytes c = (c ≤ 6) × ((bytes ≡ (48 + c) ∷ []) ⊎ (bytes ≡ category_word c))

-- the bytes are two categories joined by two points, the first not above the second
abbrev pub JoinsCategories : List ℕ → Bounds → Type 0
JoinsCategories bytes range =
    (lo hi : List ℕ) × (bytes ≡ lo ++ codes ".." ++ hi) × WritesCategory lo range.lo × WritesCategory hi range.hi × (range.lo ≤ range.hi)

-- the bytes write a range: `positive`, one category, or two that are joined
abbrev pub WritesRange : List ℕ → Bounds → Type 0
WritesRange bytes range =
    ((bytes ≡ codes "positive") × (range ≡ bounds 1 6))
    ⊎ ((WritesCategory bytes range.lo × (range.lo ≡ range.hi)) ⊎ JoinsCategories bytes range)
