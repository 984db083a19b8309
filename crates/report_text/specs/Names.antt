-- Names, and places among names, which count from 1.
use Rattle.std.specs.Prelude.{ℕ, ◌-◌, ◌≤◌, List, [], ◌++◌, slice_index_or, codes}
use Rattle.judgement_matrix.specs.declared.tag.Tag.{Tag}
use Rattle.judgement_matrix.specs.declared.tag.Tag.TheVariants.{Lower, Zero, Cross, Order}

-- a name between quotes
abbrev pub quoted : List ℕ → List ℕ
quoted name = codes "\"" ++ name ++ codes "\""

-- two names
abbrev pub two_names : List ℕ → List ℕ → List ℕ
two_names upper lower = quoted upper ++ codes " " ++ quoted lower

-- the name at a place
abbrev pub name_at : List (List ℕ) → ℕ → List ℕ
name_at names p = slice_index_or names (p - 1) []

-- the names at two places
abbrev pub pair_words : List (List ℕ) → ℕ → ℕ → List ℕ
pair_words names p q = two_names (name_at names p) (name_at names q)

-- a constraint, by the names at its positions
abbrev pub tag_words : List (List ℕ) → Tag → List ℕ
tag_words names (Lower p q) = codes "lower " ++ pair_words names p q
tag_words names (Zero p q) = codes "zero " ++ pair_words names p q
tag_words names (Cross p q x y) = codes "cross " ++ pair_words names p q ++ codes " over " ++ pair_words names x y
tag_words names (Order p) = codes "order " ++ quoted (name_at names p)

-- a place among n names
abbrev pub IsPlace : ℕ → ℕ → Type 0
IsPlace n p = (1 ≤ p) × (p ≤ n)

-- the positions of a constraint are places among n names
abbrev pub IsTagOf : ℕ → Tag → Type 0
IsTagOf n (Lower p q) = IsPlace n p × IsPlace n q
IsTagOf n (Zero p q) = IsPlace n p × IsPlace n q
IsTagOf n (Cross p q x y) = (IsPlace n p × IsPlace n q) × (IsPlace n x × IsPlace n y)
IsTagOf n (Order p) = IsPlace n p
