-- Tables of words. A word is seen as its bytes.
use Rattle.std.specs.Prelude.{ℕ, Bool, true, not, ◌&&◌, List, [], ◌∷◌, Option, position}
use Rattle.std.specs.List.{IsDistinct, list_all}
use Rattle.std.specs.Str.{bytes_eq}

-- the place of the first word with these bytes
abbrev pub find_word : List (List ℕ) → List ℕ → Option ℕ
find_word words bytes = position (bytes_eq bytes) words

-- no two words are equal
abbrev pub AreApart : List (List ℕ) → Type 0
AreApart words = IsDistinct bytes_eq words

-- whether no two words are equal
abbrev pub are_apart : List (List ℕ) → Bool
are_apart [] = true
are_apart (word ∷ words) = list_all (λ other. not (bytes_eq word other)) words && are_apart words
