-- The words of a line.
use Rattle.std.specs.Prelude.{ℕ, zero, suc, ◌+◌, Bool, ◌||◌, not, ◌==◌, List, [], ◌∷◌, length, take, drop, Option, Some, None, position, if◌then◌else◌}
use Rattle.std.specs.List.{prefix_len}
use Rattle.std.specs.Option.{option_map, option_map_or}

-- a space or a tab
abbrev pub is_blank : ℕ → Bool
is_blank byte = byte == 32 || byte == 9

abbrev pub is_quote : ℕ → Bool
is_quote byte = byte == 34

-- the first bytes of a text, and what follows
abbrev pub cut : ℕ → List ℕ → List ℕ × List ℕ
cut n text = (take n text, drop n text)

-- the text up to its first blank, and what follows
abbrev pub plain_word : List ℕ → List ℕ × List ℕ
plain_word text = cut (prefix_len (λ byte. not (is_blank byte)) text) text

-- the text up to its first quotation mark, and what follows that mark
abbrev pub quoted_word : List ℕ → Option (List ℕ × List ℕ)
quoted_word text = option_map (λ at. (take at text, drop (at + 1) text)) (position is_quote text)

-- the word at the start of a text, and what follows it: between two quotation marks, or else up to a blank
abbrev pub word_at : List ℕ → Option (List ℕ × List ℕ)
word_at [] = None
word_at (byte ∷ bytes) =
    if is_quote byte then Some (option_map_or (λ word. word) (quoted_word bytes) (plain_word (byte ∷ bytes)))
    else Some (plain_word (byte ∷ bytes))

-- the first word of a line, and what follows it
abbrev pub first_word : List ℕ → Option (List ℕ × List ℕ)
first_word line = word_at (drop (prefix_len is_blank line) line)

-- the first words of a line, so many at most
abbrev pub words_within : ℕ → List ℕ → List (List ℕ)
words_within zero line = []
words_within (suc n) line = option_map_or (λ word. word.0 ∷ words_within n word.1) (first_word line) []

-- the words of a line, of which there are no more than bytes
abbrev pub words : List ℕ → List (List ℕ)
words line = words_within (length line) line
