-- Texts made of lines.
use Rattle.std.specs.Prelude.{◌≡◌, ℕ, List, ◌∷◌, ◌++◌, length, codes, Result, OnOk, String, string_bytes}
use Rattle.std.specs.Fmt.{decimal}
pub use Rattle.word_table.specs.Lines.{lines_text}

-- lines under a heading that ends with their number
abbrev pub counted : List ℕ → List (List ℕ) → List (List ℕ)
counted heading lines = (heading ++ codes " " ++ decimal (length lines)) ∷ lines

-- where it is Ok, the text has these bytes more
abbrev pub Adds : {Z E : Type 0} → Result (Unit {0}) E → String Z → String Z → List ℕ → Type 0
Adds result old new bytes = OnOk result (string_bytes new ≡ string_bytes old ++ bytes)
