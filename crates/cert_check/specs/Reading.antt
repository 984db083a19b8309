-- What the steps of reading a certificate's text find.
use Rattle.std.specs.Prelude.{◌≡◌, ℕ, ◌+◌, ◌==◌, ◌≤◌, ◌<◌, ◌^◌, List, [], ◌∷◌, ◌++◌, length, ℤ, All, ⊤, Option, Some, None, ◌≢◌}
use Rattle.std.specs.Fmt.{decimal, signed_decimal}
use Rattle.std.specs.List.{slice_split}
use Rattle.frac128.specs.Range.{IsInRange}
use Rattle.judgement_matrix.specs.declared.tag.Tag.{Tag}
use Rattle.integers.specs.Fraction.{Fraction}
use Rattle.frac128.specs.Text.{frac_text}
use Rattle.cert_check.specs.Text.{ArePositions, IsValue, IsHead, IsEntryText, head_words, entry_words, entries_text, BeginWithNo}
use Rattle.cert_check.specs.declared.text.Head.{Head}
use Rattle.cert_check.specs.declared.text.CertFault.{CertFault}
use Rattle.cert_check.specs.declared.text.CertFault.TheVariants.{Bad, NoMemory}

-- the words of a line: what stands between its spaces
abbrev pub words : List ℕ → List (List ℕ)
words line = slice_split (λ b. b == 32) line

-- the one thing that is so, or nothing where none is
abbrev pub Found : {A : Type 0} → (A → Type 0) → Option A → Type 0
Found {A} Is None = (x : A) → ¬ Is x
Found Is (Some x) = Is x

-- the word prints the fraction
abbrev pub IsPrintedValue : List ℕ → Fraction → Type 0
IsPrintedValue word value = IsValue value × (word ≡ frac_text value)

-- the word prints the whole number
abbrev pub IsPrintedWhole : List ℕ → ℤ → Type 0
IsPrintedWhole word number = IsInRange number × (word ≡ signed_decimal number)

-- the word prints the number of entries
abbrev pub IsPrintedCount : List ℕ → ℕ → Type 0
IsPrintedCount word count = (count < 2 ^ 127) × (word ≡ decimal count)

-- the word prints the position
abbrev pub IsPrintedPlace : List ℕ → ℕ → Type 0
IsPrintedPlace word place = (1 ≤ place) × (place ≤ 255) × (word ≡ decimal place)

-- the two words print the positions
abbrev pub ArePrintedPlaces : List ℕ → List ℕ → ℕ × ℕ → Type 0
ArePrintedPlaces upper lower pair = ArePositions pair.0 pair.1 × (upper ≡ decimal pair.0) × (lower ≡ decimal pair.1)

-- the words are those of the first line
abbrev pub IsPrintedHead : List (List ℕ) → Head → Type 0
IsPrintedHead line head = IsHead head × (line ≡ head_words head)

-- the words are those of the entry
abbrev pub IsPrintedEntry : List (List ℕ) → Tag × ℤ → Type 0
IsPrintedEntry line entry = IsEntryText entry × (line ≡ entry_words entry)

-- the words are those of the positions of a pair and a multiplier
abbrev pub IsPrintedPair : List (List ℕ) → (ℕ × ℕ) × ℤ → Type 0
IsPrintedPair line e =
    ArePositions e.0.0 e.0.1 × IsInRange e.1 × (line ≡ decimal e.0.0 ∷ decimal e.0.1 ∷ signed_decimal e.1 ∷ [])

-- the words are those of the positions of two pairs and a multiplier
abbrev pub IsPrintedCross : List (List ℕ) → ((ℕ × ℕ) × (ℕ × ℕ)) × ℤ → Type 0
IsPrintedCross line e =
    ArePositions e.0.0.0 e.0.0.1 × ArePositions e.0.1.0 e.0.1.1 × IsInRange e.1
    × (line ≡ decimal e.0.0.0 ∷ decimal e.0.0.1 ∷ decimal e.0.1.0 ∷ decimal e.0.1.1 ∷ signed_decimal e.1 ∷ [])

-- the text begins with entries, no more than so many
pub record HasEntries (text : List ℕ) (count : ℕ) (on : List (Tag × ℤ)) (rest : List ℕ) : Type 0 where
  pub are_entries : All IsEntryText on
  pub no_more : length on ≤ count
  pub parts : text ≡ entries_text on ++ rest

-- the text is so many entries
pub record AreEntries (text : List ℕ) (count : ℕ) (on : List (Tag × ℤ)) : Type 0 where
  pub has : HasEntries text count on []
  pub number : length on ≡ count

-- the line after these entries, of a text whose first line stands before them, is the first that doesn't fit
pub record IsBadAfter (text : List ℕ) (count : ℕ) (k : ℕ) : Type 0 where
  pub on : List (Tag × ℤ)
  pub rest : List ℕ
  pub has : HasEntries text count on rest
  pub number : k ≡ length on + 2
  pub missing : length on < count → BeginWithNo IsEntryText entry_words rest
  pub too_many : length on ≡ count → rest ≢ []

-- what a walk over the entries answers
abbrev pub IsEntriesFault : List ℕ → ℕ → CertFault → Type 0
IsEntriesFault text count (Bad k) = IsBadAfter text count k
IsEntriesFault text count NoMemory = ⊤
