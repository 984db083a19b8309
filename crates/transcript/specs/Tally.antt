-- A small service for the tests: it counts entries.
use Rattle.std.specs.Prelude.{◌≡◌, ℕ, ◌+◌, ◌≤◌, Bool, false, List, [], ◌∷◌, codes, nat_lt, ◌==◌, if◌then◌else◌}
use Rattle.std.specs.Str.{bytes_eq}
use Rattle.transcript.specs.Entry.{Entry, too_long, line, with_block, whole, cut, large}
use Rattle.transcript.specs.Rules.{Rules}

-- a count is a digit
abbrev pub IsDigit : ℕ → Type 0
IsDigit count = count ≤ 9

-- it stops at 9
abbrev pub next_count : ℕ → ℕ
next_count count = if nat_lt count 9 then count + 1 else count

-- what an entry is; a block is given back
abbrev pub entry_text : Entry → List ℕ
entry_text too_long = codes "long\n"
entry_text (line bytes) = codes "line\n"
entry_text (with_block bytes (whole block)) = block
entry_text (with_block bytes cut) = codes "cut\n"
entry_text (with_block bytes large) = codes "large\n"

-- behind the digit of the count
abbrev pub tally_text : ℕ → Entry → List ℕ
tally_text count entry = (48 + count) ∷ entry_text entry

abbrev pub TallyAnswers : ℕ → Entry → List ℕ → ℕ → Type 0
TallyAnswers count entry text next = (text ≡ tally_text count entry) × (next ≡ next_count count)

-- a line that begins with `!`
abbrev pub tally_takes : List ℕ → Bool
tally_takes [] = false
tally_takes (b ∷ bytes) = b == 33

abbrev pub tally_quits : Entry → Bool
tally_quits too_long = false
tally_quits (line bytes) = bytes_eq bytes (codes "quit")
tally_quits (with_block bytes block) = false

abbrev pub tally_rules : Rules ℕ
tally_rules = record { holds = IsDigit; answers = TallyAnswers; takes_block = tally_takes; quits = tally_quits }
