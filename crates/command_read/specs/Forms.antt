-- The forms of the commands: what follows the command's word, and the command that it gives. The number of words is tested
-- first, then names, then numbers, then categories.
use Rattle.std.specs.Prelude.{ℕ, List, [], ◌∷◌, length, Option, Some, None, Result, Ok, Err, nat_lt, if◌then◌else◌, codes}
use Rattle.std.specs.Str.{bytes_eq}
use Rattle.integers.specs.Fraction.{Fraction}
use Rattle.judgement_matrix.specs.Range.{Bounds}
use Rattle.frac128.specs.Chain.{◌>>=◌}
use Rattle.command_read.specs.Parts.{name, new_name, names, range, reach, values}
use Rattle.command_read.specs.declared.block.Held.{Held}
use Rattle.command_read.specs.declared.refusal.Refusal.{Refusal}
use Rattle.command_read.specs.declared.refusal.Refusal.TheVariants.{WrongCount}
use Rattle.command_read.specs.declared.command.Command.{Command}
use Rattle.command_read.specs.declared.command.Command.TheVariants as command
use Rattle.command_read.specs.declared.verb.Verb.{Verb}
use Rattle.command_read.specs.declared.verb.Verb.TheVariants as verb

-- the words behind the first one, and the block, as a command
abbrev pub Form : Type 0
Form = List (List ℕ) → Held → Result Command Refusal

-- ---- so many words, and no more

unfoldable pub no_word : List (List ℕ) → Result (Unit {0}) Refusal
no_word [] = Ok tt
no_word (x ∷ words) = Err WrongCount

unfoldable pub one_word : List (List ℕ) → Result (List ℕ) Refusal
one_word (x ∷ []) = Ok x
one_word _ = Err WrongCount

unfoldable pub two_words : List (List ℕ) → Result (List ℕ × List ℕ) Refusal
two_words (x ∷ y ∷ []) = Ok (x, y)
two_words _ = Err WrongCount

unfoldable pub three_words : List (List ℕ) → Result (List ℕ × List ℕ × List ℕ) Refusal
three_words (x ∷ y ∷ z ∷ []) = Ok (x, y, z)
three_words _ = Err WrongCount

unfoldable pub four_words : List (List ℕ) → Result (List ℕ × List ℕ × List ℕ × List ℕ) Refusal
four_words (x ∷ y ∷ z ∷ w ∷ []) = Ok (x, y, z, w)
four_words _ = Err WrongCount

-- ---- so many names, and no other words

unfoldable pub one_name : List (List ℕ) → Result (List ℕ) Refusal
one_name words = do
  x ← one_word words
  name x

unfoldable pub two_names : List (List ℕ) → Result (List ℕ × List ℕ) Refusal
two_names words = do
  w ← two_words words
  a ← name w.0
  b ← name w.1
  Ok (a, b)

unfoldable pub three_names : List (List ℕ) → Result (List ℕ × List ℕ × List ℕ) Refusal
three_names words = do
  w ← three_words words
  a ← name w.0
  b ← name w.1
  c ← name w.2
  Ok (a, b, c)

-- ---- forms that several commands have

abbrev pub alone : Command → Form
alone made words held = do
  none ← no_word words
  Ok made

abbrev pub one : (List ℕ → Command) → Form
one make words held = do
  a ← one_name words
  Ok (make a)

abbrev pub two : (List ℕ → List ℕ → Command) → Form
two make words held = do
  n ← two_names words
  Ok (make n.0 n.1)

abbrev pub three : (List ℕ → List ℕ → List ℕ → Command) → Form
three make words held = do
  n ← three_names words
  Ok (make n.0 n.1 n.2)

abbrev pub block : (Held → Command) → Form
block make words held = do
  none ← no_word words
  Ok (make held)

abbrev pub one_and_block : (List ℕ → Held → Command) → Form
one_and_block make words held = do
  a ← one_name words
  Ok (make a held)

-- ---- forms that one command has

-- `criterion CRIT EL EL` and more EL
unfoldable pub criterion : Form
criterion (x ∷ y ∷ z ∷ more) held = do
  a ← new_name x
  elements ← names (y ∷ z ∷ more)
  Ok (command.Criterion a elements)
criterion _ held = Err WrongCount

-- `judge CRIT EL EL CAT`
unfoldable pub judge : Form
judge words held = do
  w ← four_words words
  a ← name w.0
  b ← name w.1
  c ← name w.2
  r ← range w.3
  Ok (command.Judge a b c r)

-- `weigh-order CRIT` and more CRIT
unfoldable pub weigh_order : Form
weigh_order [] held = Err WrongCount
weigh_order (x ∷ more) held = do
  order ← names (x ∷ more)
  Ok (command.WeighOrder order)

-- `weigh CRIT CRIT CAT`
unfoldable pub weigh : Form
weigh words held = do
  w ← three_words words
  a ← name w.0
  b ← name w.1
  r ← range w.2
  Ok (command.Weigh a b r)

-- `reach CRIT N`
unfoldable pub reach_of : Form
reach_of words held = do
  w ← two_words words
  a ← name w.0
  n ← reach w.1
  Ok (command.Reach a n)

-- `fits MAT V` and more V
unfoldable pub fits : Form
fits (x ∷ y ∷ more) held = do
  a ← name x
  vs ← values (y ∷ more)
  Ok (command.Fits a vs)
fits _ held = Err WrongCount

-- `group GRP` and `group GRP GRP`
unfoldable pub group : Form
group (x ∷ []) held = do
  a ← name x
  Ok (command.Group a None)
group (x ∷ y ∷ []) held = do
  a ← name x
  b ← name y
  Ok (command.Group a (Some b))
group _ held = Err WrongCount

-- `export matrix MAT`, `export anchored CRIT`, `export weights` and `export scores`
unfoldable pub export : Form
export [] held = Err WrongCount
export (what ∷ words) held =
    if bytes_eq what (codes "matrix") then one command.ExportMatrix words held
    else (if bytes_eq what (codes "anchored") then one command.ExportAnchored words held
    else (if bytes_eq what (codes "weights") then alone command.ExportWeights words held
    else (if bytes_eq what (codes "scores") then alone command.ExportScores words held else Err WrongCount)))

-- the form of each command
unfoldable pub form : Verb → Form
form verb.Load = block command.Load
form verb.Option = one command.Option
form verb.DropOption = one command.DropOption
form verb.Criterion = criterion
form verb.DropCriterion = one command.DropCriterion
form verb.Refs = three command.Refs
form verb.Judge = judge
form verb.Unjudge = three command.Unjudge
form verb.Perform = three command.Perform
form verb.WeighOrder = weigh_order
form verb.Weigh = weigh
form verb.Unweigh = two command.Unweigh
form verb.Reach = reach_of
form verb.Import = one_and_block command.Import
form verb.Undo = alone command.Undo
form verb.Matrix = one command.Matrix
form verb.Rows = one command.Rows
form verb.Fits = fits
form verb.Scale = one command.Scale
form verb.Cert = one command.Cert
form verb.Verify = one_and_block command.Verify
form verb.Repairs = one command.Repairs
form verb.Anchored = one command.Anchored
form verb.Slack = two command.Slack
form verb.Weights = alone command.Weights
form verb.Wcert = alone command.Wcert
form verb.Wrepairs = alone command.Wrepairs
form verb.Scores = alone command.Scores
form verb.Dominance = two command.Dominance
form verb.Dcert = two command.Dcert
form verb.Dominances = alone command.Dominances
form verb.Export = export
form verb.Dump = alone command.Dump
form verb.Stats = alone command.Stats
form verb.Quit = alone command.Quit
form verb.Group = group
form verb.DropGroup = one command.DropGroup
form verb.Place = two command.Place
form verb.Unplace = one command.Unplace
form verb.Groups = alone command.Groups
form verb.Subtotals = one command.Subtotals
