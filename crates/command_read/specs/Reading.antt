-- What a line asks for, by its bytes and its block.
use Rattle.std.specs.Prelude.{◌≡◌, ◌⊎◌, ℕ, Bool, true, false, ◌||◌, ◌&&◌, ◌==◌, List, [], ◌∷◌, Result, Ok, Err, if◌then◌else◌, codes}
use Rattle.std.specs.Option.{option_map_or}
use Rattle.std.specs.Str.{bytes_eq, is_utf8}
use Rattle.command_read.specs.Words.{first_word, words}
use Rattle.frac128.specs.Chain.{◌>>=◌}
use Rattle.command_read.specs.Refusals.{number_of}
use Rattle.command_read.specs.Verbs.{verb_of}
use Rattle.command_read.specs.Forms.{form}
use Rattle.command_read.specs.declared.block.Held.{Held}
use Rattle.command_read.specs.declared.refusal.Refusal.{Refusal}
use Rattle.command_read.specs.declared.refusal.Refusal.TheVariants.{NotUtf8, UnknownCommand}
use Rattle.command_read.specs.declared.verb.Verb.{Verb}
use Rattle.command_read.specs.declared.command.Command.{Command}
use Rattle.command_read.specs.declared.command.Parsed.{Parsed}
use Rattle.command_read.specs.declared.command.Parsed.TheVariants.{Nothing, Do, Refused}

-- the first byte is `#`
abbrev pub is_comment : List ℕ → Bool
is_comment [] = false
is_comment (byte ∷ bytes) = byte == 35

-- the command of a line that is text, by its first word
abbrev pub command_at : List ℕ → List ℕ → Held → Result Command Refusal
command_at word rest held = option_map_or (λ verb. form verb (words rest) held) (verb_of word) (Err UnknownCommand)

-- the command of a line that is no comment, by its first word and what follows
abbrev pub command_in : List ℕ → List ℕ → List ℕ → Held → Result Command Refusal
command_in line word rest held = if is_utf8 line then command_at word rest held else Err NotUtf8

abbrev pub parsed_as : Result Command Refusal → Parsed
parsed_as (Ok command) = Do command
parsed_as (Err refusal) = Refused (number_of refusal)

-- what a line asks for: nothing where it is a comment or has no words
abbrev pub command_of : List ℕ → Held → Parsed
command_of line held =
    if is_comment line then Nothing
    else option_map_or (λ word. parsed_as (command_in line word.0 word.1 held)) (first_word line) Nothing

-- the first words of the lines that take a block
abbrev pub is_block_word : List ℕ → Bool
is_block_word word = bytes_eq word (codes "load") || (bytes_eq word (codes "import") || bytes_eq word (codes "verify"))

-- the same words
abbrev pub IsBlockWord : List ℕ → Type 0
IsBlockWord word = (word ≡ codes "load") ⊎ (word ≡ codes "import") ⊎ (word ≡ codes "verify")

abbrev pub has_block_word : List ℕ → Bool
has_block_word line = option_map_or (λ word. is_block_word word.0) (first_word line) false

-- a block follows the line
abbrev pub takes_block : List ℕ → Bool
takes_block line = is_utf8 line && has_block_word line
