-- What a call that copies the next line does.
use Rattle.std.specs.Prelude.{ℕ, ◌≡◌, ◌<◌, ◌≤◌, List, ◌++◌, length, Result, Ok, Err}
use Rattle.line_io.specs.Outside.{Change}
use Rattle.line_io.specs.Lines.{Progress, Moves, Gives, IsOver, FailsToRead, ReachesLimit, without_return}
use Rattle.line_io.specs.declared.lines.TheConstants.{LINE_LIMIT}
use Rattle.transcript.specs.declared.piece.Piece.{Piece}
use Rattle.transcript.specs.declared.piece.Piece.TheVariants.{Line, TooLong, End}
use Rattle.transcript.specs.declared.piece.EntryFault.{EntryFault}
use Rattle.transcript.specs.declared.piece.EntryFault.TheVariants.{Read, Limit, Memory}

-- a piece that is copied as a line
abbrev pub IsCopied : List ℕ → List ℕ → Type 0
IsCopied into piece = (length piece ≤ LINE_LIMIT) × (into ≡ without_return piece)

abbrev pub SaysLine : Progress → Progress → Change → List ℕ → List ℕ → Result Piece EntryFault → Type 0
SaysLine old new source stream into (Ok Line) = Gives old new stream (IsCopied into)
SaysLine old new source stream into (Ok TooLong) = Gives old new stream (λ piece. LINE_LIMIT < length piece)
SaysLine old new source stream into (Ok End) = IsOver old new stream
SaysLine old new source stream into (Err Read) = FailsToRead old new source stream
SaysLine old new source stream into (Err Limit) = ReachesLimit old new stream
SaysLine old new source stream into (Err Memory) = Unit {0}

-- the next line was taken, and copied
pub record TakesLine (old new : Progress) (source : Change) (into : List ℕ) (answer : Result Piece EntryFault) : Type 0
  where
    pub bytes : List ℕ
    pub moves : Moves old new source bytes
    pub says : SaysLine old new source (old.in_hand ++ bytes) into answer
