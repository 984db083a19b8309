-- How a call for the next line goes on inside.
use Rattle.std.specs.Prelude.{◌≡◌, ◌⊎◌, ℕ, ◌+◌, ◌^◌, ◌<◌, ◌≤◌, true, false, List, [], ◌∷◌, ◌++◌, length, take, drop, if◌then◌else◌, None, Result, Ok, Err}
use Rattle.line_io.specs.Lines.{Progress, IsUnbroken, Gives, IsOver, FailsToRead, ReachesLimit, Keeps, Moves, without_return}
use Rattle.line_io.specs.Outside.{Change}
use Rattle.line_io.specs.declared.lines.TheConstants.{LINE_LIMIT}
use Rattle.line_io.specs.declared.lines.LineFault.{LineFault}
use Rattle.line_io.specs.declared.lines.LineFault.TheVariants.{Read, Limit}
use Rattle.line_io.specs.declared.cursor.Found.{Found}
use Rattle.line_io.specs.declared.cursor.Found.TheVariants.{Line, TooLong, End}
use Rattle.line_io.specs.declared.cursor.Piece.{Piece}
use Rattle.line_io.specs.declared.cursor.Cursor.{Cursor}

-- what a cursor shows
abbrev pub progress : Cursor → Progress
progress c = record { taken = c.taken; in_hand = c.window.in_hand; ended = c.ended; fault = c.fault }

-- what each answer says of the stream, where the line lies in the window
abbrev pub SaysFound : Progress → Progress → Change → List ℕ → List ℕ → Result Found LineFault → Type 0
SaysFound old new source stream line (Ok Line) =
    Gives old new stream (λ piece. (length piece ≤ LINE_LIMIT) × (line ≡ without_return piece))
SaysFound old new source stream line (Ok (TooLong count)) =
    Gives old new stream (λ piece. (count ≡ length piece) × (LINE_LIMIT < count))
SaysFound old new source stream line (Ok End) = IsOver old new stream
SaysFound old new source stream line (Err Read) = Keeps Read old new (FailsToRead old new source stream)
SaysFound old new source stream line (Err Limit) = Keeps Limit old new (ReachesLimit old new stream)

-- what the cursor did and found
pub record Finds (old new : Progress) (source : Change) (line : List ℕ) (answer : Result Found LineFault) : Type 0 where
  pub bytes : List ℕ
  pub moves : Moves old new source bytes
  pub says : SaysFound old new source (old.in_hand ++ bytes) line answer

-- the stream is what was dropped as part of a line that is too long, and what is held
pub record Sought (stream held : List ℕ) (dropped : ℕ) : Type 0 where
  pub gone : List ℕ
  pub split : stream ≡ gone ++ held
  pub no_line : IsUnbroken gone
  pub count : length gone ≡ dropped
  pub too_long : (dropped ≡ 0) ⊎ (LINE_LIMIT < dropped)

-- a piece at the front of what is in hand
pub record IsReached (p : Progress) (piece : Piece) : Type 0 where
  pub no_line : IsUnbroken (take piece.len p.in_hand)
  pub too_long : (piece.dropped ≡ 0) ⊎ (LINE_LIMIT < piece.dropped)
  pub fits : piece.dropped + piece.len < 2 ^ 31
  pub in_hand : piece.len ≤ length p.in_hand
  pub newline : piece.whole ≡ true → p.in_hand ≡ take piece.len p.in_hand ++ 10 ∷ drop (piece.len + 1) p.in_hand
  pub last : piece.whole ≡ false → (p.ended ≡ true) × (piece.len ≡ length p.in_hand)

-- what follows the piece
abbrev pub rest_after : Piece → List ℕ → List ℕ
rest_after piece in_hand = if piece.whole then drop (piece.len + 1) in_hand else []

-- what is answered for the piece
abbrev pub IsGiven : List ℕ → Piece → List ℕ → Found → Type 0
IsGiven in_hand piece line Line =
    (piece.dropped + piece.len ≤ LINE_LIMIT) × (line ≡ without_return (take piece.len in_hand))
    × (piece.whole ≡ false → 0 < piece.dropped + piece.len)
IsGiven in_hand piece line (TooLong count) = (count ≡ piece.dropped + piece.len) × (LINE_LIMIT < count)
IsGiven in_hand piece line End = (piece.whole ≡ false) × (piece.dropped + piece.len ≡ 0)

-- what the bytes that were taken led to
abbrev pub ReachesAt : Progress → Progress → Change → List ℕ → Result Piece LineFault → Type 0
ReachesAt old new source stream (Ok piece) =
    (new.fault ≡ None) × IsReached new piece × Sought stream new.in_hand piece.dropped
ReachesAt old new source stream (Err Read) = FailsToRead old new source stream
ReachesAt old new source stream (Err Limit) = ReachesLimit old new stream

-- what the search for a piece did
pub record Reaches (old new : Progress) (source : Change) (answer : Result Piece LineFault) : Type 0 where
  pub bytes : List ℕ
  pub moves : Moves old new source bytes
  pub reached : ReachesAt old new source (old.in_hand ++ bytes) answer

-- so many bytes in hand were dropped: all, where they are too many for a line
abbrev pub Sheds : Progress → Progress → ℕ → Type 0
Sheds old new count =
    ((length old.in_hand ≤ LINE_LIMIT) × (count ≡ 0) × (new ≡ old))
    ⊎ ((LINE_LIMIT < length old.in_hand) × (count ≡ length old.in_hand) × (new ≡ record old { in_hand = [] }))
