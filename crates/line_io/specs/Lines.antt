-- What a call for the next line does to the bytes of a source.
use Rattle.std.specs.Prelude.{◌≡◌, ◌≢◌, ◌⊎◌, ℕ, ◌+◌, ◌<◌, ◌≤◌, Bool, true, false, List, [], ◌∷◌, ◌++◌, length, All, Option, None, Some, Result, Ok, Err, IsSome, if◌then◌else◌, ◌==◌}
use Rattle.line_io.specs.Outside.{Change, Took, Rose, IsAtEnd}
use Rattle.line_io.specs.declared.lines.TheConstants.{INPUT_LIMIT, LINE_LIMIT}
use Rattle.line_io.specs.declared.lines.LineFault.{LineFault}
use Rattle.line_io.specs.declared.lines.LineFault.TheVariants.{Read, Limit}
use Rattle.line_io.specs.declared.lines.Item.{Item}
use Rattle.line_io.specs.declared.lines.Item.TheVariants.{Line, TooLong, End}

-- how far the reading of lines has come
pub record Progress : Type 0 where
  -- how many bytes were taken so far
  pub taken : ℕ
  -- those taken that no line has given yet, while no fault was answered
  pub in_hand : List ℕ
  -- whether the end was seen
  pub ended : Bool
  -- the fault that is answered from now on
  pub fault : Option LineFault

-- before the first call
abbrev pub start : Progress
start = record { taken = 0; in_hand = []; ended = false; fault = None }

-- no newline in it
abbrev pub IsUnbroken : List ℕ → Type 0
IsUnbroken bytes = All (λ b. b ≢ 10) bytes

-- the line that a piece between newlines is: one carriage return at its end is dropped
abbrev pub without_return : List ℕ → List ℕ
without_return [] = []
without_return (b ∷ []) = if b == 13 then [] else b ∷ []
without_return (b ∷ c ∷ bytes) = b ∷ without_return (c ∷ bytes)

-- `piece` is the first line of the stream, `rest` what follows it; where the end was seen it may lack its newline
abbrev pub Splits : Bool → List ℕ → List ℕ → List ℕ → Type 0
Splits ended stream piece rest =
    IsUnbroken piece
    × ((stream ≡ piece ++ 10 ∷ rest) ⊎ ((ended ≡ true) × (stream ≡ piece) × (piece ≢ []) × (rest ≡ [])))

-- calls took these bytes, none once the end was seen, which a take at the end shows
pub record Takes (old new : Progress) (source : Change) (bytes : List ℕ) : Type 0 where
  pub took : Took source.told_old source.told_new bytes
  pub counted : new.taken ≡ old.taken + length bytes
  pub within : new.taken ≤ INPUT_LIMIT
  pub faults : source.faults_old ≤ source.faults_new
  pub none_after_end : old.ended ≡ true → bytes ≡ []
  pub stays_ended : old.ended ≡ true → new.ended ≡ true
  pub end_seen : old.ended ≡ false → new.ended ≡ true → IsAtEnd source.told_new × (new.taken < INPUT_LIMIT)

-- one call took these bytes, and none where a line was in hand or a fault had been answered
pub record Moves (old new : Progress) (source : Change) (bytes : List ℕ) : Type 0 where
  pub takes : Takes old new source bytes
  pub none_after_fault : IsSome old.fault → bytes ≡ []
  pub none_with_line : ¬ IsUnbroken old.in_hand → bytes ≡ []

-- the first line of the stream was given, a piece with P
pub record Gives (old new : Progress) (stream : List ℕ) (P : List ℕ → Type 0) : Type 0 where
  pub no_fault_before : old.fault ≡ None
  pub no_fault : new.fault ≡ None
  pub piece : List ℕ
  pub splits : Splits new.ended stream piece new.in_hand
  pub is : P piece

-- nothing is left to give
pub record IsOver (old new : Progress) (stream : List ℕ) : Type 0 where
  pub no_fault_before : old.fault ≡ None
  pub no_fault : new.fault ≡ None
  pub ended : new.ended ≡ true
  pub nothing_left : stream ≡ []
  pub nothing_in_hand : new.in_hand ≡ []

-- a take failed, with no whole line in hand
pub record FailsToRead (old new : Progress) (source : Change) (stream : List ℕ) : Type 0 where
  pub no_fault_before : old.fault ≡ None
  pub rose : Rose source.faults_old source.faults_new
  pub no_line : IsUnbroken stream
  pub not_ended : new.ended ≡ false
  pub below_limit : new.taken < INPUT_LIMIT

-- all that may be taken was taken, with no whole line in hand and the end not seen
pub record ReachesLimit (old new : Progress) (stream : List ℕ) : Type 0 where
  pub no_fault_before : old.fault ≡ None
  pub at_limit : new.taken ≡ INPUT_LIMIT
  pub not_ended : new.ended ≡ false
  pub no_line : IsUnbroken stream

-- a fault is answered, and from now on: it had been answered before, or this is its cause
abbrev pub Keeps : LineFault → Progress → Progress → Type 0 → Type 0
Keeps fault old new Cause =
    (new.fault ≡ Some fault) × (((old.fault ≡ Some fault) × (new ≡ old)) ⊎ Cause)

-- what each answer says of the stream, which is the bytes that were in hand and those that were taken
abbrev pub Says : Progress → Progress → Change → List ℕ → Result Item LineFault → Type 0
Says old new source stream (Ok (Line line)) =
    Gives old new stream (λ piece. (length piece ≤ LINE_LIMIT) × (line.now ≡ without_return piece))
Says old new source stream (Ok (TooLong count)) =
    Gives old new stream (λ piece. (count ≡ length piece) × (LINE_LIMIT < count))
Says old new source stream (Ok End) = IsOver old new stream
Says old new source stream (Err Read) = Keeps Read old new (FailsToRead old new source stream)
Says old new source stream (Err Limit) = Keeps Limit old new (ReachesLimit old new stream)

-- what a call for the next line does and answers
pub record Advances (old new : Progress) (source : Change) (answer : Result Item LineFault) : Type 0 where
  -- the bytes that it took
  pub bytes : List ℕ
  pub moves : Moves old new source bytes
  pub says : Says old new source (old.in_hand ++ bytes) answer
