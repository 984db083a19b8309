-- What a call that reads a block does.
use Rattle.std.specs.Prelude.{◌≡◌, ◌≢◌, ◌⊎◌, ℕ, ◌<◌, Bool, true, false, ◌&&◌, List, [], ◌∷◌, ◌++◌, length, nat_le, None, Result, Ok, Err}
use Rattle.std.specs.List.{flat_map, list_any, All}
use Rattle.line_io.specs.Outside.{Change, Rose}
use Rattle.line_io.specs.Lines.{IsUnbroken, Progress, Takes}
use Rattle.line_io.specs.declared.lines.TheConstants.{INPUT_LIMIT}
use Rattle.transcript.specs.declared.block.TheConstants.{BLOCK_LIMIT}
use Rattle.transcript.specs.Entry.{Block, whole, cut, large}
use Rattle.transcript.specs.Entries.{closed, is_end, block_of}
use Rattle.transcript.specs.declared.entry.Kind.{Kind}
use Rattle.transcript.specs.declared.entry.Kind.TheVariants.{TooLong, Line, Whole, Cut, Large}
use Rattle.transcript.specs.declared.piece.EntryFault.{EntryFault}
use Rattle.transcript.specs.declared.piece.EntryFault.TheVariants.{Read, Limit, Memory}

-- pieces without a newline, the last of which none closes
pub record AreOpenEnded (stream : List ℕ) (pieces : List (List ℕ)) : Type 0 where
  pub front : List (List ℕ)
  pub last : List ℕ
  pub are : pieces ≡ front ++ last ∷ []
  pub joined : stream ≡ flat_map closed front ++ last
  pub each : All IsUnbroken front
  pub unbroken : IsUnbroken last
  pub some : last ≢ []

-- the stream is these pieces and then the rest; where the end was seen the last piece may lack its newline
abbrev pub AreFirst : Bool → List ℕ → List (List ℕ) → List ℕ → Type 0
AreFirst ended stream pieces rest =
    ((stream ≡ flat_map closed pieces ++ rest) × All IsUnbroken pieces)
    ⊎ ((ended ≡ true) × (rest ≡ []) × AreOpenEnded stream pieces)

-- none of them ends a block
abbrev pub HaveNoEnd : List (List ℕ) → Type 0
HaveNoEnd pieces = list_any is_end pieces ≡ false

-- the block ends by its `end`
pub record EndsByEnd (new : Progress) (stream : List ℕ) (block : Block) : Type 0 where
  pub inner : List (List ℕ)
  pub last : List ℕ
  pub are : AreFirst new.ended stream (inner ++ last ∷ []) new.in_hand
  pub none : HaveNoEnd inner
  pub end : is_end last ≡ true
  pub is : block ≡ block_of inner

-- the block ends with the input
pub record EndsWithInput (new : Progress) (stream : List ℕ) (block : Block) : Type 0 where
  pub inner : List (List ℕ)
  pub are : AreFirst new.ended stream inner []
  pub seen : new.ended ≡ true
  pub over : new.in_hand ≡ []
  pub none : HaveNoEnd inner
  pub is : block ≡ cut

-- the block is open where nothing more is read
pub record LeavesOpen (stream : List ℕ) : Type 0 where
  pub inner : List (List ℕ)
  pub rest : List ℕ
  pub is : stream ≡ flat_map closed inner ++ rest
  pub each : All IsUnbroken inner
  pub unbroken : IsUnbroken rest
  pub none : HaveNoEnd inner

abbrev pub block_of_kind : Kind → List ℕ → Block
block_of_kind TooLong bytes = cut
block_of_kind Line bytes = cut
block_of_kind Whole bytes = whole bytes
block_of_kind Cut bytes = cut
block_of_kind Large bytes = large

-- whether it is a kind of block
abbrev pub IsBlock : Kind → Type 0
IsBlock TooLong = ⊥
IsBlock Line = ⊥
IsBlock Whole = Unit {0}
IsBlock Cut = Unit {0}
IsBlock Large = Unit {0}

abbrev pub SaysBlock : Progress → Change → List ℕ → List ℕ → Result Kind EntryFault → Type 0
SaysBlock new source stream bytes (Ok kind) =
    (new.fault ≡ None) × IsBlock kind
    × (EndsByEnd new stream (block_of_kind kind bytes) ⊎ EndsWithInput new stream (block_of_kind kind bytes))
SaysBlock new source stream bytes (Err Read) =
    Rose source.faults_old source.faults_new × (new.ended ≡ false) × (new.taken < INPUT_LIMIT) × LeavesOpen stream
SaysBlock new source stream bytes (Err Limit) =
    (new.taken ≡ INPUT_LIMIT) × (new.ended ≡ false) × LeavesOpen stream
SaysBlock new source stream bytes (Err Memory) = Unit {0}

-- the lines of a block were taken, and copied
pub record ReadsBlock (old new : Progress) (source : Change) (copied : List ℕ) (answer : Result Kind EntryFault) : Type
    0 where
  pub bytes : List ℕ
  pub goes : Takes old new source bytes
  -- none where the block's end was in hand
  pub none_with_end : (bytes ≡ []) ⊎ LeavesOpen old.in_hand
  pub says : SaysBlock new source (old.in_hand ++ bytes) copied answer

-- a line was copied behind those of a block, unless the block is too large
pub record CopiesLine (fits : Bool) (old : List ℕ) (line : List ℕ) (new : List ℕ) (kept : Bool) : Type 0 where
  pub is : kept ≡ (fits && nat_le (length (old ++ closed line)) BLOCK_LIMIT)
  pub copied : kept ≡ true → new ≡ old ++ closed line
