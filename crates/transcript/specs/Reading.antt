-- What a call for the next entry does to the bytes of a source.
use Rattle.std.specs.Prelude.{◌≡◌, ◌⊎◌, ℕ, ◌<◌, Bool, false, List, [], ◌++◌, length, Option, None, Some, Result, Ok, Err}
use Rattle.line_io.specs.Outside.{Change, Rose}
use Rattle.line_io.specs.Lines.{Progress, Takes, IsOver}
use Rattle.line_io.specs.declared.lines.TheConstants.{INPUT_LIMIT}
use Rattle.transcript.specs.Entry.{Entry, too_long, line, with_block, whole, cut, large}
use Rattle.transcript.specs.Entries.{AreEntries, IsFirst}
use Rattle.transcript.specs.declared.reader.Next.{Next}
use Rattle.transcript.specs.declared.reader.Next.TheVariants.{Found, End}
use Rattle.transcript.specs.declared.piece.EntryFault.{EntryFault}
use Rattle.transcript.specs.declared.piece.EntryFault.TheVariants.{Read, Limit, Memory}
use Rattle.transcript.specs.declared.entry.Kind.{Kind}
use Rattle.transcript.specs.declared.entry.Kind.TheVariants.{TooLong, Line, Whole, Cut, Large}

-- an entry by its fields
abbrev pub entry_of_kind : Kind → List ℕ → List ℕ → Entry
entry_of_kind TooLong bytes block = too_long
entry_of_kind Line bytes block = line bytes
entry_of_kind Whole bytes block = with_block bytes (whole block)
entry_of_kind Cut bytes block = with_block bytes cut
entry_of_kind Large bytes block = with_block bytes large

-- an entry was given, the first of the stream
pub record GivesEntry (takes : List ℕ → Bool) (new : Progress) (stream : List ℕ) (entry : Entry) : Type 0 where
  pub no_fault : new.fault ≡ None
  pub first : IsFirst takes new.ended stream entry new.in_hand
  pub shorter : length new.in_hand < length stream

-- a take failed, with no whole entry in hand
pub record FailsEntry (takes : List ℕ → Bool) (new : Progress) (source : Change) (stream : List ℕ) : Type 0 where
  pub rose : Rose source.faults_old source.faults_new
  pub no_entry : AreEntries takes false stream []
  pub not_ended : new.ended ≡ false
  pub below_limit : new.taken < INPUT_LIMIT

-- all that may be taken was taken, with no whole entry in hand and the end not seen
pub record LimitsEntry (takes : List ℕ → Bool) (new : Progress) (stream : List ℕ) : Type 0 where
  pub at_limit : new.taken ≡ INPUT_LIMIT
  pub no_entry : AreEntries takes false stream []
  pub not_ended : new.ended ≡ false

abbrev pub SaysEntry : (List ℕ → Bool) → Progress → Progress → Change → List ℕ → Entry → Result Next EntryFault → Type 0
SaysEntry takes old new source stream entry (Ok Found) = GivesEntry takes new stream entry
SaysEntry takes old new source stream entry (Ok End) = IsOver old new stream
SaysEntry takes old new source stream entry (Err Read) = FailsEntry takes new source stream
SaysEntry takes old new source stream entry (Err Limit) = LimitsEntry takes new stream
SaysEntry takes old new source stream entry (Err Memory) = Unit {0}

-- the next entry was looked for, and copied where it was found
pub record ReadsEntry (takes : List ℕ → Bool) (old new : Progress) (source : Change) (entry : Entry)
    (answer : Result Next EntryFault) : Type 0 where
  -- the bytes that were taken
  pub bytes : List ℕ
  pub goes : Takes old new source bytes
  -- none where a whole entry was in hand
  pub none_with_entry : ¬ AreEntries takes false old.in_hand [] → bytes ≡ []
  pub says : SaysEntry takes old new source (old.in_hand ++ bytes) entry answer

-- how far a reader of entries has come, the entry that it gave last, and the fault that is answered from now on
pub record Position : Type 0 where
  pub progress : Progress
  pub entry : Entry
  pub fault : Option EntryFault

-- a source is as before
abbrev pub IsUntouched : Change → Type 0
IsUntouched source = (source.told_new ≡ source.told_old) × (source.faults_new ≡ source.faults_old)

-- what a call for the next entry does and answers; a fault is answered from then on, and nothing is taken any more
abbrev pub AdvancesEntry : (List ℕ → Bool) → Position → Position → Change → Result Next EntryFault → Type 0
AdvancesEntry takes old new source (Ok next) =
    (old.fault ≡ None) × (new.fault ≡ None)
    × ReadsEntry takes old.progress new.progress source new.entry (Ok next)
AdvancesEntry takes old new source (Err fault) =
    (new.fault ≡ Some fault)
    × (((old.fault ≡ Some fault) × (new ≡ old) × IsUntouched source)
    ⊎ ((old.fault ≡ None) × ReadsEntry takes old.progress new.progress source new.entry (Err fault)))
