-- What each status of a run says of the bytes that were taken and of those that were written.
use Rattle.std.specs.Prelude.{◌≡◌, ◌⊎◌, ℕ, ◌<◌, Bool, true, false, List, ◌++◌, length, take, Option, None, Some}
use Rattle.std.specs.List.{list_any}
use Rattle.line_io.specs.Outside.{Change, Took, Put, Rose, IsAtEnd}
use Rattle.line_io.specs.declared.lines.TheConstants.{INPUT_LIMIT}
use Rattle.transcript.specs.Entry.{Entry}
use Rattle.transcript.specs.Rules.{Rules}
use Rattle.transcript.specs.Entries.{AreEntries}
use Rattle.transcript.specs.Transcript.{IsTranscript, Replies, up_to_quit}
use Rattle.transcript.specs.declared.status.Status.{Status}
use Rattle.transcript.specs.declared.status.Status.TheVariants.{Done, BadWords, ReadFault, WriteFault, NoMemory, InputLimit}

-- the end can have been seen only before the limit of the input, with nothing left
abbrev pub IsAtTheEnd : List ℕ → Option (List ℕ) → Type 0
IsAtTheEnd bytes left = (length bytes < INPUT_LIMIT) × IsAtEnd left

abbrev pub MayBeEnded : Bool → List ℕ → Option (List ℕ) → Type 0
MayBeEnded ended bytes left = ended ≡ true → IsAtTheEnd bytes left

-- the text is the start of a transcript
pub record IsCutTranscript {S : Type 0} (rules : Rules S) (first : S) (bytes : List ℕ) (left : Option (List ℕ))
    (text : List ℕ) : Type 0 where
  pub ended : Bool
  pub quits : Bool
  pub may_be : MayBeEnded ended bytes left
  pub others : List ℕ
  pub transcript : IsTranscript rules first ended quits bytes (text ++ others)

-- the text is the replies to the first entries, each whole
pub record IsFirstReplies {S : Type 0} (rules : Rules S) (first : S) (bytes : List ℕ) (left : Option (List ℕ))
    (text : List ℕ) : Type 0 where
  pub ended : Bool
  pub may_be : MayBeEnded ended bytes left
  pub entries : List Entry
  pub are : AreEntries rules.takes_block ended bytes entries
  pub count : ℕ
  pub replies : Replies rules first (take count (up_to_quit rules.quits entries)) text

-- what a status says of the bytes that were taken, of what is left, where that is told, and of the text that was written
abbrev pub Tells : {S : Type 0} → Rules S → S → Status → List ℕ → Option (List ℕ) → List ℕ → Type 0
Tells rules first Done bytes left text =
    ((quits : Bool) × IsAtTheEnd bytes left × IsTranscript rules first true quits bytes text)
    ⊎ IsTranscript rules first false true bytes text
Tells rules first BadWords bytes left text = ⊥
Tells rules first ReadFault bytes left text =
    (length bytes < INPUT_LIMIT) × IsTranscript rules first false false bytes text
Tells rules first WriteFault bytes left text = IsCutTranscript rules first bytes left text
Tells rules first NoMemory bytes left text = IsFirstReplies rules first bytes left text
Tells rules first InputLimit bytes left text =
    (length bytes ≡ INPUT_LIMIT) × IsTranscript rules first false false bytes text

-- the table of the statuses, as far as the source and the sink tell their bytes
pub record IsTold {S : Type 0} (rules : Rules S) (first : S) (status : Status) (source sink : Change) : Type 0 where
  -- the bytes that were taken, and those that were written
  pub bytes : List ℕ
  pub text : List ℕ
  pub took : Took source.told_old source.told_new bytes
  pub put : Put sink.told_old sink.told_new text
  pub tells : Tells rules first status bytes source.told_new text

-- an accepted `quit` is among the whole entries of the bytes
abbrev pub HasQuit : {S : Type 0} → Rules S → List ℕ → Type 0
HasQuit rules bytes =
    (entries : List Entry) × AreEntries rules.takes_block false bytes entries × (list_any rules.quits entries ≡ true)

-- a source tells that an accepted `quit`, or its end, comes before the limit of the input
abbrev pub EndsInTime : {S : Type 0} → Rules S → Option (List ℕ) → Type 0
EndsInTime rules None = ⊥
EndsInTime rules (Some bytes) = (length bytes < INPUT_LIMIT) ⊎ HasQuit rules (take INPUT_LIMIT bytes)

-- what a run of a service from a state promises by its status
pub record Runs {S : Type 0} (rules : Rules S) (first : S) (status : Status) (source sink : Change) : Type 0 where
  pub told : IsTold rules first status source sink
  -- faults have their causes
  pub read_fault : status ≡ ReadFault → Rose source.faults_old source.faults_new
  pub write_fault : status ≡ WriteFault → Rose sink.faults_old sink.faults_new
  -- where no count rises and the input ends in time, nothing but want of memory is in the way
  pub complete : ¬ Rose source.faults_old source.faults_new → ¬ Rose sink.faults_old sink.faults_new
      → EndsInTime rules source.told_old → (status ≡ Done) ⊎ (status ≡ NoMemory)
