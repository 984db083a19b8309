-- What one turn does: the next entry is taken and answered, and its reply is written.
use Rattle.std.specs.Prelude.{◌≡◌, ◌⊎◌, ℕ, ◌≤◌, Bool, true, false, None, List, [], ◌++◌}
use Rattle.line_io.specs.Outside.{Change, Put, PutsFront}
use Rattle.line_io.specs.Lines.{IsOver, Takes}
use Rattle.transcript.specs.Entry.{Entry}
use Rattle.transcript.specs.Rules.{Rules}
use Rattle.transcript.specs.Reading.{Position, GivesEntry, FailsEntry, LimitsEntry}
use Rattle.transcript.specs.declared.status.Status.TheVariants.{Done, BadWords, ReadFault, WriteFault, NoMemory, InputLimit}
use Rattle.transcript.specs.declared.turn.Turn.{Turn}
use Rattle.transcript.specs.declared.turn.Turn.TheVariants.{Goes, Ends}

-- the entry is answered and its reply is written whole
pub record IsAnswered {S : Type 0} (rules : Rules S) (old : S) (entry : Entry) (new : S) (sink : Change)
    (quits : Bool) : Type 0 where
  pub text : List ℕ
  pub answer : rules.answers old entry text new
  pub put : Put sink.told_old sink.told_new text
  pub quit : rules.quits entry ≡ quits

-- writing the reply fails on the way
pub record IsCutShort {S : Type 0} (rules : Rules S) (old : S) (entry : Entry) (sink : Change) : Type 0 where
  pub text : List ℕ
  pub next : S
  pub answer : rules.answers old entry text next
  pub front : PutsFront sink text

-- nothing is written
abbrev pub IsSilent : Change → Type 0
IsSilent sink = Put sink.told_old sink.told_new []

-- an entry is answered, or a fault ends the run
abbrev pub EntryTurn : {S : Type 0} → Rules S → S → Entry → S → Change → Turn → Type 0
EntryTurn rules old entry new sink Goes = IsAnswered rules old entry new sink false
EntryTurn rules old entry new sink (Ends Done) = IsAnswered rules old entry new sink true
EntryTurn rules old entry new sink (Ends WriteFault) = IsCutShort rules old entry sink
EntryTurn rules old entry new sink (Ends NoMemory) = IsSilent sink
EntryTurn rules old entry new sink (Ends BadWords) = ⊥
EntryTurn rules old entry new sink (Ends ReadFault) = ⊥
EntryTurn rules old entry new sink (Ends InputLimit) = ⊥

-- the same with the bytes in which the entry stands
abbrev pub TurnOf : {S : Type 0} → Rules S → Position → Position → Change → List ℕ → S → S → Change → Turn → Type 0
TurnOf rules before after source stream old new sink Goes =
    (after.fault ≡ None) × GivesEntry rules.takes_block after.progress stream after.entry
    × EntryTurn rules old after.entry new sink Goes
TurnOf rules before after source stream old new sink (Ends Done) =
    (IsOver before.progress after.progress stream × IsSilent sink)
    ⊎ (GivesEntry rules.takes_block after.progress stream after.entry × EntryTurn rules old after.entry new sink
    (Ends Done))
TurnOf rules before after source stream old new sink (Ends WriteFault) =
    GivesEntry rules.takes_block after.progress stream after.entry × EntryTurn rules old after.entry new sink
    (Ends WriteFault)
TurnOf rules before after source stream old new sink (Ends NoMemory) = IsSilent sink
TurnOf rules before after source stream old new sink (Ends ReadFault) =
    FailsEntry rules.takes_block after.progress source stream × IsSilent sink
TurnOf rules before after source stream old new sink (Ends InputLimit) =
    LimitsEntry rules.takes_block after.progress stream × IsSilent sink
TurnOf rules before after source stream old new sink (Ends BadWords) = ⊥

-- a turn that reads on from one position to another
pub record Turns {S : Type 0} (rules : Rules S) (before after : Position) (source : Change) (old new : S)
    (sink : Change) (turn : Turn) : Type 0 where
  -- the bytes that were taken
  pub bytes : List ℕ
  pub goes : Takes before.progress after.progress source bytes
  pub sink_faults : sink.faults_old ≤ sink.faults_new
  pub does : TurnOf rules before after source (before.progress.in_hand ++ bytes) old new sink turn
