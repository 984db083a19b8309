-- An entry that was found and answered, as a turn.
use Rattle.std.proofs.Common.{◌≡◌, ◌≤◌, ◌++◌, Result, Ok, ap, ◌∙◌, subst, inr}
use Rattle.line_io.specs.Outside.{Change}
use Rattle.transcript.specs.Entry.{Entry}
use Rattle.transcript.specs.Rules.{Rules}
use Rattle.transcript.specs.Reading.{Position, AdvancesEntry}
use Rattle.transcript.specs.Turn.{EntryTurn, TurnOf, Turns}
use Rattle.transcript.specs.declared.piece.EntryFault.{EntryFault}
use Rattle.transcript.specs.declared.reader.Next.{Next}
use Rattle.transcript.specs.declared.reader.Next.TheVariants.{Found}
use Rattle.transcript.specs.declared.status.Status.TheVariants.{Done, BadWords, ReadFault, WriteFault, NoMemory, InputLimit}
use Rattle.transcript.specs.declared.turn.Turn.{Turn}
use Rattle.transcript.specs.declared.turn.Turn.TheVariants.{Goes, Ends}

pub found_turn : {S : Type 0} (rules : Rules S) (p q : Position) (source : Change) (s t : S) (sink : Change) (turn : Turn) (entry : Entry)
    (answer : Result Next EntryFault) (next : Next)
    → AdvancesEntry rules.takes_block p q source answer → answer ≡ Ok next → next ≡ Found → entry ≡ q.entry → EntryTurn rules s entry t sink turn
    → sink.faults_old ≤ sink.faults_new
    → Turns rules p q source s t sink turn
found_turn rules p q source s t sink turn entry answer next advances is found same does count =
    record { bytes = h.2.bytes; goes = h.2.goes; sink_faults = count; does = by_turn turn (subst (λ (e : Entry). EntryTurn rules s e t sink turn) same does) }
  where
    h : AdvancesEntry rules.takes_block p q source (Ok Found)
    h = subst (AdvancesEntry rules.takes_block p q source) (is ∙ ap (λ (n : Next). Ok n) found) advances

    by_turn : (turn : Turn) → EntryTurn rules s q.entry t sink turn → TurnOf rules p q source (p.progress.in_hand ++ h.2.bytes) s t sink turn
    by_turn Goes e = (h.1, h.2.says, e)
    by_turn (Ends Done) e = inr (h.2.says, e)
    by_turn (Ends WriteFault) e = (h.2.says, e)
    by_turn (Ends NoMemory) e = e
    by_turn (Ends BadWords) e = absurd e
    by_turn (Ends ReadFault) e = absurd e
    by_turn (Ends InputLimit) e = absurd e
