use Rattle.transcript.proofs.TurnLemmas.{found_turn}
use Rattle.transcript.proofs.turn.take_turn.Goals as goal

pub returns-in-Ok-Found : goal.returns-in-Ok-Found
returns-in-Ok-Found g c =
    found_turn g.V.Service.rules c.args.reader.now c.next.new.self _ c.args.service.now c.answer_entry.new.service _ c.answer_entry.result c.entry.result.now
    c.next.result c.in-Ok-Found.field-0
    c.next.ensures c.in-Ok-Found.is c.in-Ok-Found.field-0-is c.entry.ensures c.answer_entry.ensures.turn c.answer_entry.ensures.count
