use Rattle.transcript.specs.Transcript.{up_to_quit}
use Rattle.transcript.proofs.TranscriptLemmas.{has_reply}
use Rattle.transcript.proofs.laws.each_reply_is_an_answer_where_it_holds.Goals as goal

pub returns : goal.returns
returns g c = λ first ended quits bytes text k entry t at.
    has_reply g.V.Service.rules first t.replies.last (up_to_quit g.V.Service.rules.quits t.entries) text k entry t.replies.answers at
