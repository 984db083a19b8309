-- A session begins in a state that holds, keeps what it holds, and answers every entry.
use Rattle.std.specs.Prelude.{◌≡◌, ℕ, List, [], refl}
use Rattle.std.proofs.Common.{sym, subst}
use Rattle.command_read.specs.declared.command.Parsed.{Parsed}
use Rattle.command_read.specs.declared.command.Parsed.TheVariants.{Nothing, Do, Refused}
use Rattle.command_read.specs.declared.block.Held.TheVariants as held
use Rattle.report_text.specs.Reply.{reply_text}
use Rattle.session_state.specs.State.{SessionState, IsSession, start_state}
use Rattle.session_state.proofs.SessionLemmas.{IsSession-start}
use Rattle.session_edits.specs.Refusals.{refused}
use Rattle.session_edits.proofs.EveryAnswer.{every_command_has_an_answer}
use Rattle.session_edits.proofs.HoldLemmas.{answer_holds}
use Rattle.command_read.proofs.ReadValues.{KeepsRead, line_keeps}
use Rattle.transcript.specs.Entry.{Entry, too_long, line, with_block}
use Rattle.transcript.specs.Rules.{IsKept, IsTotal}
use Rattle.macbeth_cli.specs.Session.{session_rules, parsed_entry, held_block, AnswersParsed}

pub session_begins : IsSession start_state
session_begins = IsSession-start

-- what an entry asks for keeps what a line has
entry_keeps : (entry : Entry) → KeepsRead (parsed_entry entry)
entry_keeps too_long = tt
entry_keeps (line bytes) = line_keeps bytes (held.Whole [])
entry_keeps (with_block bytes block) = line_keeps bytes (held_block block)

-- what was read is answered by a state that holds
parsed_holds : (s next : SessionState) (text : List ℕ) (parsed : Parsed) → KeepsRead parsed → IsSession s → AnswersParsed s parsed text next → IsSession next
parsed_holds s next text Nothing keeps holds answer = subst IsSession (sym answer.1) holds
parsed_holds s next text (Refused number) keeps holds answer = subst IsSession (sym answer.1) holds
parsed_holds s next text (Do command) keeps holds answer = answer_holds s next holds command answer.0 keeps answer.1

pub session_keeps : IsKept session_rules
session_keeps s next entry text holds answer = parsed_holds s next text (parsed_entry entry) (entry_keeps entry) holds answer

-- what was read has an answer
parsed_answers : (s : SessionState) (parsed : Parsed) → KeepsRead parsed → IsSession s
    → (text : List ℕ) × (next : SessionState) × AnswersParsed s parsed text next
parsed_answers s Nothing keeps holds = ([], s, (refl, refl))
parsed_answers s (Refused number) keeps holds = (reply_text (refused number), s, (refl, refl))
parsed_answers s (Do command) keeps holds =
    let h = every_command_has_an_answer s command keeps holds in (reply_text h.0, h.1, (h.0, h.2, refl))

pub session_total : IsTotal session_rules
session_total s entry holds = parsed_answers s (parsed_entry entry) (entry_keeps entry) holds
