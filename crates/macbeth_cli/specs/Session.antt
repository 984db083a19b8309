-- The rules of a session: what its states hold, what it answers to an entry, and what ends it.
use Rattle.std.specs.Prelude.{◌≡◌, ℕ, Bool, true, false, List, []}
use Rattle.command_read.specs.Reading.{command_of, takes_block}
use Rattle.command_read.specs.declared.block.Held.{Held}
use Rattle.command_read.specs.declared.block.Held.TheVariants as held
use Rattle.command_read.specs.declared.command.Command.{Command}
use Rattle.command_read.specs.declared.command.Command.TheVariants.{Quit}
use Rattle.command_read.specs.declared.command.Parsed.{Parsed}
use Rattle.command_read.specs.declared.command.Parsed.TheVariants.{Nothing, Do, Refused}
use Rattle.report_text.specs.Refusals.{IsRefusal}
use Rattle.report_text.specs.Reply.{reply_text}
use Rattle.report_text.specs.declared.reply.Reply.{Reply}
use Rattle.session_state.specs.State.{SessionState, IsSession}
use Rattle.session_edits.specs.Answer.{Answer}
use Rattle.session_edits.specs.Refusals.{refused}
use Rattle.session_edits.specs.declared.refusal.TheConstants.{LINE_TOO_LONG}
use Rattle.transcript.specs.Entry.{Entry, too_long, line, with_block, Block, whole, cut, large}
use Rattle.transcript.specs.Rules.{Rules}

-- the block behind a line, as a command holds it
abbrev pub held_block : Block → Held
held_block (whole bytes) = held.Whole bytes
held_block cut = held.Cut
held_block large = held.Large

-- what an entry asks for: a line that is too long is refused
abbrev pub parsed_entry : Entry → Parsed
parsed_entry too_long = Refused LINE_TOO_LONG
parsed_entry (line bytes) = command_of bytes (held.Whole [])
parsed_entry (with_block bytes block) = command_of bytes (held_block block)

-- the text is that of a reply with R
abbrev pub WritesReply : (Reply → SessionState → Type 0) → List ℕ → SessionState → Type 0
WritesReply R text next = (r : Reply) × R r next × (text ≡ reply_text r)

-- what was read is answered: nothing by the empty text, and a refusal by its own
abbrev pub AnswersParsed : SessionState → Parsed → List ℕ → SessionState → Type 0
AnswersParsed s Nothing text next = (text ≡ []) × (next ≡ s)
AnswersParsed s (Refused number) text next = (text ≡ reply_text (refused number)) × (next ≡ s)
AnswersParsed s (Do command) text next = WritesReply (Answer s command) text next

-- a state, an entry, the text of its answer and the next state
abbrev pub SessionAnswers : SessionState → Entry → List ℕ → SessionState → Type 0
SessionAnswers s entry text next = AnswersParsed s (parsed_entry entry) text next

-- whether a command is `quit`, which is always accepted
abbrev pub ends_session : Command → Bool
ends_session Quit = true
ends_session other = false

abbrev pub is_quit : Parsed → Bool
is_quit Nothing = false
is_quit (Do command) = ends_session command
is_quit (Refused number) = false

-- whether an entry is an accepted `quit`
abbrev pub session_quits : Entry → Bool
session_quits entry = is_quit (parsed_entry entry)

abbrev pub session_rules : Rules SessionState
session_rules = record {
  holds = IsSession;
  answers = SessionAnswers;
  takes_block = takes_block;
  quits = session_quits;
}

-- a refusal has words
abbrev pub HasRefusal : Parsed → Type 0
HasRefusal Nothing = Unit {0}
HasRefusal (Do command) = Unit {0}
HasRefusal (Refused number) = IsRefusal number
