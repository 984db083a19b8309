-- The commands that change the model, and what they share with others: a reply that changes nothing, a block's bytes.
use Rattle.std.specs.Prelude.{◌≡◌, ℕ, List, Option, Some, None, Result, Ok, Err}
use Rattle.command_read.specs.declared.block.Held.{Held}
use Rattle.command_read.specs.declared.block.Held.TheVariants as held
use Rattle.command_read.specs.declared.command.Command.{Command}
use Rattle.command_read.specs.declared.command.Command.TheVariants as command
use Rattle.model_core.specs.State.{ModelState}
use Rattle.model_core.specs.Edits.{Edit, Edits, edited, add_option, drop_option, add_criterion, drop_criterion, set_refs, judge, unjudge, perform, set_order, weigh, unweigh, set_reach, add_group, drop_group, place}
use Rattle.model_core.specs.declared.edit.EditFault.{EditFault}
use Rattle.report_text.specs.declared.reply.Reply.{Reply}
use Rattle.report_text.specs.declared.reply.Reply.TheVariants as reply
use Rattle.session_state.specs.State.{SessionState, changed, undone}
use Rattle.session_edits.specs.Refusals.{refused, number_of}
use Rattle.session_edits.specs.declared.refusal.TheConstants.{NOTHING_TO_UNDO, BLOCK_CUT, BLOCK_TOO_LARGE}

-- the edit that a command asks for
abbrev pub edit_of : Command → Option Edit
edit_of (command.Option name) = Some (add_option name)
edit_of (command.DropOption name) = Some (drop_option name)
edit_of (command.Criterion name elements) = Some (add_criterion name elements)
edit_of (command.DropCriterion name) = Some (drop_criterion name)
edit_of (command.Refs name good neutral) = Some (set_refs name good neutral)
edit_of (command.Judge name x y range) = Some (judge name x y range)
edit_of (command.Unjudge name x y) = Some (unjudge name x y)
edit_of (command.Perform option name element) = Some (perform option name element)
edit_of (command.WeighOrder names) = Some (set_order names)
edit_of (command.Weigh x y range) = Some (weigh x y range)
edit_of (command.Unweigh x y) = Some (unweigh x y)
edit_of (command.Reach name reach) = Some (set_reach name reach)
edit_of (command.Group name parent) = Some (add_group name parent)
edit_of (command.DropGroup name) = Some (drop_group name)
edit_of (command.Place name group) = Some (place name (Some group))
edit_of (command.Unplace name) = Some (place name None)
edit_of other = None

-- a command that is no edit leaves the model as it is
abbrev pub MakesEdit : Option Edit → ModelState → Result (Unit {0}) EditFault → ModelState → Type 0
MakesEdit None old outcome new = new ≡ old
MakesEdit (Some edit) old outcome new = Edits old edit outcome new

-- the reply is this one, and nothing changes
abbrev pub Shows : SessionState → Reply → Reply → SessionState → Type 0
Shows s shown r next = (r ≡ shown) × (next ≡ s)

-- the reply is this refusal, and nothing changes
abbrev pub Refuses : SessionState → ℕ → Reply → SessionState → Type 0
Refuses s number r next = Shows s (refused number) r next

-- a block that isn't whole is refused; else its bytes are read
abbrev pub OfBlock : SessionState → Held → (List ℕ → Reply → SessionState → Type 0) → Reply → SessionState → Type 0
OfBlock s (held.Whole bytes) Reads r next = Reads bytes r next
OfBlock s held.Cut Reads r next = Refuses s BLOCK_CUT r next
OfBlock s held.Large Reads r next = Refuses s BLOCK_TOO_LARGE r next

-- the reply is `ok`, and this is the next state
abbrev pub Accepts : SessionState → Reply → SessionState → Type 0
Accepts after r next = (r ≡ reply.Ok) × (next ≡ after)

-- what an edit gives: the session with another model, or a refusal
abbrev pub AnswersEdited : SessionState → Result ModelState EditFault → Reply → SessionState → Type 0
AnswersEdited s (Ok after) r next = Accepts (changed s after) r next
AnswersEdited s (Err fault) r next = Refuses s (number_of fault) r next

abbrev pub AnswersEdit : SessionState → Edit → Reply → SessionState → Type 0
AnswersEdit s edit r next = AnswersEdited s (edited s.model edit) r next

-- the newest model of the history comes back, where there is one
abbrev pub AnswersUndone : SessionState → Option SessionState → Reply → SessionState → Type 0
AnswersUndone s None r next = Refuses s NOTHING_TO_UNDO r next
AnswersUndone s (Some before) r next = Accepts before r next

abbrev pub AnswersUndo : SessionState → Reply → SessionState → Type 0
AnswersUndo s r next = AnswersUndone s (undone s) r next
