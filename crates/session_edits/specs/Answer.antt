-- How a command is answered: a relation of a state, the command, the reply and the next state.
use Rattle.std.specs.Prelude.{◌≡◌, ℕ, List, Option, Some, None, Result, Ok, Err, MatchBool}
use Rattle.model_core.specs.Edits.{Edit}
use Rattle.model_core.specs.Finding.{find_option, find_element, criterion_at}
use Rattle.command_read.specs.declared.command.Command.{Command}
use Rattle.command_read.specs.declared.command.Command.TheVariants as command
use Rattle.command_read.specs.Later.{is_done_later}
use Rattle.report_text.specs.declared.reply.Reply.{Reply}
use Rattle.report_text.specs.declared.reply.Reply.TheVariants as reply
use Rattle.session_state.specs.State.{SessionState, kept_count}
use Rattle.session_state.specs.declared.subject.Subject.{Subject}
use Rattle.session_state.specs.declared.subject.Subject.TheVariants.{Criterion, Weighting}
use Rattle.session_edits.specs.Subjects.{criterion_named, weighting_of, matrix_named}
use Rattle.session_edits.specs.Edits.{edit_of, Shows, Refuses, OfBlock, AnswersEdit, AnswersUndo}
use Rattle.session_edits.specs.Matrices.{matrix_reply, rows_reply, Fits, Verifies}
use Rattle.session_edits.specs.Scales.{Asks}
use Rattle.session_edits.specs.Scores.{TellsScores, TellsSubtotals}
use Rattle.session_edits.specs.Groups.{groups_reply}
use Rattle.session_edits.specs.Texts.{ReadsModel, dump_reply, ImportsInto, judged_table, AsTable}
use Rattle.session_edits.specs.declared.question.Question.TheVariants as question
use Rattle.session_edits.specs.declared.refusal.TheConstants.{UNKNOWN_COMMAND, UNKNOWN_CRITERION, UNKNOWN_ELEMENT}

-- a query about a matrix, where there is that matrix
abbrev pub Of : SessionState → Option Subject → (Subject → Reply → SessionState → Type 0) → Reply → SessionState
    → Type 0
Of s None Query r next = Refuses s UNKNOWN_CRITERION r next
Of s (Some subject) Query r next = Query subject r next

-- a query about an element of a criterion, where there is that element
abbrev pub OfElement : SessionState → Option ℕ → (ℕ → Reply → SessionState → Type 0) → Reply → SessionState → Type 0
OfElement s None Query r next = Refuses s UNKNOWN_ELEMENT r next
OfElement s (Some element) Query r next = Query element r next

-- where an element of the subject stands
abbrev pub element_named : SessionState → Subject → List ℕ → Option ℕ
element_named s (Criterion c) name = find_element (criterion_at s.model c) name
element_named s Weighting name = None

abbrev pub AsksSlack : SessionState → List ℕ → Subject → Reply → SessionState → Type 0
AsksSlack s name subject r next =
    OfElement s (element_named s subject name) (λ element. Asks s (question.Slack element) subject) r next

-- what a command that is no edit asks for
abbrev pub Tells : SessionState → Command → Reply → SessionState → Type 0
Tells s command.Undo r next = AnswersUndo s r next
Tells s (command.Matrix name) r next =
    Of s (matrix_named s.model name) (λ subject. Shows s (matrix_reply s.model subject)) r next
Tells s (command.Rows name) r next =
    Of s (matrix_named s.model name) (λ subject. Shows s (rows_reply s.model subject)) r next
Tells s (command.Fits name values) r next = Of s (matrix_named s.model name) (Fits s values) r next
Tells s (command.Verify name block) r next = Of s (matrix_named s.model name) (Verifies s block) r next
Tells s (command.Scale name) r next = Of s (criterion_named s.model name) (Asks s question.Scale) r next
Tells s (command.Cert name) r next = Of s (criterion_named s.model name) (Asks s question.Cert) r next
Tells s (command.Anchored name) r next = Of s (criterion_named s.model name) (Asks s question.Worth) r next
Tells s (command.Slack name element) r next = Of s (criterion_named s.model name) (AsksSlack s element) r next
Tells s command.Weights r next = Of s (weighting_of s.model) (Asks s question.Worth) r next
Tells s command.Wcert r next = Of s (weighting_of s.model) (Asks s question.Cert) r next
Tells s command.Scores r next = TellsScores s r next
Tells s (command.Subtotals name) r next = TellsSubtotals s (find_option s.model name) r next
Tells s command.Groups r next = Shows s (groups_reply s.model) r next
Tells s command.Stats r next = Shows s (reply.Stats s.results.pivots (kept_count s.results)) r next
Tells s command.Quit r next = Shows s reply.Ok r next
Tells s (command.Load block) r next = OfBlock s block (ReadsModel s) r next
Tells s command.Dump r next = Shows s (dump_reply s.model) r next
Tells s (command.Import name block) r next = Of s (matrix_named s.model name) (ImportsInto s name block) r next
Tells s (command.ExportMatrix name) r next =
    Of s (matrix_named s.model name) (λ subject. Shows s (judged_table s.model subject)) r next
Tells s (command.ExportAnchored name) r next =
    AsTable (Of s (criterion_named s.model name) (Asks s question.Worth)) r next
Tells s command.ExportWeights r next = AsTable (Of s (weighting_of s.model) (Asks s question.Worth)) r next
Tells s command.ExportScores r next = AsTable (TellsScores s) r next
-- no other command comes here
Tells s other r next = Refuses s UNKNOWN_COMMAND r next

-- an edit, or what else a command asks for
abbrev pub AnswersBy : Option Edit → SessionState → Command → Reply → SessionState → Type 0
AnswersBy (Some edit) s command r next = AnswersEdit s edit r next
AnswersBy None s command r next = Tells s command r next

-- the commands that are done later are refused as unknown
abbrev pub Answer : SessionState → Command → Reply → SessionState → Type 0
Answer s command r next =
    MatchBool (is_done_later command) (Refuses s UNKNOWN_COMMAND r next) (AnswersBy (edit_of command) s command r next)

-- ---- calls

-- a call that answers so; where there is no memory, the state is as before
abbrev pub Replies : {E : Type 0} → (Reply → SessionState → Type 0) → SessionState → Result Reply E → SessionState
    → Type 0
Replies Query old (Ok r) new = Query r new
Replies Query old (Err none) new = new ≡ old
