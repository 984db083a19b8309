-- A refusal keeps the model and the history.
use Rattle.std.proofs.Common.{◌≡◌, ℕ, Bool, true, false, List, [], ◌∷◌, length, Option, Some, None, Result, Ok, Err, MatchBool, ap}
use Rattle.std.specs.Prelude.{MatchOption, ◌==◌, nat_lt}
use Rattle.integers.specs.Fraction.{Fraction}
use Rattle.command_read.specs.Later.{is_done_later}
use Rattle.command_read.specs.declared.block.Held.{Held}
use Rattle.command_read.specs.declared.block.Held.TheVariants as held
use Rattle.command_read.specs.declared.command.Command.{Command}
use Rattle.command_read.specs.declared.command.Command.TheVariants as command
use Rattle.judgement_matrix.specs.Matrix.{Judgements}
use Rattle.model_core.specs.State.{ModelState}
use Rattle.model_json.specs.Text.{load_of}
use Rattle.model_json.specs.declared.fault.LoadFault.{LoadFault}
use Rattle.model_json.specs.declared.fault.LoadFault.TheVariants as load_fault
use Rattle.table_csv.specs.declared.fault.TableFault.{TableFault}
use Rattle.table_csv.specs.declared.fault.TableFault.TheVariants as table_fault
use Rattle.model_core.specs.Edits.{Edit, edited, set_matrix}
use Rattle.model_core.specs.Finding.{find_option}
use Rattle.model_core.specs.declared.edit.EditFault.{EditFault}
use Rattle.report_text.specs.declared.reply.Detail.{Detail}
use Rattle.report_text.specs.declared.reply.Reply.{Reply}
use Rattle.report_text.specs.declared.reply.Reply.TheVariants as reply
use Rattle.session_state.specs.State.{ResultsState, SessionState, matrix_of, undone, with_results}
use Rattle.session_state.specs.declared.subject.Subject.{Subject}
use Rattle.session_edits.specs.Subjects.{criterion_named, weighting_of, matrix_named}
use Rattle.session_edits.specs.Edits.{edit_of, Shows, Refuses, OfBlock, AnswersEdited, AnswersUndone}
use Rattle.session_edits.specs.Matrices.{TellsFit, Fits, ReadsCertificate}
use Rattle.session_edits.specs.Scales.{Asks}
use Rattle.session_edits.specs.Scores.{AsksAll, WherePerformed, WhereWeighed, TellsScores, TellsSubtotals, missing, option_places, checked_scores, checked_subtotals}
use Rattle.session_edits.specs.Texts.{ReadsModel, AnswersRead, AnswersTable, ReadsTable}
use Rattle.session_edits.specs.Answer.{Of, OfElement, element_named, AsksSlack, Tells, AnswersBy, Answer}
use Rattle.session_edits.specs.declared.refusal.TheConstants.{UNKNOWN_COMMAND, UNKNOWN_CRITERION, PERFORMANCE_MISSING, WRONG_COUNT}
use Rattle.session_edits.specs.declared.question.Question.{Question}
use Rattle.session_edits.specs.declared.question.Question.TheVariants as question

-- the next state has the same model and the same history
pub record Keeps (s next : SessionState) : Type 0 where
  pub model : next.model ≡ s.model
  pub history : next.history ≡ s.history

same : (s next : SessionState) → next ≡ s → Keeps s next
same s next e = record { model = ap (λ (t : SessionState). t.model) e; history = ap (λ (t : SessionState). t.history) e }

shown : (s : SessionState) (want r : Reply) (next : SessionState) → Shows s want r next → Keeps s next
shown s want r next h = same s next h.1

other_results : (s next : SessionState) (results : ResultsState) → next ≡ with_results s results → Keeps s next
other_results s next results e = record { model = ap (λ (t : SessionState). t.model) e; history = ap (λ (t : SessionState). t.history) e }

asked : (s : SessionState) (q : Question) (subject : Subject) (r : Reply) (next : SessionState) → Asks s q subject r next → Keeps s next
asked s q subject r next h = other_results s next h.0 h.2

by_test : (b : Bool) (P Q : Type 0) (K : Type 0) → (P → K) → (Q → K) → MatchBool b P Q → K
by_test true P Q K p q h = p h
by_test false P Q K p q h = q h

of_subject : (s : SessionState) (o : Option Subject) (Query : Subject → Reply → SessionState → Type 0) (r : Reply) (next : SessionState)
    → ((subject : Subject) → Query subject r next → Keeps s next) → Of s o Query r next → Keeps s next
of_subject s None Query r next k h = same s next h.1
of_subject s (Some subject) Query r next k h = k subject h

slack : (s : SessionState) (name : List ℕ) (subject : Subject) (r : Reply) (next : SessionState) → AsksSlack s name subject r next → Keeps s next
slack s name subject r next = by_element (element_named s subject name)
  where
    by_element : (o : Option ℕ) → OfElement s o (λ element. Asks s (question.Slack element) subject) r next → Keeps s next
    by_element None h = same s next h.1
    by_element (Some element) h = asked s (question.Slack element) subject r next h

fit : (s : SessionState) (vs : List Fraction) (subject : Subject) (r : Reply) (next : SessionState) → Fits s vs subject r next → Keeps s next
fit s vs subject r next =
    by_test (length vs == (matrix_of s.model subject).size) (TellsFit s.model subject vs r × (next ≡ s)) (Refuses s WRONG_COUNT r next) (Keeps s next)
    (λ h. same s next h.1) (λ h. same s next h.1)

weighed : (s : SessionState) (os : List ℕ) (make : List (List Fraction) → Result Reply Reply) (r : Reply) (next : SessionState)
    → WhereWeighed s os make r next → Keeps s next
weighed s os make r next =
    by_test (nat_lt 0 (length s.model.criteria)) (WherePerformed s os make r next) (Refuses s UNKNOWN_CRITERION r next) (Keeps s next)
    (by_missing (missing s.model os)) (λ h. same s next h.1)
  where
    by_missing : (o : Option Detail)
        → MatchOption o (AsksAll s make r next) (λ detail. Shows s (reply.Refused PERFORMANCE_MISSING detail) r next) → Keeps s next
    by_missing None h = other_results s next h.0 h.2
    by_missing (Some detail) h = same s next h.1

subtotals : (s : SessionState) (o : Option ℕ) (r : Reply) (next : SessionState) → TellsSubtotals s o r next → Keeps s next
subtotals s None r next h = same s next h.1
subtotals s (Some o) r next h = weighed s (o ∷ []) (checked_subtotals s.model o) r next h

-- a question about a matrix, and about all, whatever is replied
pub asked_of : (s : SessionState) (o : Option Subject) (r : Reply) (next : SessionState) → Of s o (Asks s question.Worth) r next → Keeps s next
asked_of s o r next h = of_subject s o _ r next (λ subject. asked s question.Worth subject r next) h

pub all_asked : (s : SessionState) (r : Reply) (next : SessionState) → TellsScores s r next → Keeps s next
all_asked s r next h = weighed s (option_places s.model) (checked_scores s.model) r next h

module _ (s next : SessionState) (number : ℕ) (detail : Detail) where
  abbrev r : Reply
  r = reply.Refused number detail

  edits : (after : Result ModelState EditFault) → AnswersEdited s after r next → Keeps s next
  edits (Ok after) h = let no : reply.Refused number detail ≡ reply.Ok = h.0 in absurd (cc)
  edits (Err fault) h = same s next h.1

  undoes : (before : Option SessionState) → AnswersUndone s before r next → Keeps s next
  undoes None h = same s next h.1
  undoes (Some before) h = let no : reply.Refused number detail ≡ reply.Ok = h.0 in absurd (cc)

  reads : (read : Result ModelState LoadFault) → AnswersRead s read r next → Keeps s next
  reads (Ok m) h = let no : reply.Refused number detail ≡ reply.Ok = h.0 in absurd (cc)
  reads (Err load_fault.BadJson) h = same s next h.1
  reads (Err (load_fault.BadModel pointer)) h = same s next h.1
  reads (Err load_fault.NoMemory) h = absurd h

  of_table : (name : List ℕ) (read : Result Judgements TableFault) → AnswersTable s name read r next → Keeps s next
  of_table name (Ok matrix) h = edits (edited s.model (set_matrix name matrix)) h
  of_table name (Err (table_fault.BadTable line field)) h = same s next h.1
  of_table name (Err table_fault.NoMemory) h = absurd h

  of_block : (block : Held) (Reads : List ℕ → Reply → SessionState → Type 0) → ((bytes : List ℕ) → Reads bytes r next → Keeps s next)
      → OfBlock s block Reads r next → Keeps s next
  of_block (held.Whole bytes) Reads k h = k bytes h
  of_block held.Cut Reads k h = same s next h.1
  of_block held.Large Reads k h = same s next h.1

  tells : (c : Command) → Tells s c r next → Keeps s next
  tells command.Undo h = undoes (undone s) h
  tells (command.Matrix name) h = of_subject s (matrix_named s.model name) _ r next (λ subject k. same s next k.1) h
  tells (command.Rows name) h = of_subject s (matrix_named s.model name) _ r next (λ subject k. same s next k.1) h
  tells (command.Fits name vs) h = of_subject s (matrix_named s.model name) _ r next (λ subject. fit s vs subject r next) h
  tells (command.Verify name block) h =
      of_subject s (matrix_named s.model name) _ r next (λ subject. of_block block (ReadsCertificate s subject) (λ bytes k. same s next k.1)) h
  tells (command.Scale name) h = of_subject s (criterion_named s.model name) _ r next (λ subject. asked s question.Scale subject r next) h
  tells (command.Cert name) h = of_subject s (criterion_named s.model name) _ r next (λ subject. asked s question.Cert subject r next) h
  tells (command.Anchored name) h = of_subject s (criterion_named s.model name) _ r next (λ subject. asked s question.Worth subject r next) h
  tells (command.Slack name element) h = of_subject s (criterion_named s.model name) _ r next (λ subject. slack s element subject r next) h
  tells command.Weights h = of_subject s (weighting_of s.model) _ r next (λ subject. asked s question.Worth subject r next) h
  tells command.Wcert h = of_subject s (weighting_of s.model) _ r next (λ subject. asked s question.Cert subject r next) h
  tells command.Scores h = weighed s (option_places s.model) (checked_scores s.model) r next h
  tells (command.Subtotals name) h = subtotals s (find_option s.model name) r next h
  tells command.Groups h = same s next h.1
  tells command.Stats h = same s next h.1
  tells command.Quit h = same s next h.1
  tells (command.Load a) h = of_block a (ReadsModel s) (λ bytes. reads (load_of bytes)) h
  tells (command.Option a) h = same s next h.1
  tells (command.DropOption a) h = same s next h.1
  tells (command.Criterion a b) h = same s next h.1
  tells (command.DropCriterion a) h = same s next h.1
  tells (command.Refs a b c) h = same s next h.1
  tells (command.Judge a b c d) h = same s next h.1
  tells (command.Unjudge a b c) h = same s next h.1
  tells (command.Perform a b c) h = same s next h.1
  tells (command.WeighOrder a) h = same s next h.1
  tells (command.Weigh a b c) h = same s next h.1
  tells (command.Unweigh a b) h = same s next h.1
  tells (command.Reach a b) h = same s next h.1
  tells (command.Import a b) h = of_subject s (matrix_named s.model a) _ r next (λ subject. of_block b (ReadsTable s a subject) (λ bytes k. of_table a k.0 k.2)) h
  tells (command.Repairs a) h = same s next h.1
  tells command.Wrepairs h = same s next h.1
  tells (command.Dominance a b) h = same s next h.1
  tells (command.Dcert a b) h = same s next h.1
  tells command.Dominances h = same s next h.1
  tells (command.ExportMatrix a) h = of_subject s (matrix_named s.model a) _ r next (λ subject k. same s next k.1) h
  tells (command.ExportAnchored a) h = asked_of s (criterion_named s.model a) h.0 next h.1
  tells command.ExportWeights h = asked_of s (weighting_of s.model) h.0 next h.1
  tells command.ExportScores h = all_asked s h.0 next h.1
  tells command.Dump h = same s next h.1
  tells (command.Group a b) h = same s next h.1
  tells (command.DropGroup a) h = same s next h.1
  tells (command.Place a b) h = same s next h.1
  tells (command.Unplace a) h = same s next h.1

  by_edit : (c : Command) (edit : Option Edit) → AnswersBy edit s c r next → Keeps s next
  by_edit c (Some edit) h = edits (edited s.model edit) h
  by_edit c None h = tells c h

  pub refusal_keeps : (c : Command) → Answer s c r next → Keeps s next
  refusal_keeps c =
      by_test (is_done_later c) (Refuses s UNKNOWN_COMMAND r next) (AnswersBy (edit_of c) s c r next) (Keeps s next)
      (λ h. same s next h.1) (by_edit c (edit_of c))
