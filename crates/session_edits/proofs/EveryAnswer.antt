-- Every reading of a line has an answer in every state that holds.
use Rattle.std.proofs.Common.{◌≡◌, ◌⊎◌, inl, inr, ℕ, ◌<◌, Bool, true, false, List, [], ◌∷◌, length, Option, Some, None, Result, Ok, Err, MatchBool, refl, subst, pos}
use Rattle.std.specs.Prelude.{MatchOption, ◌==◌, nat_lt}
use Rattle.std.proofs.lemmas.Bool.Decides.{Decides-eqb, Decides-int_eq}
use Rattle.integers.specs.Fraction.{Fraction}
use Rattle.frac128.specs.declared.number.TooWide.{TooWide}
use Rattle.judgement_matrix.specs.Matrix.{Judgements}
use Rattle.judgement_matrix.specs.Values.{AreValues, fraction_at}
use Rattle.judgement_matrix.proofs.ValueLemmas.{answer_exists as fit_exists}
use Rattle.cert_check.specs.Lines.{IsVerdict}
use Rattle.cert_check.specs.Text.{IsTextOf, IsFirstBad}
use Rattle.cert_check.specs.declared.text.CertText.{CertText}
use Rattle.cert_check.specs.declared.text.Claim.{Claim}
use Rattle.cert_check.specs.declared.text.Claim.TheVariants.{Least, Nothing as NothingClaimed}
use Rattle.cert_check.specs.declared.verdict.Verdict.{Verdict}
use Rattle.cert_check.proofs.ExistenceLemmas.{every_text_reads_or_is_bad, every_span_check_has_a_verdict, every_farkas_check_has_a_verdict}
use Rattle.lp_macbeth.specs.Rows.{problem_of}
use Rattle.frac128.specs.declared.problem.Cert.{Cert}
use Rattle.command_read.specs.Later.{is_done_later}
use Rattle.command_read.specs.Parts.{ends_in_zero}
use Rattle.command_read.specs.declared.block.Held.{Held}
use Rattle.command_read.specs.declared.block.Held.TheVariants as held
use Rattle.command_read.specs.declared.command.Command.{Command}
use Rattle.command_read.specs.declared.command.Command.TheVariants as command
use Rattle.std.specs.List.{AllByRecursion}
use Rattle.model_core.specs.State.{ModelState}
use Rattle.model_core.specs.Whole.{IsWholeModel}
use Rattle.model_core.specs.Edits.{Edit, edited, set_matrix}
use Rattle.model_core.specs.Finding.{find_option}
use Rattle.model_core.specs.declared.edit.EditFault.{EditFault}
use Rattle.model_json.specs.Text.{load_of}
use Rattle.model_json.specs.declared.fault.LoadFault.{LoadFault}
use Rattle.model_json.specs.declared.fault.LoadFault.TheVariants as load_fault
use Rattle.model_json.proofs.LoadLemmas.{load_never_wants_memory}
use Rattle.table_csv.specs.Table.{AreRecordsOf, fault_of, table_matrix, IsImport, Imports}
use Rattle.table_csv.specs.declared.fault.TableFault.{TableFault}
use Rattle.table_csv.specs.declared.fault.TableFault.TheVariants as table_fault
use Rattle.table_csv.proofs.RecordExistence.{every_text_has_records}
use Rattle.report_text.specs.declared.reply.Detail.{Detail}
use Rattle.report_text.specs.declared.reply.Detail.TheVariants as detail
use Rattle.report_text.specs.declared.reply.Reply.{Reply}
use Rattle.report_text.specs.declared.reply.Reply.TheVariants as reply
use Rattle.session_state.specs.State.{ResultsState, SessionState, IsSession, matrix_of, changed, undone, with_results, kept_count}
use Rattle.session_state.specs.Taking.{IsSubject}
use Rattle.session_state.proofs.SessionLemmas.{takable}
use Rattle.session_edits.proofs.SubjectLemmas.{AreSubjects, criterion_is, weighting_is, matrix_is, all_are_subjects, tested_below}
use Rattle.session_state.specs.declared.subject.Subject.{Subject}
use Rattle.session_edits.specs.Refusals.{refused, number_of, or_too_wide, or_refused, ◌>>=◌}
use Rattle.session_edits.specs.Subjects.{names_of, criterion_named, weighting_of, matrix_named, all_subjects}
use Rattle.session_edits.specs.Edits.{edit_of, Shows, Refuses, AnswersEdited, AnswersUndone, OfBlock}
use Rattle.session_edits.specs.Matrices.{matrix_reply, rows_reply, fit_reply, TellsFit, Fits, TellsOfText, ReadsCertificate, Verifies, verdict_reply}
use Rattle.cert_check.specs.Places.{at_places, check_on}
use Rattle.session_edits.specs.Scales.{Asks, worth_of, told}
use Rattle.session_edits.specs.Scores.{with_worth, TakesAll, TakesBehind, AsksAll, WherePerformed, WhereWeighed, TellsSubtotals, missing, option_places, checked_scores, checked_subtotals}
use Rattle.session_edits.specs.Groups.{groups_reply}
use Rattle.session_edits.specs.Texts.{ReadsModel, AnswersRead, AnswersTable, ReadsTable, dump_reply, judged_table, table_reply, AsTable}
use Rattle.std.specs.Ordering.{int_eq}
use Rattle.session_edits.proofs.WorthLemmas.{both}
use Rattle.command_read.proofs.ReadValues.{AreReadValues, Keeps}
use Rattle.session_edits.specs.Answer.{Of, OfElement, element_named, AsksSlack, Tells, AnswersBy, Answer}
use Rattle.session_edits.specs.declared.question.Question.{Question}
use Rattle.session_edits.specs.declared.question.Question.TheVariants as question
use Rattle.session_edits.specs.declared.refusal.TheConstants.{UNKNOWN_COMMAND, UNKNOWN_CRITERION, UNKNOWN_OPTION, UNKNOWN_ELEMENT, WRONG_COUNT, NOTHING_TO_UNDO, PERFORMANCE_MISSING, BLOCK_CUT, BLOCK_TOO_LARGE, BAD_JSON, BAD_MODEL, BAD_CERTIFICATE}

-- ---- what is taken

abbrev AllTakable : ModelState → List Subject → ResultsState → Type 0
AllTakable m subjects results =
    (worths : Result (List (List Fraction)) Reply) × (after : ResultsState) × TakesAll m subjects results worths after

-- behind a worth, where the others can be taken
behind : (m : ModelState) (subjects : List Subject) → ((results : ResultsState) → AllTakable m subjects results) → (mid : ResultsState)
    (worth : Result (List Fraction) Reply)
    → (worths : Result (List (List Fraction)) Reply) × (after : ResultsState) × TakesBehind (TakesAll m subjects) worth mid worths after
behind m subjects others mid (Err refusal) = (Err refusal, mid, (refl, refl))
behind m subjects others mid (Ok worth) = let k = others mid in (with_worth (Ok worth) k.0, k.1, (k.0, k.2, refl))

all_takable : (m : ModelState) (subjects : List Subject) (results : ResultsState) → IsWholeModel m → AllByRecursion (IsSubject m) subjects
    → AllTakable m subjects results
all_takable m [] results whole are = (Ok [], results, (refl, refl))
all_takable m (subject ∷ subjects) results whole are =
    let h = takable m subject results whole are.0 in
    let k = behind m subjects (λ mid. all_takable m subjects mid whole are.1) h.1 (worth_of m subject h.0) in
    (k.0, k.1, (h.0, h.1, h.2, k.2))

-- ---- answers

-- a reply and a next state with R
abbrev Answerable : (Reply → SessionState → Type 0) → Type 0
Answerable R = (r : Reply) × (next : SessionState) × R r next

shows : (s : SessionState) (r : Reply) → Answerable (Shows s r)
shows s r = (r, s, (refl, refl))

refuses : (s : SessionState) (number : ℕ) → Answerable (Refuses s number)
refuses s number = shows s (refused number)

-- by the test of a choice
by_test : (b : Bool) (P Q : Reply → SessionState → Type 0) → (b ≡ true → Answerable P) → Answerable Q
    → Answerable (λ r next. MatchBool b (P r next) (Q r next))
by_test true P Q p q = p refl
by_test false P Q p q = q

of_subject : (s : SessionState) (found : Option Subject) (Query : Subject → Reply → SessionState → Type 0) → AreSubjects s.model found
    → ((subject : Subject) → IsSubject s.model subject → Answerable (Query subject)) → Answerable (Of s found Query)
of_subject s None Query is answer = refuses s UNKNOWN_CRITERION
of_subject s (Some subject) Query is answer = answer subject is

asks : (s : SessionState) (question : Question) → IsSession s → (subject : Subject) → IsSubject s.model subject → Answerable (Asks s question subject)
asks s question holds subject is =
    let h = takable s.model subject s.results holds.model is in (
      or_refused (or_too_wide h.0 >>= λ basic. Ok (told s.model subject question basic)),
      with_results s h.1,
      (h.1, (h.0, h.2, refl), refl),
    )

asks_slack : (s : SessionState) (name : List ℕ) → IsSession s → (subject : Subject) → IsSubject s.model subject → Answerable (AsksSlack s name subject)
asks_slack s name holds subject is = by_element (element_named s subject name)
  where
    by_element : (found : Option ℕ) → Answerable (OfElement s found (λ element. Asks s (question.Slack element) subject))
    by_element None = refuses s UNKNOWN_ELEMENT
    by_element (Some element) = asks s (question.Slack element) holds subject is

asks_all : (s : SessionState) (make : List (List Fraction) → Result Reply Reply) → IsSession s → 0 < length s.model.criteria → Answerable (AsksAll s make)
asks_all s make holds some =
    let h = all_takable s.model (all_subjects s.model) s.results holds.model (all_are_subjects s.model some) in
    (or_refused (h.0 >>= make), with_results s h.1, (h.1, (h.0, h.2, refl), refl))

where_weighed : (s : SessionState) (os : List ℕ) (make : List (List Fraction) → Result Reply Reply) → IsSession s → Answerable (WhereWeighed s os make)
where_weighed s os make holds =
    by_test (nat_lt 0 (length s.model.criteria)) (WherePerformed s os make) (Refuses s UNKNOWN_CRITERION)
    (λ test. by_missing (tested_below 0 (length s.model.criteria) test) (missing s.model os)) (refuses s UNKNOWN_CRITERION)
  where
    by_missing : 0 < length s.model.criteria → (first : Option Detail)
        → Answerable (λ r next. MatchOption first (AsksAll s make r next) (λ detail. Shows s (reply.Refused PERFORMANCE_MISSING detail) r next))
    by_missing some None = asks_all s make holds some
    by_missing some (Some detail) = shows s (reply.Refused PERFORMANCE_MISSING detail)

subtotals : (s : SessionState) (option : Option ℕ) → IsSession s → Answerable (TellsSubtotals s option)
subtotals s None holds = refuses s UNKNOWN_OPTION
subtotals s (Some o) holds = where_weighed s (o ∷ []) (checked_subtotals s.model o) holds

edits : (s : SessionState) (after : Result ModelState EditFault) → Answerable (AnswersEdited s after)
edits s (Ok after) = (reply.Ok, changed s after, (refl, refl))
edits s (Err fault) = refuses s (number_of fault)

undoes : (s : SessionState) (before : Option SessionState) → Answerable (AnswersUndone s before)
undoes s None = refuses s NOTHING_TO_UNDO
undoes s (Some before) = (reply.Ok, before, (refl, refl))

-- ---- `verify`

verdict_of : (m : Judgements) (claim : Claim) (cert : Cert) → (v : Result Verdict TooWide) × IsVerdict (check_on (problem_of m) claim cert) v
verdict_of m (Least value) cert = every_span_check_has_a_verdict (problem_of m) value cert
verdict_of m NothingClaimed cert = every_farkas_check_has_a_verdict (problem_of m) cert

of_text : (m : Judgements) (bytes : List ℕ) → (r : Reply) × TellsOfText m bytes r
of_text m bytes = by_text (every_text_reads_or_is_bad bytes)
  where
    by_text : ((cert : CertText) × IsTextOf bytes cert) ⊎ ((k : ℕ) × IsFirstBad bytes k) → (r : Reply) × TellsOfText m bytes r
    by_text (inl h) =
        let v = verdict_of m h.0.claim (at_places m h.0) in (verdict_reply v.0, inl (h.0, h.1, (v.0, v.1, refl)))
    by_text (inr h) = (reply.Refused BAD_CERTIFICATE (detail.Line h.0), inr (h.0, h.1, refl))

of_held : (s : SessionState) (block : Held) (Reads : List ℕ → Reply → SessionState → Type 0)
    → ((bytes : List ℕ) → Answerable (Reads bytes)) → Answerable (OfBlock s block Reads)
of_held s (held.Whole bytes) Reads answer = answer bytes
of_held s held.Cut Reads answer = refuses s BLOCK_CUT
of_held s held.Large Reads answer = refuses s BLOCK_TOO_LARGE

verifies : (s : SessionState) (block : Held) (subject : Subject) → Answerable (Verifies s block subject)
verifies s block subject =
    of_held s block (ReadsCertificate s subject) (λ bytes. let h = of_text (matrix_of s.model subject) bytes in (h.0, s, (h.1, refl)))

-- ---- `fits`

-- values of which there is one for each element are those of a scale
values_are : (m : Judgements) (vs : List Fraction) → (length vs == m.size) ≡ true → ends_in_zero vs ≡ true → AreValues m vs
values_are m vs count zero =
    let some = both (nat_lt 0 (length vs)) (int_eq (fraction_at vs (length vs)).num (pos 0)) zero in
    let each : length vs ≡ m.size = (Decides-eqb (length vs) m.size).0 count in
    let last = (Decides-int_eq (fraction_at vs (length vs)).num (pos 0)).0 some.1 in
    record { each = each; last = subst (λ n. (fraction_at vs n).num ≡ pos 0) each last }

tells_fit : (m : ModelState) (subject : Subject) (vs : List Fraction) → AreReadValues vs
    → (length vs == (matrix_of m subject).size) ≡ true → (r : Reply) × TellsFit m subject vs r
tells_fit m subject vs read count =
    let h = fit_exists (matrix_of m subject) vs read.0 (values_are (matrix_of m subject) vs count read.1) in
    (fit_reply (names_of m subject) h.0, (h.0, h.1, refl))

fits : (s : SessionState) (vs : List Fraction) → AreReadValues vs → (subject : Subject) → Answerable (Fits s vs subject)
fits s vs read subject =
    by_test (length vs == (matrix_of s.model subject).size) _ _
    (λ count. let h = tells_fit s.model subject vs read count in (h.0, s, (h.1, refl)))
    (refuses s WRONG_COUNT)

-- ---- texts

reads : (s : SessionState) (read : Result ModelState LoadFault) → (read ≡ Err load_fault.NoMemory → ⊥) → Answerable (AnswersRead s read)
reads s (Ok m) some = (reply.Ok, changed s m, (refl, refl))
reads s (Err load_fault.BadJson) some = refuses s BAD_JSON
reads s (Err (load_fault.BadModel pointer)) some = shows s (reply.Refused BAD_MODEL (detail.At pointer))
reads s (Err load_fault.NoMemory) some = absurd (some refl)

-- records are a table, or have a first fault
read_of : (names : List (List ℕ)) (records : List (List (List ℕ))) → (read : Result Judgements TableFault) × IsImport names records read
    × (read ≡ Err table_fault.NoMemory → ⊥)
read_of names records = by_fault (fault_of names records) refl
  where
    by_fault : (fault : Option (ℕ × ℕ)) → fault_of names records ≡ fault
        → (read : Result Judgements TableFault) × IsImport names records read × (read ≡ Err table_fault.NoMemory → ⊥)
    by_fault None e = (Ok (table_matrix names records), (e, refl), λ no. cc)
    by_fault (Some (line, field)) e = (Err (table_fault.BadTable line field), e, λ no. cc)

imports : (names : List (List ℕ)) (bytes : List ℕ) (records : List (List (List ℕ))) → AreRecordsOf bytes records
    → (read : Result Judgements TableFault) → IsImport names records read → (read ≡ Err table_fault.NoMemory → ⊥) → Imports names bytes read
imports names bytes records are (Ok matrix) is some = (records, are, is)
imports names bytes records are (Err (table_fault.BadTable line field)) is some = (records, are, is)
imports names bytes records are (Err table_fault.NoMemory) is some = absurd (some refl)

answers_table : (s : SessionState) (name : List ℕ) (read : Result Judgements TableFault) → (read ≡ Err table_fault.NoMemory → ⊥)
    → Answerable (AnswersTable s name read)
answers_table s name (Ok matrix) some = edits s (edited s.model (set_matrix name matrix))
answers_table s name (Err (table_fault.BadTable line field)) some = shows s (reply.Refused BAD_MODEL (detail.Cell line field))
answers_table s name (Err table_fault.NoMemory) some = absurd (some refl)

reads_table : (s : SessionState) (name : List ℕ) (subject : Subject) (bytes : List ℕ) → Answerable (ReadsTable s name subject bytes)
reads_table s name subject bytes =
    let records = every_text_has_records bytes in
    let read = read_of (names_of s.model subject) records.0 in
    let answer = answers_table s name read.0 read.2 in
    (answer.0, answer.1, (read.0, imports (names_of s.model subject) bytes records.0 records.1 read.0 read.1 read.2, answer.2))

as_table : (Query : Reply → SessionState → Type 0) → Answerable Query → Answerable (AsTable Query)
as_table Query answer = (table_reply answer.0, answer.1, (answer.0, answer.2, refl))

-- ---- commands

tells : (s : SessionState) (c : Command) → Keeps c → IsSession s → Answerable (Tells s c)
tells s command.Undo keeps holds = undoes s (undone s)
tells s (command.Matrix name) keeps holds = of_subject s (matrix_named s.model name) _ (matrix_is s.model name) (λ subject is. shows s (matrix_reply s.model subject))
tells s (command.Rows name) keeps holds = of_subject s (matrix_named s.model name) _ (matrix_is s.model name) (λ subject is. shows s (rows_reply s.model subject))
tells s (command.Fits name vs) keeps holds = of_subject s (matrix_named s.model name) _ (matrix_is s.model name) (λ subject is. fits s vs keeps subject)
tells s (command.Verify name block) keeps holds = of_subject s (matrix_named s.model name) _ (matrix_is s.model name) (λ subject is. verifies s block subject)
tells s (command.Scale name) keeps holds = of_subject s (criterion_named s.model name) _ (criterion_is s.model name) (asks s question.Scale holds)
tells s (command.Cert name) keeps holds = of_subject s (criterion_named s.model name) _ (criterion_is s.model name) (asks s question.Cert holds)
tells s (command.Anchored name) keeps holds = of_subject s (criterion_named s.model name) _ (criterion_is s.model name) (asks s question.Worth holds)
tells s (command.Slack name element) keeps holds = of_subject s (criterion_named s.model name) _ (criterion_is s.model name) (asks_slack s element holds)
tells s command.Weights keeps holds = of_subject s (weighting_of s.model) _ (weighting_is s.model) (asks s question.Worth holds)
tells s command.Wcert keeps holds = of_subject s (weighting_of s.model) _ (weighting_is s.model) (asks s question.Cert holds)
tells s command.Scores keeps holds = where_weighed s (option_places s.model) (checked_scores s.model) holds
tells s (command.Subtotals name) keeps holds = subtotals s (find_option s.model name) holds
tells s command.Groups keeps holds = shows s (groups_reply s.model)
tells s command.Stats keeps holds = shows s (reply.Stats s.results.pivots (kept_count s.results))
tells s command.Quit keeps holds = shows s reply.Ok
tells s (command.Load a) keeps holds = of_held s a (ReadsModel s) (λ bytes. reads s (load_of bytes) (load_never_wants_memory bytes))
tells s (command.Option a) keeps holds = refuses s UNKNOWN_COMMAND
tells s (command.DropOption a) keeps holds = refuses s UNKNOWN_COMMAND
tells s (command.Criterion a b) keeps holds = refuses s UNKNOWN_COMMAND
tells s (command.DropCriterion a) keeps holds = refuses s UNKNOWN_COMMAND
tells s (command.Refs a b c) keeps holds = refuses s UNKNOWN_COMMAND
tells s (command.Judge a b c d) keeps holds = refuses s UNKNOWN_COMMAND
tells s (command.Unjudge a b c) keeps holds = refuses s UNKNOWN_COMMAND
tells s (command.Perform a b c) keeps holds = refuses s UNKNOWN_COMMAND
tells s (command.WeighOrder a) keeps holds = refuses s UNKNOWN_COMMAND
tells s (command.Weigh a b c) keeps holds = refuses s UNKNOWN_COMMAND
tells s (command.Unweigh a b) keeps holds = refuses s UNKNOWN_COMMAND
tells s (command.Reach a b) keeps holds = refuses s UNKNOWN_COMMAND
tells s (command.Import a b) keeps holds = of_subject s (matrix_named s.model a) _ (matrix_is s.model a) (λ subject is. of_held s b (ReadsTable s a subject) (reads_table s a subject))
tells s (command.Repairs a) keeps holds = refuses s UNKNOWN_COMMAND
tells s command.Wrepairs keeps holds = refuses s UNKNOWN_COMMAND
tells s (command.Dominance a b) keeps holds = refuses s UNKNOWN_COMMAND
tells s (command.Dcert a b) keeps holds = refuses s UNKNOWN_COMMAND
tells s command.Dominances keeps holds = refuses s UNKNOWN_COMMAND
tells s (command.ExportMatrix a) keeps holds = of_subject s (matrix_named s.model a) _ (matrix_is s.model a) (λ subject is. shows s (judged_table s.model subject))
tells s (command.ExportAnchored a) keeps holds = as_table _ (of_subject s (criterion_named s.model a) _ (criterion_is s.model a) (asks s question.Worth holds))
tells s command.ExportWeights keeps holds = as_table _ (of_subject s (weighting_of s.model) _ (weighting_is s.model) (asks s question.Worth holds))
tells s command.ExportScores keeps holds = as_table _ (where_weighed s (option_places s.model) (checked_scores s.model) holds)
tells s command.Dump keeps holds = shows s (dump_reply s.model)
tells s (command.Group a b) keeps holds = refuses s UNKNOWN_COMMAND
tells s (command.DropGroup a) keeps holds = refuses s UNKNOWN_COMMAND
tells s (command.Place a b) keeps holds = refuses s UNKNOWN_COMMAND
tells s (command.Unplace a) keeps holds = refuses s UNKNOWN_COMMAND

-- a command has an answer in every state that holds
pub every_command_has_an_answer : (s : SessionState) (c : Command) → Keeps c → IsSession s → Answerable (Answer s c)
every_command_has_an_answer s c keeps holds =
    by_test (is_done_later c) _ _ (λ later. refuses s UNKNOWN_COMMAND) (by_edit (edit_of c))
  where
    by_edit : (edit : Option Edit) → Answerable (AnswersBy edit s c)
    by_edit (Some edit) = edits s (edited s.model edit)
    by_edit None = tells s c keeps holds
