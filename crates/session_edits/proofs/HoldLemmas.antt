-- Each answer in a state that holds leaves a state that holds.
use Rattle.std.proofs.Common.{◌≡◌, ℕ, ◌+◌, Bool, true, false, cond, List, [], ◌∷◌, length, Option, Some, None, Result, Ok, Err, MatchBool, refl, sym, subst, ◌∙◌, ap, arith, length-append, codes}
use Rattle.std.specs.Prelude.{MatchOption, ◌==◌, nat_lt}
use Rattle.std.specs.Option.{option_map}
use Rattle.std.specs.Str.{bytes_eq}
use Rattle.std.proofs.lemmas.List.{length-map}
use Rattle.integers.specs.Fraction.{Fraction}
use Rattle.judgement_matrix.specs.Matrix.{Judgements, IsMatrix, IsSize}
use Rattle.command_read.specs.Later.{is_done_later}
use Rattle.command_read.specs.declared.block.Held.{Held}
use Rattle.command_read.specs.declared.block.Held.TheVariants as held
use Rattle.command_read.specs.declared.command.Command.{Command}
use Rattle.command_read.specs.declared.command.Command.TheVariants as command
use Rattle.command_read.proofs.ReadValues.{Keeps}
use Rattle.model_core.specs.State.{ModelState}
use Rattle.model_core.specs.Edits.{Edit, edited, set_matrix}
use Rattle.model_core.specs.Finding.{find_option, find_criterion, criterion_at, matrix_size}
use Rattle.model_core.specs.Whole.{IsWholeModel, IsLawful}
use Rattle.model_core.specs.declared.edit.EditFault.{EditFault}
use Rattle.model_core.proofs.WholeEdits.{edits_keep, whole_at, criterion_within}
use Rattle.model_json.specs.Text.{load_of}
use Rattle.model_json.specs.declared.fault.LoadFault.{LoadFault}
use Rattle.model_json.specs.declared.fault.LoadFault.TheVariants as load_fault
use Rattle.model_json.proofs.WholeLoads.{loads_whole}
use Rattle.table_csv.specs.Table.{Imports}
use Rattle.table_csv.specs.declared.fault.TableFault.{TableFault}
use Rattle.table_csv.specs.declared.fault.TableFault.TheVariants as table_fault
use Rattle.table_csv.proofs.MatrixLemmas.{IsMatrix-in}
use Rattle.report_text.specs.declared.reply.Detail.{Detail}
use Rattle.report_text.specs.declared.reply.Reply.{Reply}
use Rattle.report_text.specs.declared.reply.Reply.TheVariants as reply
use Rattle.session_state.specs.State.{ResultsState, SessionState, IsSession, AreResults, matrix_of, changed, undone, with_results}
use Rattle.session_state.specs.Taking.{IsSubject}
use Rattle.session_state.specs.declared.subject.Subject.{Subject}
use Rattle.session_state.specs.declared.subject.Subject.TheVariants.{Criterion, Weighting}
use Rattle.session_state.proofs.SessionLemmas.{IsSession-changed, IsSession-undone, IsSession-taken, AreResults-taken, subject_matrix}
use Rattle.session_edits.specs.Subjects.{criterion_named, weighting_of, matrix_named, all_subjects, names_of, weighed_names}
use Rattle.session_edits.specs.Edits.{edit_of, Shows, Refuses, OfBlock, AnswersEdited, AnswersUndone}
use Rattle.session_edits.specs.Matrices.{TellsFit, Fits, ReadsCertificate}
use Rattle.session_edits.specs.Scales.{Asks, worth_of}
use Rattle.session_edits.specs.Scores.{TakesAll, TakesBehind, AsksAll, WherePerformed, WhereWeighed, TellsSubtotals, missing, option_places, checked_scores, checked_subtotals}
use Rattle.session_edits.specs.Texts.{ReadsModel, AnswersRead, AnswersTable, ReadsTable}
use Rattle.session_edits.specs.Answer.{Of, OfElement, element_named, AsksSlack, Tells, AnswersBy, Answer}
use Rattle.session_edits.specs.declared.question.Question.{Question}
use Rattle.session_edits.specs.declared.question.Question.TheVariants as question
use Rattle.session_edits.specs.declared.refusal.TheConstants.{UNKNOWN_COMMAND, UNKNOWN_CRITERION, PERFORMANCE_MISSING, WRONG_COUNT}
use Rattle.session_edits.proofs.SubjectLemmas.{AreSubjects, matrix_is}

-- ---- the matrix that an import sets

-- as many names as the matrix of the subject has elements
names_count : (m : ModelState) (subject : Subject) → IsWholeModel m → IsSubject m subject → length (names_of m subject) ≡ (matrix_of m subject).size
names_count m (Criterion c) whole is = sym (whole_at m c whole is).keeps.size
names_count m Weighting whole is =
    let each : length m.order ≡ length m.criteria = whole.keeps.order_is.each in
    let size : m.weighting.size ≡ length m.criteria + 1 = whole.keeps.size in
    omega (arith, length-append (weighed_names m) (codes "none" ∷ []), length-map m.order (λ c. (criterion_at m c).name), each, size)

-- the size of the matrix of this name is that of its subject
size_of_subject : (m : ModelState) (name : List ℕ) (subject : Subject) (size : ℕ) → IsWholeModel m → matrix_named m name ≡ Some subject
    → matrix_size m name ≡ Some size → (matrix_of m subject).size ≡ size
size_of_subject m name subject size whole named sized = by_name (bytes_eq name (codes "weighting")) named sized
  where
    same_subject : (a b : Subject) → Some a ≡ Some b → a ≡ b
    same_subject a b h = cc

    same_size : (a b : ℕ) → Some a ≡ Some b → a ≡ b
    same_size a b h = cc

    by_weighting : (b : Bool) → cond b (Some Weighting) None ≡ Some subject → Some (length m.criteria + 1) ≡ Some size → (matrix_of m subject).size ≡ size
    by_weighting true h k =
        subst (λ s. (matrix_of m s).size ≡ size) (same_subject Weighting subject h) (whole.keeps.size ∙ same_size (length m.criteria + 1) size k)
    by_weighting false h k = cc

    by_criterion : (o : Option ℕ) → ((c : ℕ) → o ≡ Some c → IsSubject m (Criterion c)) → option_map Criterion o ≡ Some subject
        → option_map (λ c. length (criterion_at m c).elements) o ≡ Some size → (matrix_of m subject).size ≡ size
    by_criterion None is h k = cc
    by_criterion (Some c) is h k =
        subst (λ s. (matrix_of m s).size ≡ size) (same_subject (Criterion c) subject h)
        ((whole_at m c whole (is c refl)).keeps.size ∙ same_size (length (criterion_at m c).elements) size k)

    by_name : (b : Bool) → cond b (weighting_of m) (criterion_named m name) ≡ Some subject
        → cond b (Some (length m.criteria + 1)) (option_map (λ c. length (criterion_at m c).elements) (find_criterion m name)) ≡ Some size
        → (matrix_of m subject).size ≡ size
    by_name true h k = by_weighting (nat_lt 0 (length m.criteria)) h k
    by_name false h k = by_criterion (find_criterion m name) (λ c at. criterion_within m name c at) h k

-- ---- commands

module _ (s next : SessionState) (holds : IsSession s) where
  same : next ≡ s → IsSession next
  same e = subst IsSession (sym e) holds

  by_test : (b : Bool) (P Q : Type 0) → (P → IsSession next) → (Q → IsSession next) → MatchBool b P Q → IsSession next
  by_test true P Q p q h = p h
  by_test false P Q p q h = q h

  -- other results
  taken : (results : ResultsState) → AreResults s.model results → next ≡ with_results s results → IsSession next
  taken results are e = subst IsSession (sym e) (IsSession-taken s results holds are)

  asked : (q : Question) (subject : Subject) (r : Reply) → Asks s q subject r next → IsSession next
  asked q subject r h =
      taken h.0 (AreResults-taken s.model subject s.results h.0 h.1.0 holds.keeps.results_are h.1.1) h.2

  all_taken : (subjects : List Subject) (results after : ResultsState) (worths : Result (List (List Fraction)) Reply) → AreResults s.model results
      → TakesAll s.model subjects results worths after → AreResults s.model after
  all_taken [] results after worths are h = subst (AreResults s.model) (sym h.1) are
  all_taken (subject ∷ subjects) results after worths are h =
      let mid_are = AreResults-taken s.model subject results h.1 h.0 are h.2 in
      behind h.1 mid_are (λ others k. all_taken subjects h.1 after others mid_are k) (worth_of s.model subject h.0) h.3
    where
      behind : (mid : ResultsState) → AreResults s.model mid
          → ((others : Result (List (List Fraction)) Reply) → TakesAll s.model subjects mid others after → AreResults s.model after)
          → (worth : Result (List Fraction) Reply) → TakesBehind (TakesAll s.model subjects) worth mid worths after → AreResults s.model after
      behind mid mid_are further (Err refusal) h = subst (AreResults s.model) (sym h.1) mid_are
      behind mid mid_are further (Ok w) h = further h.0 h.1

  of_subject : (o : Option Subject) (Query : Subject → Reply → SessionState → Type 0) (r : Reply)
      → ((subject : Subject) → o ≡ Some subject → Query subject r next → IsSession next) → Of s o Query r next → IsSession next
  of_subject None Query r k h = same h.1
  of_subject (Some subject) Query r k h = k subject refl h

  slack : (name : List ℕ) (subject : Subject) (r : Reply) → AsksSlack s name subject r next → IsSession next
  slack name subject r = by_element (element_named s subject name)
    where
      by_element : (o : Option ℕ) → OfElement s o (λ element. Asks s (question.Slack element) subject) r next → IsSession next
      by_element None h = same h.1
      by_element (Some element) h = asked (question.Slack element) subject r h

  fit : (vs : List Fraction) (subject : Subject) (r : Reply) → Fits s vs subject r next → IsSession next
  fit vs subject r =
      by_test (length vs == (matrix_of s.model subject).size) (TellsFit s.model subject vs r × (next ≡ s)) (Refuses s WRONG_COUNT r next)
      (λ h. same h.1) (λ h. same h.1)

  weighed : (os : List ℕ) (make : List (List Fraction) → Result Reply Reply) (r : Reply) → WhereWeighed s os make r next → IsSession next
  weighed os make r =
      by_test (nat_lt 0 (length s.model.criteria)) (WherePerformed s os make r next) (Refuses s UNKNOWN_CRITERION r next)
      (by_missing (missing s.model os)) (λ h. same h.1)
    where
      by_missing : (o : Option Detail)
          → MatchOption o (AsksAll s make r next) (λ detail. Shows s (reply.Refused PERFORMANCE_MISSING detail) r next) → IsSession next
      by_missing None h =
          taken h.0 (all_taken (all_subjects s.model) s.results h.0 h.1.0 holds.keeps.results_are h.1.1) h.2
      by_missing (Some detail) h = same h.1

  subtotals : (o : Option ℕ) (r : Reply) → TellsSubtotals s o r next → IsSession next
  subtotals None r h = same h.1
  subtotals (Some o) r h = weighed (o ∷ []) (checked_subtotals s.model o) r h

  -- a model in place of the present one
  entered : (after : ModelState) (e : next ≡ changed s after) → IsWholeModel after → IsSession next
  entered after e whole = subst IsSession (sym e) (IsSession-changed s after holds whole)

  edits : (edit : Edit) (r : Reply) → IsLawful s.model edit → (after : Result ModelState EditFault) → edited s.model edit ≡ after
      → AnswersEdited s after r next → IsSession next
  edits edit r parts (Ok after) e h = entered after h.1 (edits_keep s.model after edit holds.model parts e)
  edits edit r parts (Err fault) e h = same h.1

  undoes : (r : Reply) (before : Option SessionState) → undone s ≡ before → AnswersUndone s before r next → IsSession next
  undoes r None e h = same h.1
  undoes r (Some before) e h = subst IsSession (sym h.1) (IsSession-undone s before holds e)

  reads : (bytes : List ℕ) (r : Reply) (read : Result ModelState LoadFault) → load_of bytes ≡ read → AnswersRead s read r next → IsSession next
  reads bytes r (Ok m) e h = entered m h.1 (loads_whole bytes m e)
  reads bytes r (Err load_fault.BadJson) e h = same h.1
  reads bytes r (Err (load_fault.BadModel pointer)) e h = same h.1
  reads bytes r (Err load_fault.NoMemory) e h = absurd h

  -- the matrix of a table of the subject's names
  table_is : (name : List ℕ) (subject : Subject) (bytes : List ℕ) (matrix : Judgements) → matrix_named s.model name ≡ Some subject
      → Imports (names_of s.model subject) bytes (Ok matrix) → IsLawful s.model (set_matrix name matrix)
  table_is name subject bytes matrix named imports =
      let records = imports.0 in
      let made = imports.2.1 in
      let subject_is : IsSubject s.model subject = subst (AreSubjects s.model) named (matrix_is s.model name) in
      let own = subject_matrix s.model subject holds.model subject_is in
      let count = names_count s.model subject holds.model subject_is in
      let size : IsSize (length (names_of s.model subject)) = subst IsSize (sym count) (own.0.least, own.0.most) in (
        subst IsMatrix (sym made) (IsMatrix-in (length (names_of s.model subject)) records size),
        λ k sized. ap (λ (j : Judgements). j.size) made ∙ count ∙ size_of_subject s.model name subject k holds.model named sized,
      )

  of_table : (name : List ℕ) (subject : Subject) (bytes : List ℕ) (r : Reply) → matrix_named s.model name ≡ Some subject
      → (read : Result Judgements TableFault) → Imports (names_of s.model subject) bytes read → AnswersTable s name read r next → IsSession next
  of_table name subject bytes r named (Ok matrix) imports h =
      edits (set_matrix name matrix) r (table_is name subject bytes matrix named imports) (edited s.model (set_matrix name matrix)) refl h
  of_table name subject bytes r named (Err (table_fault.BadTable line field)) imports h = same h.1
  of_table name subject bytes r named (Err table_fault.NoMemory) imports h = absurd h

  of_block : (block : Held) (Reads : List ℕ → Reply → SessionState → Type 0) (r : Reply) → ((bytes : List ℕ) → Reads bytes r next → IsSession next)
      → OfBlock s block Reads r next → IsSession next
  of_block (held.Whole bytes) Reads r k h = k bytes h
  of_block held.Cut Reads r k h = same h.1
  of_block held.Large Reads r k h = same h.1

  asked_of : (o : Option Subject) (q : Question) (r : Reply) → Of s o (Asks s q) r next → IsSession next
  asked_of o q r h = of_subject o _ r (λ subject is. asked q subject r) h

  tells : (c : Command) (r : Reply) → Tells s c r next → IsSession next
  tells command.Undo r h = undoes r (undone s) refl h
  tells (command.Matrix name) r h = of_subject (matrix_named s.model name) _ r (λ subject is k. same k.1) h
  tells (command.Rows name) r h = of_subject (matrix_named s.model name) _ r (λ subject is k. same k.1) h
  tells (command.Fits name vs) r h = of_subject (matrix_named s.model name) _ r (λ subject is. fit vs subject r) h
  tells (command.Verify name block) r h =
      of_subject (matrix_named s.model name) _ r (λ subject is. of_block block (ReadsCertificate s subject) r (λ bytes k. same k.1)) h
  tells (command.Scale name) r h = asked_of (criterion_named s.model name) question.Scale r h
  tells (command.Cert name) r h = asked_of (criterion_named s.model name) question.Cert r h
  tells (command.Anchored name) r h = asked_of (criterion_named s.model name) question.Worth r h
  tells (command.Slack name element) r h = of_subject (criterion_named s.model name) _ r (λ subject is. slack element subject r) h
  tells command.Weights r h = asked_of (weighting_of s.model) question.Worth r h
  tells command.Wcert r h = asked_of (weighting_of s.model) question.Cert r h
  tells command.Scores r h = weighed (option_places s.model) (checked_scores s.model) r h
  tells (command.Subtotals name) r h = subtotals (find_option s.model name) r h
  tells command.Groups r h = same h.1
  tells command.Stats r h = same h.1
  tells command.Quit r h = same h.1
  tells (command.Load a) r h = of_block a (ReadsModel s) r (λ bytes. reads bytes r (load_of bytes) refl) h
  tells (command.Option a) r h = same h.1
  tells (command.DropOption a) r h = same h.1
  tells (command.Criterion a b) r h = same h.1
  tells (command.DropCriterion a) r h = same h.1
  tells (command.Refs a b c) r h = same h.1
  tells (command.Judge a b c d) r h = same h.1
  tells (command.Unjudge a b c) r h = same h.1
  tells (command.Perform a b c) r h = same h.1
  tells (command.WeighOrder a) r h = same h.1
  tells (command.Weigh a b c) r h = same h.1
  tells (command.Unweigh a b) r h = same h.1
  tells (command.Reach a b) r h = same h.1
  tells (command.Import a b) r h =
      of_subject (matrix_named s.model a) _ r (λ subject is. of_block b (ReadsTable s a subject) r (λ bytes k. of_table a subject bytes r is k.0 k.1 k.2)) h
  tells (command.Repairs a) r h = same h.1
  tells command.Wrepairs r h = same h.1
  tells (command.Dominance a b) r h = same h.1
  tells (command.Dcert a b) r h = same h.1
  tells command.Dominances r h = same h.1
  tells (command.ExportMatrix a) r h = of_subject (matrix_named s.model a) _ r (λ subject is k. same k.1) h
  tells (command.ExportAnchored a) r h = asked_of (criterion_named s.model a) question.Worth h.0 h.1
  tells command.ExportWeights r h = asked_of (weighting_of s.model) question.Worth h.0 h.1
  tells command.ExportScores r h = weighed (option_places s.model) (checked_scores s.model) h.0 h.1
  tells command.Dump r h = same h.1
  tells (command.Group a b) r h = same h.1
  tells (command.DropGroup a) r h = same h.1
  tells (command.Place a b) r h = same h.1
  tells (command.Unplace a) r h = same h.1

  -- what an edit is made of, as a line has it
  abbrev AreParts : Option Edit → Type 0
  AreParts None = Unit {0}
  AreParts (Some edit) = IsLawful s.model edit

  parts_of : (c : Command) → Keeps c → AreParts (edit_of c)
  parts_of (command.Option a) keeps = tt
  parts_of (command.DropOption a) keeps = tt
  parts_of (command.Criterion a b) keeps = keeps
  parts_of (command.DropCriterion a) keeps = tt
  parts_of (command.Refs a b c) keeps = tt
  parts_of (command.Judge a b c d) keeps = keeps
  parts_of (command.Unjudge a b c) keeps = tt
  parts_of (command.Perform a b c) keeps = tt
  parts_of (command.WeighOrder a) keeps = tt
  parts_of (command.Weigh a b c) keeps = keeps
  parts_of (command.Unweigh a b) keeps = tt
  parts_of (command.Reach a b) keeps = keeps
  parts_of (command.Group a b) keeps = tt
  parts_of (command.DropGroup a) keeps = tt
  parts_of (command.Place a b) keeps = tt
  parts_of (command.Unplace a) keeps = tt
  parts_of (command.Load a) keeps = tt
  parts_of (command.Import a b) keeps = tt
  parts_of command.Undo keeps = tt
  parts_of (command.Matrix a) keeps = tt
  parts_of (command.Rows a) keeps = tt
  parts_of (command.Fits a b) keeps = tt
  parts_of (command.Scale a) keeps = tt
  parts_of (command.Cert a) keeps = tt
  parts_of (command.Verify a b) keeps = tt
  parts_of (command.Repairs a) keeps = tt
  parts_of (command.Anchored a) keeps = tt
  parts_of (command.Slack a b) keeps = tt
  parts_of command.Weights keeps = tt
  parts_of command.Wcert keeps = tt
  parts_of command.Wrepairs keeps = tt
  parts_of command.Scores keeps = tt
  parts_of (command.Dominance a b) keeps = tt
  parts_of (command.Dcert a b) keeps = tt
  parts_of command.Dominances keeps = tt
  parts_of (command.ExportMatrix a) keeps = tt
  parts_of (command.ExportAnchored a) keeps = tt
  parts_of command.ExportWeights keeps = tt
  parts_of command.ExportScores keeps = tt
  parts_of command.Dump keeps = tt
  parts_of command.Stats keeps = tt
  parts_of command.Quit keeps = tt
  parts_of command.Groups keeps = tt
  parts_of (command.Subtotals a) keeps = tt

  by_edit : (c : Command) (r : Reply) (edit : Option Edit) → AreParts edit → AnswersBy edit s c r next → IsSession next
  by_edit c r (Some edit) parts h = edits edit r parts (edited s.model edit) refl h
  by_edit c r None parts h = tells c r h

  -- an answer leaves a state that holds
  pub answer_holds : (c : Command) (r : Reply) → Keeps c → Answer s c r next → IsSession next
  answer_holds c r keeps =
      by_test (is_done_later c) (Refuses s UNKNOWN_COMMAND r next) (AnswersBy (edit_of c) s c r next) (λ h. same h.1)
      (by_edit c r (edit_of c) (parts_of c keeps))
