-- The refusal that is due is the reply of each command.
use Rattle.std.proofs.Common.{◌≡◌, inl, inr, ℕ, ◌-◌, ◌∷◌, codes, Bool, true, false, not, cond, List, [], length, Option, Some, None, Result, Ok, Err, MatchBool, is_none, refl, sym, ap, subst, ◌∙◌, arith}
use Rattle.std.specs.Prelude.{slice_get, unwrap_or, ◌==◌, Contains}
use Rattle.std.specs.Option.{option_map}
use Rattle.std.specs.Str.{bytes_eq}
use Rattle.std.proofs.lemmas.Option.{slice_get-get_or}
use Rattle.std.proofs.lemmas.Bool.Decides.{nat_tests}
use Rattle.integers.specs.Fraction.{Fraction}
use Rattle.frac128.specs.Chain.{◌>>=◌, found_or}
use Rattle.judgement_matrix.specs.Matrix.{Judgements}
use Rattle.model_core.specs.State.{ModelState}
use Rattle.model_core.specs.Edits.{Edit, edited, set_matrix, with_change, with_weighting}
use Rattle.model_core.specs.Finding.{find_option, find_criterion, find_element, criterion_at}
use Rattle.model_core.specs.declared.edit.EditFault.{EditFault}
use Rattle.model_core.specs.declared.edit.EditFault.TheVariants.{UnknownCriterion}
use Rattle.model_json.specs.Text.{load_of}
use Rattle.model_json.specs.declared.fault.LoadFault.{LoadFault}
use Rattle.model_json.specs.declared.fault.LoadFault.TheVariants as load_fault
use Rattle.table_csv.specs.declared.fault.TableFault.{TableFault}
use Rattle.table_csv.specs.declared.fault.TableFault.TheVariants as table_fault
use Rattle.command_read.specs.Later.{is_done_later}
use Rattle.command_read.specs.declared.command.Command.{Command}
use Rattle.command_read.specs.declared.command.Command.TheVariants as command
use Rattle.report_text.specs.declared.reply.Detail.{Detail}
use Rattle.report_text.specs.declared.reply.Reply.{Reply}
use Rattle.report_text.specs.declared.reply.Reply.TheVariants as reply
use Rattle.session_state.specs.State.{SessionState, matrix_of, undone}
use Rattle.session_state.specs.declared.subject.Subject.{Subject}
use Rattle.session_state.specs.declared.subject.Subject.TheVariants.{Criterion}
use Rattle.session_edits.specs.Refusals.{number_of}
use Rattle.session_edits.specs.Subjects.{criterion_named, weighting_of, matrix_named}
use Rattle.session_edits.specs.Edits.{edit_of, Shows, Refuses, AnswersEdited, AnswersUndone}
use Rattle.session_edits.specs.Scales.{Asks}
use Rattle.session_edits.specs.Matrices.{TellsFit, Fits, TellsOfText, ReadsCertificate, matrix_reply, rows_reply}
use Rattle.session_edits.specs.Scores.{WhereWeighed, TellsSubtotals, option_places, checked_scores, checked_subtotals}
use Rattle.session_edits.specs.Texts.{AnswersRead, AnswersTable, ReadsModel, ReadsTable, judged_table, table_reply}
use Rattle.session_edits.specs.Answer.{Of, OfElement, AsksSlack, AnswersBy, Answer}
use Rattle.session_edits.specs.declared.question.Question.TheVariants as question
use Rattle.session_edits.specs.declared.refusal.TheConstants.{UNKNOWN_COMMAND, UNKNOWN_CRITERION, UNKNOWN_ELEMENT, UNKNOWN_OPTION, WRONG_COUNT, BAD_JSON, BAD_MODEL, BAD_CERTIFICATE, NOTHING_TO_UNDO, INCONSISTENT, FLAT, TOO_WIDE}
use Rattle.session_edits.specs.Due.{first_due, causes, due, found_later, no_element, no_weighting, no_performance, of_block, IsInOrder}
use Rattle.session_edits.proofs.DueLemmas.{Agrees, edits_in_order}
use Rattle.session_edits.proofs.OrderLemmas.{IsAmong, other, first_of, next_of, among, now, free, scale_told, cert_told, room_ends, worth_ends, fits, scores_end, subtotals_end, summed, verdicts, asks, of_subject, of_criterion, shows, edits, blocks}

-- nothing is newest exactly where nothing is there
none_newest : {A B : Type 0} (f : A → B) (xs : List A) → is_none (option_map f (slice_get xs (length xs - 1))) ≡ (length xs == 0)
none_newest f [] = refl
none_newest f (x ∷ xs) =
    ap (λ o. is_none (option_map f o)) (slice_get-get_or (x ∷ xs) (length (x ∷ xs) - 1) x (omega arith)) ∙ sym some
  where
    some : (length (x ∷ xs) == 0) ≡ false
    some = grind (arith, nat_tests)

-- what may be found by computing
module _ (more : List ℕ) where
  wide_in : Contains (TOO_WIDE ∷ more) TOO_WIDE
  wide_in = first_of TOO_WIDE more

  without_in : Contains (TOO_WIDE ∷ INCONSISTENT ∷ more) INCONSISTENT
  without_in = next_of INCONSISTENT TOO_WIDE (INCONSISTENT ∷ more) (first_of INCONSISTENT more)

abbrev of_worth : List ℕ
of_worth = TOO_WIDE ∷ INCONSISTENT ∷ FLAT ∷ []

flat_in : Contains of_worth FLAT
flat_in = next_of FLAT TOO_WIDE (INCONSISTENT ∷ FLAT ∷ []) (next_of FLAT INCONSISTENT (FLAT ∷ []) (first_of FLAT []))

by_test : (b : Bool) (P Q : Type 0) (K : Bool → Type 0) → (P → K true) → (Q → K false) → MatchBool b P Q → K b
by_test true P Q K p q h = p h
by_test false P Q K p q h = q h

module _ (s next : SessionState) (r : Reply) where
  undoes : AnswersUndone s (undone s) r next → IsInOrder (due s command.Undo) [] r
  undoes h = subst (λ b. IsInOrder (first_due ((b, NOTHING_TO_UNDO) ∷ [])) [] r) (none_newest _ s.history) (by_last (undone s) h)
    where
      by_last : (o : Option SessionState) → AnswersUndone s o r next → IsInOrder (first_due ((is_none o, NOTHING_TO_UNDO) ∷ [])) [] r
      by_last None h = now [] NOTHING_TO_UNDO _ r h.0
      by_last (Some before) h = free [] r (other [] reply.Ok r h.0 (λ n d e. cc))

  -- a matrix that is shown
  matrices : (name : List ℕ) (shown : Subject → Reply) → ((subject : Subject) → IsAmong [] (shown subject))
      → Of s (matrix_named s.model name) (λ subject. Shows s (shown subject)) r next
      → IsInOrder (first_due ((is_none (matrix_named s.model name), UNKNOWN_CRITERION) ∷ [])) [] r
  matrices name shown never =
      of_subject s next r [] (matrix_named s.model name) _ (λ subject. []) (λ subject named h. free [] r (subst (IsAmong []) (sym h.0) (never subject)))

  fit : (name : List ℕ) (vs : List Fraction) → Of s (matrix_named s.model name) (Fits s vs) r next
      → IsInOrder (due s (command.Fits name vs)) (TOO_WIDE ∷ []) r
  fit name vs =
      of_subject s next r (TOO_WIDE ∷ []) (matrix_named s.model name) (Fits s vs)
      (λ subject. (not (length vs == (matrix_of s.model subject).size), WRONG_COUNT) ∷ []) (λ subject named.
      by_test (length vs == (matrix_of s.model subject).size) (TellsFit s.model subject vs r × (next ≡ s)) (Refuses s WRONG_COUNT r next)
      (λ b. IsInOrder (first_due ((not b, WRONG_COUNT) ∷ [])) (TOO_WIDE ∷ []) r)
      (λ h. free (TOO_WIDE ∷ []) r (subst (IsAmong (TOO_WIDE ∷ [])) (sym h.0.2) (fits (TOO_WIDE ∷ []) (wide_in []) _ h.0.0)))
      (λ h. now (TOO_WIDE ∷ []) WRONG_COUNT _ r h.0))

  -- the worth of a criterion or of the weighting
  worth : (subject : Subject) → Asks s question.Worth subject r next → IsInOrder None of_worth r
  worth subject h =
      free of_worth r (asks s next r of_worth question.Worth subject (wide_in (INCONSISTENT ∷ FLAT ∷ []))
      (worth_ends of_worth (wide_in (INCONSISTENT ∷ FLAT ∷ [])) (without_in (FLAT ∷ [])) flat_in s.model subject) h)

  certificate : (subject : Subject) → Asks s question.Cert subject r next → IsInOrder None (TOO_WIDE ∷ []) r
  certificate subject h =
      free (TOO_WIDE ∷ []) r (asks s next r (TOO_WIDE ∷ []) question.Cert subject (wide_in [])
      (cert_told (TOO_WIDE ∷ []) (wide_in []) s.model subject) h)

  scale : (subject : Subject) → Asks s question.Scale subject r next → IsInOrder None (TOO_WIDE ∷ []) r
  scale subject h =
      free (TOO_WIDE ∷ []) r (asks s next r (TOO_WIDE ∷ []) question.Scale subject (wide_in [])
      (scale_told (TOO_WIDE ∷ []) (wide_in []) s.model subject) h)

  worth_of_criterion : (name : List ℕ) → Of s (criterion_named s.model name) (Asks s question.Worth) r next
      → IsInOrder (first_due ((is_none (find_criterion s.model name), UNKNOWN_CRITERION) ∷ [])) of_worth r
  worth_of_criterion name =
      of_criterion s next r of_worth (find_criterion s.model name) (Asks s question.Worth) (λ c. []) (λ c. worth (Criterion c))

  worth_of_weighting : Of s (weighting_of s.model) (Asks s question.Worth) r next
      → IsInOrder (first_due ((is_none (weighting_of s.model), UNKNOWN_CRITERION) ∷ [])) of_worth r
  worth_of_weighting = of_subject s next r of_worth (weighting_of s.model) (Asks s question.Worth) (λ subject. []) (λ subject named. worth subject)

  slack : (name element : List ℕ) → Of s (criterion_named s.model name) (AsksSlack s element) r next
      → IsInOrder (due s (command.Slack name element)) (TOO_WIDE ∷ INCONSISTENT ∷ []) r
  slack name element =
      of_criterion s next r (TOO_WIDE ∷ INCONSISTENT ∷ []) (find_criterion s.model name) (AsksSlack s element)
      (λ c. no_element (criterion_at s.model c) element ∷ []) (λ c. by_element c (find_element (criterion_at s.model c) element))
    where
      by_element : (c : ℕ) (o : Option ℕ) → OfElement s o (λ element. Asks s (question.Slack element) (Criterion c)) r next
          → IsInOrder (first_due ((is_none o, UNKNOWN_ELEMENT) ∷ [])) (TOO_WIDE ∷ INCONSISTENT ∷ []) r
      by_element c None h = now (TOO_WIDE ∷ INCONSISTENT ∷ []) UNKNOWN_ELEMENT _ r h.0
      by_element c (Some e) h =
          free (TOO_WIDE ∷ INCONSISTENT ∷ []) r (asks s next r (TOO_WIDE ∷ INCONSISTENT ∷ []) (question.Slack e) (Criterion c) (wide_in (INCONSISTENT ∷ []))
          (room_ends (TOO_WIDE ∷ INCONSISTENT ∷ []) (wide_in (INCONSISTENT ∷ [])) (without_in []) s.model (Criterion c) e) h)

  scores : WhereWeighed s (option_places s.model) (checked_scores s.model) r next → IsInOrder (due s command.Scores) of_worth r
  scores = summed of_worth (wide_in (INCONSISTENT ∷ FLAT ∷ [])) (without_in (FLAT ∷ [])) flat_in s next r (option_places s.model) (checked_scores s.model)
      (scores_end of_worth (wide_in (INCONSISTENT ∷ FLAT ∷ [])) (without_in (FLAT ∷ [])) flat_in s.model)

  subtotals : (name : List ℕ) → TellsSubtotals s (find_option s.model name) r next → IsInOrder (due s (command.Subtotals name)) of_worth r
  subtotals name = by_option (find_option s.model name)
    where
      by_option : (o : Option ℕ) → TellsSubtotals s o r next
          → IsInOrder (first_due ((is_none o, UNKNOWN_OPTION) ∷ no_weighting s.model ∷ no_performance s.model (unwrap_or o 0 ∷ []) ∷ [])) of_worth r
      by_option None h = now of_worth UNKNOWN_OPTION _ r h.0
      by_option (Some o) h =
          summed of_worth (wide_in (INCONSISTENT ∷ FLAT ∷ [])) (without_in (FLAT ∷ [])) flat_in s next r (o ∷ []) (checked_subtotals s.model o)
          (subtotals_end of_worth (wide_in (INCONSISTENT ∷ FLAT ∷ [])) (without_in (FLAT ∷ [])) flat_in s.model o) h

  -- ---- texts

  loads : (read : Result ModelState LoadFault) → AnswersRead s read r next → IsAmong (BAD_JSON ∷ BAD_MODEL ∷ []) r
  loads (Ok m) h = other (BAD_JSON ∷ BAD_MODEL ∷ []) reply.Ok r h.0 (λ n d e. cc)
  loads (Err load_fault.BadJson) h = among (BAD_JSON ∷ BAD_MODEL ∷ []) BAD_JSON _ r h.0 (first_of BAD_JSON (BAD_MODEL ∷ []))
  loads (Err (load_fault.BadModel pointer)) h =
      among (BAD_JSON ∷ BAD_MODEL ∷ []) BAD_MODEL _ r h.0 (next_of BAD_MODEL BAD_JSON (BAD_MODEL ∷ []) (first_of BAD_MODEL []))
  loads (Err load_fault.NoMemory) h = absurd h

  certificates : (subject : Subject) (bytes : List ℕ) → ReadsCertificate s subject bytes r next → IsAmong (BAD_CERTIFICATE ∷ TOO_WIDE ∷ []) r
  certificates subject bytes h = by_text h.0
    where
      later : List ℕ
      later = BAD_CERTIFICATE ∷ TOO_WIDE ∷ []

      by_text : TellsOfText (matrix_of s.model subject) bytes r → IsAmong later r
      by_text (inl told) =
          subst (IsAmong later) (sym told.2.2)
          (verdicts later (next_of TOO_WIDE BAD_CERTIFICATE (TOO_WIDE ∷ []) (first_of TOO_WIDE [])) told.2.0)
      by_text (inr bad) = among later BAD_CERTIFICATE _ r bad.2 (first_of BAD_CERTIFICATE (TOO_WIDE ∷ []))

  -- a matrix of this name takes another
  accepts_matrix : (name : List ℕ) (subject : Subject) (matrix : Judgements) → matrix_named s.model name ≡ Some subject
      → (after : ModelState) × (edited s.model (set_matrix name matrix) ≡ Ok after)
  accepts_matrix name subject matrix = by_name (bytes_eq name (codes "weighting"))
    where
      by_criterion : (o : Option ℕ) → option_map Criterion o ≡ Some subject
          → (after : ModelState) × ((found_or UnknownCriterion o >>= λ c. Ok (with_change s.model c (λ criterion. record criterion { matrix = matrix }))) ≡ Ok after)
      by_criterion None e = absurd (cc)
      by_criterion (Some c) e = (_, refl)

      by_name : (b : Bool) → cond b (weighting_of s.model) (option_map Criterion (find_criterion s.model name)) ≡ Some subject
          → (after : ModelState) × (cond b (Ok (with_weighting s.model matrix))
          (found_or UnknownCriterion (find_criterion s.model name) >>= λ c. Ok (with_change s.model c (λ criterion. record criterion { matrix = matrix }))) ≡ Ok after)
      by_name true e = (with_weighting s.model matrix, refl)
      by_name false e = by_criterion (find_criterion s.model name) e

  imports : (name : List ℕ) (subject : Subject) → matrix_named s.model name ≡ Some subject → (read : Result Judgements TableFault)
      → AnswersTable s name read r next → IsAmong (BAD_MODEL ∷ []) r
  imports name subject named (Ok matrix) h =
      let after = accepts_matrix name subject matrix named in
      let accepted : AnswersEdited s (Ok after.0) r next = subst (λ a. AnswersEdited s a r next) after.1 h in
      other (BAD_MODEL ∷ []) reply.Ok r accepted.0 (λ n d e. cc)
  imports name subject named (Err (table_fault.BadTable line field)) h = among (BAD_MODEL ∷ []) BAD_MODEL _ r h.0 (first_of BAD_MODEL [])
  imports name subject named (Err table_fault.NoMemory) h = absurd h

-- a table shows what a reply shows, and a refusal as it is
tabled : (d : Option ℕ) (later : List ℕ) (shown r : Reply) → r ≡ table_reply shown → IsInOrder d later shown → IsInOrder d later r
tabled d later shown r e h = subst (IsInOrder d later) (sym e) (by_reply shown h)
  where
    -- none of these is a refusal
    kept : (want : Reply) → ((number : ℕ) (detail : Detail) → want ≡ reply.Refused number detail → ⊥) → (shown : Reply)
        → ((number : ℕ) (detail : Detail) → shown ≡ reply.Refused number detail → ⊥) → IsInOrder d later shown → IsInOrder d later want
    kept want never shown none h = record {
      first = λ number due. let by = h.first number due in absurd (none number by.0 by.1);
      others = λ nothing number by. absurd (never number by.0 by.1);
    }

    by_reply : (shown : Reply) → IsInOrder d later shown → IsInOrder d later (table_reply shown)
    by_reply (reply.Anchored names values) h = kept _ (λ n d e. cc) (reply.Anchored names values) (λ n d e. cc) h
    by_reply (reply.Weights names values) h = kept _ (λ n d e. cc) (reply.Weights names values) (λ n d e. cc) h
    by_reply (reply.Scores names values) h = kept _ (λ n d e. cc) (reply.Scores names values) (λ n d e. cc) h
    by_reply reply.Ok h = h
    by_reply (reply.Refused a b) h = h
    by_reply (reply.Matrix a b) h = h
    by_reply (reply.Rows a b) h = h
    by_reply reply.Meets h = h
    by_reply (reply.Fails a b) h = h
    by_reply (reply.Scale a b c) h = h
    by_reply (reply.Inconsistent a) h = h
    by_reply (reply.Cert a) h = h
    by_reply reply.Holds h = h
    by_reply (reply.FailsAt a) h = h
    by_reply reply.Consistent h = h
    by_reply (reply.Repairs a b c) h = h
    by_reply (reply.Slack a b) h = h
    by_reply (reply.Dominates a) h = h
    by_reply (reply.Not a b c) h = h
    by_reply (reply.DomCert a b) h = h
    by_reply (reply.Dominances a) h = h
    by_reply (reply.Csv a) h = h
    by_reply (reply.Dump a) h = h
    by_reply (reply.Stats a b) h = h
    by_reply (reply.Groups a b) h = h
    by_reply (reply.Subtotals a b) h = h

module _ (s next : SessionState) (r : Reply) where
  -- an edit
  edit : (c : Command) (e : Edit) → edit_of c ≡ Some e → AnswersEdited s (edited s.model e) r next → IsInOrder (due s c) [] r
  edit c e asked = edits s next r [] (causes s c) (edited s.model e) (edits_in_order s c e asked)

  -- a command that is done later
  later_done : Refuses s UNKNOWN_COMMAND r next → IsInOrder (Some UNKNOWN_COMMAND) [] r
  later_done h = now [] UNKNOWN_COMMAND _ r h.0

  -- a reply that nothing refuses
  said : (want : Reply) → ((number : ℕ) (detail : Detail) → want ≡ reply.Refused number detail → ⊥) → Shows s want r next → IsInOrder None [] r
  said want never = shows s next r [] want never

  pub in_order : (c : Command) → Answer s c r next → IsInOrder (due s c) (found_later c) r
  in_order (command.Option a) h = edit (command.Option a) _ refl h
  in_order (command.DropOption a) h = edit (command.DropOption a) _ refl h
  in_order (command.Criterion a b) h = edit (command.Criterion a b) _ refl h
  in_order (command.DropCriterion a) h = edit (command.DropCriterion a) _ refl h
  in_order (command.Refs a b c) h = edit (command.Refs a b c) _ refl h
  in_order (command.Judge a b c d) h = edit (command.Judge a b c d) _ refl h
  in_order (command.Unjudge a b c) h = edit (command.Unjudge a b c) _ refl h
  in_order (command.Perform a b c) h = edit (command.Perform a b c) _ refl h
  in_order (command.WeighOrder a) h = edit (command.WeighOrder a) _ refl h
  in_order (command.Weigh a b c) h = edit (command.Weigh a b c) _ refl h
  in_order (command.Unweigh a b) h = edit (command.Unweigh a b) _ refl h
  in_order (command.Reach a b) h = edit (command.Reach a b) _ refl h
  in_order (command.Group a b) h = edit (command.Group a b) _ refl h
  in_order (command.DropGroup a) h = edit (command.DropGroup a) _ refl h
  in_order (command.Place a b) h = edit (command.Place a b) _ refl h
  in_order (command.Unplace a) h = edit (command.Unplace a) _ refl h
  in_order command.Undo h = undoes s next r h
  in_order (command.Matrix a) h = matrices s next r a (matrix_reply s.model) (λ subject. other [] _ _ refl (λ n d e. cc)) h
  in_order (command.Rows a) h = matrices s next r a (rows_reply s.model) (λ subject. other [] _ _ refl (λ n d e. cc)) h
  in_order (command.ExportMatrix a) h = matrices s next r a (judged_table s.model) (λ subject. other [] _ _ refl (λ n d e. cc)) h
  in_order (command.Fits a b) h = fit s next r a b h
  in_order (command.Verify a b) h =
      of_subject s next r (found_later (command.Verify a b)) (matrix_named s.model a) _ (λ subject. of_block b)
      (λ subject named. blocks s next r (found_later (command.Verify a b)) b (ReadsCertificate s subject) (certificates s next r subject)) h
  in_order (command.Scale a) h = of_criterion s next r (TOO_WIDE ∷ []) (find_criterion s.model a) _ (λ c. []) (λ c. scale s next r (Criterion c)) h
  in_order (command.Cert a) h = of_criterion s next r (TOO_WIDE ∷ []) (find_criterion s.model a) _ (λ c. []) (λ c. certificate s next r (Criterion c)) h
  in_order (command.Anchored a) h = worth_of_criterion s next r a h
  in_order (command.Slack a b) h = slack s next r a b h
  in_order command.Weights h = worth_of_weighting s next r h
  in_order command.Wcert h = of_subject s next r (TOO_WIDE ∷ []) (weighting_of s.model) _ (λ subject. []) (λ subject named. certificate s next r subject) h
  in_order command.Scores h = scores s next r h
  in_order (command.Subtotals a) h = subtotals s next r a h
  in_order (command.ExportAnchored a) h = tabled _ of_worth h.0 r h.2 (worth_of_criterion s next h.0 a h.1)
  in_order command.ExportWeights h = tabled _ of_worth h.0 r h.2 (worth_of_weighting s next h.0 h.1)
  in_order command.ExportScores h = tabled _ of_worth h.0 r h.2 (scores s next h.0 h.1)
  in_order command.Groups h = said _ (λ n d e. cc) h
  in_order command.Stats h = said _ (λ n d e. cc) h
  in_order command.Quit h = said _ (λ n d e. cc) h
  in_order command.Dump h = said _ (λ n d e. cc) h
  in_order (command.Load a) h = blocks s next r (found_later (command.Load a)) a (ReadsModel s) (λ bytes. loads s next r (load_of bytes)) h
  in_order (command.Import a b) h =
      of_subject s next r (found_later (command.Import a b)) (matrix_named s.model a) _ (λ subject. of_block b)
      (λ subject named. blocks s next r (found_later (command.Import a b)) b (ReadsTable s a subject) (λ bytes k. imports s next r a subject named k.0 k.2)) h
  in_order (command.Repairs a) h = later_done h
  in_order command.Wrepairs h = later_done h
  in_order (command.Dominance a b) h = later_done h
  in_order (command.Dcert a b) h = later_done h
  in_order command.Dominances h = later_done h

-- no edit is done later
not_later : (c : Command) (e : Edit) → edit_of c ≡ Some e → is_done_later c ≡ false
not_later (command.Repairs a) e h = cc
not_later command.Wrepairs e h = cc
not_later (command.Dominance a b) e h = cc
not_later (command.Dcert a b) e h = cc
not_later command.Dominances e h = cc
not_later other e h = refl

-- an edit that nothing refuses is accepted
pub accepted : (s next : SessionState) (c : Command) (e : Edit) (r : Reply) → edit_of c ≡ Some e → due s c ≡ None → Answer s c r next → r ≡ reply.Ok
accepted s next c e r asked free h =
    by_outcome (edited s.model e) (edits_in_order s c e asked)
    (subst (λ o. AnswersBy o s c r next) asked
    (subst (λ b. MatchBool b (Refuses s UNKNOWN_COMMAND r next) (AnswersBy (edit_of c) s c r next)) (not_later c e asked) h))
  where
    by_outcome : (after : Result ModelState EditFault) → Agrees (causes s c) after → AnswersEdited s after r next → r ≡ reply.Ok
    by_outcome (Ok m) agrees k = k.0
    by_outcome (Err fault) agrees k = absurd (none_some (number_of fault) (sym free ∙ agrees))
      where
        none_some : (n : ℕ) → None ≡ Some n → ⊥
        none_some n e = cc
