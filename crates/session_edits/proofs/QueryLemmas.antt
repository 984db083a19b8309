-- What the reply to each query says, in a state that holds.
use Rattle.std.proofs.Common.{◌≡◌, ◌⊎◌, inl, inr, ℕ, ◌<◌, ◌≤◌, true, false, cond, List, [], ◌∷◌, length, Option, Some, None, MatchBool, Result, Ok, Err, sym, subst, ap, ◌∙◌, arith}
use Rattle.std.specs.Prelude.{MatchOption, nat_lt}
use Rattle.std.specs.Option.{option_map}
use Rattle.std.proofs.lemmas.Bool.Decides.{nat_tests}
use Rattle.integers.specs.Fraction.{Fraction, AreFractions, common_nums, common_den}
use Rattle.integers.proofs.Writings.{common_writing}
use Rattle.cert_check.specs.declared.text.CertText.{CertText}
use Rattle.judgement_matrix.specs.Matrix.{Judgements}
use Rattle.judgement_matrix.specs.Scale.{IsInconsistent}
use Rattle.frac128.proofs.ReducedLemmas.{reduced_are_fractions}
use Rattle.command_read.specs.declared.command.Command.{Command}
use Rattle.command_read.specs.declared.command.Command.TheVariants as command
use Rattle.model_core.specs.State.{ModelState}
use Rattle.model_core.specs.Finding.{find_option, find_criterion, find_element, criterion_at}
use Rattle.model_core.proofs.WholeEdits.{criterion_within, place_within, whole_at}
use Rattle.report_text.specs.declared.reply.Reply.{Reply}
use Rattle.report_text.specs.declared.reply.Reply.TheVariants as reply
use Rattle.session_state.specs.State.{SessionState, IsSession, changed, undone}
use Rattle.session_state.specs.declared.subject.Subject.{Subject}
use Rattle.session_state.specs.declared.subject.Subject.TheVariants.{Criterion, Weighting}
use Rattle.session_state.proofs.SessionLemmas.{undone_of_changed}
use Rattle.session_state.specs.declared.history.TheConstants.{UNDO_STEPS}
use Rattle.session_edits.specs.Refusals.{refused, number_of}
use Rattle.session_edits.specs.Subjects.{criterion_named, weighting_of}
use Rattle.session_edits.specs.Edits.{Shows, Refuses, AnswersEdited, AnswersUndone, edit_of}
use Rattle.session_edits.specs.Scales.{Asks}
use Rattle.session_edits.specs.Scores.{TellsSubtotals, AsksAll, WherePerformed, WhereWeighed, missing, option_places, checked_scores, checked_subtotals}
use Rattle.command_read.specs.Later.{is_done_later}
use Rattle.model_core.specs.Edits.{Edit, edited}
use Rattle.model_core.specs.declared.edit.EditFault.{EditFault}
use Rattle.session_edits.specs.Answer.{Of, OfElement, AnswersBy, Answer}
use Rattle.session_edits.specs.Meaning.{AreLeast, SaysScale, SaysCert, IsToldInconsistent, SaysAnchored, SaysWeights, SaysSlack, SaysScores, SaysSubtotals}
use Rattle.session_edits.specs.declared.question.Question.TheVariants as question
use Rattle.session_edits.specs.declared.refusal.TheConstants.{TOO_WIDE, UNKNOWN_COMMAND, UNKNOWN_CRITERION, PERFORMANCE_MISSING}
use Rattle.session_edits.proofs.MeaningLemmas.{scale_says, cert_says, anchored_means, weights_mean, slack_means, scores_mean, subtotals_mean}

-- ---- queries about what is there

of_found : (s : SessionState) (o : Option Subject) (subject : Subject) (Query : Subject → Reply → SessionState → Type 0) (r : Reply) (next : SessionState)
    → o ≡ Some subject → Of s o Query r next → Query subject r next
of_found s o subject Query r next found h = subst (λ p. Of s p Query r next) found h

criterion_found : (m : ModelState) (name : List ℕ) (c : ℕ) → find_criterion m name ≡ Some c → criterion_named m name ≡ Some (Criterion c)
criterion_found m name c found = ap (option_map Criterion) found

weighting_found : (m : ModelState) → 1 ≤ length m.criteria → weighting_of m ≡ Some Weighting
weighting_found m some = ap (λ b. cond b (Some Weighting) None) (is_below (length m.criteria) some)
  where
    is_below : (n : ℕ) → 1 ≤ n → nat_lt 0 n ≡ true
    is_below n h = grind (arith, nat_tests)

module _ (s next : SessionState) (holds : IsSession s) (r : Reply) where
  pub scale_reply : (name : List ℕ) (c : ℕ) → find_criterion s.model name ≡ Some c → Answer s (command.Scale name) r next
      → SaysScale (criterion_at s.model c).matrix (criterion_at s.model c).elements r
  scale_reply name c found h =
      scale_says s next holds (Criterion c) r (of_found s _ (Criterion c) (Asks s question.Scale) r next (criterion_found s.model name c found) h)

  pub cert_reply : (name : List ℕ) (c : ℕ) → find_criterion s.model name ≡ Some c → Answer s (command.Cert name) r next
      → SaysCert (criterion_at s.model c).matrix r
  cert_reply name c found h =
      cert_says s next holds (Criterion c) r (of_found s _ (Criterion c) (Asks s question.Cert) r next (criterion_found s.model name c found) h)

  pub wcert_reply : 1 ≤ length s.model.criteria → Answer s command.Wcert r next → SaysCert s.model.weighting r
  wcert_reply some h =
      cert_says s next holds Weighting r (of_found s _ Weighting (Asks s question.Cert) r next (weighting_found s.model some) h)

  pub anchored_reply : (name : List ℕ) (c : ℕ) → find_criterion s.model name ≡ Some c → Answer s (command.Anchored name) r next
      → SaysAnchored s.model c r
  anchored_reply name c found h =
      anchored_means s next holds r c (criterion_within s.model name c found)
      (of_found s _ (Criterion c) (Asks s question.Worth) r next (criterion_found s.model name c found) h)

  pub weights_reply : 1 ≤ length s.model.criteria → Answer s command.Weights r next → SaysWeights s.model r
  weights_reply some h =
      weights_mean s next holds r some (of_found s _ Weighting (Asks s question.Worth) r next (weighting_found s.model some) h)

  pub slack_reply : (name element : List ℕ) (c e : ℕ) → find_criterion s.model name ≡ Some c → find_element (criterion_at s.model c) element ≡ Some e
      → Answer s (command.Slack name element) r next → SaysSlack (criterion_at s.model c).matrix e r
  slack_reply name element c e found at h =
      let there = criterion_within s.model name c found in
      let within = place_within (criterion_at s.model c).elements element e at in
      let size : (criterion_at s.model c).matrix.size ≡ length (criterion_at s.model c).elements = (whole_at s.model c holds.model there).keeps.size in
      let last : e ≤ length (criterion_at s.model c).elements = within.1 in
      slack_means s next holds r (Criterion c) e there within.0 (omega (arith, size, last))
      (subst (λ o. OfElement s o (λ k. Asks s (question.Slack k) (Criterion c)) r next) at
      (of_found s _ (Criterion c) _ r next (criterion_found s.model name c found) h))

  -- where there is a criterion, and each performance
  all_asked : (os : List ℕ) (make : List (List Fraction) → Result Reply Reply) → 1 ≤ length s.model.criteria → missing s.model os ≡ None → WhereWeighed s os make r next
      → AsksAll s make r next
  all_asked os make some none h =
      subst (λ o. MatchOption o (AsksAll s make r next) (λ detail. Shows s (reply.Refused PERFORMANCE_MISSING detail) r next)) none
      (subst (λ b. MatchBool b (WherePerformed s os make r next) (Refuses s UNKNOWN_CRITERION r next)) (is_below (length s.model.criteria) some) h)
    where
      is_below : (n : ℕ) → 1 ≤ n → nat_lt 0 n ≡ true
      is_below n k = grind (arith, nat_tests)

  pub scores_reply : 1 ≤ length s.model.criteria → missing s.model (option_places s.model) ≡ None → Answer s command.Scores r next
      → SaysScores s.model r
  scores_reply some none h = scores_mean s next holds r some (all_asked (option_places s.model) (checked_scores s.model) some none h)

  pub subtotals_reply : (name : List ℕ) (o : ℕ) → find_option s.model name ≡ Some o → 1 ≤ length s.model.criteria → missing s.model (o ∷ []) ≡ None
      → Answer s (command.Subtotals name) r next → SaysSubtotals s.model o r
  subtotals_reply name o found some none h =
      subtotals_mean s next holds r some o
      (all_asked (o ∷ []) (checked_subtotals s.model o) some none (subst (λ p. TellsSubtotals s p r next) found h))

-- ---- where no scale meets the judgements

-- the least scale meets them
consistent : (m : Judgements) (values : List Fraction) → AreLeast m values → ¬ IsInconsistent m
consistent m values least none =
    let pf : AreFractions values = reduced_are_fractions values least.reduced in
    none (common_nums values) (common_den values) (least.least (common_nums values) (common_den values) (common_writing values pf)).is_met

pub scale_exactly : (m : Judgements) (names : List (List ℕ)) (r : Reply) → SaysScale m names r
    → (IsToldInconsistent r → IsInconsistent m) × (IsInconsistent m → IsToldInconsistent r ⊎ (r ≡ refused TOO_WIDE))
scale_exactly m names r says = (there says, back says)
  where
    other : (values : List Fraction) (text on : CertText) → r ≡ reply.Scale names values text → r ≡ reply.Inconsistent on → ⊥
    other values text on e k = let no : reply.Scale names values text ≡ reply.Inconsistent on = sym e ∙ k in cc

    wide : (on : CertText) → r ≡ refused TOO_WIDE → r ≡ reply.Inconsistent on → ⊥
    wide on e k = let no : refused TOO_WIDE ≡ reply.Inconsistent on = sym e ∙ k in cc

    there : SaysScale m names r → IsToldInconsistent r → IsInconsistent m
    there (inl h) told = absurd (other h.0 h.1 told.0 h.2 told.1)
    there (inr (inl h)) told = h.2
    there (inr (inr h)) told = absurd (wide told.0 h told.1)

    back : SaysScale m names r → IsInconsistent m → IsToldInconsistent r ⊎ (r ≡ refused TOO_WIDE)
    back (inl h) none = absurd (consistent m h.0 h.3 none)
    back (inr (inl h)) none = inl (h.0, h.1)
    back (inr (inr h)) none = inr h

-- ---- an undo behind an accepted edit

-- the answer to an accepted edit is a change of the model
edit_changes : (s mid : SessionState) (after : Result ModelState EditFault) → AnswersEdited s after reply.Ok mid → (m : ModelState) × (mid ≡ changed s m)
edit_changes s mid (Ok m) h = (m, h.1)
edit_changes s mid (Err fault) h = let no : reply.Ok ≡ refused (number_of fault) = h.0 in absurd (cc)

-- an undo of it
undo_goes_back : (s next : SessionState) (m : ModelState) (r : Reply) → AnswersUndone (changed s m) (undone (changed s m)) r next
    → (r ≡ reply.Ok) × (next.model ≡ s.model) × (length s.history < UNDO_STEPS → next.history ≡ s.history)
undo_goes_back s next m r h =
    let u = undone_of_changed s m in
    let k : AnswersUndone (changed s m) (Some u.0) r next = subst (λ o. AnswersUndone (changed s m) o r next) u.1 h in
    (k.0, ap (λ (t : SessionState). t.model) k.1 ∙ u.2, λ room. ap (λ (t : SessionState). t.history) k.1 ∙ u.3 room)

pub edit_undone : (s mid next : SessionState) (c : Command) (edit : Edit) (r : Reply) → edit_of c ≡ Some edit → is_done_later c ≡ false
    → Answer s c reply.Ok mid → Answer mid command.Undo r next
    → (r ≡ reply.Ok) × (next.model ≡ s.model) × (length s.history < UNDO_STEPS → next.history ≡ s.history)
edit_undone s mid next c edit r is now answered undone_so =
    let of_edit : AnswersBy (edit_of c) s c reply.Ok mid =
    subst (λ b. MatchBool b (Refuses s UNKNOWN_COMMAND reply.Ok mid) (AnswersBy (edit_of c) s c reply.Ok mid)) now answered in
    let by_edit : AnswersBy (Some edit) s c reply.Ok mid = subst (λ o. AnswersBy o s c reply.Ok mid) is of_edit in
    let change = edit_changes s mid (edited s.model edit) by_edit in
    undo_goes_back s next change.0 r (subst (λ t. AnswersUndone t (undone t) r next) change.1 undone_so)
