-- The refusal that is due is the one that is given: by each command.
use Rattle.std.proofs.Common.{◌≡◌, ℕ, suc, ◌∷◌, Bool, true, false, List, [], length, Option, Some, None, Result, Ok, Err, MatchBool, is_some, is_none, nat_lt, refl, sym, subst, ◌∙◌, arith, cond}
use Rattle.std.specs.Prelude.{MatchOption, unwrap_or, Contains}
use Rattle.std.specs.List.{zip}
use Rattle.std.specs.Option.{option_map}
use Rattle.integers.specs.Fraction.{Fraction}
use Rattle.frac128.specs.Chain.{◌>>=◌}
use Rattle.frac128.specs.declared.number.TooWide.{TooWide}
use Rattle.judgement_matrix.specs.declared.tag.Fit.{Fit}
use Rattle.judgement_matrix.specs.declared.tag.Fit.TheVariants as fit
use Rattle.cert_check.specs.declared.verdict.Verdict.{Verdict}
use Rattle.cert_check.specs.declared.verdict.Verdict.TheVariants as verdict
use Rattle.value_scale.specs.Anchor.{checked_anchor}
use Rattle.value_scale.specs.Narrowing.{checked_slack}
use Rattle.value_scale.specs.declared.slacks.Interval.{Interval}
use Rattle.value_scale.specs.declared.basic.Basic.{Basic}
use Rattle.value_scale.specs.declared.basic.Basic.TheVariants as basic
use Rattle.swing_weights.specs.Weights.{checked_weights}
use Rattle.model_core.specs.State.{ModelState}
use Rattle.model_core.specs.Finding.{criterion_at}
use Rattle.model_core.specs.declared.edit.EditFault.{EditFault}
use Rattle.command_read.specs.declared.block.Held.{Held}
use Rattle.command_read.specs.declared.block.Held.TheVariants as held
use Rattle.report_text.specs.declared.reply.Detail.{Detail}
use Rattle.report_text.specs.declared.reply.Detail.TheVariants as detail
use Rattle.report_text.specs.declared.reply.Reply.{Reply}
use Rattle.report_text.specs.declared.reply.Reply.TheVariants as reply
use Rattle.session_state.specs.State.{ResultsState, SessionState, matrix_of}
use Rattle.session_state.specs.declared.subject.Subject.{Subject}
use Rattle.session_state.specs.declared.subject.Subject.TheVariants.{Criterion, Weighting}
use Rattle.session_edits.specs.Refusals.{refused, number_of, or_refused, or_too_wide}
use Rattle.session_edits.specs.Subjects.{weighting_of, all_subjects}
use Rattle.session_edits.specs.Edits.{Shows, Refuses, OfBlock, AnswersEdited}
use Rattle.session_edits.specs.Matrices.{fit_reply, verdict_reply}
use Rattle.session_edits.specs.Scales.{Asks, told, worth_of, worth_of_basic, worth_of_values, worth_reply, values_of, checked_worth, checked_room}
use Rattle.session_edits.specs.Scores.{with_worth, group_names, each_score, checked_parts, score_of, TakesAll, TakesBehind, AsksAll, WherePerformed, WhereWeighed, missing, checked_scores, checked_subtotals}
use Rattle.session_edits.specs.Answer.{Of}
use Rattle.session_edits.specs.declared.question.Question.{Question}
use Rattle.session_edits.specs.declared.question.Question.TheVariants as question
use Rattle.session_edits.specs.declared.refusal.TheConstants.{UNKNOWN_CRITERION, PERFORMANCE_MISSING, BLOCK_CUT, BLOCK_TOO_LARGE, INCONSISTENT, FLAT, TOO_WIDE}
use Rattle.session_edits.specs.Due.{Cause, first_due, of_block, IsRefusedBy, IsInOrder}
use Rattle.session_edits.proofs.DueLemmas.{Agrees}

-- ---- which refusals a reply may be

-- where the reply is a refusal, its number is one of these
abbrev pub IsAmong : List ℕ → Reply → Type 0
IsAmong later r = (number : ℕ) → IsRefusedBy number r → Contains later number

pub first_of : (x : ℕ) (xs : List ℕ) → Contains (x ∷ xs) x
first_of x xs = (0, omega arith, refl)

pub next_of : (x y : ℕ) (xs : List ℕ) → Contains xs x → Contains (y ∷ xs) x
next_of x y xs h = (suc h.0, omega (arith, h.1), h.2)

same_number : (n k : ℕ) (d e : Detail) → reply.Refused n d ≡ reply.Refused k e → n ≡ k
same_number n k d e h = cc

-- a refusal of such a number
pub among : (later : List ℕ) (n : ℕ) (d : Detail) (r : Reply) → r ≡ reply.Refused n d → Contains later n → IsAmong later r
among later n d r is h number by = subst (Contains later) (same_number n number d by.0 (sym is ∙ by.1)) h

-- a reply that is no refusal
pub other : (later : List ℕ) (want r : Reply) → r ≡ want → ((number : ℕ) (detail : Detail) → want ≡ reply.Refused number detail → ⊥) → IsAmong later r
other later want r is never number by = absurd (never number by.0 (sym is ∙ by.1))

-- the refusal that is due
pub now : (later : List ℕ) (n : ℕ) (d : Detail) (r : Reply) → r ≡ reply.Refused n d → IsInOrder (Some n) later r
now later n d r is = record {
  first = λ number due. let same : n ≡ number = cc in (d, subst (λ k. r ≡ reply.Refused k d) same is);
  others = λ none. absurd (cc);
}

-- none is due
pub free : (later : List ℕ) (r : Reply) → IsAmong later r → IsInOrder None later r
free later r h = record { first = λ number due. absurd (cc); others = λ none. h }

-- ---- what stops

abbrev StopsAmong : {A : Type 0} → List ℕ → Result A Reply → Type 0
StopsAmong later (Ok a) = Unit {0}
StopsAmong later (Err r) = IsAmong later r

wide : {A : Type 0} (later : List ℕ) (x : Result A TooWide) → Contains later TOO_WIDE → StopsAmong later (or_too_wide x)
wide later (Ok a) h = tt
wide later (Err e) h = among later TOO_WIDE detail.None (refused TOO_WIDE) refl h

step : {A B : Type 0} (later : List ℕ) (x : Result A Reply) (f : A → Result B Reply) → StopsAmong later x → ((a : A) → StopsAmong later (f a))
    → StopsAmong later (x >>= f)
step later (Ok a) f h k = k a
step later (Err r) f h k = h

-- a reply that is worked, or the refusal that stops it
abbrev EndsAmong : List ℕ → Result Reply Reply → Type 0
EndsAmong later x = IsAmong later (or_refused x)

ends : {A : Type 0} (later : List ℕ) (x : Result A Reply) (f : A → Result Reply Reply) → StopsAmong later x → ((a : A) → EndsAmong later (f a))
    → EndsAmong later (x >>= f)
ends later (Ok a) f h k = k a
ends later (Err r) f h k = h

-- ---- what is worked from a scale

module _ (later : List ℕ) (too_wide : Contains later TOO_WIDE) where
  pub fits : (names : List (List ℕ)) (answer : Result Fit TooWide) → IsAmong later (fit_reply names answer)
  fits names (Ok fit.Meets) = other later reply.Meets _ refl (λ n d e. cc)
  fits names (Ok (fit.Fails tag)) = other later (reply.Fails names tag) _ refl (λ n d e. cc)
  fits names (Err e) = among later TOO_WIDE detail.None (refused TOO_WIDE) refl too_wide

  pub verdicts : (answer : Result Verdict TooWide) → IsAmong later (verdict_reply answer)
  verdicts (Ok verdict.Holds) = other later reply.Holds _ refl (λ n d e. cc)
  verdicts (Ok (verdict.Fails place)) = other later (reply.FailsAt place) _ refl (λ n d e. cc)
  verdicts (Err e) = among later TOO_WIDE detail.None (refused TOO_WIDE) refl too_wide

  pub scale_told : (m : ModelState) (subject : Subject) (b : Basic) → IsAmong later (told m subject question.Scale b)
  scale_told m subject (basic.Scale values cert) = other later _ _ refl (λ n d e. cc)
  scale_told m subject (basic.Inconsistent cert) = other later _ _ refl (λ n d e. cc)

  pub cert_told : (m : ModelState) (subject : Subject) (b : Basic) → IsAmong later (told m subject question.Cert b)
  cert_told m subject b = other later _ _ refl (λ n d e. cc)

  module _ (without : Contains later INCONSISTENT) where
    values_stop : (m : ModelState) (subject : Subject) (b : Basic) → StopsAmong later (values_of m subject b)
    values_stop m subject (basic.Scale values cert) = tt
    values_stop m subject (basic.Inconsistent cert) = among later INCONSISTENT _ _ refl without

    pub room_ends : (m : ModelState) (subject : Subject) (element : ℕ) (b : Basic) → EndsAmong later (checked_room m subject element b)
    room_ends m subject element b =
        ends later (values_of m subject b) (λ values. or_too_wide (checked_slack (matrix_of m subject) values element) >>= λ interval. Ok (reply.Slack interval.low interval.high)) (values_stop m subject b)
        (λ values. room_stops (checked_slack (matrix_of m subject) values element))
      where
        room_stops : (room : Result Interval TooWide) → EndsAmong later (or_too_wide room >>= λ interval. Ok (reply.Slack interval.low interval.high))
        room_stops (Ok interval) = other later (reply.Slack interval.low interval.high) _ refl (λ n d e. cc)
        room_stops (Err e) = among later TOO_WIDE detail.None (refused TOO_WIDE) refl too_wide

    module _ (flat : Contains later FLAT) where
      worth_of_values_stops : (m : ModelState) (subject : Subject) (values : List Fraction) → StopsAmong later (worth_of_values m subject values)
      worth_of_values_stops m (Criterion c) values = by_flat _
        where
          by_flat : (b : Bool) → StopsAmong later (cond b (Err (reply.Refused FLAT (detail.Place (criterion_at m c).name))) (or_too_wide (checked_anchor values (criterion_at m c).good (criterion_at m c).neutral)))
          by_flat true = among later FLAT _ _ refl flat
          by_flat false = wide later _ too_wide
      worth_of_values_stops m Weighting values = by_flat _
        where
          by_flat : (b : Bool) → StopsAmong later (cond b (Err (reply.Refused FLAT detail.Weighting)) (or_too_wide (checked_weights values)))
          by_flat true = among later FLAT _ _ refl flat
          by_flat false = wide later _ too_wide

      worth_of_basic_stops : (m : ModelState) (subject : Subject) (b : Basic) → StopsAmong later (worth_of_basic m subject b)
      worth_of_basic_stops m subject b = step later (values_of m subject b) _ (values_stop m subject b) (worth_of_values_stops m subject)

      worth_stops : (m : ModelState) (subject : Subject) (answer : Result Basic TooWide) → StopsAmong later (worth_of m subject answer)
      worth_stops m subject answer = step later (or_too_wide answer) _ (wide later answer too_wide) (worth_of_basic_stops m subject)

      worth_shown : (m : ModelState) (subject : Subject) (worth : List Fraction) → IsAmong later (worth_reply m subject worth)
      worth_shown m (Criterion c) worth = other later _ _ refl (λ n d e. cc)
      worth_shown m Weighting worth = other later _ _ refl (λ n d e. cc)

      pub worth_ends : (m : ModelState) (subject : Subject) (b : Basic) → EndsAmong later (checked_worth m subject b)
      worth_ends m subject b = ends later (worth_of_basic m subject b) _ (worth_of_basic_stops m subject b) (worth_shown m subject)

      -- the worths of all, up to the first that stops
      all_stop : (m : ModelState) (subjects : List Subject) (results : ResultsState) (worths : Result (List (List Fraction)) Reply) (after : ResultsState)
          → TakesAll m subjects results worths after → StopsAmong later worths
      all_stop m [] results worths after h = subst (StopsAmong later) (sym h.0) tt
      all_stop m (subject ∷ subjects) results worths after h =
          by_worth (all_stop m subjects) (worth_of m subject h.0) (worth_stops m subject h.0) h.3
        where
          by_others : (worth : List Fraction) (others : Result (List (List Fraction)) Reply) → StopsAmong later others
              → worths ≡ with_worth (Ok worth) others → StopsAmong later worths
          by_others worth (Ok rest) k e = subst (StopsAmong later) (sym e) tt
          by_others worth (Err r) k e = subst (StopsAmong later) (sym e) k

          by_worth : ((results : ResultsState) (worths : Result (List (List Fraction)) Reply) (after : ResultsState)
              → TakesAll m subjects results worths after → StopsAmong later worths)
              → (worth : Result (List Fraction) Reply) → StopsAmong later worth → TakesBehind (TakesAll m subjects) worth h.1 worths after
              → StopsAmong later worths
          by_worth others_stop (Ok worth) stops taken = by_others worth taken.0 (others_stop h.1 taken.0 after taken.1) taken.2
          by_worth others_stop (Err r) stops taken = subst (StopsAmong later) (sym taken.0) stops

      pub scores_end : (m : ModelState) (worths : List (List Fraction)) → EndsAmong later (checked_scores m worths)
      scores_end m worths =
          ends later (or_too_wide (each_score m worths)) (λ scores. Ok (reply.Scores m.options scores)) (wide later (each_score m worths) too_wide)
          (λ scores. other later (reply.Scores m.options scores) _ refl (λ n d e. cc))

      pub subtotals_end : (m : ModelState) (o : ℕ) (worths : List (List Fraction)) → EndsAmong later (checked_subtotals m o worths)
      subtotals_end m o worths =
          ends later (or_too_wide (checked_parts m worths o)) (λ parts. or_too_wide (score_of m worths o) >>= λ total. Ok (reply.Subtotals (zip (group_names m) parts) total))
          (wide later (checked_parts m worths o) too_wide) (λ parts.
          ends later (or_too_wide (score_of m worths o)) (λ total. Ok (reply.Subtotals (zip (group_names m) parts) total)) (wide later (score_of m worths o) too_wide) (λ total.
          other later (reply.Subtotals (zip (group_names m) parts) total) _ refl (λ n d e. cc)))

      -- where each option performs on each criterion
      pub summed : (s next : SessionState) (r : Reply) (os : List ℕ) (make : List (List Fraction) → Result Reply Reply)
          → ((worths : List (List Fraction)) → EndsAmong later (make worths)) → WhereWeighed s os make r next
          → IsInOrder (first_due ((is_none (weighting_of s.model), UNKNOWN_CRITERION) ∷ (is_some (missing s.model os), PERFORMANCE_MISSING) ∷ [])) later r
      summed s next r os make so = by_criteria (nat_lt 0 (length s.model.criteria))
        where
          by_missing : (o : Option Detail)
              → MatchOption o (AsksAll s make r next) (λ detail. Shows s (reply.Refused PERFORMANCE_MISSING detail) r next)
              → IsInOrder (first_due ((is_some o, PERFORMANCE_MISSING) ∷ [])) later r
          by_missing None h =
              free later r (subst (IsAmong later) (sym h.1.2)
              (ends later h.1.0 make (all_stop s.model (all_subjects s.model) s.results h.1.0 h.0 h.1.1) so))
          by_missing (Some detail) h = now later PERFORMANCE_MISSING detail r h.0

          by_criteria : (b : Bool) → MatchBool b (WherePerformed s os make r next) (Refuses s UNKNOWN_CRITERION r next)
              → IsInOrder (first_due ((is_none (cond b (Some Weighting) None), UNKNOWN_CRITERION) ∷ (is_some (missing s.model os), PERFORMANCE_MISSING) ∷ []))
              later r
          by_criteria true h = by_missing (missing s.model os) h
          by_criteria false h = now later UNKNOWN_CRITERION detail.None r h.0

-- ---- questions

module _ (s next : SessionState) (r : Reply) (later : List ℕ) where
  -- a question about a matrix that is there
  pub asks : (q : Question) (subject : Subject) → Contains later TOO_WIDE → ((b : Basic) → IsAmong later (told s.model subject q b)) → Asks s q subject r next
      → IsAmong later r
  asks q subject too_wide so h = subst (IsAmong later) (sym h.1.2) (ends later (or_too_wide h.1.0) _ (wide later h.1.0 too_wide) so)

  pub of_subject : (o : Option Subject) (Query : Subject → Reply → SessionState → Type 0) (rest : Subject → List Cause)
      → ((subject : Subject) → o ≡ Some subject → Query subject r next → IsInOrder (first_due (rest subject)) later r) → Of s o Query r next
      → IsInOrder (first_due ((is_none o, UNKNOWN_CRITERION) ∷ rest (unwrap_or o Weighting))) later r
  of_subject None Query rest k h = now later UNKNOWN_CRITERION detail.None r h.0
  of_subject (Some subject) Query rest k h = k subject refl h

  pub of_criterion : (o : Option ℕ) (Query : Subject → Reply → SessionState → Type 0) (rest : ℕ → List Cause)
      → ((c : ℕ) → Query (Criterion c) r next → IsInOrder (first_due (rest c)) later r) → Of s (option_map Criterion o) Query r next
      → IsInOrder (first_due ((is_none o, UNKNOWN_CRITERION) ∷ rest (unwrap_or o 0))) later r
  of_criterion None Query rest k h = now later UNKNOWN_CRITERION detail.None r h.0
  of_criterion (Some c) Query rest k h = k c h

  -- a reply that is no refusal
  pub shows : (want : Reply) → ((number : ℕ) (detail : Detail) → want ≡ reply.Refused number detail → ⊥) → Shows s want r next → IsInOrder None later r
  shows want never h = free later r (other later want r h.0 never)

  pub edits : (list : List Cause) (after : Result ModelState EditFault) → Agrees list after → AnswersEdited s after r next
      → IsInOrder (first_due list) later r
  edits list (Ok m) agrees h = subst (λ d. IsInOrder d later r) (sym agrees) (free later r (other later reply.Ok r h.0 (λ n d e. cc)))
  edits list (Err fault) agrees h = subst (λ d. IsInOrder d later r) (sym agrees) (now later (number_of fault) detail.None r h.0)

  pub blocks : (block : Held) (Reads : List ℕ → Reply → SessionState → Type 0) → ((bytes : List ℕ) → Reads bytes r next → IsAmong later r)
      → OfBlock s block Reads r next → IsInOrder (first_due (of_block block)) later r
  blocks (held.Whole bytes) Reads k h = free later r (k bytes h)
  blocks held.Cut Reads k h = now later BLOCK_CUT detail.None r h.0
  blocks held.Large Reads k h = now later BLOCK_TOO_LARGE detail.None r h.0
