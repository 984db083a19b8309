-- What replies say, from the formulas that they are worked by.
use Rattle.std.proofs.Common.{◌≡◌, ◌⊎◌, inl, inr, ℕ, ◌+◌, ◌<◌, ◌≤◌, pos, Bool, true, false, cond, List, [], ◌∷◌, map, length, get_or, All, Option, Some, None, Result, Ok, Err, refl, sym, subst, arith}
use Rattle.std.specs.List.{range_with_len, zip, list_all, AllByRecursion}
use Rattle.std.specs.Option.{option_map_or}
use Rattle.std.specs.Ordering.{int_eq}
use Rattle.std.proofs.lemmas.Bool.Decides.{Decides-int_eq}
use Rattle.std.proofs.lemmas.List.Elements.{All-nil, All-cons}
use Rattle.integers.specs.Fraction.{Fraction, IsFraction, AreFractions, fraction_of}
use Rattle.integers.proofs.FractionSums.{IsFraction-whole}
use Rattle.frac128.specs.declared.number.TooWide.{TooWide}
use Rattle.judgement_matrix.specs.Matrix.{Judgements, IsMatrix}
use Rattle.judgement_matrix.specs.Values.{fraction_at}
use Rattle.value_scale.specs.Anchor.{checked_anchor, IsFlat}
use Rattle.frac128.specs.Problem.{IsSpanCertificate, IsFarkasCertificate}
use Rattle.frac128.specs.declared.problem.Cert.{Cert}
use Rattle.lp_macbeth.specs.Rows.{problem_of}
use Rattle.cert_check.specs.declared.text.Claim.TheVariants.{Least, Nothing}
use Rattle.value_scale.specs.Basic.{IsBasic, span}
use Rattle.value_scale.specs.Narrowing.{checked_slack}
use Rattle.value_scale.specs.declared.basic.Basic.{Basic}
use Rattle.value_scale.specs.declared.basic.Basic.TheVariants.{Scale, Inconsistent}
use Rattle.value_scale.specs.declared.slacks.Interval.{Interval}
use Rattle.value_scale.proofs.MetLemmas.{values_each, met_never_rise, last_is_zero, least_meet}
use Rattle.frac128.proofs.ReducedLemmas.{reduced_are_fractions}
use Rattle.value_scale.proofs.AnchorLemmas.{checked_anchor-means, checked_anchor-reduced}
use Rattle.value_scale.proofs.SlackLemmas.{checked_slack-means, checked_slack-low}
use Rattle.swing_weights.specs.Weights.{checked_weights, AreFalling, AreAllZero}
use Rattle.swing_weights.proofs.WeightLemmas.{checked_weights-means, checked_weights-reduced}
use Rattle.swing_weights.proofs.ScoreLemmas.{checked_score-means, checked_score-fraction}
use Rattle.model_core.specs.State.{ModelState, CriterionState}
use Rattle.model_core.specs.Finding.{criterion_at, place_in}
use Rattle.model_core.specs.Whole.{IsWholeModel, IsWholeCriterion}
use Rattle.model_core.proofs.WholeEdits.{whole_at}
use Rattle.report_text.specs.declared.reply.Detail.{Detail}
use Rattle.report_text.specs.declared.reply.Detail.TheVariants as detail
use Rattle.report_text.specs.declared.reply.Reply.{Reply}
use Rattle.report_text.specs.declared.reply.Reply.TheVariants as reply
use Rattle.session_state.specs.State.{ResultsState, SessionState, IsSession, AreResults, matrix_of}
use Rattle.session_state.specs.Taking.{IsSubject, Takes}
use Rattle.session_state.specs.declared.subject.Subject.{Subject}
use Rattle.session_state.specs.declared.subject.Subject.TheVariants.{Criterion, Weighting}
use Rattle.session_state.proofs.SessionLemmas.{taken_is_basic, AreResults-taken, subject_matrix}
use Rattle.session_edits.specs.Refusals.{refused, or_too_wide, or_refused, ◌>>=◌}
use Rattle.session_edits.specs.Subjects.{names_of, places, all_subjects}
use Rattle.session_edits.specs.Scales.{named, is_same_value, anchored_of, weights_of, worth_of_values, worth_of_basic, worth_of, worth_reply, checked_room, told, AsksFrom, Asks}
use Rattle.session_edits.specs.Scores.{with_worth, TakesAll, TakesBehind, AsksAll, AsksAllFrom, anchored_at, weight_at, value_at, partial_score, score_of, option_places, each_score, checked_scores, checked_parts, checked_subtotals, criteria_under, group_names, performance}
use Rattle.session_edits.specs.Meaning.{AreLeast, ProvesSpan, Refutes, SaysScale, SaysCert, IsWorth, HasNoWorth, SaysAnchored, SaysWeights, SaysSlack, AreWorths, IsSumOver, HasNoScore, SaysScores, SaysSubtotals}
use Rattle.session_edits.proofs.SubjectLemmas.{all_are_subjects}
use Rattle.session_edits.proofs.SumLemmas.{read_fraction, read_worth, each_worked}
use Rattle.session_edits.proofs.WorthLemmas.{all_zero, are_zero}
use Rattle.session_edits.specs.declared.question.Question.{Question}
use Rattle.session_edits.specs.declared.question.Question.TheVariants as question
use Rattle.session_edits.specs.declared.refusal.TheConstants.{INCONSISTENT, FLAT, TOO_WIDE}

-- ---- what a question is answered from

-- the reply is that of a basic scale of the matrix, or something was too wide
asked_of_basic : (m : ModelState) (question : Question) (subject : Subject) (results after : ResultsState) (r : Reply) → AreResults m results
    → AsksFrom m question subject results r after
    → (r ≡ refused TOO_WIDE) ⊎ ((basic : Basic) × IsBasic (matrix_of m subject) basic × (r ≡ told m subject question basic))
asked_of_basic m question subject results after r are (answer, takes, replied) = by_answer answer takes replied
  where
    by_answer : (answer : Result Basic TooWide) → Takes m subject results answer after
        → r ≡ or_refused (or_too_wide answer >>= λ basic. Ok (told m subject question basic))
        → (r ≡ refused TOO_WIDE) ⊎ ((basic : Basic) × IsBasic (matrix_of m subject) basic × (r ≡ told m subject question basic))
    by_answer (Ok basic) takes replied = inr (basic, taken_is_basic m subject results after basic are takes, replied)
    by_answer (Err wide) takes replied = inl replied

-- ---- scales and certificates

-- the certificates by the tags of their rows
span_proved : (m : Judgements) (values : List Fraction) (cert : Cert) → IsSpanCertificate (problem_of m) cert (span values)
    → ProvesSpan m values (named m (Least (span values)) cert)
span_proved m values cert is = (cert, is, refl)

refuted : (m : Judgements) (cert : Cert) → IsFarkasCertificate (problem_of m) cert → Refutes m (named m Nothing cert)
refuted m cert is = (cert, is, refl)

scale_told : (m : ModelState) (subject : Subject) (basic : Basic) → IsBasic (matrix_of m subject) basic
    → SaysScale (matrix_of m subject) (names_of m subject) (told m subject question.Scale basic)
scale_told m subject (Scale values cert) is =
    inl (
      values,
      named (matrix_of m subject) (Least (span values)) cert,
      refl,
      record { reduced = is.reduced; least = is.least },
      span_proved (matrix_of m subject) values cert is.proof,
    )
scale_told m subject (Inconsistent cert) is =
    inr (inl (named (matrix_of m subject) Nothing cert, refl, is.none, refuted (matrix_of m subject) cert is.proof))

cert_told : (m : ModelState) (subject : Subject) (basic : Basic) → IsBasic (matrix_of m subject) basic
    → SaysCert (matrix_of m subject) (told m subject question.Cert basic)
cert_told m subject (Scale values cert) is =
    inl (
      values,
      named (matrix_of m subject) (Least (span values)) cert,
      refl,
      record { reduced = is.reduced; least = is.least },
      span_proved (matrix_of m subject) values cert is.proof,
    )
cert_told m subject (Inconsistent cert) is =
    inr (inl (named (matrix_of m subject) Nothing cert, refl, is.none, refuted (matrix_of m subject) cert is.proof))

module _ (s next : SessionState) (holds : IsSession s) (subject : Subject) (r : Reply) where
  pub scale_says : Asks s question.Scale subject r next → SaysScale (matrix_of s.model subject) (names_of s.model subject) r
  scale_says h =
      elim (asked_of_basic s.model question.Scale subject s.results h.0 r holds.keeps.results_are h.1) [
        | inl wide ↦ inr (inr wide)
        | inr b ↦ subst (SaysScale (matrix_of s.model subject) (names_of s.model subject)) (sym b.2) (scale_told s.model subject b.0 b.1)
      ]

  pub cert_says : Asks s question.Cert subject r next → SaysCert (matrix_of s.model subject) r
  cert_says h =
      elim (asked_of_basic s.model question.Cert subject s.results h.0 r holds.keeps.results_are h.1) [
        | inl wide ↦ inr (inr wide)
        | inr b ↦ subst (SaysCert (matrix_of s.model subject)) (sym b.2) (cert_told s.model subject b.0 b.1)
      ]

-- ---- worths

-- the values of the least scale of a matrix
module _ (m : Judgements) (is : IsMatrix m) (two : 2 ≤ m.size) (values : List Fraction) (least : AreLeast m values) where
  fractions : AreFractions values
  fractions = reduced_are_fractions values least.reduced

  each : length values ≡ m.size
  each = values_each m values fractions (least_meet m values least.least)

  falling : AreFalling values
  falling =
      let last : (fraction_at values m.size).num ≡ pos 0 = last_is_zero m values is.least fractions (least_meet m values least.least) in
      record {
        some = subst (λ n. 2 ≤ n) (sym each) two;
        falling = met_never_rise m values fractions (least_meet m values least.least);
        ends = subst (λ n. (fraction_at values n).num ≡ pos 0) (sym each) last;
      }

-- a refusal whose number has P
abbrev IsWhy : (ℕ → Type 0) → Reply → Type 0
IsWhy P refusal = (number : ℕ) × (detail : Detail) × (refusal ≡ reply.Refused number detail) × P number

-- a worth or why there is none
abbrev SaysWorth : ModelState → Subject → Result (List Fraction) Reply → Type 0
SaysWorth m subject (Ok worth) = IsWorth m subject worth
SaysWorth m subject (Err refusal) = IsWhy (HasNoWorth m subject) refusal

too_wide_says : (m : ModelState) (subject : Subject) → SaysWorth m subject (Err (refused TOO_WIDE))
too_wide_says m subject = (TOO_WIDE, detail.None, refl, inr (inr refl))

-- what a formula gives where the scale isn't flat
formula_says : (m : ModelState) (subject : Subject) (worked : Result (List Fraction) TooWide) → ((worth : List Fraction) → worked ≡ Ok worth → IsWorth m subject worth)
    → SaysWorth m subject (or_too_wide worked)
formula_says m subject (Ok worth) h = h worth refl
formula_says m subject (Err wide) h = too_wide_says m subject

not_true : (b : Bool) → b ≡ false → b ≡ true → ⊥
not_true true h k = cc
not_true false h k = cc

-- the anchored scale of a criterion
module _ (m : ModelState) (c : ℕ) (is : IsWholeCriterion (criterion_at m c)) (values : List Fraction) (least : AreLeast (criterion_at m c).matrix values) where
  abbrev k : CriterionState
  k = criterion_at m c

  several : 2 ≤ (criterion_at m c).matrix.size
  several =
      let size : (criterion_at m c).matrix.size ≡ length (criterion_at m c).elements = is.keeps.size in
      let some : 2 ≤ length (criterion_at m c).elements = is.keeps.least in
      omega (arith, size, some)

  of_anchor : ¬ IsFlat values (criterion_at m c).good (criterion_at m c).neutral → (worth : List Fraction)
      → checked_anchor values (criterion_at m c).good (criterion_at m c).neutral ≡ Ok worth → IsWorth m (Criterion c) worth
  of_anchor apart worth worked =
      let pf = fractions k.matrix is.matrix several values least in
      let size : length values ≡ (criterion_at m c).matrix.size = each k.matrix is.matrix several values least in
      let own : (criterion_at m c).matrix.size ≡ length (criterion_at m c).elements = is.keeps.size in
      let last : (criterion_at m c).neutral ≤ length (criterion_at m c).elements = is.keeps.neutral_is in
      let within : (criterion_at m c).neutral ≤ length values = omega (arith, size, own, last) in
      let falls = (falling k.matrix is.matrix several values least).falling in
      record {
        reduced = checked_anchor-reduced values k.good k.neutral worth pf (is.keeps.good_is, is.keeps.above, within) apart worked;
        values = values;
        least = least;
        by_values = checked_anchor-means values k.good k.neutral worth pf (is.keeps.good_is, is.keeps.above, within) falls apart worked;
      }

  anchored_by : (b : Bool) → is_same_value (fraction_at values (criterion_at m c).good) (fraction_at values (criterion_at m c).neutral) ≡ b
      → SaysWorth m (Criterion c) (cond b (Err (reply.Refused FLAT (detail.Place (criterion_at m c).name)))
      (or_too_wide (checked_anchor values (criterion_at m c).good (criterion_at m c).neutral)))
  anchored_by true flat = (FLAT, detail.Place (criterion_at m c).name, refl, inr (inl (refl, (values, least, (Decides-int_eq _ _).0 flat))))
  anchored_by false apart =
      formula_says m (Criterion c) (checked_anchor values k.good k.neutral)
      (of_anchor (λ same. not_true (is_same_value (fraction_at values k.good) (fraction_at values k.neutral)) apart ((Decides-int_eq _ _).1 same)))

module _ (m : ModelState) (whole : IsWholeModel m) where
  anchored_says : (c : ℕ) → c < length m.criteria → (values : List Fraction) → AreLeast (criterion_at m c).matrix values
      → SaysWorth m (Criterion c) (anchored_of (criterion_at m c) values)
  anchored_says c there values least =
      anchored_by m c (whole_at m c whole there) values least
      (is_same_value (fraction_at values (criterion_at m c).good) (fraction_at values (criterion_at m c).neutral)) refl

  weights_say : 1 ≤ length m.criteria → (values : List Fraction) → AreLeast m.weighting values → SaysWorth m Weighting (weights_of values)
  weights_say some values least =
      by_test (list_all (λ (f : Fraction). int_eq f.num (pos 0)) values) refl
    where
      two : 2 ≤ m.weighting.size
      two = let size : m.weighting.size ≡ length m.criteria + 1 = whole.keeps.size in omega (arith, size, some)

      of_formula : ¬ AreAllZero values → (worth : List Fraction) → checked_weights values ≡ Ok worth → IsWorth m Weighting worth
      of_formula other worth worked =
          let pf = fractions m.weighting whole.weighting two values least in
          let falls = falling m.weighting whole.weighting two values least in
          record {
            reduced = checked_weights-reduced values worth pf falls other worked;
            values = values;
            least = least;
            by_values = checked_weights-means values worth pf falls other worked;
          }

      by_test : (b : Bool) → list_all (λ (f : Fraction). int_eq f.num (pos 0)) values ≡ b
          → SaysWorth m Weighting (cond b (Err (reply.Refused FLAT detail.Weighting)) (or_too_wide (checked_weights values)))
      by_test true flat = (FLAT, detail.Weighting, refl, inr (inl (refl, (values, least, all_zero values flat))))
      by_test false other =
          formula_says m Weighting (checked_weights values)
          (of_formula (λ zero. not_true (list_all (λ (f : Fraction). int_eq f.num (pos 0)) values) other (are_zero values zero)))

  values_say : (subject : Subject) → IsSubject m subject → (values : List Fraction) → AreLeast (matrix_of m subject) values
      → SaysWorth m subject (worth_of_values m subject values)
  values_say (Criterion c) there values least = anchored_says c there values least
  values_say Weighting some values least = weights_say some values least

  basic_says : (subject : Subject) → IsSubject m subject → (basic : Basic) → IsBasic (matrix_of m subject) basic
      → SaysWorth m subject (worth_of_basic m subject basic)
  basic_says subject there (Scale values cert) is = values_say subject there values (record { reduced = is.reduced; least = is.least })
  basic_says (Criterion c) there (Inconsistent cert) is = (INCONSISTENT, detail.Place (criterion_at m c).name, refl, inl (refl, is.none))
  basic_says Weighting there (Inconsistent cert) is = (INCONSISTENT, detail.Weighting, refl, inl (refl, is.none))

  -- what was taken
  taken_says : (subject : Subject) → IsSubject m subject → (results after : ResultsState) (answer : Result Basic TooWide) → AreResults m results
      → Takes m subject results answer after → SaysWorth m subject (worth_of m subject answer)
  taken_says subject there results after (Ok basic) are takes =
      basic_says subject there basic (taken_is_basic m subject results after basic are takes)
  taken_says subject there results after (Err wide) are takes = too_wide_says m subject

-- the replies that show a worth
anchored_reply : (m : ModelState) (c : ℕ) (worth : Result (List Fraction) Reply) → SaysWorth m (Criterion c) worth
    → SaysAnchored m c (or_refused (worth >>= λ w. Ok (worth_reply m (Criterion c) w)))
anchored_reply m c (Ok worth) h = (refl, h)
anchored_reply m c (Err refusal) h = subst (SaysAnchored m c) (sym h.2) h.3

weights_reply : (m : ModelState) (worth : Result (List Fraction) Reply) → SaysWorth m Weighting worth
    → SaysWeights m (or_refused (worth >>= λ w. Ok (worth_reply m Weighting w)))
weights_reply m (Ok worth) h = (refl, h)
weights_reply m (Err refusal) h = subst (SaysWeights m) (sym h.2) h.3

module _ (s next : SessionState) (holds : IsSession s) (r : Reply) where
  pub anchored_means : (c : ℕ) → c < length s.model.criteria → Asks s question.Worth (Criterion c) r next → SaysAnchored s.model c r
  anchored_means c there h =
      elim (asked_of_basic s.model question.Worth (Criterion c) s.results h.0 r holds.keeps.results_are h.1) [
        | inl wide ↦ subst (SaysAnchored s.model c) (sym wide) (inr (inr refl))
        | inr b ↦ subst (SaysAnchored s.model c) (sym b.2)
            (anchored_reply s.model c (worth_of_basic s.model (Criterion c) b.0) (basic_says s.model holds.model (Criterion c) there b.0 b.1))
      ]

  pub weights_mean : 1 ≤ length s.model.criteria → Asks s question.Worth Weighting r next → SaysWeights s.model r
  weights_mean some h =
      elim (asked_of_basic s.model question.Worth Weighting s.results h.0 r holds.keeps.results_are h.1) [
        | inl wide ↦ subst (SaysWeights s.model) (sym wide) (inr (inr refl))
        | inr b ↦ subst (SaysWeights s.model) (sym b.2)
            (weights_reply s.model (worth_of_basic s.model Weighting b.0) (basic_says s.model holds.model Weighting some b.0 b.1))
      ]

-- ---- slack

room_says : (m : ModelState) (subject : Subject) (element : ℕ) (basic : Basic) → IsMatrix (matrix_of m subject) → 1 ≤ element
    → element ≤ (matrix_of m subject).size → IsBasic (matrix_of m subject) basic
    → SaysSlack (matrix_of m subject) element (or_refused (checked_room m subject element basic))
room_says m subject element (Scale values cert) matrix least most is =
    by_interval (checked_slack (matrix_of m subject) values element) refl
  where
    pf : AreFractions values
    pf = reduced_are_fractions values is.reduced

    by_interval : (worked : Result Interval TooWide) → checked_slack (matrix_of m subject) values element ≡ worked
        → SaysSlack (matrix_of m subject) element (or_refused (or_too_wide worked >>= λ interval. Ok (reply.Slack interval.low interval.high)))
    by_interval (Ok interval) e = (
      values,
      record { reduced = is.reduced; least = is.least },
      checked_slack-low (matrix_of m subject) values element interval pf (least_meet (matrix_of m subject) values is.least) least most e,
      checked_slack-means (matrix_of m subject) values element interval pf (least_meet (matrix_of m subject) values is.least) least most e,
    )
    by_interval (Err wide) e = inr refl
room_says m (Criterion c) element (Inconsistent cert) matrix least most is = inl (refl, is.none)
room_says m Weighting element (Inconsistent cert) matrix least most is = inl (refl, is.none)

pub slack_means : (s next : SessionState) → IsSession s → (r : Reply) (subject : Subject) (element : ℕ) → IsSubject s.model subject → 1 ≤ element
    → element ≤ (matrix_of s.model subject).size → Asks s (question.Slack element) subject r next → SaysSlack (matrix_of s.model subject) element r
slack_means s next holds r subject element there least most h =
    elim (asked_of_basic s.model (question.Slack element) subject s.results h.0 r holds.keeps.results_are h.1) [
      | inl wide ↦ subst (SaysSlack (matrix_of s.model subject) element) (sym wide) (inr refl)
      | inr b ↦ subst (SaysSlack (matrix_of s.model subject) element) (sym b.2)
          (room_says s.model subject element b.0 (subject_matrix s.model subject holds.model there).0 least most b.1)
    ]

-- ---- scores

-- worths for all, or why there are not
abbrev SayWorths : ModelState → List Subject → Result (List (List Fraction)) Reply → Type 0
SayWorths m subjects (Ok worths) = AreWorths m subjects worths
SayWorths m subjects (Err refusal) = IsWhy (HasNoScore m) refusal

module _ (m : ModelState) (whole : IsWholeModel m) where
  stopped : (subject : Subject) → IsSubject m subject → (subjects : List Subject) (refusal : Reply) → SaysWorth m subject (Err refusal)
      → SayWorths m subjects (Err refusal)
  stopped subject there subjects refusal h = (h.0, h.1, h.2, (subject, there, h.3))

  one_more : (subject : Subject) (subjects : List Subject) (worth : List Fraction) (others : Result (List (List Fraction)) Reply) → IsWorth m subject worth
      → SayWorths m subjects others → SayWorths m (subject ∷ subjects) (with_worth (Ok worth) others)
  one_more subject subjects worth (Ok worths) is h = (is, h)
  one_more subject subjects worth (Err refusal) is h = h

  all_say : (subjects : List Subject) → AllByRecursion (IsSubject m) subjects → (results after : ResultsState) (worths : Result (List (List Fraction)) Reply)
      → AreResults m results → TakesAll m subjects results worths after → SayWorths m subjects worths
  all_say [] there results after worths are h = subst (SayWorths m []) (sym h.0) tt
  all_say (subject ∷ subjects) there results after worths are h =
      behind h.1 (λ others k. all_say subjects there.1 h.1 after others (AreResults-taken m subject results h.1 h.0 are h.2) k)
      (worth_of m subject h.0) (taken_says m whole subject there.0 results h.1 h.0 are h.2) h.3
    where
      behind : (mid : ResultsState)
          → ((others : Result (List (List Fraction)) Reply) → TakesAll m subjects mid others after → SayWorths m subjects others)
          → (worth : Result (List Fraction) Reply) → SaysWorth m subject worth → TakesBehind (TakesAll m subjects) worth mid worths after
          → SayWorths m (subject ∷ subjects) worths
      behind mid further (Ok w) is k = subst (SayWorths m (subject ∷ subjects)) (sym k.2) (one_more subject subjects w k.0 is (further k.0 k.1))
      behind mid further (Err refusal) is k =
          subst (SayWorths m (subject ∷ subjects)) (sym k.0) (stopped subject there.0 (subject ∷ subjects) refusal is)

-- each item of a worth is a fraction
worth_fractions : (m : ModelState) (subject : Subject) (worth : List Fraction) → IsWorth m subject worth → AreFractions worth
worth_fractions m subject worth is = reduced_are_fractions worth is.reduced

worths_fractions : (m : ModelState) (subjects : List Subject) (worths : List (List Fraction)) → AreWorths m subjects worths → All AreFractions worths
worths_fractions m [] [] h = All-nil AreFractions
worths_fractions m [] (w ∷ ws) h = absurd h
worths_fractions m (subject ∷ subjects) [] h = absurd h
worths_fractions m (subject ∷ subjects) (w ∷ ws) h =
    All-cons AreFractions w ws (worth_fractions m subject w h.0) (worths_fractions m subjects ws h.1)

-- ---- sums over criteria

module _ (m : ModelState) (worths : List (List Fraction)) (are : All AreFractions worths) where
  weights_fractions : (cs : List ℕ) → AreFractions (map (weight_at m worths) cs)
  weights_fractions [] = All-nil IsFraction
  weights_fractions (c ∷ cs) =
      All-cons IsFraction (weight_at m worths c) (map (weight_at m worths) cs)
      (read_fraction (get_or worths (length m.criteria) []) (read_worth worths are (length m.criteria)) (place_in m.order c)) (weights_fractions cs)

  value_fraction : (o c : ℕ) → IsFraction (value_at m worths o c)
  value_fraction o c = by_place (performance m o c)
    where
      by_place : (p : Option ℕ) → IsFraction (option_map_or (fraction_at (anchored_at worths c)) p (fraction_of (pos 0)))
      by_place None = IsFraction-whole (pos 0)
      by_place (Some e) = read_fraction (get_or worths c []) (read_worth worths are c) e

  values_fractions : (o : ℕ) (cs : List ℕ) → AreFractions (map (value_at m worths o) cs)
  values_fractions o [] = All-nil IsFraction
  values_fractions o (c ∷ cs) =
      All-cons IsFraction (value_at m worths o c) (map (value_at m worths o) cs) (value_fraction o c) (values_fractions o cs)

  partial_is : (o : ℕ) (cs : List ℕ) (sum : Fraction) → partial_score m worths o cs ≡ Ok sum → IsSumOver m worths o cs sum
  partial_is o cs sum worked = record {
    fraction = checked_score-fraction (map (weight_at m worths) cs) (map (value_at m worths o) cs) sum (weights_fractions cs) (values_fractions o cs) worked;
    is = checked_score-means (map (weight_at m worths) cs) (map (value_at m worths o) cs) sum (weights_fractions cs) (values_fractions o cs) worked;
  }

-- ---- scores

-- the weighting, of which a sum that is too wide is told
too_wide_sum : (m : ModelState) → 1 ≤ length m.criteria → HasNoScore m TOO_WIDE
too_wide_sum m some = (Weighting, some, inr (inr refl))

module _ (m : ModelState) (some : 1 ≤ length m.criteria) where
  scores_reply : (worths : Result (List (List Fraction)) Reply) → SayWorths m (all_subjects m) worths
      → SaysScores m (or_refused (worths >>= checked_scores m))
  scores_reply (Err refusal) h = subst (SaysScores m) (sym h.2) h.3
  scores_reply (Ok worths) h = by_scores (each_score m worths) refl
    where
      by_scores : (scores : Result (List Fraction) TooWide) → each_score m worths ≡ scores
          → SaysScores m (or_refused (or_too_wide scores >>= λ s. Ok (reply.Scores m.options s)))
      by_scores (Ok scores) e = (
        refl,
        (
          worths,
          h,
          each_worked (λ option. IsSumOver m worths option (places m)) (score_of m worths)
              (λ option sum worked. partial_is m worths (worths_fractions m (all_subjects m) worths h) option (places m) sum worked) (option_places m) scores e,
        ),
      )
      by_scores (Err wide) e = too_wide_sum m some

  subtotals_reply : (o : ℕ) (worths : Result (List (List Fraction)) Reply) → SayWorths m (all_subjects m) worths
      → SaysSubtotals m o (or_refused (worths >>= checked_subtotals m o))
  subtotals_reply o (Err refusal) h = subst (SaysSubtotals m o) (sym h.2) h.3
  subtotals_reply o (Ok worths) h = by_parts (checked_parts m worths o) refl (score_of m worths o) refl
    where
      are : All AreFractions worths
      are = worths_fractions m (all_subjects m) worths h

      by_parts : (parts : Result (List Fraction) TooWide) → checked_parts m worths o ≡ parts → (total : Result Fraction TooWide)
          → score_of m worths o ≡ total
          → SaysSubtotals m o (or_refused (or_too_wide parts >>= λ p. or_too_wide total >>= λ t. Ok (reply.Subtotals (zip (group_names m) p) t)))
      by_parts (Ok sums) e (Ok total) k = (
        worths,
        sums,
        h,
        each_worked (λ group. IsSumOver m worths o (criteria_under m group)) (λ g. partial_score m worths o (criteria_under m g))
            (λ group sum worked. partial_is m worths are o (criteria_under m group) sum worked) (range_with_len 0 (length m.groups)) sums e,
        refl,
        partial_is m worths are o (places m) total k,
      )
      by_parts (Ok sums) e (Err wide) k = too_wide_sum m some
      by_parts (Err wide) e total k = too_wide_sum m some

module _ (s next : SessionState) (holds : IsSession s) (r : Reply) (some : 1 ≤ length s.model.criteria) where
  -- the worths that were taken
  taken_worths : (make : List (List Fraction) → Result Reply Reply) (results : ResultsState) (h : AsksAllFrom s.model make s.results r results)
      → SayWorths s.model (all_subjects s.model) h.0
  taken_worths make results h =
      all_say s.model holds.model (all_subjects s.model) (all_are_subjects s.model (omega (arith, some))) s.results results h.0 holds.keeps.results_are h.1

  pub scores_mean : AsksAll s (checked_scores s.model) r next → SaysScores s.model r
  scores_mean h =
      subst (SaysScores s.model) (sym h.1.2) (scores_reply s.model some h.1.0 (taken_worths (checked_scores s.model) h.0 h.1))

  pub subtotals_mean : (o : ℕ) → AsksAll s (checked_subtotals s.model o) r next → SaysSubtotals s.model o r
  subtotals_mean o h =
      subst (SaysSubtotals s.model o) (sym h.1.2) (subtotals_reply s.model some o h.1.0 (taken_worths (checked_subtotals s.model o) h.0 h.1))
