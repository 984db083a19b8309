-- What is asked of the basic scale of a matrix.
use Rattle.std.specs.Prelude.{◌≡◌, ◌≤◌, ℕ, ℤ, pos, ◌*ℤ◌, Bool, List, length, map, slice_index_or, Result, Ok, Err, if◌then◌else◌}
use Rattle.std.specs.List.{list_all}
use Rattle.std.specs.Ordering.{int_eq}
use Rattle.integers.specs.Fraction.{Fraction}
use Rattle.frac128.specs.declared.number.TooWide.{TooWide}
use Rattle.frac128.specs.declared.problem.Cert.{Cert}
use Rattle.judgement_matrix.specs.Matrix.{Judgements}
use Rattle.judgement_matrix.specs.declared.tag.Tag.{Tag}
use Rattle.judgement_matrix.specs.declared.tag.Tag.TheVariants.{Order}
use Rattle.lp_macbeth.specs.Rows.{judged_rows}
use Rattle.judgement_matrix.specs.Values.{fraction_at}
use Rattle.value_scale.specs.Anchor.{checked_anchor}
use Rattle.value_scale.specs.Basic.{span}
use Rattle.value_scale.specs.Narrowing.{checked_slack}
use Rattle.value_scale.specs.declared.basic.Basic.{Basic}
use Rattle.value_scale.specs.declared.basic.Basic.TheVariants.{Scale, Inconsistent}
use Rattle.swing_weights.specs.Weights.{checked_weights}
use Rattle.cert_check.specs.declared.text.CertText.{CertText}
use Rattle.cert_check.specs.declared.text.Claim.{Claim}
use Rattle.cert_check.specs.declared.text.Claim.TheVariants.{Least, Nothing}
use Rattle.model_core.specs.State.{ModelState, CriterionState}
use Rattle.model_core.specs.Finding.{criterion_at}
use Rattle.report_text.specs.declared.reply.Detail.TheVariants as detail
use Rattle.report_text.specs.declared.reply.Reply.{Reply}
use Rattle.report_text.specs.declared.reply.Reply.TheVariants as reply
use Rattle.session_state.specs.State.{ResultsState, SessionState, matrix_of, with_results}
use Rattle.session_state.specs.Taking.{Takes}
use Rattle.session_state.specs.declared.subject.Subject.{Subject}
use Rattle.session_state.specs.declared.subject.Subject.TheVariants.{Criterion, Weighting}
use Rattle.session_edits.specs.Refusals.{place_of, or_too_wide, or_refused, ◌>>=◌}
use Rattle.session_edits.specs.Subjects.{names_of, weighed_names}
use Rattle.session_edits.specs.declared.question.Question.{Question}
use Rattle.session_edits.specs.declared.question.Question.TheVariants as question
use Rattle.session_edits.specs.declared.refusal.TheConstants.{INCONSISTENT, FLAT}

-- ---- certificates by the tags of their rows

abbrev pub tag_at : Judgements → ℕ × ℤ → Tag × ℤ
tag_at m entry = (slice_index_or (judged_rows m) entry.0 (Order 0), entry.1)

abbrev pub named : Judgements → Claim → Cert → CertText
named m claim cert = record { claim = claim; den = cert.den; on = map (tag_at m) cert.on }

-- the certificate of a basic scale: of its span, or that no scale meets the matrix
abbrev pub cert_of : Judgements → Basic → CertText
cert_of m (Scale values cert) = named m (Least (span values)) cert
cert_of m (Inconsistent cert) = named m Nothing cert

-- the scale with its certificate, or the certificate that there is none
abbrev pub scale_reply : ModelState → Subject → Basic → Reply
scale_reply m subject (Scale values cert) =
    reply.Scale (names_of m subject) values (named (matrix_of m subject) (Least (span values)) cert)
scale_reply m subject (Inconsistent cert) = reply.Inconsistent (named (matrix_of m subject) Nothing cert)

-- ---- what is worked from the values of a scale

-- both fractions have one value
abbrev pub is_same_value : Fraction → Fraction → Bool
is_same_value f g = int_eq (f.num *ℤ g.den) (g.num *ℤ f.den)

-- the anchored scale of a criterion, unless good and neutral have one value
abbrev pub anchored_of : CriterionState → List Fraction → Result (List Fraction) Reply
anchored_of c values =
    if is_same_value (fraction_at values c.good) (fraction_at values c.neutral)
    then Err (reply.Refused FLAT (detail.Place c.name))
    else or_too_wide (checked_anchor values c.good c.neutral)

-- the weights, unless all values are 0
abbrev pub weights_of : List Fraction → Result (List Fraction) Reply
weights_of values =
    if list_all (λ (f : Fraction). int_eq f.num (pos 0)) values then Err (reply.Refused FLAT detail.Weighting)
    else or_too_wide (checked_weights values)

abbrev pub worth_of_values : ModelState → Subject → List Fraction → Result (List Fraction) Reply
worth_of_values m (Criterion c) values = anchored_of (criterion_at m c) values
worth_of_values m Weighting values = weights_of values

-- the values of the least scale, which is needed
abbrev pub values_of : ModelState → Subject → Basic → Result (List Fraction) Reply
values_of m subject (Scale values cert) = Ok values
values_of m subject (Inconsistent cert) = Err (reply.Refused INCONSISTENT (place_of m subject))

-- what a score needs of a matrix: the anchored scale of a criterion, or the weights
abbrev pub worth_of_basic : ModelState → Subject → Basic → Result (List Fraction) Reply
worth_of_basic m subject basic = values_of m subject basic >>= worth_of_values m subject

-- the same, where the run or a sum of gaps may have been too wide
abbrev pub worth_of : ModelState → Subject → Result Basic TooWide → Result (List Fraction) Reply
worth_of m subject answer = or_too_wide answer >>= worth_of_basic m subject

-- the anchored scale by the elements, or the weights by the criteria
abbrev pub worth_reply : ModelState → Subject → List Fraction → Reply
worth_reply m (Criterion c) worth = reply.Anchored (criterion_at m c).elements worth
worth_reply m Weighting worth = reply.Weights (weighed_names m) worth

-- the same as a reply
abbrev pub checked_worth : ModelState → Subject → Basic → Result Reply Reply
checked_worth m subject basic = worth_of_basic m subject basic >>= λ worth. Ok (worth_reply m subject worth)

-- how many numbers the worth of a matrix has
abbrev pub worth_size : ModelState → Subject → ℕ
worth_size m (Criterion c) = (criterion_at m c).matrix.size
worth_size m Weighting = length m.criteria

-- the room of an element on the least scale
abbrev pub checked_room : ModelState → Subject → ℕ → Basic → Result Reply Reply
checked_room m subject element basic = do
  values ← values_of m subject basic
  interval ← or_too_wide (checked_slack (matrix_of m subject) values element)
  Ok (reply.Slack interval.low interval.high)

-- ---- the questions

-- the reply to a question about a matrix, from its basic scale
abbrev pub told : ModelState → Subject → Question → Basic → Reply
told m subject question.Scale basic = scale_reply m subject basic
told m subject question.Cert basic = reply.Cert (cert_of (matrix_of m subject) basic)
told m subject question.Worth basic = or_refused (checked_worth m subject basic)
told m subject (question.Slack element) basic = or_refused (checked_room m subject element basic)

-- an element that is asked about is one of the matrix
abbrev pub IsQuestionOf : ModelState → Subject → Question → Type 0
IsQuestionOf m subject question.Scale = Unit {0}
IsQuestionOf m subject question.Cert = Unit {0}
IsQuestionOf m subject question.Worth = Unit {0}
IsQuestionOf m subject (question.Slack element) = (1 ≤ element) × (element ≤ (matrix_of m subject).size)

-- the basic scale of the matrix is taken, and the question is answered from it
abbrev pub AsksFrom : ModelState → Question → Subject → ResultsState → Reply → ResultsState → Type 0
AsksFrom m question subject results r after =
    (answer : Result Basic TooWide) × Takes m subject results answer after
    × (r ≡ or_refused (or_too_wide answer >>= λ basic. Ok (told m subject question basic)))

abbrev pub Asks : SessionState → Question → Subject → Reply → SessionState → Type 0
Asks s question subject r next =
    (results : ResultsState) × AsksFrom s.model question subject s.results r results × (next ≡ with_results s results)
