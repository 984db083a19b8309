-- What the replies to queries say, in the words of the method and with no formula in it. Where a Run or a formula is too wide,
-- the refusal of that comes in their place.
use Rattle.std.specs.Prelude.{◌≡◌, ◌⊎◌, ℕ, List, [], ◌∷◌, map, length, All}
use Rattle.std.specs.List.{range_with_len, zip}
use Rattle.integers.specs.Fraction.{Fraction, IsFraction}
use Rattle.frac128.specs.Frac.{IsReduced}
use Rattle.frac128.specs.Problem.{IsSpanCertificate, IsFarkasCertificate}
use Rattle.frac128.specs.declared.problem.Cert.{Cert}
use Rattle.judgement_matrix.specs.Matrix.{Judgements}
use Rattle.judgement_matrix.specs.Scale.{IsInconsistent}
use Rattle.lp_macbeth.specs.Rows.{problem_of}
use Rattle.value_scale.specs.Anchor.{AreAnchored, IsFlat}
use Rattle.value_scale.specs.Basic.{AreLeastValues, span}
use Rattle.value_scale.specs.Slack.{IsSlackOf}
use Rattle.swing_weights.specs.Score.{IsScore}
use Rattle.swing_weights.specs.Weights.{AreWeights, AreAllZero}
use Rattle.cert_check.specs.declared.text.CertText.{CertText}
use Rattle.cert_check.specs.declared.text.Claim.TheVariants.{Least, Nothing}
use Rattle.model_core.specs.State.{ModelState}
use Rattle.model_core.specs.Finding.{criterion_at}
use Rattle.report_text.specs.declared.reply.Reply.{Reply}
use Rattle.report_text.specs.declared.reply.Reply.TheVariants as reply
use Rattle.session_state.specs.State.{matrix_of}
use Rattle.session_state.specs.Taking.{IsSubject}
use Rattle.session_state.specs.declared.subject.Subject.{Subject}
use Rattle.session_state.specs.declared.subject.Subject.TheVariants.{Criterion, Weighting}
use Rattle.session_edits.specs.Refusals.{refused}
use Rattle.session_edits.specs.Subjects.{places, all_subjects, weighed_names}
use Rattle.session_edits.specs.Scales.{named}
use Rattle.session_edits.specs.Scores.{weight_at, value_at, option_places, criteria_under, group_names}
use Rattle.session_edits.specs.declared.refusal.TheConstants.{INCONSISTENT, FLAT, TOO_WIDE}

-- the values of the least scale, in lowest terms
pub record AreLeast (m : Judgements) (values : List Fraction) : Type 0 where
  pub reduced : All IsReduced values
  pub least : AreLeastValues m values

-- ---- scales and certificates

-- the text is a certificate, on the rows of the matrix, that no scale has a smaller span than these values
abbrev pub ProvesSpan : Judgements → List Fraction → CertText → Type 0
ProvesSpan m values text =
    (cert : Cert) × IsSpanCertificate (problem_of m) cert (span values) × (text ≡ named m (Least (span values)) cert)

-- the text is a certificate, on the rows of the matrix, that no scale meets the judgements
abbrev pub Refutes : Judgements → CertText → Type 0
Refutes m text = (cert : Cert) × IsFarkasCertificate (problem_of m) cert × (text ≡ named m Nothing cert)

-- the least scale with its certificate; or that no scale meets the judgements, with the certificate of that
abbrev pub SaysScale : Judgements → List (List ℕ) → Reply → Type 0
SaysScale m names r =
    ((values : List Fraction) × (text : CertText) × (r ≡ reply.Scale names values text) × AreLeast m values
    × ProvesSpan m values text)
    ⊎ (((text : CertText) × (r ≡ reply.Inconsistent text) × IsInconsistent m × Refutes m text) ⊎ (r ≡ refused TOO_WIDE))

-- the reply `inconsistent`
abbrev pub IsToldInconsistent : Reply → Type 0
IsToldInconsistent r = (text : CertText) × (r ≡ reply.Inconsistent text)

-- the certificate of the one or of the other
abbrev pub SaysCert : Judgements → Reply → Type 0
SaysCert m r =
    ((values : List Fraction) × (text : CertText) × (r ≡ reply.Cert text) × AreLeast m values × ProvesSpan m values text)
    ⊎ (((text : CertText) × (r ≡ reply.Cert text) × IsInconsistent m × Refutes m text) ⊎ (r ≡ refused TOO_WIDE))

-- ---- anchored scales, weights, slack

-- the anchored scale of a criterion, in lowest terms, or the weights
abbrev pub IsWorthBy : ModelState → Subject → List Fraction → List Fraction → Type 0
IsWorthBy m (Criterion c) values worth = AreAnchored values (criterion_at m c).good (criterion_at m c).neutral worth
IsWorthBy m Weighting values worth = AreWeights values worth

pub record IsWorth (m : ModelState) (subject : Subject) (worth : List Fraction) : Type 0 where
  pub reduced : All IsReduced worth
  pub values : List Fraction
  pub least : AreLeast (matrix_of m subject) values
  pub by_values : IsWorthBy m subject values worth

-- good and neutral have one value, or every swing is 0
abbrev pub IsFlatBy : ModelState → Subject → List Fraction → Type 0
IsFlatBy m (Criterion c) values = IsFlat values (criterion_at m c).good (criterion_at m c).neutral
IsFlatBy m Weighting values = AreAllZero values

-- why a matrix has none: no scale meets it, its least scale is flat, or something is too wide
abbrev pub HasNoWorth : ModelState → Subject → ℕ → Type 0
HasNoWorth m subject number =
    ((number ≡ INCONSISTENT) × IsInconsistent (matrix_of m subject))
    ⊎ (((number ≡ FLAT) × ((values : List Fraction) × AreLeast (matrix_of m subject) values × IsFlatBy m subject values))
    ⊎ (number ≡ TOO_WIDE))

abbrev pub SaysAnchored : ModelState → ℕ → Reply → Type 0
SaysAnchored m c (reply.Anchored names worth) = (names ≡ (criterion_at m c).elements) × IsWorth m (Criterion c) worth
SaysAnchored m c (reply.Refused number detail) = HasNoWorth m (Criterion c) number
SaysAnchored m c other = ⊥

abbrev pub SaysWeights : ModelState → Reply → Type 0
SaysWeights m (reply.Weights names worth) = (names ≡ weighed_names m) × IsWorth m Weighting worth
SaysWeights m (reply.Refused number detail) = HasNoWorth m Weighting number
SaysWeights m other = ⊥

-- exactly the values that an element of the least scale may have while the others stay
abbrev pub SaysSlack : Judgements → ℕ → Reply → Type 0
SaysSlack m element (reply.Slack low high) =
    (values : List Fraction) × AreLeast m values × IsFraction low
    × IsSlackOf m values element (record { low = low; high = high })
SaysSlack m element (reply.Refused number detail) =
    ((number ≡ INCONSISTENT) × IsInconsistent m) ⊎ (number ≡ TOO_WIDE)
SaysSlack m element other = ⊥

-- ---- scores

-- a worth for each subject
abbrev pub AreWorths : ModelState → List Subject → List (List Fraction) → Type 0
AreWorths m [] [] = Unit {0}
AreWorths m [] (worth ∷ worths) = ⊥
AreWorths m (subject ∷ subjects) [] = ⊥
AreWorths m (subject ∷ subjects) (worth ∷ worths) = IsWorth m subject worth × AreWorths m subjects worths

-- the sum over these criteria of weight times value
pub record IsSumOver (m : ModelState) (worths : List (List Fraction)) (option : ℕ) (criteria : List ℕ) (sum : Fraction) : Type 0
  where
    pub fraction : IsFraction sum
    pub is : IsScore (map (weight_at m worths) criteria) (map (value_at m worths option) criteria) sum

-- one for each thing
abbrev pub AreEach : {A B : Type 0} → (A → B → Type 0) → List A → List B → Type 0
AreEach R [] [] = Unit {0}
AreEach R [] (y ∷ ys) = ⊥
AreEach R (x ∷ xs) [] = ⊥
AreEach R (x ∷ xs) (y ∷ ys) = R x y × AreEach R xs ys

-- some matrix has no worth, or a sum is too wide
abbrev pub HasNoScore : ModelState → ℕ → Type 0
HasNoScore m number = (subject : Subject) × IsSubject m subject × HasNoWorth m subject number

-- the score of each option, by the anchored scales of the criteria and the weights
abbrev pub SaysScores : ModelState → Reply → Type 0
SaysScores m (reply.Scores names scores) =
    (names ≡ m.options) × ((worths : List (List Fraction)) × AreWorths m (all_subjects m) worths
    × AreEach (λ option. IsSumOver m worths option (places m)) (option_places m) scores)
SaysScores m (reply.Refused number detail) = HasNoScore m number
SaysScores m other = ⊥

-- the sum over the criteria under each group, and the score
abbrev pub SaysSubtotals : ModelState → ℕ → Reply → Type 0
SaysSubtotals m option (reply.Subtotals parts total) =
    (worths : List (List Fraction)) × (sums : List Fraction) × AreWorths m (all_subjects m) worths
    × AreEach (λ group. IsSumOver m worths option (criteria_under m group)) (range_with_len 0 (length m.groups)) sums
    × (parts ≡ zip (group_names m) sums) × IsSumOver m worths option (places m) total
SaysSubtotals m option (reply.Refused number detail) = HasNoScore m number
SaysSubtotals m option other = ⊥
