-- What is asked of all criteria and the weighting: scores and subtotals.
use Rattle.std.specs.Prelude.{◌≡◌, ◌<◌, ℕ, pos, Bool, List, [], ◌∷◌, map, length, slice_index_or, Option, Some, None, Result, Ok, Err, filter, MatchOption}
use Rattle.std.specs.List.{range_with_len, list_any, zip}
use Rattle.std.specs.Option.{option_map_or}
use Rattle.integers.specs.Fraction.{Fraction, fraction_of}
use Rattle.frac128.specs.declared.number.TooWide.{TooWide}
use Rattle.judgement_matrix.specs.Values.{fraction_at}
use Rattle.frac128.specs.Chain.{checked_each}
use Rattle.value_scale.specs.declared.basic.Basic.{Basic}
use Rattle.swing_weights.specs.Score.{checked_score}
use Rattle.model_core.specs.State.{ModelState, GroupState}
use Rattle.model_core.specs.Finding.{criterion_at, place_in, ancestor}
use Rattle.report_text.specs.declared.reply.Detail.{Detail}
use Rattle.report_text.specs.declared.reply.Detail.TheVariants as detail
use Rattle.report_text.specs.declared.reply.Reply.{Reply}
use Rattle.report_text.specs.declared.reply.Reply.TheVariants as reply
use Rattle.session_state.specs.State.{ResultsState, SessionState, with_results}
use Rattle.session_state.specs.Taking.{Takes}
use Rattle.session_state.specs.declared.subject.Subject.{Subject}
use Rattle.session_edits.specs.Refusals.{or_too_wide, or_refused, ◌>>=◌}
use Rattle.session_edits.specs.Subjects.{all_subjects, places}
use Rattle.session_edits.specs.Edits.{Refuses, Shows}
use Rattle.session_edits.specs.Scales.{worth_of}
use Rattle.std.specs.Prelude.{MatchBool, nat_lt, ◌==◌, false}
use Rattle.report_text.specs.Reply.{IsPrintable}
use Rattle.session_edits.specs.declared.refusal.Stop.{Stop}
use Rattle.session_edits.specs.declared.refusal.Stop.TheVariants as stop
use Rattle.session_edits.specs.declared.question.Sum.{Sum}
use Rattle.session_edits.specs.declared.question.Sum.TheVariants as sum
use Rattle.session_edits.specs.declared.refusal.TheConstants.{UNKNOWN_CRITERION, UNKNOWN_OPTION, PERFORMANCE_MISSING}

-- ---- performances

-- the element that an option performs on a criterion
abbrev pub performance : ModelState → ℕ → ℕ → Option ℕ
performance m o c = slice_index_or (slice_index_or m.performances o []) c None

-- an option and a criterion, by their names
abbrev pub missing_detail : ModelState → ℕ → ℕ → Detail
missing_detail m o c = detail.Missing (slice_index_or m.options o []) (criterion_at m c).name

-- the first of these criteria on which an option performs no element
abbrev pub missing_on : ModelState → ℕ → List ℕ → Option Detail
missing_on m o [] = None
missing_on m o (c ∷ cs) = option_map_or (λ element. missing_on m o cs) (performance m o c) (Some (missing_detail m o c))

-- the first performance that is missing, by option and then by criterion
abbrev pub missing : ModelState → List ℕ → Option Detail
missing m [] = None
missing m (o ∷ os) = option_map_or Some (missing_on m o (places m)) (missing m os)

-- ---- the places that are taken

-- a worth of a subject, and the worths of the others
abbrev pub with_worth : Result (List Fraction) Reply → Result (List (List Fraction)) Reply
    → Result (List (List Fraction)) Reply
with_worth (Ok worth) (Ok worths) = Ok (worth ∷ worths)
with_worth (Ok worth) (Err refusal) = Err refusal
with_worth (Err refusal) others = Err refusal

-- behind a worth the others are taken; behind a refusal none is
abbrev pub TakesBehind : (ResultsState → Result (List (List Fraction)) Reply → ResultsState → Type 0)
    → Result (List Fraction) Reply
    → ResultsState → Result (List (List Fraction)) Reply → ResultsState → Type 0
TakesBehind TakesOthers (Err refusal) mid worths after = (worths ≡ Err refusal) × (after ≡ mid)
TakesBehind TakesOthers (Ok worth) mid worths after =
    (others : Result (List (List Fraction)) Reply) × TakesOthers mid others after
    × (worths ≡ with_worth (Ok worth) others)

-- the basic scale of each subject is taken in order, up to the first with a refusal
abbrev pub TakesAll : ModelState → List Subject → ResultsState → Result (List (List Fraction)) Reply → ResultsState
    → Type 0
TakesAll m [] results worths after = (worths ≡ Ok []) × (after ≡ results)
TakesAll m (subject ∷ subjects) results worths after =
    (answer : Result Basic TooWide) × (mid : ResultsState) × Takes m subject results answer mid
    × TakesBehind (TakesAll m subjects) (worth_of m subject answer) mid worths after

-- a call that takes a worth: it may stop with the refusal, or find no memory
abbrev pub TakesOr : {V : Type 0} → (V → List Fraction) → ModelState → Subject → ResultsState → Result V Stop
    → ResultsState
    → Type 0
TakesOr view m subject results (Ok worth) after =
    (answer : Result Basic TooWide) × Takes m subject results answer after
    × (worth_of m subject answer ≡ Ok (view worth))
TakesOr view m subject results (Err (stop.Refused r)) after =
    (answer : Result Basic TooWide) × Takes m subject results answer after × (worth_of m subject answer ≡ Err r)
    × IsPrintable r
TakesOr view m subject results (Err stop.NoMemory) after = Unit {0}

-- the same of all
abbrev pub TakesAllOr : {V : Type 0} → (V → List (List Fraction)) → ModelState → List Subject → ResultsState
    → Result V Stop
    → ResultsState → Type 0
TakesAllOr view m subjects results (Ok worths) after = TakesAll m subjects results (Ok (view worths)) after
TakesAllOr view m subjects results (Err (stop.Refused r)) after =
    TakesAll m subjects results (Err r) after × IsPrintable r
TakesAllOr view m subjects results (Err stop.NoMemory) after = Unit {0}

-- ---- scores

-- the worth of the criterion at a place is its anchored scale; behind them stand the weights in the order of the weighting
abbrev pub anchored_at : List (List Fraction) → ℕ → List Fraction
anchored_at worths c = slice_index_or worths c []

-- the weight of a criterion
abbrev pub weight_at : ModelState → List (List Fraction) → ℕ → Fraction
weight_at m worths c = fraction_at (slice_index_or worths (length m.criteria) []) (place_in m.order c)

-- the anchored value of an option on a criterion
abbrev pub value_at : ModelState → List (List Fraction) → ℕ → ℕ → Fraction
value_at m worths o c =
    option_map_or (fraction_at (anchored_at worths c)) (performance m o c) (fraction_of (pos 0))

-- the sum over these criteria of weight times value
abbrev pub partial_score : ModelState → List (List Fraction) → ℕ → List ℕ → Result Fraction TooWide
partial_score m worths o cs = checked_score (map (weight_at m worths) cs) (map (value_at m worths o) cs)

-- the score of an option
abbrev pub score_of : ModelState → List (List Fraction) → ℕ → Result Fraction TooWide
score_of m worths o = partial_score m worths o (places m)

-- the places of the options
abbrev pub option_places : ModelState → List ℕ
option_places m = range_with_len 0 (length m.options)

-- the score of each option
abbrev pub each_score : ModelState → List (List Fraction) → Result (List Fraction) TooWide
each_score m worths = checked_each (score_of m worths) (option_places m)

-- the scores of all options
abbrev pub checked_scores : ModelState → List (List Fraction) → Result Reply Reply
checked_scores m worths = do
  scores ← or_too_wide (each_score m worths)
  Ok (reply.Scores m.options scores)

-- ---- subtotals

-- it is the group at this place
abbrev pub is_at : ℕ → Option ℕ → Bool
is_at g group = option_map_or (λ at. at == g) group false

-- a group is this one, or a parent of it at any remove; it has fewer parents than there are groups
abbrev pub is_under : List GroupState → Option ℕ → ℕ → Bool
is_under groups group g = list_any (λ n. is_at g (ancestor groups n group)) (range_with_len 0 (length groups))

-- the criteria under a group, in model order
abbrev pub criteria_under : ModelState → ℕ → List ℕ
criteria_under m g = filter (λ c. is_under m.groups (criterion_at m c).group g) (places m)

-- the sum over the criteria under each group
abbrev pub checked_parts : ModelState → List (List Fraction) → ℕ → Result (List Fraction) TooWide
checked_parts m worths o =
    checked_each (λ g. partial_score m worths o (criteria_under m g)) (range_with_len 0 (length m.groups))

abbrev pub group_names : ModelState → List (List ℕ)
group_names m = map (λ group. group.name) m.groups

-- each group with its subtotal, and the score
abbrev pub checked_subtotals : ModelState → ℕ → List (List Fraction) → Result Reply Reply
checked_subtotals m o worths = do
  parts ← or_too_wide (checked_parts m worths o)
  total ← or_too_wide (score_of m worths o)
  Ok (reply.Subtotals (zip (group_names m) parts) total)

-- ---- the queries

-- the scores of all options, or the subtotals of one
abbrev pub checked_sum : ModelState → Sum → List (List Fraction) → Result Reply Reply
checked_sum m sum.Scores worths = checked_scores m worths
checked_sum m (sum.Subtotals o) worths = checked_subtotals m o worths

-- an option that is asked about is one of the model
abbrev pub IsSumOf : ModelState → Sum → Type 0
IsSumOf m sum.Scores = Unit {0}
IsSumOf m (sum.Subtotals o) = o < length m.options

-- a call that takes all worths and makes a reply of them: it may stop with a refusal, or find no memory
abbrev pub WorksAll : ModelState → (List (List Fraction) → Result Reply Reply) → ResultsState → Result Reply Stop
    → ResultsState
    → Type 0
WorksAll m make results (Ok r) after =
    (worths : Result (List (List Fraction)) Reply) × TakesAll m (all_subjects m) results worths after
    × ((worths >>= make) ≡ Ok r)
WorksAll m make results (Err (stop.Refused r)) after =
    (worths : Result (List (List Fraction)) Reply) × TakesAll m (all_subjects m) results worths after
    × ((worths >>= make) ≡ Err r) × IsPrintable r
WorksAll m make results (Err stop.NoMemory) after = Unit {0}

-- the worths of all criteria and of the weighting are taken, and a reply is made of them
abbrev pub AsksAllFrom : ModelState → (List (List Fraction) → Result Reply Reply) → ResultsState → Reply → ResultsState
    → Type 0
AsksAllFrom m make results r after =
    (worths : Result (List (List Fraction)) Reply) × TakesAll m (all_subjects m) results worths after
    × (r ≡ or_refused (worths >>= make))

abbrev pub AsksAll : SessionState → (List (List Fraction) → Result Reply Reply) → Reply → SessionState → Type 0
AsksAll s make r next =
    (results : ResultsState) × AsksAllFrom s.model make s.results r results × (next ≡ with_results s results)

-- where each of these options performs on each criterion
abbrev pub WherePerformed : SessionState → List ℕ → (List (List Fraction) → Result Reply Reply) → Reply → SessionState
    → Type 0
WherePerformed s os make r next = MatchOption (missing s.model os) (AsksAll s make r next)
    (λ detail. Shows s (reply.Refused PERFORMANCE_MISSING detail) r next)

-- where there is a criterion
abbrev pub WhereWeighed : SessionState → List ℕ → (List (List Fraction) → Result Reply Reply) → Reply → SessionState
    → Type 0
WhereWeighed s os make r next =
    MatchBool (nat_lt 0 (length s.model.criteria)) (WherePerformed s os make r next)
    (Refuses s UNKNOWN_CRITERION r next)

abbrev pub TellsScores : SessionState → Reply → SessionState → Type 0
TellsScores s r next = WhereWeighed s (option_places s.model) (checked_scores s.model) r next

abbrev pub TellsSubtotals : SessionState → Option ℕ → Reply → SessionState → Type 0
TellsSubtotals s None r next = Refuses s UNKNOWN_OPTION r next
TellsSubtotals s (Some o) r next = WhereWeighed s (o ∷ []) (checked_subtotals s.model o) r next
