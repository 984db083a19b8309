-- The worths that were taken of the first criteria, whatever the others give.
use Rattle.std.proofs.Common.{◌≡◌, ◌<◌, ◌≤◌, ◌+◌, ◌-◌, ℕ, List, [], ◌∷◌, ◌++◌, map, length, Result, Ok, Err, refl, ap, sym, subst, arith}
use Rattle.std.specs.List.{range_with_len}
use Rattle.std.proofs.lemmas.List.{append_assoc}
use Rattle.integers.specs.Fraction.{Fraction}
use Rattle.frac128.specs.declared.number.TooWide.{TooWide}
use Rattle.value_scale.specs.declared.basic.Basic.{Basic}
use Rattle.lp_macbeth.proofs.PairLemmas.{range_with_len-next}
use Rattle.report_text.specs.declared.reply.Reply.{Reply}
use Rattle.model_core.specs.State.{ModelState}
use Rattle.session_state.specs.State.{ResultsState}
use Rattle.session_state.specs.Taking.{Takes}
use Rattle.session_state.specs.declared.subject.Subject.{Subject}
use Rattle.session_state.specs.declared.subject.Subject.TheVariants.{Criterion, Weighting}
use Rattle.session_edits.specs.Scales.{worth_of}
use Rattle.session_edits.specs.Scores.{with_worth, TakesAll, TakesBehind, TakesOr, TakesAllOr}
use Rattle.session_edits.specs.declared.refusal.Stop.{Stop}
use Rattle.session_edits.specs.declared.refusal.Stop.TheVariants as stop
use Rattle.session_edits.specs.Subjects.{all_subjects}

-- the subjects from a criterion on
abbrev pub left : ModelState → ℕ → List Subject
left m i = map Criterion (range_with_len i (length m.criteria - i)) ++ Weighting ∷ []

-- worths in front of what the others give
abbrev pub with_worths : List (List Fraction) → Result (List (List Fraction)) Reply → Result (List (List Fraction)) Reply
with_worths ws (Ok others) = Ok (ws ++ others)
with_worths ws (Err refusal) = Err refusal

-- these worths were taken of the criteria before one
abbrev pub HasTaken : ModelState → ResultsState → ℕ → List (List Fraction) → ResultsState → Type 0
HasTaken m old i ws mid = (others : Result (List (List Fraction)) Reply) (after : ResultsState) → TakesAll m (left m i) mid others after
    → TakesAll m (all_subjects m) old (with_worths ws others) after

-- a subject with a worth, and the others
behind_worth : (m : ModelState) (subject : Subject) (subjects : List Subject) (mid next : ResultsState) (answer : Result Basic TooWide) (w : List Fraction)
    (others : Result (List (List Fraction)) Reply) (after : ResultsState) → Takes m subject mid answer next → worth_of m subject answer ≡ Ok w
    → TakesAll m subjects next others after → TakesAll m (subject ∷ subjects) mid (with_worth (Ok w) others) after
behind_worth m subject subjects mid next answer w others after takes worked h =
    (answer, next, takes, subst (λ r. TakesBehind (TakesAll m subjects) r next (with_worth (Ok w) others) after) (sym worked) (others, h, refl))

-- a subject with a refusal
at_refusal : (m : ModelState) (subject : Subject) (subjects : List Subject) (mid next : ResultsState) (answer : Result Basic TooWide) (refusal : Reply)
    → Takes m subject mid answer next → worth_of m subject answer ≡ Err refusal → TakesAll m (subject ∷ subjects) mid (Err refusal) next
at_refusal m subject subjects mid next answer refusal takes worked =
    (answer, next, takes, subst (λ r. TakesBehind (TakesAll m subjects) r next (Err refusal) next) (sym worked) (refl, refl))

one_more : (ws : List (List Fraction)) (w : List Fraction) (others : Result (List (List Fraction)) Reply)
    → with_worths ws (with_worth (Ok w) others) ≡ with_worths (ws ++ w ∷ []) others
one_more ws w (Ok others) = ap (λ l. Ok l) (sym (append_assoc ws (w ∷ []) others))
one_more ws w (Err refusal) = refl

next_left : (m : ModelState) (i : ℕ) → i < length m.criteria → left m i ≡ Criterion i ∷ left m (i + 1)
next_left m i h = ap (λ l. map Criterion l ++ Weighting ∷ []) (range_with_len-next i (length m.criteria) h)

last_left : (m : ModelState) (i : ℕ) → length m.criteria ≤ i → left m i ≡ Weighting ∷ []
last_left m i h =
    let none : length m.criteria - i ≡ 0 = omega arith in
    ap (λ k. map Criterion (range_with_len i k) ++ Weighting ∷ []) none

-- a criterion was taken
pub taken_more : (m : ModelState) (old mid next : ResultsState) (i : ℕ) (ws now : List (List Fraction)) (w : List Fraction) → i < length m.criteria
    → HasTaken m old i ws mid → ((answer : Result Basic TooWide) × Takes m (Criterion i) mid answer next × (worth_of m (Criterion i) answer ≡ Ok w))
    → now ≡ ws ++ w ∷ [] → HasTaken m old (i + 1) now next
taken_more m old mid next i ws now w within has took made others after h =
    let more = subst (λ l. TakesAll m l mid (with_worth (Ok w) others) after) (sym (next_left m i within))
    (behind_worth m (Criterion i) (left m (i + 1)) mid next took.0 w others after took.1 took.2 h) in
    subst (λ l. TakesAll m (all_subjects m) old (with_worths l others) after) (sym made)
    (subst (λ r. TakesAll m (all_subjects m) old r after) (one_more ws w others) (has (with_worth (Ok w) others) after more))

-- a criterion was refused
pub taken_stops : (m : ModelState) (old mid next : ResultsState) (i : ℕ) (ws : List (List Fraction)) (refusal : Reply) → i < length m.criteria
    → HasTaken m old i ws mid → ((answer : Result Basic TooWide) × Takes m (Criterion i) mid answer next × (worth_of m (Criterion i) answer ≡ Err refusal))
    → TakesAll m (all_subjects m) old (Err refusal) next
taken_stops m old mid next i ws refusal within has took =
    has (Err refusal) next (subst (λ l. TakesAll m l mid (Err refusal) next) (sym (next_left m i within))
    (at_refusal m (Criterion i) (left m (i + 1)) mid next took.0 refusal took.1 took.2))

-- the weighting was taken last
pub taken_last : (m : ModelState) (old mid next : ResultsState) (i : ℕ) (ws now : List (List Fraction)) (w : List Fraction) → length m.criteria ≤ i
    → HasTaken m old i ws mid → ((answer : Result Basic TooWide) × Takes m Weighting mid answer next × (worth_of m Weighting answer ≡ Ok w))
    → now ≡ ws ++ w ∷ [] → TakesAll m (all_subjects m) old (Ok now) next
taken_last m old mid next i ws now w past has took made =
    subst (λ l. TakesAll m (all_subjects m) old (Ok l) next) (sym made)
    (has (Ok (w ∷ [])) next (subst (λ l. TakesAll m l mid (Ok (w ∷ [])) next) (sym (last_left m i past))
    (behind_worth m Weighting [] mid next took.0 w (Ok []) next took.1 took.2 (refl, refl))))

-- the weighting was refused
pub last_stops : (m : ModelState) (old mid next : ResultsState) (i : ℕ) (ws : List (List Fraction)) (refusal : Reply) → length m.criteria ≤ i
    → HasTaken m old i ws mid → ((answer : Result Basic TooWide) × Takes m Weighting mid answer next × (worth_of m Weighting answer ≡ Err refusal))
    → TakesAll m (all_subjects m) old (Err refusal) next
last_stops m old mid next i ws refusal past has took =
    has (Err refusal) next (subst (λ l. TakesAll m l mid (Err refusal) next) (sym (last_left m i past))
    (at_refusal m Weighting [] mid next took.0 refusal took.1 took.2))

-- ---- calls

pub stop_taken : {V W : Type 0} (view : V → List Fraction) (all : W → List (List Fraction)) (m : ModelState) (old mid next : ResultsState) (i : ℕ)
    (ws : List (List Fraction)) (e : Stop) → i < length m.criteria → HasTaken m old i ws mid → TakesOr view m (Criterion i) mid (Err e) next
    → TakesAllOr all m (all_subjects m) old (Err e) next
stop_taken view all m old mid next i ws (stop.Refused r) within has took =
    (taken_stops m old mid next i ws r within has (took.0, took.1, took.2), took.3)
stop_taken view all m old mid next i ws stop.NoMemory within has took = tt

pub stop_last : {V W : Type 0} (view : V → List Fraction) (all : W → List (List Fraction)) (m : ModelState) (old mid next : ResultsState) (i : ℕ)
    (ws : List (List Fraction)) (e : Stop) → length m.criteria ≤ i → HasTaken m old i ws mid → TakesOr view m Weighting mid (Err e) next
    → TakesAllOr all m (all_subjects m) old (Err e) next
stop_last view all m old mid next i ws (stop.Refused r) past has took =
    (last_stops m old mid next i ws r past has (took.0, took.1, took.2), took.3)
stop_last view all m old mid next i ws stop.NoMemory past has took = tt
