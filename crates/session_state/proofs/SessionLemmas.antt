-- What each state of a session holds, through edits, an undo and what is taken.
use Rattle.std.proofs.Common.{◌≡◌, ◌⊎◌, inl, inr, ℕ, zero, suc, ◌+◌, ◌-◌, ◌<◌, ◌≤◌, List, [], ◌∷◌, ◌++◌, length, drop, take, slice_get, get_or, All, Option, Some, None, Result, Ok, Err, refl, sym, subst, ◌∙◌, ap, arith, rules, length-append, length-drop}
use Rattle.std.specs.Option.{option_map}
use Rattle.std.proofs.lemmas.List.Elements.{All-nil, All-cons, All-append, All-drop, All-take}
use Rattle.std.proofs.lemmas.Option.{get_or_from_slice_get, slice_get_within}
use Rattle.std.proofs.lemmas.List.{length-take}
use Rattle.circular_buffer.specs.Buffer.{keep_last, last_item}
use Rattle.frac128.specs.declared.number.TooWide.{TooWide}
use Rattle.judgement_matrix.specs.Matrix.{Judgements, IsMatrix}
use Rattle.model_core.specs.State.{ModelState, empty_model}
use Rattle.model_core.specs.Finding.{criterion_at}
use Rattle.model_core.specs.Whole.{IsWholeModel}
use Rattle.model_core.proofs.WholeEdits.{IsWholeModel-empty, whole_at}
use Rattle.value_scale.specs.Basic.{IsFound, IsBasic}
use Rattle.value_scale.specs.declared.basic.Basic.{Basic}
use Rattle.value_scale.specs.declared.fault.ScaleFault.{ScaleFault}
use Rattle.value_scale.specs.declared.fault.ScaleFault.TheVariants as fault
use Rattle.value_scale.proofs.AnswerLemmas.{HasAnswer}
use Rattle.value_scale.proofs.EveryMatrix.{every_matrix_has_an_answer}
use Rattle.session_state.specs.State.{ResultsState, SessionState, IsState, IsSession, AreResults, matrix_of, kept_of, with_pivots, carried, changed, undone, with_results, start_state, no_results}
use Rattle.session_state.specs.Taking.{IsSubject, as_found, after_run, FindsAndKeeps, Takes, TakesFrom}
use Rattle.session_state.specs.declared.subject.Subject.{Subject}
use Rattle.session_state.specs.declared.subject.Subject.TheVariants.{Criterion, Weighting}
use Rattle.session_state.specs.declared.history.TheConstants.{UNDO_STEPS}
use Rattle.session_state.proofs.ResultLemmas.{AreResults-kept, AreResults-carried}

-- ---- the start

nothing_kept : (subject : Subject) (basic : Basic) → kept_of no_results subject ≡ Some basic → ⊥
nothing_kept (Criterion c) basic h = none_there c h
  where
    none_there : (c : ℕ) → get_or [] c None ≡ Some basic → ⊥
    none_there c e = cc
nothing_kept Weighting basic h = cc

AreResults-start : AreResults empty_model no_results
AreResults-start = record { each = refl; basics = λ subject basic h. absurd (nothing_kept subject basic h) }

pub IsSession-start : IsSession start_state
IsSession-start = record {
  keeps = record { few = omega arith; results_are = AreResults-start };
  model = IsWholeModel-empty;
  before = All-nil IsWholeModel;
}

-- ---- changes of the model

pub IsSession-changed : (s : SessionState) (after : ModelState) → IsSession s → IsWholeModel after → IsSession (changed s after)
IsSession-changed s after is whole =
    let all = s.history ++ s.model ∷ [] in
    let few : length (drop (length all - UNDO_STEPS) all) ≤ UNDO_STEPS = omega (arith, length-drop (length all - UNDO_STEPS) all) in
    record {
      keeps = record { few = few; results_are = AreResults-carried s.model s.results is.keeps.results_are after };
      model = whole;
      before = All-drop IsWholeModel (length all - UNDO_STEPS) all
          (All-append IsWholeModel s.history (s.model ∷ []) is.before (All-cons IsWholeModel s.model [] is.model (All-nil IsWholeModel)));
    }

-- the session with this model again
abbrev gone_back : SessionState → ModelState → SessionState
gone_back s before = record { model = before; history = take (length s.history - 1) s.history; results = carried s.model s.results before }

IsSession-gone_back : (s : SessionState) (before : ModelState) → IsSession s → last_item s.history ≡ Some before → IsSession (gone_back s before)
IsSession-gone_back s before is at =
    let newest : IsWholeModel before =
    subst IsWholeModel (get_or_from_slice_get s.history (length s.history - 1) before before at)
    (is.before (length s.history - 1) before (slice_get_within s.history (length s.history - 1) before at)) in
    let few : length s.history ≤ UNDO_STEPS = is.keeps.few in
    record {
      keeps = record {
        few = omega (arith, length-take (length s.history - 1) s.history, few);
        results_are = AreResults-carried s.model s.results is.keeps.results_are before;
      };
      model = newest;
      before = All-take IsWholeModel (length s.history - 1) s.history is.before;
    }

pub IsSession-undone : (s t : SessionState) → IsSession s → undone s ≡ Some t → IsSession t
IsSession-undone s t is e = by_last (last_item s.history) refl e
  where
    by_last : (o : Option ModelState) → last_item s.history ≡ o → option_map (gone_back s) o ≡ Some t → IsSession t
    by_last None at k = cc
    by_last (Some before) at k = let same : gone_back s before ≡ t = cc in subst IsSession same (IsSession-gone_back s before is at)

-- ---- what is taken

-- the matrix of a subject
pub subject_matrix : (m : ModelState) (subject : Subject) → IsWholeModel m → IsSubject m subject
    → IsMatrix (matrix_of m subject) × (2 ≤ (matrix_of m subject).size)
subject_matrix m (Criterion c) whole there =
    let is = whole_at m c whole there in
    (is.matrix, let size = is.keeps.size in let least = is.keeps.least in omega (arith, size, least))
subject_matrix m Weighting whole some =
    let size : m.weighting.size ≡ length m.criteria + 1 = whole.keeps.size in (whole.weighting, omega (arith, size, some))

-- results with another count
AreResults-pivots : (m : ModelState) (results : ResultsState) (count : ℕ) → AreResults m results → AreResults m (with_pivots count results)
AreResults-pivots m results count are = record { each = are.each; basics = λ subject basic h. are.basics subject basic (still subject basic h) }
  where
    still : (subject : Subject) (basic : Basic) → kept_of (with_pivots count results) subject ≡ Some basic → kept_of results subject ≡ Some basic
    still (Criterion c) basic h = h
    still Weighting basic h = h

-- what was found is one of the matrix
found_basic : (m : Judgements) (count after : ℕ) (basic : Basic) → IsFound m count (Ok basic) after → IsBasic m basic
found_basic m count after basic found = found.0

-- what is taken is the basic scale of the matrix, and what is kept afterwards too
pub AreResults-taken : (m : ModelState) (subject : Subject) (results after : ResultsState) (answer : Result Basic TooWide)
    → AreResults m results → Takes m subject results answer after → AreResults m after
AreResults-taken m subject results after answer are takes = by_kept (kept_of results subject) answer takes
  where
    by_answer : (answer : Result Basic TooWide) → FindsAndKeeps (matrix_of m subject) subject results answer after → AreResults m after
    by_answer (Ok basic) h =
        subst (AreResults m) (sym h.kept)
        (AreResults-kept m (with_pivots h.count results) (AreResults-pivots m results h.count are) subject basic h.found.0)
    by_answer (Err wide) h = subst (AreResults m) (sym h.kept) (AreResults-pivots m results h.count are)

    by_kept : (kept : Option Basic) (answer : Result Basic TooWide) → TakesFrom kept (matrix_of m subject) subject results answer after → AreResults m after
    by_kept (Some basic) answer h = subst (AreResults m) (sym h.1) are
    by_kept None answer h = by_answer answer h

pub taken_is_basic : (m : ModelState) (subject : Subject) (results after : ResultsState) (basic : Basic)
    → AreResults m results → Takes m subject results (Ok basic) after → IsBasic (matrix_of m subject) basic
taken_is_basic m subject results after basic are takes = by_kept (kept_of results subject) refl takes
  where
    by_kept : (kept : Option Basic) → kept_of results subject ≡ kept → TakesFrom kept (matrix_of m subject) subject results (Ok basic) after
        → IsBasic (matrix_of m subject) basic
    by_kept (Some k) at h = let same : k ≡ basic = cc in are.basics subject basic (at ∙ ap (λ b. Some b) same)
    by_kept None at h = h.found.0

pub IsSession-taken : (s : SessionState) (results : ResultsState) → IsSession s → AreResults s.model results → IsSession (with_results s results)
IsSession-taken s results is are =
    record { keeps = record { few = is.keeps.few; results_are = are }; model = is.model; before = is.before }

-- ---- what can be taken

-- a basic scale that is taken
abbrev pub IsTakable : ModelState → Subject → ResultsState → Type 0
IsTakable m subject results = (answer : Result Basic TooWide) × (after : ResultsState) × Takes m subject results answer after

pub takable : (m : ModelState) (subject : Subject) (results : ResultsState) → IsWholeModel m → IsSubject m subject → IsTakable m subject results
takable m subject results whole is = by_kept (kept_of results subject)
  where
    found : HasAnswer (matrix_of m subject) results.pivots
        → (answer : Result Basic TooWide) × (count : ℕ) × IsFound (matrix_of m subject) results.pivots (as_found answer) count
    found (Ok basic, count, answered, h) = (Ok basic, count, h)
    found (Err fault.TooWide, count, answered, h) = (Err (record {}), count, h)
    found (Err fault.NoMemory, count, answered, h) = absurd answered

    by_kept : (kept : Option Basic) → (answer : Result Basic TooWide) × (after : ResultsState) × TakesFrom kept (matrix_of m subject) subject results answer after
    by_kept (Some basic) = (Ok basic, results, (refl, refl))
    by_kept None =
        let matrix = subject_matrix m subject whole is in
        let h = found (every_matrix_has_an_answer (matrix_of m subject) matrix.0 matrix.1 results.pivots) in
        (h.0, after_run subject h.0 h.1 results, record { count = h.1; found = h.2; kept = refl })

-- what is kept is taken as it is
pub kept_is_taken : (m : ModelState) (subject : Subject) (results after : ResultsState) (answer : Result Basic TooWide) (basic : Basic)
    → kept_of results subject ≡ Some basic → Takes m subject results answer after → (answer ≡ Ok basic) × (after ≡ results)
kept_is_taken m subject results after answer basic kept takes =
    subst (λ k. TakesFrom k (matrix_of m subject) subject results answer after) kept takes

-- ---- an undo behind a change

slice_get-last : {A : Type 0} (xs : List A) (x : A) → slice_get (xs ++ x ∷ []) (length xs) ≡ Some x
slice_get-last [] x = refl
slice_get-last (y ∷ xs) x = slice_get-last xs x

take-front : {A : Type 0} (xs : List A) (x : A) → take (length xs) (xs ++ x ∷ []) ≡ xs
take-front [] x = refl
take-front (y ∷ xs) x = ap (λ ys. y ∷ ys) (take-front xs x)

drop-front : {A : Type 0} (k : ℕ) (xs : List A) (x : A) → k ≤ length xs → drop k (xs ++ x ∷ []) ≡ drop k xs ++ x ∷ []
drop-front zero xs x h = refl
drop-front (suc k) [] x h = absurd (omega arith)
drop-front (suc k) (y ∷ xs) x h = drop-front k xs x (omega arith)

-- the history after a change: what fits of the one before, and the model
kept_history : (s : SessionState) → keep_last UNDO_STEPS (s.history ++ s.model ∷ []) ≡ drop (length s.history + 1 - UNDO_STEPS) s.history ++ s.model ∷ []
kept_history s =
    let all : length (s.history ++ s.model ∷ []) ≡ length s.history + 1 = length-append s.history (s.model ∷ []) in
    ap (λ n. drop (n - UNDO_STEPS) (s.history ++ s.model ∷ [])) all
    ∙ drop-front (length s.history + 1 - UNDO_STEPS) s.history s.model (omega arith)

-- the newest model of it is the one before the change
pub undone_of_changed : (s : SessionState) (after : ModelState) → (t : SessionState) × (undone (changed s after) ≡ Some t) × (t.model ≡ s.model)
    × (length s.history < UNDO_STEPS → t.history ≡ s.history)
undone_of_changed s after = (
  gone_back (changed s after) s.model,
  ap (option_map (gone_back (changed s after))) newest,
  refl,
  λ room. before ∙ ap (λ k. drop k s.history) (none room),
)
  where
    count : length (changed s after).history - 1 ≡ length (drop (length s.history + 1 - UNDO_STEPS) s.history)
    count =
        let h = ap length (kept_history s) in
        omega (arith, h, length-append (drop (length s.history + 1 - UNDO_STEPS) s.history) (s.model ∷ []))

    newest : last_item (changed s after).history ≡ Some s.model
    newest =
        ap (λ n. slice_get (changed s after).history n) count
        ∙ ap (λ h. slice_get h (length (drop (length s.history + 1 - UNDO_STEPS) s.history))) (kept_history s)
        ∙ slice_get-last (drop (length s.history + 1 - UNDO_STEPS) s.history) s.model

    before : take (length (changed s after).history - 1) (changed s after).history ≡ drop (length s.history + 1 - UNDO_STEPS) s.history
    before =
        ap (λ n. take n (changed s after).history) count
        ∙ ap (λ h. take (length (drop (length s.history + 1 - UNDO_STEPS) s.history)) h) (kept_history s)
        ∙ take-front (drop (length s.history + 1 - UNDO_STEPS) s.history) s.model

    none : length s.history < UNDO_STEPS → length s.history + 1 - UNDO_STEPS ≡ 0
    none room = omega (arith, room)
