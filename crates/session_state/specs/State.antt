-- What a session holds: a model, the models before it, and the basic scales that are kept.
use Rattle.std.specs.Prelude.{◌≡◌, ℕ, ◌-◌, ◌<◌, ◌≤◌, Bool, true, false, List, [], ◌∷◌, ◌++◌, map, length, take, count_by, Option, Some, None, Result, Ok, Err, slice_index_or, slice_set, All, if◌then◌else◌}
use Rattle.std.specs.Option.{is_some, option_map, option_and_then}
use Rattle.circular_buffer.specs.Buffer.{keep_last, last_item}
use Rattle.judgement_matrix.specs.Matrix.{Judgements}
use Rattle.judgement_matrix.specs.Same.{same_judgements}
use Rattle.model_core.specs.State.{ModelState, CriterionState, empty_model}
use Rattle.model_core.specs.Finding.{find_criterion, criterion_at}
use Rattle.model_core.specs.Whole.{IsWholeModel}
use Rattle.value_scale.specs.Basic.{IsBasic}
use Rattle.value_scale.specs.declared.basic.Basic.{Basic}
use Rattle.session_state.specs.declared.subject.Subject.{Subject}
use Rattle.session_state.specs.declared.subject.Subject.TheVariants.{Criterion, Weighting}
use Rattle.session_state.specs.declared.history.TheConstants.{UNDO_STEPS}

-- the basic scales that are kept, a place for each criterion in model order and one for the weighting, and the pivots made
pub record ResultsState : Type 0 where
  pub kept : List (Option Basic)
  pub kept_weighting : Option Basic
  pub pivots : ℕ

-- the model, the models before it, the oldest first, and the results
pub record SessionState : Type 0 where
  pub model : ModelState
  pub history : List ModelState
  pub results : ResultsState

-- the matrix of a subject
abbrev pub matrix_of : ModelState → Subject → Judgements
matrix_of m (Criterion c) = (criterion_at m c).matrix
matrix_of m Weighting = m.weighting

-- its basic scale, where one is kept
abbrev pub kept_of : ResultsState → Subject → Option Basic
kept_of results (Criterion c) = slice_index_or results.kept c None
kept_of results Weighting = results.kept_weighting

-- how many places are kept
abbrev pub kept_count : ResultsState → ℕ
kept_count results = count_by is_some (results.kept_weighting ∷ results.kept)

-- the place of a subject is there
abbrev pub HasPlace : ResultsState → Subject → Type 0
HasPlace results (Criterion c) = c < length results.kept
HasPlace results Weighting = Unit {0}

-- the results with this one kept
abbrev pub with_kept : Subject → Basic → ResultsState → ResultsState
with_kept (Criterion c) basic results = record results { kept = slice_set results.kept c (Some basic) }
with_kept Weighting basic results = record results { kept_weighting = Some basic }

-- the results with so many pivots
abbrev pub with_pivots : ℕ → ResultsState → ResultsState
with_pivots count results = record results { pivots = count }

-- what results keep: a place for each criterion, and what is kept of a subject is what its matrix gives
pub record AreResults (m : ModelState) (results : ResultsState) : Type 0 where
  pub each : length results.kept ≡ length m.criteria
  pub basics : (subject : Subject) (basic : Basic) → kept_of results subject ≡ Some basic
      → IsBasic (matrix_of m subject) basic

-- ---- edits and undo

-- what is kept of a criterion after a change of the model: what was kept of the criterion of the same name, where its
-- judgements are the same
abbrev pub still_kept : ModelState → ResultsState → CriterionState → Option Basic
still_kept m results after =
    option_and_then (λ c. if same_judgements (criterion_at m c).matrix after.matrix then kept_of results (Criterion c) else None)
    (find_criterion m after.name)

-- the results after a change from one model to the other
abbrev pub carried : ModelState → ResultsState → ModelState → ResultsState
carried m results after = record {
  kept = map (still_kept m results) after.criteria;
  kept_weighting = if same_judgements m.weighting after.weighting then results.kept_weighting else None;
  pivots = results.pivots;
}

-- the session after an edit that gave this model
abbrev pub changed : SessionState → ModelState → SessionState
changed s after = record {
  model = after;
  history = keep_last UNDO_STEPS (s.history ++ s.model ∷ []);
  results = carried s.model s.results after;
}

-- the session with the newest model of the history again, where there is one
abbrev pub undone : SessionState → Option SessionState
undone s = option_map (λ before. record {
  model = before;
  history = take (length s.history - 1) s.history;
  results = carried s.model s.results before;
}) (last_item s.history)

-- an undo: done, with nothing to go back to, or without memory
abbrev pub Undoes : {E : Type 0} → SessionState → Result Bool E → SessionState → Type 0
Undoes old (Ok true) new = undone old ≡ Some new
Undoes old (Ok false) new = (undone old ≡ None) × (new ≡ old)
Undoes old (Err fault) new = new ≡ old

-- the session with other results
abbrev pub with_results : SessionState → ResultsState → SessionState
with_results s results = record s { results = results }

-- ---- the start

-- no pivot was made and nothing is kept of a model without criteria
abbrev pub no_results : ResultsState
no_results = record { kept = []; kept_weighting = None; pivots = 0 }

-- the session at its start
abbrev pub start_state : SessionState
start_state = record { model = empty_model; history = []; results = no_results }

-- what the type of a session's state keeps
pub record IsState (s : SessionState) : Type 0 where
  pub few : length s.history ≤ UNDO_STEPS
  pub results_are : AreResults s.model s.results

-- what each state of a session holds: its model and those before it are whole, with matrices of their elements, and what is
-- kept of a matrix is its basic scale as it is now
pub record IsSession (s : SessionState) : Type 0 where
  pub keeps : IsState s
  pub model : IsWholeModel s.model
  pub before : All IsWholeModel s.history
