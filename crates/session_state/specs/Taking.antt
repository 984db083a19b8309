-- How a query comes to the basic scale of a subject: it is kept, or it is found and then kept.
use Rattle.std.specs.Prelude.{◌≡◌, ℕ, ◌<◌, ◌≤◌, length, Option, Some, None, Result, Ok, Err}
use Rattle.frac128.specs.declared.number.TooWide.{TooWide}
use Rattle.judgement_matrix.specs.Matrix.{Judgements}
use Rattle.model_core.specs.State.{ModelState}
use Rattle.value_scale.specs.Basic.{IsFound, IsBasic}
use Rattle.value_scale.specs.declared.basic.Basic.{Basic}
use Rattle.value_scale.specs.declared.fault.ScaleFault.{ScaleFault}
use Rattle.value_scale.specs.declared.fault.ScaleFault.TheVariants as fault
use Rattle.session_state.specs.State.{ResultsState, matrix_of, kept_of, with_kept, with_pivots}
use Rattle.session_state.specs.declared.subject.Subject.{Subject}
use Rattle.session_state.specs.declared.subject.Subject.TheVariants.{Criterion, Weighting}

-- a subject whose matrix has two elements or more: a criterion that is there, or the weighting where there is one
abbrev pub IsSubject : ModelState → Subject → Type 0
IsSubject m (Criterion c) = c < length m.criteria
IsSubject m Weighting = 1 ≤ length m.criteria

-- what a matrix gives, or that its run or a sum of its gaps is too wide, as `basic_scale` answers it
abbrev pub as_found : Result Basic TooWide → Result Basic ScaleFault
as_found (Ok basic) = Ok basic
as_found (Err wide) = Err fault.TooWide

-- the results after a run with so many pivots in all: what it found is kept
abbrev pub after_run : Subject → Result Basic TooWide → ℕ → ResultsState → ResultsState
after_run subject (Ok basic) count results = with_kept subject basic (with_pivots count results)
after_run subject (Err wide) count results = with_pivots count results

-- the basic scale of a matrix is found, and its pivots are counted
pub record FindsAndKeeps (m : Judgements) (subject : Subject) (results : ResultsState) (answer : Result Basic TooWide)
    (after : ResultsState) : Type 0 where
  pub count : ℕ
  pub found : IsFound m results.pivots (as_found answer) count
  pub kept : after ≡ after_run subject answer count results

-- what is kept of it is taken; else it is found
abbrev pub TakesFrom : Option Basic → Judgements → Subject → ResultsState → Result Basic TooWide → ResultsState → Type 0
TakesFrom (Some basic) m subject results answer after = (answer ≡ Ok basic) × (after ≡ results)
TakesFrom None m subject results answer after = FindsAndKeeps m subject results answer after

-- the basic scale of a subject is taken
abbrev pub Takes : ModelState → Subject → ResultsState → Result Basic TooWide → ResultsState → Type 0
Takes m subject results answer after =
    TakesFrom (kept_of results subject) (matrix_of m subject) subject results answer after

-- the same with want of memory, which leaves the results as they were
abbrev pub FindsOrNoMemory : Judgements → Subject → ResultsState → Result Basic ScaleFault → ResultsState → Type 0
FindsOrNoMemory m subject results (Ok basic) after = FindsAndKeeps m subject results (Ok basic) after × IsBasic m basic
FindsOrNoMemory m subject results (Err fault.TooWide) after = FindsAndKeeps m subject results (Err (record {})) after
FindsOrNoMemory m subject results (Err fault.NoMemory) after = after ≡ results

-- the call that takes it: it may also find no memory, with the results as before
abbrev pub TakesOrNoMemory : ModelState → Subject → ResultsState → Result Basic ScaleFault → ResultsState → Type 0
TakesOrNoMemory m subject results (Ok basic) after =
    Takes m subject results (Ok basic) after × IsBasic (matrix_of m subject) basic
TakesOrNoMemory m subject results (Err fault.TooWide) after = Takes m subject results (Err (record {})) after
TakesOrNoMemory m subject results (Err fault.NoMemory) after = after ≡ results
