-- Refusals of a session, by their numbers.
use Rattle.std.specs.Prelude.{◌≡◌, ℕ, Result, Ok, Err}
pub use Rattle.frac128.specs.Chain.{◌>>=◌}
use Rattle.frac128.specs.declared.number.TooWide.{TooWide}
use Rattle.model_core.specs.State.{ModelState}
use Rattle.model_core.specs.Finding.{criterion_at}
use Rattle.model_core.specs.declared.edit.EditFault.{EditFault}
use Rattle.model_core.specs.declared.edit.EditFault.TheVariants as fault
use Rattle.report_text.specs.declared.reply.Detail.{Detail}
use Rattle.report_text.specs.declared.reply.Detail.TheVariants as detail
use Rattle.report_text.specs.declared.reply.Reply.{Reply}
use Rattle.report_text.specs.declared.reply.Reply.TheVariants as reply
use Rattle.report_text.specs.Reply.{IsPrintable}
use Rattle.session_edits.specs.declared.refusal.Stop.{Stop}
use Rattle.session_edits.specs.declared.refusal.Stop.TheVariants as stop
use Rattle.session_state.specs.declared.subject.Subject.{Subject}
use Rattle.session_state.specs.declared.subject.Subject.TheVariants.{Criterion, Weighting}
use Rattle.session_edits.specs.declared.refusal.TheConstants.{UNKNOWN_OPTION, UNKNOWN_CRITERION, UNKNOWN_ELEMENT, UNKNOWN_GROUP, NAME_TAKEN, LIMIT_REACHED, AGAINST_THE_ORDER, NO_PERMUTATION, TOO_WIDE}

-- the refusal of a number, with nothing more to say
abbrev pub refused : ℕ → Reply
refused number = reply.Refused number detail.None

-- the refusal of an edit; want of memory has no number
abbrev pub number_of : EditFault → ℕ
number_of fault.NameTaken = NAME_TAKEN
number_of fault.LimitReached = LIMIT_REACHED
number_of fault.UnknownOption = UNKNOWN_OPTION
number_of fault.UnknownCriterion = UNKNOWN_CRITERION
number_of fault.UnknownElement = UNKNOWN_ELEMENT
number_of fault.UnknownGroup = UNKNOWN_GROUP
number_of fault.AgainstOrder = AGAINST_THE_ORDER
number_of fault.NotPermutation = NO_PERMUTATION
number_of fault.NoMemory = 0

-- which matrix a refusal is about
abbrev pub place_of : ModelState → Subject → Detail
place_of m (Criterion c) = detail.Place (criterion_at m c).name
place_of m Weighting = detail.Weighting

-- what a formula gives, or the refusal that it is too wide
abbrev pub or_too_wide : {A : Type 0} → Result A TooWide → Result A Reply
or_too_wide (Ok x) = Ok x
or_too_wide (Err wide) = Err (refused TOO_WIDE)

-- the reply, or else the refusal
abbrev pub or_refused : Result Reply Reply → Reply
or_refused (Ok r) = r
or_refused (Err refusal) = refusal

-- what a call gives is what is worked, or it stops with the refusal; or memory is wanted
abbrev pub Works : {V X : Type 0} → (V → X) → Result X Reply → Result V Stop → Type 0
Works view worked (Ok given) = worked ≡ Ok (view given)
Works view worked (Err (stop.Refused refusal)) = (worked ≡ Err refusal) × IsPrintable refusal
Works view worked (Err stop.NoMemory) = Unit {0}
