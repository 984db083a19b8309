-- Which refusal is due: for each command, in the order in which they are tested, what a model or a line may lack.
use Rattle.std.specs.Prelude.{◌≡◌, ℕ, ◌+◌, ◌==◌, Bool, true, false, not, List, [], ◌∷◌, ◌++◌, map, length, nat_lt, is_some, is_none, unwrap_or, Option, Some, None, Contains}
use Rattle.std.specs.List.{list_any}
use Rattle.word_table.specs.Words.{are_apart}
use Rattle.judgement_matrix.specs.declared.matrix.TheConstants.{LIMIT}
use Rattle.model_core.specs.State.{ModelState, CriterionState}
use Rattle.model_core.specs.Edits.{is_permutation}
use Rattle.model_core.specs.Finding.{find_option, find_criterion, find_group, find_element, criterion_at, weigh_place}
use Rattle.model_core.specs.declared.limits.TheConstants.{OPTIONS, CRITERIA, GROUPS}
use Rattle.command_read.specs.declared.block.Held.{Held}
use Rattle.command_read.specs.declared.block.Held.TheVariants as held
use Rattle.command_read.specs.declared.command.Command.{Command}
use Rattle.command_read.specs.declared.command.Command.TheVariants as command
use Rattle.report_text.specs.declared.reply.Detail.{Detail}
use Rattle.report_text.specs.declared.reply.Reply.{Reply}
use Rattle.report_text.specs.declared.reply.Reply.TheVariants as reply
use Rattle.session_state.specs.State.{SessionState, matrix_of}
use Rattle.session_state.specs.declared.subject.Subject.TheVariants.{Weighting}
use Rattle.session_edits.specs.Subjects.{weighting_of, matrix_named}
use Rattle.session_edits.specs.Scores.{missing, option_places}
use Rattle.session_edits.specs.declared.refusal.TheConstants.{UNKNOWN_COMMAND, WRONG_COUNT, UNKNOWN_OPTION, UNKNOWN_CRITERION, UNKNOWN_ELEMENT, NAME_TAKEN, LIMIT_REACHED, AGAINST_THE_ORDER, NO_PERMUTATION, BLOCK_CUT, BLOCK_TOO_LARGE, BAD_JSON, BAD_MODEL, BAD_CERTIFICATE, NOTHING_TO_UNDO, PERFORMANCE_MISSING, INCONSISTENT, FLAT, TOO_WIDE, UNKNOWN_GROUP}

-- whether a cause stands, and the number of the refusal that it has
abbrev pub Cause : Type 0
Cause = Bool × ℕ

-- the refusal of the first cause that stands
abbrev pub first_due : List Cause → Option ℕ
first_due [] = None
first_due ((true, number) ∷ causes) = Some number
first_due ((false, number) ∷ causes) = first_due causes

-- ---- causes

abbrev pub no_option : ModelState → List ℕ → Cause
no_option m name = (is_none (find_option m name), UNKNOWN_OPTION)

abbrev pub no_criterion : ModelState → List ℕ → Cause
no_criterion m name = (is_none (find_criterion m name), UNKNOWN_CRITERION)

abbrev pub no_group : ModelState → List ℕ → Cause
no_group m name = (is_none (find_group m name), UNKNOWN_GROUP)

abbrev pub no_element : CriterionState → List ℕ → Cause
no_element c name = (is_none (find_element c name), UNKNOWN_ELEMENT)

-- a model without criteria has no weighting
abbrev pub no_weighting : ModelState → Cause
no_weighting m = (is_none (weighting_of m), UNKNOWN_CRITERION)

-- neither a criterion nor `weighting` where there is one
abbrev pub no_matrix : ModelState → List ℕ → Cause
no_matrix m name = (is_none (matrix_named m name), UNKNOWN_CRITERION)

abbrev pub taken : Option ℕ → Cause
taken place = (is_some place, NAME_TAKEN)

-- so many more than may be
abbrev pub at_most : ℕ → ℕ → Cause
at_most most count = (nat_lt most count, LIMIT_REACHED)

-- the first place isn't above the second
abbrev pub no_descent : Option ℕ → Option ℕ → Cause
no_descent p q = (not (nat_lt (unwrap_or p 0) (unwrap_or q 0)), AGAINST_THE_ORDER)

-- an option performs nothing on a criterion
abbrev pub no_performance : ModelState → List ℕ → Cause
no_performance m options = (is_some (missing m options), PERFORMANCE_MISSING)

-- the criterion of a name that is there
abbrev pub criterion_of : ModelState → List ℕ → CriterionState
criterion_of m name = criterion_at m (unwrap_or (find_criterion m name) 0)

-- ---- the causes of each command

-- two elements of a criterion, the first listed above the second
abbrev pub of_pair : CriterionState → List ℕ → List ℕ → List Cause
of_pair c x y = no_element c x ∷ no_element c y ∷ no_descent (find_element c x) (find_element c y) ∷ []

-- a place of the weighting: a criterion or `none`
abbrev pub no_swing : ModelState → List ℕ → Cause
no_swing m name = (is_none (weigh_place m name), UNKNOWN_CRITERION)

-- two of them, the first above the second
abbrev pub of_swings : ModelState → List ℕ → List ℕ → List Cause
of_swings m x y = no_swing m x ∷ no_swing m y ∷ no_descent (weigh_place m x) (weigh_place m y) ∷ []

-- the criteria of these names, each once
abbrev pub of_order : ModelState → List (List ℕ) → List Cause
of_order m names =
    (list_any (λ name. is_none (find_criterion m name)) names, UNKNOWN_CRITERION)
    ∷ (not (is_permutation (length m.criteria) (map (λ name. unwrap_or (find_criterion m name) 0) names)), NO_PERMUTATION)
    ∷ []

-- the group above a new one, where it isn't the root
abbrev pub of_parent : ModelState → Option (List ℕ) → List Cause
of_parent m None = []
of_parent m (Some name) = no_group m name ∷ []

-- a block that is whole
abbrev pub of_block : Held → List Cause
of_block (held.Whole bytes) = []
of_block held.Cut = (true, BLOCK_CUT) ∷ []
of_block held.Large = (true, BLOCK_TOO_LARGE) ∷ []

-- what a command may lack, in the order of the tests
abbrev pub causes : SessionState → Command → List Cause
causes s (command.Option name) = taken (find_option s.model name) ∷ at_most OPTIONS (length s.model.options + 1) ∷ []
causes s (command.DropOption name) = no_option s.model name ∷ []
causes s (command.Criterion name elements) =
    taken (find_criterion s.model name) ∷ (not (are_apart elements), NAME_TAKEN)
    ∷ at_most CRITERIA (length s.model.criteria + 1) ∷ at_most LIMIT (length elements) ∷ []
causes s (command.DropCriterion name) = no_criterion s.model name ∷ []
causes s (command.Refs name good neutral) = no_criterion s.model name ∷ of_pair (criterion_of s.model name) good neutral
causes s (command.Judge name x y range) = no_criterion s.model name ∷ of_pair (criterion_of s.model name) x y
causes s (command.Unjudge name x y) = no_criterion s.model name ∷ of_pair (criterion_of s.model name) x y
causes s (command.Perform option name element) =
    no_option s.model option ∷ no_criterion s.model name ∷ no_element (criterion_of s.model name) element ∷ []
causes s (command.WeighOrder names) = of_order s.model names
causes s (command.Weigh x y range) = of_swings s.model x y
causes s (command.Unweigh x y) = of_swings s.model x y
causes s (command.Reach name reach) = no_criterion s.model name ∷ []
causes s (command.Group name parent) =
    of_parent s.model parent ++ taken (find_group s.model name) ∷ at_most GROUPS (length s.model.groups + 1) ∷ []
causes s (command.DropGroup name) = no_group s.model name ∷ []
causes s (command.Place name group) = no_criterion s.model name ∷ no_group s.model group ∷ []
causes s (command.Unplace name) = no_criterion s.model name ∷ []
causes s command.Undo = (length s.history == 0, NOTHING_TO_UNDO) ∷ []
causes s (command.Matrix name) = no_matrix s.model name ∷ []
causes s (command.Rows name) = no_matrix s.model name ∷ []
causes s (command.Fits name values) =
    no_matrix s.model name
    ∷ (not (length values == (matrix_of s.model (unwrap_or (matrix_named s.model name) Weighting)).size), WRONG_COUNT) ∷ []
causes s (command.Verify name block) = no_matrix s.model name ∷ of_block block
causes s (command.Scale name) = no_criterion s.model name ∷ []
causes s (command.Cert name) = no_criterion s.model name ∷ []
causes s (command.Anchored name) = no_criterion s.model name ∷ []
causes s (command.Slack name element) =
    no_criterion s.model name ∷ no_element (criterion_of s.model name) element ∷ []
causes s command.Weights = no_weighting s.model ∷ []
causes s command.Wcert = no_weighting s.model ∷ []
causes s command.Scores = no_weighting s.model ∷ no_performance s.model (option_places s.model) ∷ []
causes s (command.Subtotals name) =
    no_option s.model name ∷ no_weighting s.model
    ∷ no_performance s.model (unwrap_or (find_option s.model name) 0 ∷ []) ∷ []
causes s command.Groups = []
causes s command.Stats = []
causes s command.Quit = []
causes s (command.Load block) = of_block block
causes s command.Dump = []
causes s (command.Import name block) = no_matrix s.model name ∷ of_block block
causes s (command.ExportMatrix name) = no_matrix s.model name ∷ []
causes s (command.ExportAnchored name) = no_criterion s.model name ∷ []
causes s command.ExportWeights = no_weighting s.model ∷ []
causes s command.ExportScores = no_weighting s.model ∷ no_performance s.model (option_places s.model) ∷ []
-- a command that is done later
causes s other = (true, UNKNOWN_COMMAND) ∷ []

-- the number of the refusal that is due
abbrev pub due : SessionState → Command → Option ℕ
due s command = first_due (causes s command)

-- what may be refused where none of these stands: a text's contents, and what is found by computing
abbrev pub found_later : Command → List ℕ
found_later (command.Load block) = BAD_JSON ∷ BAD_MODEL ∷ []
found_later (command.Import name block) = BAD_MODEL ∷ []
found_later (command.Verify name block) = BAD_CERTIFICATE ∷ TOO_WIDE ∷ []
found_later (command.Fits name values) = TOO_WIDE ∷ []
found_later (command.Scale name) = TOO_WIDE ∷ []
found_later (command.Cert name) = TOO_WIDE ∷ []
found_later command.Wcert = TOO_WIDE ∷ []
found_later (command.Slack name element) = TOO_WIDE ∷ INCONSISTENT ∷ []
found_later (command.Anchored name) = TOO_WIDE ∷ INCONSISTENT ∷ FLAT ∷ []
found_later command.Weights = TOO_WIDE ∷ INCONSISTENT ∷ FLAT ∷ []
found_later command.Scores = TOO_WIDE ∷ INCONSISTENT ∷ FLAT ∷ []
found_later (command.Subtotals name) = TOO_WIDE ∷ INCONSISTENT ∷ FLAT ∷ []
found_later (command.ExportAnchored name) = TOO_WIDE ∷ INCONSISTENT ∷ FLAT ∷ []
found_later command.ExportWeights = TOO_WIDE ∷ INCONSISTENT ∷ FLAT ∷ []
found_later command.ExportScores = TOO_WIDE ∷ INCONSISTENT ∷ FLAT ∷ []
found_later other = []

-- ---- replies

-- the reply is a refusal of this number
abbrev pub IsRefusedBy : ℕ → Reply → Type 0
IsRefusedBy number r = (detail : Detail) × (r ≡ reply.Refused number detail)

-- the refusal that is due is the reply; where none is, a refusal is one of these
pub record IsInOrder (due : Option ℕ) (later : List ℕ) (r : Reply) : Type 0 where
  pub first : (number : ℕ) → due ≡ Some number → IsRefusedBy number r
  pub others : due ≡ None → (number : ℕ) → IsRefusedBy number r → Contains later number
