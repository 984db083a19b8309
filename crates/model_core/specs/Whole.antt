-- A model with its judgements: what its type and the types of its parts keep.
use Rattle.std.specs.Prelude.{◌≡◌, ℕ, ◌≤◌, false, List, length, All, Some}
use Rattle.judgement_matrix.specs.Range.{IsRange}
use Rattle.judgement_matrix.specs.Matrix.{IsMatrix}
use Rattle.model_core.specs.State.{CriterionState, ModelState, IsCriterion, IsModel, is_reserved}
use Rattle.model_core.specs.Finding.{matrix_size}
use Rattle.model_core.specs.Edits.{Edit, add_option, drop_option, add_criterion, drop_criterion, set_refs, judge, unjudge, perform, set_order, weigh, unweigh, set_reach, set_matrix, add_group, drop_group, place}
use Rattle.judgement_matrix.specs.declared.reach.TheConstants.{LEAST_REACH, MOST_REACH}

-- a criterion whose judgements are a matrix of its elements
pub record IsWholeCriterion (c : CriterionState) : Type 0 where
  pub keeps : IsCriterion c
  pub matrix : IsMatrix c.matrix

-- a model of such criteria, whose weighting is a matrix of them and the all-neutral profile
pub record IsWholeModel (m : ModelState) : Type 0 where
  pub keeps : IsModel m
  pub criteria : All IsWholeCriterion m.criteria
  pub weighting : IsMatrix m.weighting

-- what the parts of an edit keep; a matrix that is set has the size of the one in whose place it comes
abbrev pub IsLawful : ModelState → Edit → Type 0
IsLawful m (add_option name) = Unit {0}
IsLawful m (drop_option name) = Unit {0}
IsLawful m (add_criterion name elements) = (2 ≤ length elements) × (is_reserved name ≡ false)
IsLawful m (drop_criterion name) = Unit {0}
IsLawful m (set_refs name good neutral) = Unit {0}
IsLawful m (judge name x y range) = IsRange range
IsLawful m (unjudge name x y) = Unit {0}
IsLawful m (perform option name element) = Unit {0}
IsLawful m (set_order names) = Unit {0}
IsLawful m (weigh x y range) = IsRange range
IsLawful m (unweigh x y) = Unit {0}
IsLawful m (set_reach name n) = (LEAST_REACH ≤ n) × (n ≤ MOST_REACH)
IsLawful m (set_matrix name matrix) =
    IsMatrix matrix × ((size : ℕ) → matrix_size m name ≡ Some size → matrix.size ≡ size)
IsLawful m (add_group name parent) = Unit {0}
IsLawful m (drop_group name) = Unit {0}
IsLawful m (place name group) = Unit {0}
