-- What a model keeps with its names, so that its text loads as the same model.
use Rattle.std.specs.Prelude.{◌≡◌, ℕ, List, true, All}
use Rattle.judgement_matrix.specs.Matrix.{IsMatrix}
use Rattle.model_core.specs.Names.{is_name}
use Rattle.model_core.specs.Lists.{AreNamedApart}
use Rattle.model_core.specs.State.{CriterionState, ModelState, IsCriterion, IsModel}

abbrev pub IsNamed : List ℕ → Type 0
IsNamed name = is_name name ≡ true

pub record IsNamedCriterion (c : CriterionState) : Type 0 where
  pub keeps : IsCriterion c
  pub named : IsNamed c.name
  pub elements : All IsNamed c.elements
  pub matrix : IsMatrix c.matrix

-- a model whose names are valid, each once
pub record IsNamedModel (m : ModelState) : Type 0 where
  pub keeps : IsModel m
  pub groups : All (λ group. IsNamed group.name) m.groups
  pub groups_apart : AreNamedApart (λ group. group.name) m.groups
  pub criteria : All IsNamedCriterion m.criteria
  pub criteria_apart : AreNamedApart (λ criterion. criterion.name) m.criteria
  pub options : All IsNamed m.options
  pub options_apart : AreNamedApart (λ option. option) m.options
  pub weighting : IsMatrix m.weighting
