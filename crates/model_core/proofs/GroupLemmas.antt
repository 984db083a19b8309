-- Groups and what lies under them.
use Rattle.std.proofs.Common.{◌≡◌, ℕ, zero, suc, ◌+◌, ◌<◌, ◌↔◌, IsTrue, false, List, Option, Some, None, slice_get, refl, sym, ap, subst, ◌∙◌, arith}
use Rattle.std.specs.Option.{option_and_then, option_map_or, IfSome}
use Rattle.model_core.specs.State.{GroupState, parent_of}
use Rattle.model_core.specs.Finding.{ancestor, LiesUnder}

some_same : (a b : ℕ) → Some a ≡ Some b → a ≡ b
some_same a b h = cc

module _ (groups : List GroupState) where
  none_above : (n : ℕ) → ancestor groups n None ≡ None
  none_above zero = refl
  none_above (suc n) = none_above n

  none_some : (g : ℕ) → None ≡ Some g → ⊥
  none_some g h = cc

  -- the root lies under no group
  pub LiesUnder-root : (g : ℕ) → LiesUnder groups None g → ⊥
  LiesUnder-root g h = none_some g (sym (none_above h.0) ∙ h.1)

  -- another group lies under a group exactly where its parent does
  pub LiesUnder-parent : (k g : ℕ) → (k ≡ g → ⊥) → LiesUnder groups (Some k) g ↔ LiesUnder groups (parent_of groups k) g
  LiesUnder-parent k g other = (step, λ h. (suc h.0, h.1))
    where
      step : LiesUnder groups (Some k) g → LiesUnder groups (parent_of groups k) g
      step (zero, e) = absurd (other (some_same k g e))
      step (suc n, e) = (n, e)

  -- the parent of the group that was read
  pub parent_read : (k : ℕ) (group : GroupState) → slice_get groups k ≡ Some group → parent_of groups k ≡ group.parent
  parent_read k group is = ap (option_and_then (λ x. x.parent)) is

-- a parent stands earlier
pub smaller : (o at : Option ℕ) (place : ℕ) → at ≡ Some place → IfSome o (λ above. above < place) → option_map_or (λ k. k + 1) o 0 < option_map_or (λ k. k + 1) at 0
smaller None at place e h = subst (λ a. 0 < option_map_or (λ k. k + 1) a 0) (sym e) (omega arith)
smaller (Some above) at place e h = subst (λ a. (above + 1) < option_map_or (λ k. k + 1) a 0) (sym e) (omega (arith, h))

pub never : IsTrue false → ⊥
never h = cc
