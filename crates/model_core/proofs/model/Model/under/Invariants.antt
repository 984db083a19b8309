use Rattle.std.proofs.Common.{◌≡◌, ◌<◌, ◌+◌, ◌↔◌, ℕ, Some, length}
use Rattle.std.specs.Option.{option_map_or}
use Rattle.model_core.specs.Finding.{criterion_at, LiesUnder}
use Rattle.model_core.proofs.model.Model.under.Given as goal

abbrev pub invariant-loop-at : goal.invariant-loop-at
invariant-loop-at l = record {
  within : (k : ℕ) → l.at ≡ Some k → k < length l.self.groups;
  so_far : LiesUnder l.self.groups (criterion_at l.self l.criterion).group l.group ↔ LiesUnder l.self.groups l.at l.group;
}

abbrev pub decreases-loop-at : goal.decreases-loop-at
decreases-loop-at l = option_map_or (λ k. k + 1) l.at 0
