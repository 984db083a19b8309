use Rattle.std.specs.List.{IsDistinct}
use Rattle.std.proofs.Common.{◌<◌, [], ◌∷◌, refl, arith}
use Rattle.std.proofs.lemmas.List.Elements.{All-from_recursion}
use Rattle.scale_tests.proofs.weightings.two_in_turn.Goals as goal

pub returns : goal.returns
unfolding IsDistinct
returns c = record { each = refl; within = All-from_recursion (λ i. i < 2) (0 ∷ 1 ∷ []) (omega arith, (omega arith, tt)); once = ((refl, tt), (tt, tt)) }
