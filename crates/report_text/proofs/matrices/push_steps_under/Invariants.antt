use Rattle.std.proofs.Common.{◌≡◌, ◌++◌, drop, map}
use Rattle.std.specs.Prelude.{string_bytes}
use Rattle.std.specs.List.{zip, flat_map}
use Rattle.report_text.specs.Matrices.{step_words}
use Rattle.report_text.proofs.matrices.push_steps_under.Given as goal

abbrev pub invariant-loop-i : goal.invariant-loop-i
invariant-loop-i l = string_bytes l.out ++ flat_map step_words (zip (map (λ lower. (l.upper, lower)) (drop l.i l.lowers)) (drop l.i l.steps)) ≡ string_bytes l.fn.out ++ flat_map step_words (zip (map (λ lower. (l.upper, lower)) l.lowers) l.steps)
