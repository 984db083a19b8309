use Rattle.std.proofs.Common.{◌≡◌, ◌++◌, length}
use Rattle.std.specs.Prelude.{string_bytes}
use Rattle.std.specs.List.{zip, flat_map}
use Rattle.report_text.specs.Matrices.{pairs_of, step_words}
use Rattle.report_text.proofs.matrices.push_steps.Given as goal

abbrev pub invariant-loop-upper : goal.invariant-loop-upper
invariant-loop-upper l = record {
  each : length l.steps ≡ length (pairs_of l.names);
  rest : string_bytes l.out ++ flat_map step_words (zip (pairs_of l.names) l.steps) ≡ string_bytes l.fn.out ++ flat_map step_words (zip (pairs_of l.fn.names) l.fn.steps);
}

abbrev pub decreases-loop-upper : goal.decreases-loop-upper
decreases-loop-upper l = length l.names
