use Rattle.std.proofs.Common.{◌≡◌, ◌++◌, drop, map}
use Rattle.std.specs.Prelude.{string_bytes}
use Rattle.report_text.specs.Lines.{lines_text}
use Rattle.report_text.specs.Values.{weight_line}
use Rattle.report_text.proofs.values.push_weights.Given as goal

abbrev pub invariant-loop-name : goal.invariant-loop-name
invariant-loop-name l = string_bytes l.out ++ lines_text (map weight_line (drop l.name-index l.weights)) ≡ string_bytes l.fn.out ++ lines_text (map weight_line l.weights)
