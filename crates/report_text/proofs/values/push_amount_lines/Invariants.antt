use Rattle.std.proofs.Common.{◌≡◌, ◌++◌, drop, map}
use Rattle.std.specs.Prelude.{string_bytes}
use Rattle.report_text.specs.Lines.{lines_text}
use Rattle.std.specs.List.{zip}
use Rattle.report_text.specs.Values.{amount_line}
use Rattle.report_text.proofs.values.push_amount_lines.Given as goal

abbrev pub invariant-loop-i : goal.invariant-loop-i
invariant-loop-i l = string_bytes l.out ++ lines_text (map amount_line (zip (drop l.i l.names) (drop l.i l.values))) ≡ string_bytes l.fn.out ++ lines_text (map amount_line (zip l.names l.values))
