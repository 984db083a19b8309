use Rattle.std.proofs.Common.{◌≡◌, ◌++◌, drop, map}
use Rattle.std.specs.Prelude.{string_bytes}
use Rattle.report_text.specs.Lines.{lines_text}
use Rattle.report_text.specs.Matrices.{shift_line}
use Rattle.report_text.proofs.matrices.push_shifts.Given as goal

abbrev pub invariant-loop-shift : goal.invariant-loop-shift
invariant-loop-shift l = string_bytes l.out ++ lines_text (map (shift_line l.names) (drop l.shift-index l.shifts)) ≡ string_bytes l.fn.out ++ lines_text (map (shift_line l.names) l.shifts)
