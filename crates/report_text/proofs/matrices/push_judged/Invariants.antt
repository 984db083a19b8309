use Rattle.std.proofs.Common.{◌≡◌, ◌++◌, drop, map}
use Rattle.std.specs.Prelude.{string_bytes}
use Rattle.report_text.specs.Lines.{lines_text}
use Rattle.report_text.specs.Matrices.{judged_line}
use Rattle.report_text.proofs.matrices.push_judged.Given as goal

abbrev pub invariant-loop-p : goal.invariant-loop-p
invariant-loop-p l = string_bytes l.out ++ lines_text (map (judged_line l.names) (drop l.p-index l.judged)) ≡ string_bytes l.fn.out ++ lines_text (map (judged_line l.names) l.judged)
