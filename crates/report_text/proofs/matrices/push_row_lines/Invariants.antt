use Rattle.std.proofs.Common.{◌≡◌, ◌++◌, drop, map}
use Rattle.std.specs.Prelude.{string_bytes}
use Rattle.report_text.specs.Lines.{lines_text}
use Rattle.report_text.specs.Matrices.{row_line}
use Rattle.report_text.proofs.matrices.push_row_lines.Given as goal

abbrev pub invariant-loop-tag : goal.invariant-loop-tag
invariant-loop-tag l = string_bytes l.out ++ lines_text (map (row_line l.names) (drop l.tag-index l.rows)) ≡ string_bytes l.fn.out ++ lines_text (map (row_line l.names) l.rows)
