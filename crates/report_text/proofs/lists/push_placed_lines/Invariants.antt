use Rattle.std.proofs.Common.{◌≡◌, ◌++◌, drop, map}
use Rattle.std.specs.Prelude.{string_bytes}
use Rattle.report_text.specs.Lines.{lines_text}
use Rattle.report_text.specs.Lists.{placed_line}
use Rattle.report_text.proofs.lists.push_placed_lines.Given as goal

abbrev pub invariant-loop-criterion : goal.invariant-loop-criterion
invariant-loop-criterion l = string_bytes l.out ++ lines_text (map placed_line (drop l.criterion-index l.placed)) ≡ string_bytes l.fn.out ++ lines_text (map placed_line l.placed)
