use Rattle.std.proofs.Common.{◌≡◌, ◌++◌, drop, map}
use Rattle.std.specs.Prelude.{string_bytes}
use Rattle.report_text.specs.Lines.{lines_text}
use Rattle.report_text.specs.Lists.{group_line}
use Rattle.report_text.proofs.lists.push_group_lines.Given as goal

abbrev pub invariant-loop-group : goal.invariant-loop-group
invariant-loop-group l = string_bytes l.out ++ lines_text (map group_line (drop l.group-index l.groups)) ≡ string_bytes l.fn.out ++ lines_text (map group_line l.groups)
