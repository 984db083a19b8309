use Rattle.std.proofs.Common.{◌≡◌, ◌++◌, drop, map}
use Rattle.std.specs.Prelude.{string_bytes}
use Rattle.report_text.specs.Lines.{lines_text}
use Rattle.report_text.specs.Values.{amount_line}
use Rattle.report_text.proofs.values.push_parts.Given as goal

abbrev pub invariant-loop-name : goal.invariant-loop-name
invariant-loop-name l = string_bytes l.out ++ lines_text (map amount_line (drop l.name-index l.parts)) ≡ string_bytes l.fn.out ++ lines_text (map amount_line l.parts)
