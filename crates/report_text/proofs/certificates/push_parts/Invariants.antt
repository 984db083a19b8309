use Rattle.std.proofs.Common.{◌≡◌, ◌++◌, drop}
use Rattle.std.specs.Prelude.{string_bytes}
use Rattle.report_text.specs.Lines.{lines_text}
use Rattle.std.specs.List.{flat_map}
use Rattle.report_text.specs.Certificates.{part_lines}
use Rattle.report_text.proofs.certificates.push_parts.Given as goal

abbrev pub invariant-loop-part : goal.invariant-loop-part
invariant-loop-part l = string_bytes l.out ++ lines_text (flat_map part_lines (drop l.part-index l.parts)) ≡ string_bytes l.fn.out ++ lines_text (flat_map part_lines l.parts)
