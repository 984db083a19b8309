use Rattle.std.proofs.Common.{◌≡◌, ◌++◌, drop, map}
use Rattle.std.specs.Prelude.{string_bytes}
use Rattle.report_text.specs.Lines.{lines_text}
use Rattle.report_text.specs.Names.{quoted}
use Rattle.report_text.proofs.matrices.push_names.Given as goal

abbrev pub invariant-loop-name : goal.invariant-loop-name
invariant-loop-name l = string_bytes l.out ++ lines_text (map quoted (drop l.name-index l.names)) ≡ string_bytes l.fn.out ++ lines_text (map quoted l.names)
