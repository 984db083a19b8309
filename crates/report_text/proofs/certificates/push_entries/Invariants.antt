use Rattle.std.proofs.Common.{◌≡◌, ◌++◌, drop, map}
use Rattle.std.specs.Prelude.{string_bytes}
use Rattle.report_text.specs.Lines.{lines_text}
use Rattle.cert_check.specs.Dominance.{open_line}
use Rattle.report_text.proofs.certificates.push_entries.Given as goal

abbrev pub invariant-loop-tag : goal.invariant-loop-tag
invariant-loop-tag l = string_bytes l.out ++ lines_text (map open_line (drop l.tag-index l.on)) ≡ string_bytes l.fn.out ++ lines_text (map open_line l.on)
