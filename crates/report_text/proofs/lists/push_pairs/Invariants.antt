use Rattle.std.proofs.Common.{◌≡◌, ◌++◌, drop, map}
use Rattle.std.specs.Prelude.{string_bytes}
use Rattle.report_text.specs.Lines.{lines_text}
use Rattle.report_text.specs.Lists.{pair_line}
use Rattle.report_text.proofs.lists.push_pairs.Given as goal

abbrev pub invariant-loop-upper : goal.invariant-loop-upper
invariant-loop-upper l = string_bytes l.out ++ lines_text (map pair_line (drop l.upper-index l.pairs)) ≡ string_bytes l.fn.out ++ lines_text (map pair_line l.pairs)
