use Rattle.std.proofs.Common.{◌≡◌, ◌++◌, drop}
use Rattle.std.specs.Prelude.{string_bytes}
use Rattle.report_text.specs.Values.{values_words}
use Rattle.report_text.proofs.values.push_value_words.Given as goal

abbrev pub invariant-loop-value : goal.invariant-loop-value
invariant-loop-value l = string_bytes l.out ++ values_words (drop l.value-index l.values) ≡ string_bytes l.fn.out ++ values_words l.values
