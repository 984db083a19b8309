use Rattle.std.proofs.Common.{◌≡◌, replicate, None}
use Rattle.model_json.proofs.options.nowhere.Given as goal

abbrev pub invariant-criteria : goal.invariant-criteria
invariant-criteria l = l.row.items ≡ replicate l.counter None
