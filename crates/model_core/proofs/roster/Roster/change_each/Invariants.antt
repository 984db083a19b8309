use Rattle.std.proofs.Common.{◌≡◌, ◌++◌, map, take, drop, length}
use Rattle.model_core.proofs.roster.Roster.change_each.Given as goal

abbrev pub invariant-loop-at : goal.invariant-loop-at
invariant-loop-at g l = record {
  each : length l.self ≡ length l.initial.self;
  changed : l.self ≡ map (g.C.Change.after l.change) (take l.at l.initial.self) ++ drop l.at l.initial.self;
}
