use Rattle.std.proofs.Common.{◌≡◌, ◌++◌, drop}
use Rattle.lp_macbeth.specs.Passing.{lefts, takings}
use Rattle.lp_macbeth.proofs.passing.pass_all.Given as goal

abbrev pub invariant-loop-category : goal.invariant-loop-category
invariant-loop-category l = record {
  kept : l.kept.items ++ lefts (drop l.category-index l.ats) l.rests ≡ lefts l.ats l.belows;
  taken : l.taken.items ++ takings (drop l.category-index l.ats) l.rests ≡ takings l.ats l.belows;
}
