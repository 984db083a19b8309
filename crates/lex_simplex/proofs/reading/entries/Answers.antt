use Rattle.std.proofs.Common.{◌≡◌, ◌++◌, ◌∷◌, [], true, false, int_eq, pos, drop, take, ◌-◌, length, ap, rules, List, ℤ}
use Rattle.frac128.specs.Entries.{entries_from}
use Rattle.lex_simplex.proofs.CellLists.EntryLoops.{entries_put, entries_skip}
use Rattle.lex_simplex.proofs.reading.entries.Goals as goal
use Rattle.lex_simplex.proofs.reading.entries.Goals.{then-ne+in_ok-push, else-ne}

pub loop-position-preserved : goal.loop-position-preserved
loop-position-preserved c =
    let ws : List ℤ = take (length c.args.weights.now - c.args.vars) (drop c.args.vars c.args.weights.now) in
    elim c.if-ne.branch [
      | then-ne+in_ok-push w ↦ (
          let other : int_eq c.weight-item.result (pos 0) ≡ false = search rules in
          let put : c.if-ne.on.items ≡ c.loop-position.on.items ++ (c.loop-position.position, c.weight-item.result) ∷ [] = search rules in
          entries_put ws c.loop-position.position c.weight-item.result c.loop-position.on.items c.if-ne.on.items
          (entries_from 0 ws) c.loop-position-test.true c.weight-item.is other put c.loop-position.invariant)
      | else-ne w ↦ (
          let zero : int_eq c.weight-item.result (pos 0) ≡ true = search rules in
          entries_skip ws c.loop-position.position c.weight-item.result c.loop-position.on.items c.if-ne.on.items
          (entries_from 0 ws) c.loop-position-test.true c.weight-item.is zero (ap (λ on. on.items) w.on-is) c.loop-position.invariant)
    ]
