use Rattle.std.proofs.Common.{◌-◌, ◌≤◌, sym, subst}
use Rattle.judgement_matrix.specs.Matrix.{Judgements, IsMatrix}
use Rattle.judgement_matrix.proofs.ChangeLemmas.{IsMatrix-without}
use Rattle.judgement_matrix.proofs.matrix.Matrix.remove.Goals as goal

pub invariant_of-self : goal.invariant_of-self
invariant_of-self c =
    let m : Judgements = record { size = c.self.inside.size; cells = c.self.inside.cells.items } in
    let above : 2 ≤ c.self.inside.size = rw (← c.self.view_is) at c.requires.another in
    subst (λ xs. IsMatrix (record { size = c.self.inside.size - 1; cells = xs })) (sym c.drop_element.ensures) (IsMatrix-without m c.args.p c.self.invariant above)
