use Rattle.std.proofs.Common.{sym, subst}
use Rattle.judgement_matrix.specs.Matrix.{IsMatrix}
use Rattle.judgement_matrix.specs.Repair.{IsLawfulShift}
use Rattle.judgement_matrix.proofs.LawfulLemmas.{IsMatrix-shifted}
use Rattle.judgement_matrix.proofs.matrix.Matrix.move_by.Goals as goal

pub move_cells-requires : goal.move_cells-requires
move_cells-requires c = record {
  cells = c.self.invariant.cells_are;
  lawful = subst (λ m. IsLawfulShift m c.args.steps.now) (sym c.self.view_is) c.requires;
}

pub invariant_of-self : goal.invariant_of-self
invariant_of-self c =
    subst (λ cells. IsMatrix (record { size = c.self.inside.size; cells = cells })) (sym c.move_cells.ensures)
    (IsMatrix-shifted (record { size = c.self.inside.size; cells = c.self.inside.cells.items }) c.args.steps.now c.self.invariant
    (subst (λ m. IsLawfulShift m c.args.steps.now) (sym c.self.view_is) c.requires))
