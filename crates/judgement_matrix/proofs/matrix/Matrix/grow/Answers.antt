use Rattle.std.proofs.Common.{◌≡◌, ◌+◌, ◌<◌, sym, ap, subst, ◌∙◌}
use Rattle.judgement_matrix.specs.Matrix.{Judgements, IsMatrix}
use Rattle.judgement_matrix.specs.declared.matrix.TheConstants.{LIMIT}
use Rattle.judgement_matrix.specs.Change.{grown}
use Rattle.judgement_matrix.proofs.ChangeLemmas.{IsMatrix-grown}
use Rattle.judgement_matrix.proofs.matrix.Matrix.grow.Goals as goal

pub invariant_of-self : goal.invariant_of-self
invariant_of-self c =
    let m : Judgements = record { size = c.self.inside.size; cells = c.self.inside.cells.items } in
    let cells : c.in_ok-self-inside.field-0.items ≡ (grown m).cells = c.in_ok-self-inside.ensures ∙ ap (λ v. (grown v).cells) (sym c.self.view_is) in
    let below : c.self.inside.size < LIMIT = rw (← c.self.view_is) at c.requires in
    subst (λ xs. IsMatrix (record { size = c.self.inside.size + 1; cells = xs })) (sym cells) (IsMatrix-grown m c.self.invariant below)
