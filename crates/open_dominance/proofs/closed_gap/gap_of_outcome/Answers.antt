use Rattle.std.proofs.Common.{subst}
use Rattle.judgement_matrix.specs.Matrix.{IsMatrix}
use Rattle.lex_simplex.specs.Answer.{IsOutcome}
use Rattle.open_dominance.specs.Gap.{gap_form}
use Rattle.open_dominance.proofs.GapLemmas.{references_fit, form_has_points}
use Rattle.open_dominance.proofs.closed_gap.gap_of_outcome.Goals as goal

pub unreachable-requires : goal.unreachable-requires
unreachable-requires c =
    let a = c.args in
    let d = a.criterion.now in
    form_has_points d a.a a.b (subst IsMatrix c.matrix.ensures.value c.size.ensures.matrix) (references_fit d c.elements.ensures.keeps) c.requires.apart
    c.requires.some (subst (IsOutcome (gap_form d a.a a.b)) c.in-Nothing.is c.requires.outcome).0
