use Rattle.std.proofs.Common.{◌+ℤ◌, ◌∷◌, [], ℤ, ◌∙◌, ap, arith}
use Rattle.std.proofs.lemmas.List.{length-append}
use Rattle.judgement_matrix.specs.Scale.{difference}
use Rattle.lp_macbeth.specs.Gaps.{scale_of}
use Rattle.lp_macbeth.proofs.ClosedLemmas.{closed_iff}
use Rattle.lp_macbeth.proofs.ClosedCostLemmas.{closed_cost-above, closed_cost-below}
use Rattle.lp_macbeth.proofs.laws.closed_costs_are_differences.Goals as goal

pub returns : goal.returns
returns c =
    let a = c.args in
    let m = a.matrix.now in
    record {
      above = λ x r n h l.
          ap (λ (z : ℤ). record { num = z; den = n })
          (closed_cost-above m.size a.a a.b x r (omega (arith, h.one_each, length-append x (r ∷ []))) (c.requires.a.0, l, c.requires.b.1));
      below = λ x r n h l.
          let references = c.requires.references in
          let reached = ((closed_iff m a.good a.neutral a.reach a.a a.b x r n (omega (arith, references)) references).0 h).reached in
          ap (λ (z : ℤ). record { num = z; den = n })
          (closed_cost-below m.size a.a a.b x r (omega (arith, h.one_each, length-append x (r ∷ []))) (c.requires.b.0, l, c.requires.a.1)
          ∙ ap (λ s. difference (scale_of x) a.a a.b +ℤ s) reached);
    }
