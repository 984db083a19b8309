use Rattle.std.proofs.Common.{◌≤◌, ◌∙◌, ap₂, sym, subst, length, arith}
use Rattle.lex_simplex.specs.Answer.{row_entries}
use Rattle.lex_simplex.proofs.Ends.Outcomes.{optimal_weights-long, least_outcome}
use Rattle.lex_simplex.proofs.Readings.Points.{cost_den}
use Rattle.lex_simplex.proofs.reading.optimal_outcome.Goals as goal

pub certificate-requires : goal.certificate-requires
certificate-requires c = subst (λ cs. length cs ≤ length c.as_slice.result.now) (sym c.columns.ensures)
    (optimal_weights-long c.args.cells.now c.as_slice.result.now c.requires (c.as_slice.ensures ∙ c.in_ok-weights.ensures))

pub returns-clause-outcome : goal.returns-clause-outcome
returns-clause-outcome c p ok h end =
    let den = c.in_ok-cert.ensures.0 ∙ cost_den c.args.cells.now c.cost_row.result.now c.index-cost_row-0.result
    (omega (arith, c.cost_row.ensures.width)) c.cost_row.ensures.value c.index-cost_row-0.is in
    let on = c.in_ok-cert.ensures.1 ∙ ap₂ (λ cs ws. row_entries (length cs) ws) c.columns.ensures (c.as_slice.ensures ∙ c.in_ok-weights.ensures) in
    least_outcome p c.args.cells.now ok h end c.in_ok-point.point c.value-value.result c.in_ok-cert.cert
    c.in_ok-point.ensures.value c.in_ok-point.ensures.lowest c.value-value.ensures.value c.value-value.ensures.lowest den on
