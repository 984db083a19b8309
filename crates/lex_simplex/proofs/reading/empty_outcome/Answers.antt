use Rattle.std.proofs.Common.{◌≤◌, ◌∙◌, ap₂, sym, subst, length}
use Rattle.lex_simplex.specs.Answer.{row_entries}
use Rattle.lex_simplex.proofs.Ends.Outcomes.{empty_weights-long, nothing_outcome}
use Rattle.lex_simplex.proofs.reading.empty_outcome.Goals as goal

pub certificate-requires : goal.certificate-requires
certificate-requires c = subst (λ cs. length cs ≤ length c.as_slice.result.now) (sym c.columns.ensures)
    (empty_weights-long c.args.cells.now c.args.row c.as_slice.result.now c.requires.tableau (c.as_slice.ensures ∙ c.in_ok-weights.ensures))

pub returns-clause-outcome : goal.returns-clause-outcome
returns-clause-outcome c p ok h end =
    let on = c.in_ok-cert.ensures.1 ∙ ap₂ (λ cs ws. row_entries (length cs) ws) c.columns.ensures (c.as_slice.ensures ∙ c.in_ok-weights.ensures) in
    nothing_outcome p c.args.cells.now c.args.row ok h c.requires.row end c.in_ok-cert.cert c.in_ok-cert.ensures.0 on
