use Rattle.std.proofs.Common.{subst, sym, ◌+◌, ℕ}
use Rattle.std.specs.Prelude.{Ok}
use Rattle.integers.specs.Fraction.{SameFraction}
use Rattle.cert_check.specs.Columns.{IsColumnAnswer, IsWideColumn}
use Rattle.cert_check.specs.declared.verdict.Place.TheVariants.{Column, Bound}
use Rattle.cert_check.specs.Lines.{span_check}
use Rattle.cert_check.proofs.SpanLemmas.{span-column, span-wide_column, span-wide_bound, span-bound, span-passed}
use Rattle.cert_check.proofs.ReachedLemmas.{IsVerdict-refused}
use Rattle.cert_check.proofs.check.span_verdict.Goals as goal

pub returns-in_err-j-clause-verdict : goal.returns-in_err-j-clause-verdict
returns-in_err-j-clause-verdict c =
    let wide = subst (λ d. (j : ℕ) × IsWideColumn c.args.problem.now d c.args.cert.now.on j) c.in-Some.ensures.1 c.in_err-j.ensures in
    IsVerdict-refused (span_check c.args.problem.now c.args.value.now c.args.cert.now) c.from_residual.result c.from_residual.ensures.0
    (Column (wide.0 + 1))
    (span-wide_column c.args.problem.now c.args.value.now c.args.cert.now wide.0 c.in-Some.ensures.0 c.in_default-false_entry.ensures.first wide.1)

pub returns-in-Some-2-clause-verdict : goal.returns-in-Some-2-clause-verdict
returns-in-Some-2-clause-verdict c =
    span-column c.args.problem.now c.args.value.now c.args.cert.now c.in-Some-2.j c.in-Some.ensures.0 c.in_default-false_entry.ensures.first
    (subst (λ found. IsColumnAnswer c.args.problem.now c.args.cert.now.den c.args.cert.now.on (Ok found)) c.in-Some-2.is
    (subst (λ d. IsColumnAnswer c.args.problem.now d c.args.cert.now.on (Ok c.in_ok-j.field-0)) c.in-Some.ensures.1 c.in_ok-j.ensures))

pub returns-in_err-bound_of_all-clause-verdict : goal.returns-in_err-bound_of_all-clause-verdict
returns-in_err-bound_of_all-clause-verdict c =
    IsVerdict-refused (span_check c.args.problem.now c.args.value.now c.args.cert.now)
    c.from_residual-in_err-bound_of_all.result c.from_residual-in_err-bound_of_all.ensures.0 Bound
    (span-wide_bound c.args.problem.now c.args.value.now c.args.cert.now c.in-Some.ensures.0 c.in_default-false_entry.ensures.first
    (subst (λ found. IsColumnAnswer c.args.problem.now c.args.cert.now.den c.args.cert.now.on (Ok found)) c.in_default-2.is
    (subst (λ d. IsColumnAnswer c.args.problem.now d c.args.cert.now.on (Ok c.in_ok-j.field-0)) c.in-Some.ensures.1 c.in_ok-j.ensures))
    c.in_err-bound_of_all.ensures)

pub returns-then-is_value-clause-verdict : goal.returns-then-is_value-clause-verdict
returns-then-is_value-clause-verdict c =
    span-passed c.args.problem.now c.args.value.now c.args.cert.now c.in_ok-bound_of_all.field-0 c.in-Some.ensures.0 c.in_default-false_entry.ensures.first
    (subst (λ found. IsColumnAnswer c.args.problem.now c.args.cert.now.den c.args.cert.now.on (Ok found)) c.in_default-2.is
    (subst (λ d. IsColumnAnswer c.args.problem.now d c.args.cert.now.on (Ok c.in_ok-j.field-0)) c.in-Some.ensures.1 c.in_ok-j.ensures))
    c.in_ok-bound_of_all.ensures.0 c.in_ok-bound_of_all.ensures.1
    (subst (λ d. SameFraction (record { num = c.in_ok-bound_of_all.field-0; den = d }) c.args.value.now) c.in-Some.ensures.1
    (c.is_value.ensures.0 c.if-is_value.true))

pub returns-else-is_value-clause-verdict : goal.returns-else-is_value-clause-verdict
returns-else-is_value-clause-verdict c =
    span-bound c.args.problem.now c.args.value.now c.args.cert.now c.in_ok-bound_of_all.field-0 c.in-Some.ensures.0 c.in_default-false_entry.ensures.first
    (subst (λ found. IsColumnAnswer c.args.problem.now c.args.cert.now.den c.args.cert.now.on (Ok found)) c.in_default-2.is
    (subst (λ d. IsColumnAnswer c.args.problem.now d c.args.cert.now.on (Ok c.in_ok-j.field-0)) c.in-Some.ensures.1 c.in_ok-j.ensures))
    c.in_ok-bound_of_all.ensures.0 c.in_ok-bound_of_all.ensures.1
    (λ same. let yes = c.is_value.ensures.1 (subst (λ d. SameFraction (record { num = c.in_ok-bound_of_all.field-0; den = d }) c.args.value.now)
    (sym c.in-Some.ensures.1) same) in
    let no = c.if-is_value.false in cc)
