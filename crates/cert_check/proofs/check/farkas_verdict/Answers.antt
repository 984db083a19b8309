use Rattle.std.proofs.Common.{subst, pos, ◌+◌}
use Rattle.std.specs.Prelude.{Ok}
use Rattle.cert_check.specs.Columns.{IsColumnAnswer}
use Rattle.cert_check.specs.declared.verdict.Place.TheVariants.{Column, Bound}
use Rattle.cert_check.specs.Lines.{farkas_check}
use Rattle.cert_check.proofs.FarkasLemmas.{farkas-column, farkas-wide_column, farkas-wide_bound, farkas-bound, farkas-passed}
use Rattle.cert_check.proofs.ReachedLemmas.{IsVerdict-refused}
use Rattle.cert_check.proofs.check.farkas_verdict.Goals as goal

pub returns-in_err-j-clause-verdict : goal.returns-in_err-j-clause-verdict
returns-in_err-j-clause-verdict c =
    let wide = c.in_err-j.ensures in
    IsVerdict-refused (farkas_check c.args.problem.now c.args.cert.now) c.from_residual.result c.from_residual.ensures.0
    (Column (wide.0 + 1)) (farkas-wide_column c.args.problem.now c.args.cert.now wide.0 c.in_default.ensures.first wide.1)

pub returns-in-Some-2-clause-verdict : goal.returns-in-Some-2-clause-verdict
returns-in-Some-2-clause-verdict c =
    farkas-column c.args.problem.now c.args.cert.now c.in-Some-2.j c.in_default.ensures.first
    (subst (λ found. IsColumnAnswer c.args.problem.now (pos 0) c.args.cert.now.on (Ok found)) c.in-Some-2.is c.in_ok-j.ensures)

pub returns-in_err-bound_of_all-clause-verdict : goal.returns-in_err-bound_of_all-clause-verdict
returns-in_err-bound_of_all-clause-verdict c =
    IsVerdict-refused (farkas_check c.args.problem.now c.args.cert.now)
    c.from_residual-in_err-bound_of_all.result c.from_residual-in_err-bound_of_all.ensures.0 Bound
    (farkas-wide_bound c.args.problem.now c.args.cert.now c.in_default.ensures.first
    (subst (λ found. IsColumnAnswer c.args.problem.now (pos 0) c.args.cert.now.on (Ok found)) c.in_default-2.is c.in_ok-j.ensures)
    c.in_err-bound_of_all.ensures)

pub returns-then-is_positive-clause-verdict : goal.returns-then-is_positive-clause-verdict
returns-then-is_positive-clause-verdict c =
    farkas-passed c.args.problem.now c.args.cert.now c.in_ok-bound_of_all.field-0 c.in_default.ensures.first
    (subst (λ found. IsColumnAnswer c.args.problem.now (pos 0) c.args.cert.now.on (Ok found)) c.in_default-2.is c.in_ok-j.ensures)
    c.in_ok-bound_of_all.ensures.0 c.in_ok-bound_of_all.ensures.1 (c.is_positive.ensures.0 c.if-is_positive.true)

pub returns-else-is_positive-clause-verdict : goal.returns-else-is_positive-clause-verdict
returns-else-is_positive-clause-verdict c =
    farkas-bound c.args.problem.now c.args.cert.now c.in_ok-bound_of_all.field-0 c.in_default.ensures.first
    (subst (λ found. IsColumnAnswer c.args.problem.now (pos 0) c.args.cert.now.on (Ok found)) c.in_default-2.is c.in_ok-j.ensures)
    c.in_ok-bound_of_all.ensures.0 c.in_ok-bound_of_all.ensures.1 (λ positive. let yes = c.is_positive.ensures.1 positive in let no = c.if-is_positive.false in
    cc)
