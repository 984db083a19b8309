use Rattle.std.proofs.Common.{subst, sym}
use Rattle.cert_check.specs.Lines.{IsVerdict}
use Rattle.cert_check.specs.Places.{check_on}
use Rattle.cert_check.proofs.places.checked.Goals as goal

pub returns-in-Least : goal.returns-in-Least
returns-in-Least c =
    subst (λ claim. IsVerdict (check_on c.args.problem.now claim c.args.cert.now) c.check_dual.result) (sym c.in-Least.is) c.check_dual.ensures.verdict
