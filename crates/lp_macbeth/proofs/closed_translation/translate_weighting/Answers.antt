use Rattle.std.proofs.Common.{◌≡◌, sym, subst, arith}
use Rattle.std.proofs.lemmas.Result.{IfOk-weaker}
use Rattle.frac128.specs.declared.problem.Cert.{Cert}
use Rattle.lp_macbeth.specs.ClosedTranslated.{carried_of, IsWeightingCarried}
use Rattle.lp_macbeth.proofs.ClosedCertLemmas.{weighting_entries, weighting_carried}
use Rattle.lp_macbeth.proofs.closed_translation.translate_weighting.Goals as goal

pub carried-requires : goal.carried-requires
carried-requires c = record { few = omega arith; cert = weighting_entries c.args.matrix.now c.args.cert.now c.requires.cert }

pub returns : goal.returns
returns c =
    let m = c.args.matrix.now in
    let cert = c.args.cert.now in
    IfOk-weaker c.carried.result (λ (carried : Cert). carried ≡ carried_of m 2 cert) (IsWeightingCarried m cert)
    (λ carried is. subst (IsWeightingCarried m cert) (sym is) (weighting_carried m cert c.size.ensures.matrix c.requires.size)) c.carried.ensures
