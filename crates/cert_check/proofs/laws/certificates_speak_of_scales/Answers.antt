use Rattle.cert_check.proofs.FailsLemmas.{span_bounds_scales, farkas_refutes_scales}
use Rattle.cert_check.proofs.laws.certificates_speak_of_scales.Goals as goal

pub returns-clause-span : goal.returns-clause-span
returns-clause-span c = λ value w n h met. span_bounds_scales c.args.matrix.now c.args.cert.now value w n c.requires h met

pub returns-clause-none : goal.returns-clause-none
returns-clause-none c = farkas_refutes_scales c.args.matrix.now c.args.cert.now c.requires
