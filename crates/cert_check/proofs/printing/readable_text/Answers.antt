use Rattle.std.proofs.Common.{◌≡◌, ◌<◌, ◌^◌, length, ap, arith}
use Rattle.std.specs.Prelude.{string_bytes}
use Rattle.std.proofs.lemmas.Result.{IfOk-weaker}
use Rattle.cert_check.specs.Text.{cert_text, IsTextOf}
use Rattle.cert_check.proofs.OneText.{printable, text_of}
use Rattle.cert_check.proofs.printing.readable_text.Goals as goal

pub print_cert-requires : goal.print_cert-requires
print_cert-requires c = printable c.args.cert.now c.requires

pub returns : goal.returns
returns c =
    let same : length c.as_slice-count.result.now ≡ length c.args.cert.now.on = ap length c.as_slice-count.ensures in
    let fits : length c.args.cert.now.on < 2 ^ 127 = omega arith in
    IfOk-weaker c.print_cert.result (λ text. string_bytes text ≡ cert_text c.args.cert.now) (λ text. IsTextOf (string_bytes text) c.args.cert.now)
    (λ text h. text_of (string_bytes text) c.args.cert.now c.requires fits h) c.print_cert.ensures
