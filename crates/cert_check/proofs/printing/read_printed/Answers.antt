use Rattle.std.proofs.Common.{subst, sym}
use Rattle.cert_check.specs.Text.{IsTextOf}
use Rattle.cert_check.proofs.OneText.{read_again}
use Rattle.cert_check.proofs.printing.read_printed.Goals as goal

pub returns : goal.returns
returns c =
    read_again c.as_bytes.result.now c.args.cert.now c.read_cert.result
    (subst (λ bytes. IsTextOf bytes c.args.cert.now) (sym c.as_bytes.ensures.value) c.in_ok-text.ensures) c.read_cert.ensures.text
