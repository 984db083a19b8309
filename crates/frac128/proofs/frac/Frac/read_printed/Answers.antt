use Rattle.frac128.proofs.PrintingLemmas.{read_back}
use Rattle.frac128.specs.Text.{IsReading}
use Rattle.std.proofs.Common.{subst, sym}
use Rattle.frac128.proofs.frac.Frac.read_printed.Goals as goal

pub returns : goal.returns
returns c =
    let f = c.args.self.now in
    let read = subst (λ bytes. IsReading bytes f) (sym c.as_bytes.ensures.value) c.in_ok-text.ensures.reads_back in
    let r = c.read_frac.ensures in
    read_back f c.as_bytes.result.now c.read_frac.result read r.ok r.bad_number r.too_wide
