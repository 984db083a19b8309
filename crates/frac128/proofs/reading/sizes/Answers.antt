use Rattle.frac128.proofs.ReadingLemmas.{reads_whole, reads_quotient, take-rest}
use Rattle.std.proofs.Common.{◌∙◌, ◌+◌, sym, refl}
use Rattle.frac128.proofs.reading.sizes.Goals as goal

pub returns-in-None : goal.returns-in-None
returns-in-None c = reads_whole c.args.text.now c.whole.result (sym c.first_slash.ensures ∙ c.in-None.is) c.whole.ensures

pub returns-in-Some : goal.returns-in-Some
returns-in-Some c =
    let at = c.in-Some.at in
    let text = c.args.text.now in
    reads_quotient text at _ _ c.quotient.result (sym c.first_slash.ensures ∙ c.in-Some.is) refl (take-rest (at + 1) text) c.quotient.ensures
