use Rattle.frac128.proofs.DigitLemmas.{AllDigits-from_test, test-from_AllDigits}
use Rattle.std.proofs.Common.{◌∙◌, ◌<◌, length, sym, arith}
use Rattle.frac128.proofs.reading.is_numeral.Goals as goal

pub returns-then-not-is_empty : goal.returns-then-not-is_empty
returns-then-not-is_empty c =
    let text = c.args.text.now in
    let some : 0 < length text = grind arith in
    (λ e. (some, AllDigits-from_test text (sym c.are_digits.ensures ∙ e)), λ h. c.are_digits.ensures ∙ test-from_AllDigits text h.1)
