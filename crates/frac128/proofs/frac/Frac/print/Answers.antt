use Rattle.frac128.proofs.PrintingLemmas.{frac_text_whole, reading_of_printed}
use Rattle.frac128.specs.Text.{frac_text, IsReading}
use Rattle.std.proofs.Common.{◌≡◌, ◌∙◌, sym, subst, rules, arith, pos, string_bytes}
use Rattle.std.proofs.lemmas.Int.{ints}
use Rattle.std.proofs.lemmas.Result.{IfOk-weaker}
use Rattle.std.specs.Fmt.{signed_decimal}
use Rattle.frac128.proofs.frac.Frac.print.Goals as goal

pub returns-then-den-eq1-clause-text : goal.returns-then-den-eq1-clause-text
returns-then-den-eq1-clause-text c =
    let f = c.args.self.now in
    let whole : f.den ≡ pos 1 = omega (arith, ints) in
    IfOk-weaker c.format.result (λ text. string_bytes text ≡ signed_decimal f.num) _ (λ text h. h ∙ sym (frac_text_whole f whole)) (search rules)

pub returns-then-den-eq1-clause-reads_back : goal.returns-then-den-eq1-clause-reads_back
returns-then-den-eq1-clause-reads_back c =
    let f = c.args.self.now in
    let whole : f.den ≡ pos 1 = omega (arith, ints) in
    let read = reading_of_printed f (c.den-den.ensures.positive, c.den-den.ensures.lowest) c.num-num.ensures.in_range c.den-den.ensures.in_range in
    IfOk-weaker c.format.result (λ text. string_bytes text ≡ signed_decimal f.num) _
    (λ text h. subst (λ bytes. IsReading bytes f) (sym (h ∙ sym (frac_text_whole f whole))) read) (search rules)

pub returns-else-den-eq1-clause-reads_back : goal.returns-else-den-eq1-clause-reads_back
returns-else-den-eq1-clause-reads_back c =
    let f = c.args.self.now in
    let read = reading_of_printed f (c.den-den.ensures.positive, c.den-den.ensures.lowest) c.num-num.ensures.in_range c.den-den.ensures.in_range in
    IfOk-weaker c.format-else-den-eq1.result (λ text. string_bytes text ≡ frac_text f) _
    (λ text h. subst (λ bytes. IsReading bytes f) (sym h) read) (search rules)
