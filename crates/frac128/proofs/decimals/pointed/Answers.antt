use Rattle.frac128.proofs.DecimalLemmas.{padded_is}
use Rattle.std.proofs.Common.{◌≡◌, ◌∙◌, [], ◌∷◌, ◌++◌, false, ap, rules, string_bytes}
use Rattle.std.proofs.lemmas.Result.{IfOk-weaker}
use Rattle.std.specs.Fmt.{decimal, padded_integral}
use Rattle.frac128.proofs.decimals.pointed.Goals as goal

pub returns-then-minus : goal.returns-then-minus
returns-then-minus c =
    let whole = c.args.whole in
    let part = c.args.part in
    let digits =
    ap (λ s. padded_integral s false [] (decimal part)) c.laid_out.ensures ∙ padded_is c.from-width.result c.args.places part c.from-width.ensures in
    IfOk-weaker c.format.result (λ text. string_bytes text ≡ 45 ∷ (decimal whole ++ 46 ∷ padded_integral c.laid_out.result false [] (decimal part))) _
    (λ text h. rw c.if-minus.true (h ∙ ap (λ t. 45 ∷ (decimal whole ++ 46 ∷ t)) digits))
    (search rules)

pub returns-else-minus : goal.returns-else-minus
returns-else-minus c =
    let whole = c.args.whole in
    let part = c.args.part in
    let digits =
    ap (λ s. padded_integral s false [] (decimal part)) c.laid_out-else-minus.ensures
    ∙ padded_is c.from-width.result c.args.places part c.from-width.ensures in
    IfOk-weaker c.format-else-minus.result (λ text. string_bytes text ≡ decimal whole ++ 46
    ∷ padded_integral c.laid_out-else-minus.result false [] (decimal part)) _
    (λ text h. rw c.if-minus.false (h ∙ ap (λ t. decimal whole ++ 46 ∷ t) digits))
    (search rules)
