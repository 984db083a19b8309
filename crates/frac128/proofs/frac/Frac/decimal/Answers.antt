use Rattle.frac128.specs.Decimal.{IsHalfUp, pointed_text}
use Rattle.frac128.proofs.DecimalLemmas.{decimal_is, decimal_text_is}
use Rattle.std.proofs.Common.{◌≡◌, ◌∙◌, ◌*◌, ◌+◌, ◌^◌, ◌<◌, ◌↔◌, ◌<ℤ◌, pos, true, ap, subst, string_bytes, unsigned_abs}
use Rattle.std.proofs.lemmas.Int.{to_z-of_z}
use mir.Syntax.{w128}
use Rattle.std.proofs.lemmas.Result.{IfOk-weaker}
use Rattle.frac128.proofs.frac.Frac.decimal.Goals as goal

pub returns : goal.returns
returns c =
    let f = c.args.self.now in
    let places = c.args.places in
    let whole = c.rounded-whole.result.0 in
    let part = c.rounded-whole.result.1 in
    let num_is = to_z-of_z w128 c.num-num.result (record { sfits = c.num-num.type_inv }) ∙ c.num-num.ensures.value in
    let den_is = to_z-of_z w128 c.den.result (record { sfits = c.den.type_inv }) ∙ c.den.ensures.value in
    let num_size : c.unsigned_abs.result ≡ unsigned_abs f.num = c.unsigned_abs.ensures.value ∙ ap unsigned_abs num_is in
    let den_size : c.unsigned_abs-2.result ≡ unsigned_abs f.den = c.unsigned_abs-2.ensures.value ∙ ap unsigned_abs den_is in
    let half : IsHalfUp (10 ^ places * unsigned_abs f.num) (unsigned_abs f.den) (whole * 10 ^ places + part) =
    subst (λ n. IsHalfUp (10 ^ places * n) (unsigned_abs f.den) (whole * 10 ^ places + part)) num_size
    (subst (λ d. IsHalfUp (10 ^ places * c.unsigned_abs.result) d (whole * 10 ^ places + part)) den_size c.rounded-whole.ensures.half_up) in
    let sign = subst (λ z. c.shows_minus.result ≡ true ↔ ((z <ℤ pos 0) × (0 < whole + part))) num_is c.shows_minus.ensures in
    record {
      rounded = IfOk-weaker c.pointed.result (λ text. string_bytes text ≡ pointed_text c.shows_minus.result whole part places) _
          (λ text h. decimal_is f places whole part c.shows_minus.result (string_bytes text) c.requires.some c.requires.few c.rounded-whole.ensures.part
          c.den.ensures.positive half sign h)
          c.pointed.ensures;
      text = IfOk-weaker c.pointed.result (λ text. string_bytes text ≡ pointed_text c.shows_minus.result whole part places) _
          (λ text h. decimal_text_is f places whole part c.shows_minus.result (string_bytes text) c.rounded-whole.ensures.part half sign h)
          c.pointed.ensures;
    }
