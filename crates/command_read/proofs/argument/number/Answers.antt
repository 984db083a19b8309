use Rattle.std.proofs.Common.{◌≡◌, rules, subst, sym, ◌∙◌, ◌<◌, ◌^◌}
use Rattle.std.specs.Prelude.{SomeIff}
use Rattle.std.specs.Str.Parse.{digits_value, ParsesUnsigned}
use Rattle.command_read.proofs.NumberLemmas.{digits_utf8, no_text, digits_parse}
use Rattle.command_read.proofs.argument.number.Goals as goal

pub returns-in_err-ok : goal.returns-in_err-ok
returns-in_err-ok c =
    let text = digits_utf8 c.args.digits.now c.requires in
    absurd (no_text _ _ _ c.from_utf8.result c.from_utf8.ensures.cases text (sym c.in_err-ok.was ∙ c.ok.ensures.value))

pub returns : goal.returns
returns c =
    let same : c.in_ok-ok.field-0.now ≡ c.args.digits.now = search rules in
    let parsed = subst (λ bs. ParsesUnsigned 32 10 bs c.parse.result) same c.parse.ensures.value.0 in
    rw c.ok-2.ensures.value (digits_parse c.args.digits.now c.parse.result c.requires parsed)
