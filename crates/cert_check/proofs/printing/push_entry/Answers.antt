use Rattle.std.proofs.Common.{◌≡◌, ◌∙◌, ◌++◌, ◌∷◌, [], ap₂, subst, rules}
use Rattle.std.specs.Prelude.{OnOk, string_bytes}
use Rattle.std.specs.Fmt.{signed_decimal}
use Rattle.cert_check.specs.Text.{tag_words}
use Rattle.cert_check.proofs.PrintingLemmas.{line-last}
use Rattle.cert_check.proofs.printing.push_entry.Goals as goal

pub returns : goal.returns
returns c =
    let digits : c.as_str.result.now ≡ signed_decimal c.args.entry.now.1 = search rules in
    subst (λ l. OnOk c.push_last.result (string_bytes c.push_last.new.out ≡ l))
    (ap₂ (λ a w. a ++ (w ++ 10 ∷ [])) c.in_ok-push_tag.ensures digits
    ∙ line-last (string_bytes c.args.out.now) (tag_words c.args.entry.now.0) (signed_decimal c.args.entry.now.1))
    c.push_last.ensures
