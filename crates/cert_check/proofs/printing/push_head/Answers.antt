use Rattle.std.proofs.Common.{◌≡◌, ◌∙◌, ◌++◌, ◌∷◌, [], length, ap, ap₂, subst}
use Rattle.std.specs.Prelude.{OnOk, string_bytes}
use Rattle.std.specs.Fmt.{decimal}
use Rattle.cert_check.specs.Text.{claim_words}
use Rattle.cert_check.specs.declared.text.TheConstants.{ROWS}
use Rattle.cert_check.proofs.PrintingLemmas.{line-two_last}
use Rattle.cert_check.proofs.printing.push_head.Goals as goal

pub returns : goal.returns
returns c =
    let digits : c.as_str.result.now ≡ decimal (length c.args.cert.now.on) =
    c.as_str.ensures.value ∙ c.in_ok-count.ensures ∙ ap (λ on. decimal (length on)) c.as_slice.ensures in
    subst (λ l. OnOk c.push_last.result (string_bytes c.push_last.new.out ≡ l))
    (ap₂ (λ a w. a ++ (w ++ 10 ∷ [])) (c.in_ok-push_word.ensures ∙ ap (λ a. a ++ (ROWS.now ++ 32 ∷ [])) c.in_ok-push_claim.ensures) digits
    ∙ line-two_last (string_bytes c.args.out.now) (claim_words c.args.cert.now.claim c.args.cert.now.den) ROWS.now (decimal (length c.args.cert.now.on)))
    c.push_last.ensures
