use Rattle.std.proofs.Common.{◌≡◌, ◌∙◌, ◌++◌, subst, rules}
use Rattle.std.specs.Prelude.{OnOk, string_bytes}
use Rattle.cert_check.specs.Text.{cert_text}
use Rattle.report_text.proofs.CertLemmas.{cert_text_is}
use Rattle.report_text.proofs.certificates.push_cert.Goals as goal

pub returns : goal.returns
returns c =
    let bytes : c.as_str.result.now ≡ cert_text c.args.cert.now = search rules in
    let added : OnOk c.push_str.result (string_bytes c.push_str.new.self ≡ string_bytes c.args.out.now ++ c.as_str.result.now) = search rules in
    subst (λ l. OnOk c.push_str.result (string_bytes c.push_str.new.self ≡ string_bytes c.args.out.now ++ l)) (bytes ∙ cert_text_is c.args.cert.now) added
