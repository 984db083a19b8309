use Rattle.std.proofs.Common.{◌≡◌, length, map, subst}
use Rattle.std.specs.Prelude.{OnOk, string_bytes}
use Rattle.std.proofs.lemmas.List.{length-map}
use Rattle.cert_check.specs.Dominance.{open_line, proof_words}
use Rattle.report_text.proofs.LineLemmas.{under_heading, numbered}
use Rattle.report_text.proofs.certificates.push_proof.Goals as goal

pub returns : goal.returns
returns c =
    let old = string_bytes c.args.out.now in
    let middle = string_bytes c.push_count.new.out in
    let heading = proof_words c.args.value c.args.den.now in
    let on = c.args.on.now in
    subst (λ bytes. OnOk c.push_entries.result (string_bytes c.push_entries.new.out ≡ bytes))
    (under_heading old middle heading (length on) (map open_line on) (length-map on open_line)
    (numbered old (string_bytes c.push_claim.new.out) middle heading (length on) c.in_ok-push_claim.ensures c.in_ok-push_count.ensures))
    c.push_entries.ensures
