use Rattle.std.proofs.Common.{◌≡◌, map, subst}
use Rattle.std.specs.Prelude.{OnOk, string_bytes}
use Rattle.cert_check.specs.Dominance.{open_line, proof_words}
use Rattle.report_text.specs.Certificates.{subject_words}
use Rattle.report_text.proofs.LineLemmas.{behind}
use Rattle.report_text.proofs.certificates.push_solved.Goals as goal

pub returns : goal.returns
returns c =
    subst (λ bytes. OnOk c.push_proof.result (string_bytes c.push_proof.new.out ≡ bytes))
    (behind (string_bytes c.args.out.now) (string_bytes c.push_subject.new.out) (subject_words c.args.head.now) (proof_words c.args.value c.args.den.now)
    (map open_line c.args.on.now) c.in_ok-push_subject.ensures)
    c.push_proof.ensures
