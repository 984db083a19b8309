-- A certificate's text, line by line.
use Rattle.std.proofs.Common.{◌≡◌, ◌∷◌, [], ◌++◌, ℕ, List, sym, ap}
use Rattle.std.specs.List.{join_with_byte}
use Rattle.std.proofs.lemmas.List.Folds.{flat_map-map}
use Rattle.cert_check.specs.Text.{cert_text, entry_words, head_of, head_words, line_of}
use Rattle.cert_check.specs.declared.text.CertText.{CertText}
use Rattle.report_text.specs.Lines.{lines_text}
use Rattle.report_text.specs.Certificates.{cert_lines}

pub cert_text_is : (cert : CertText) → cert_text cert ≡ lines_text (cert_lines cert)
cert_text_is cert = ap (λ (l : List ℕ). line_of (head_words (head_of cert)) ++ l)
    (sym (flat_map-map (λ (line : List ℕ). line ++ 10 ∷ []) (λ entry. join_with_byte 32 (entry_words entry)) cert.on))
