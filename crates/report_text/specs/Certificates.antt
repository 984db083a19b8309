-- Certificates line by line, and the parts of a dominance certificate.
use Rattle.std.specs.Prelude.{ℕ, ℤ, List, [], ◌∷◌, ◌++◌, map, Option, Some, None, codes}
use Rattle.std.specs.Fmt.{decimal}
use Rattle.std.specs.List.{flat_map, join_with_byte}
use Rattle.integers.specs.Fraction.{Fraction}
use Rattle.frac128.specs.Text.{frac_text}
use Rattle.cert_check.specs.Dominance.{open_line, proof_words}
use Rattle.cert_check.specs.Text.{head_of, head_words, entry_words}
use Rattle.cert_check.specs.declared.dominance.OpenTag.{OpenTag}
use Rattle.cert_check.specs.declared.text.CertText.{CertText}
use Rattle.cert_check.specs.declared.verdict.Place.{Place}
use Rattle.cert_check.specs.declared.verdict.Place.TheVariants.{Den, Entry, Column, Bound}
use Rattle.report_text.specs.Lines.{counted}
use Rattle.report_text.specs.Names.{quoted}
use Rattle.report_text.specs.declared.reply.Head.{Head}
use Rattle.report_text.specs.declared.reply.Head.TheVariants as head
use Rattle.report_text.specs.declared.reply.Part.{Part}

-- the lines of a certificate's text
abbrev pub cert_lines : CertText → List (List ℕ)
cert_lines cert = join_with_byte 32 (head_words (head_of cert)) ∷ map (λ entry. join_with_byte 32 (entry_words entry)) cert.on

-- a line of a check
abbrev pub place_words : Place → List ℕ
place_words Den = codes "den"
place_words (Entry k) = codes "entry " ++ decimal k
place_words (Column k) = codes "column " ++ decimal k
place_words Bound = codes "bound"

-- what a part is about
abbrev pub subject_words : Head → List ℕ
subject_words (head.Criterion name) = codes "criterion " ++ quoted name
subject_words head.Weighting = codes "weighting"

-- a part: the least cost of its problem with the multipliers that show it, or that there is no problem
abbrev pub part_lines_by : Head → Option Fraction → ℤ → List (OpenTag × ℤ) → List (List ℕ)
part_lines_by head None den on = (subject_words head ++ codes " same") ∷ []
part_lines_by head (Some value) den on = counted (subject_words head ++ proof_words value den) (map open_line on)

abbrev pub part_lines : Part → List (List ℕ)
part_lines part = part_lines_by part.head part.value part.den part.on

-- a certificate of dominance
abbrev pub parts_lines : Fraction → List Part → List (List ℕ)
parts_lines least parts = (codes "dominates " ++ frac_text least) ∷ flat_map part_lines parts
