-- Replies, their texts, and which of them have one.
use Rattle.std.specs.Prelude.{◌≡◌, ℕ, List, [], ◌∷◌, ◌++◌, length, All, codes, ⊤}
use Rattle.frac128.specs.Text.{frac_text}
use Rattle.cert_check.specs.Text.{IsPrintable as HasCertText}
use Rattle.report_text.specs.Lines.{lines_text, counted}
use Rattle.report_text.specs.Names.{tag_words, IsTagOf}
use Rattle.report_text.specs.Refusals.{refusal_line, IsRefusal}
use Rattle.report_text.specs.Values.{values_lines, amounts_lines, slack_line, not_lines, subtotals_lines}
use Rattle.report_text.specs.Matrices.{matrix_lines, rows_lines, repairs_lines, IsJudgedOf, IsShiftOf}
use Rattle.report_text.specs.Certificates.{cert_lines, place_words, parts_lines}
use Rattle.report_text.specs.Lists.{dominances_lines, groups_lines, stats_line}
use Rattle.report_text.specs.declared.reply.Reply.{Reply}
use Rattle.report_text.specs.declared.reply.Reply.TheVariants as reply

-- the lines of a reply
abbrev pub reply_lines : Reply → List (List ℕ)
reply_lines reply.Ok = codes "ok" ∷ []
reply_lines (reply.Refused number detail) = refusal_line number detail ∷ []
reply_lines (reply.Matrix names judged) = matrix_lines names judged
reply_lines (reply.Rows names rows) = rows_lines names rows
reply_lines reply.Meets = codes "meets" ∷ []
reply_lines (reply.Fails names tag) = (codes "fails " ++ tag_words names tag) ∷ []
reply_lines (reply.Scale names values cert) = values_lines (codes "scale") names values ++ cert_lines cert
reply_lines (reply.Inconsistent cert) = codes "inconsistent" ∷ cert_lines cert
reply_lines (reply.Cert cert) = cert_lines cert
reply_lines reply.Holds = codes "holds" ∷ []
reply_lines (reply.FailsAt place) = (codes "fails " ++ place_words place) ∷ []
reply_lines reply.Consistent = codes "consistent" ∷ []
reply_lines (reply.Repairs names total shifts) = repairs_lines names total shifts
reply_lines (reply.Anchored names values) = amounts_lines (codes "anchored") names values
reply_lines (reply.Slack low high) = slack_line low high ∷ []
reply_lines (reply.Weights names values) = amounts_lines (codes "weights") names values
reply_lines (reply.Scores names values) = amounts_lines (codes "scores") names values
reply_lines (reply.Dominates least) = (codes "dominates " ++ frac_text least) ∷ []
reply_lines (reply.Not gap scales weights) = not_lines gap scales weights
reply_lines (reply.DomCert least parts) = parts_lines least parts
reply_lines (reply.Dominances pairs) = dominances_lines pairs
reply_lines (reply.Csv lines) = counted (codes "csv") lines
reply_lines (reply.Dump lines) = counted (codes "dump") lines
reply_lines (reply.Stats pivots kept) = stats_line pivots kept ∷ []
reply_lines (reply.Groups groups placed) = groups_lines groups placed
reply_lines (reply.Subtotals parts total) = subtotals_lines parts total

-- the bytes that are written for a reply
abbrev pub reply_text : Reply → List ℕ
reply_text r = lines_text (reply_lines r)

-- what has a text: a refusal of a number that there is, as many values as names, positions that are places among the names, a number
-- for each pair of the names, certificates that have a text
abbrev pub IsPrintable : Reply → Type 0
IsPrintable (reply.Refused number detail) = IsRefusal number
IsPrintable (reply.Matrix names judged) = All (IsJudgedOf (length names)) judged
IsPrintable (reply.Rows names rows) = All (λ row. IsTagOf (length names) row.0) rows
IsPrintable (reply.Fails names tag) = IsTagOf (length names) tag
IsPrintable (reply.Scale names values cert) = (length values ≡ length names) × HasCertText cert
IsPrintable (reply.Inconsistent cert) = HasCertText cert
IsPrintable (reply.Cert cert) = HasCertText cert
IsPrintable (reply.Repairs names total shifts) = All (IsShiftOf (length names)) shifts
IsPrintable (reply.Anchored names values) = length values ≡ length names
IsPrintable (reply.Weights names values) = length values ≡ length names
IsPrintable (reply.Scores names values) = length values ≡ length names
IsPrintable other = ⊤
