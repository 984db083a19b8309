-- What is asked of a matrix alone: its judgements, its rows, whether values meet it, whether a certificate holds of it.
use Rattle.std.specs.Prelude.{◌≡◌, ◌⊎◌, ℕ, ◌==◌, ℤ, List, map, length, Result, Ok, Err, MatchBool}
use Rattle.integers.specs.Fraction.{Fraction}
use Rattle.frac128.specs.declared.number.TooWide.{TooWide}
use Rattle.frac128.specs.declared.problem.Row.{Row}
use Rattle.judgement_matrix.specs.Matrix.{Judgements}
use Rattle.judgement_matrix.specs.Values.{IsAnswer}
use Rattle.judgement_matrix.specs.declared.tag.Fit.{Fit}
use Rattle.judgement_matrix.specs.declared.tag.Fit.TheVariants as fit
use Rattle.judgement_matrix.specs.declared.tag.Tag.{Tag}
use Rattle.lp_macbeth.specs.Rows.{tagged_rows}
use Rattle.cert_check.specs.Lines.{IsVerdict}
use Rattle.cert_check.specs.Places.{check_of}
use Rattle.cert_check.specs.Text.{IsTextOf, IsFirstBad}
use Rattle.cert_check.specs.declared.text.CertText.{CertText}
use Rattle.cert_check.specs.declared.verdict.Verdict.{Verdict}
use Rattle.cert_check.specs.declared.verdict.Verdict.TheVariants.{Holds, Fails}
use Rattle.command_read.specs.declared.block.Held.{Held}
use Rattle.model_core.specs.State.{ModelState}
use Rattle.model_json.specs.Writing.{judged_pairs}
use Rattle.report_text.specs.declared.reply.Detail.TheVariants as detail
use Rattle.report_text.specs.declared.reply.Reply.{Reply}
use Rattle.report_text.specs.declared.reply.Reply.TheVariants as reply
use Rattle.session_state.specs.State.{SessionState, matrix_of}
use Rattle.session_state.specs.declared.subject.Subject.{Subject}
use Rattle.session_edits.specs.Refusals.{refused}
use Rattle.session_edits.specs.Subjects.{names_of}
use Rattle.session_edits.specs.Edits.{Refuses, OfBlock}
use Rattle.session_edits.specs.declared.refusal.TheConstants.{WRONG_COUNT, BAD_CERTIFICATE, TOO_WIDE}

-- ---- `matrix` and `rows`

abbrev pub matrix_reply : ModelState → Subject → Reply
matrix_reply m subject = reply.Matrix (names_of m subject) (judged_pairs (matrix_of m subject))

-- the tag of a row and its bound
abbrev pub with_bound : Tag × Row → Tag × ℤ
with_bound row = (row.0, row.1.bound)

-- each row with its bound, in row order
abbrev pub row_bounds : Judgements → List (Tag × ℤ)
row_bounds m = map with_bound (tagged_rows m)

abbrev pub rows_reply : ModelState → Subject → Reply
rows_reply m subject = reply.Rows (names_of m subject) (row_bounds (matrix_of m subject))

-- ---- `fits`

-- the reply for values that meet the judgements, fail this row first, or are too wide
abbrev pub fit_reply : List (List ℕ) → Result Fit TooWide → Reply
fit_reply names (Ok fit.Meets) = reply.Meets
fit_reply names (Ok (fit.Fails tag)) = reply.Fails names tag
fit_reply names (Err wide) = refused TOO_WIDE

-- whether the values meet the matrix
abbrev pub TellsFit : ModelState → Subject → List Fraction → Reply → Type 0
TellsFit m subject values r =
    (answer : Result Fit TooWide) × IsAnswer (matrix_of m subject) values answer
    × (r ≡ fit_reply (names_of m subject) answer)

-- there must be a value for each element
abbrev pub Fits : SessionState → List Fraction → Subject → Reply → SessionState → Type 0
Fits s values subject r next =
    MatchBool (length values == (matrix_of s.model subject).size)
    (TellsFit s.model subject values r × (next ≡ s)) (Refuses s WRONG_COUNT r next)

-- ---- `verify`

abbrev pub verdict_reply : Result Verdict TooWide → Reply
verdict_reply (Ok Holds) = reply.Holds
verdict_reply (Ok (Fails place)) = reply.FailsAt place
verdict_reply (Err wide) = refused TOO_WIDE

-- the verdict on a certificate
abbrev pub TellsVerdict : Judgements → CertText → Reply → Type 0
TellsVerdict m cert r =
    (verdict : Result Verdict TooWide) × IsVerdict (check_of m cert) verdict × (r ≡ verdict_reply verdict)

-- the bytes are the text of a certificate, or have a first bad line
abbrev pub TellsOfText : Judgements → List ℕ → Reply → Type 0
TellsOfText m bytes r =
    ((cert : CertText) × IsTextOf bytes cert × TellsVerdict m cert r)
    ⊎ ((line : ℕ) × IsFirstBad bytes line × (r ≡ reply.Refused BAD_CERTIFICATE (detail.Line line)))

abbrev pub ReadsCertificate : SessionState → Subject → List ℕ → Reply → SessionState → Type 0
ReadsCertificate s subject bytes r next = TellsOfText (matrix_of s.model subject) bytes r × (next ≡ s)

abbrev pub Verifies : SessionState → Held → Subject → Reply → SessionState → Type 0
Verifies s block subject r next = OfBlock s block (ReadsCertificate s subject) r next
