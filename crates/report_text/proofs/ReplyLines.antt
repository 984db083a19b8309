-- The lines of a reply have no newline in them.
use Rattle.std.proofs.Common.{◌≢◌, ℕ, ◌-◌, ◌/◌, ◌%◌, ◌^◌, ◌==◌, ◌&&◌, nat_lt, List, [], ◌∷◌, ◌++◌, map, length, zip, replicate, Option, Some, None, ℤ, pos, unsigned_abs, int_lt, refl, All}
use Rattle.std.specs.Prelude.{if◌then◌else◌, codes}
use Rattle.std.specs.List.{join_with_byte, AllByRecursion}
use Rattle.std.specs.Fmt.{decimal, signed_decimal}
use Rattle.std.specs.Ordering.{int_eq}
use Rattle.std.proofs.lemmas.List.Elements.{All-from_recursion, recursion_from_All}
use Rattle.integers.specs.Fraction.{Fraction}
use Rattle.frac128.specs.Text.{frac_text}
use Rattle.frac128.specs.Decimal.{decimal_text, rounded_size}
use Rattle.judgement_matrix.specs.Range.{Bounds}
use Rattle.judgement_matrix.specs.declared.shift.Shift.{Shift}
use Rattle.judgement_matrix.specs.declared.tag.Tag.{Tag}
use Rattle.judgement_matrix.specs.declared.tag.Tag.TheVariants.{Lower, Zero, Cross, Order}
use Rattle.model_core.specs.Categories.{range_text, category_words, category_word}
use Rattle.cert_check.specs.Text.{claim_words, head_of, head_words, entry_words}
use Rattle.cert_check.specs.Text.{tag_words as cert_tag_words}
use Rattle.cert_check.specs.declared.text.CertText.{CertText}
use Rattle.cert_check.specs.declared.text.Claim.{Claim}
use Rattle.cert_check.specs.declared.text.Claim.TheVariants as claim
use Rattle.cert_check.specs.declared.text.TheConstants.{ROWS}
use Rattle.cert_check.specs.declared.verdict.Place.{Place}
use Rattle.cert_check.specs.declared.verdict.Place.TheVariants as place
use Rattle.report_text.specs.Lines.{counted}
use Rattle.report_text.specs.Names.{quoted, two_names, name_at, pair_words, tag_words}
use Rattle.report_text.specs.Refusals.{refusal_line, refusal_texts, refusal_words, detail_words}
use Rattle.report_text.specs.Values.{amount_words, value_line, amount_line, values_lines, amounts_lines, values_words, high_words, scale_line, weight_line, not_lines, subtotals_lines}
use Rattle.report_text.specs.Matrices.{judged_line, matrix_lines, row_line, rows_lines, pairs_of, step_words, shift_line, repairs_lines, repairs_heading}
use Rattle.cert_check.specs.Dominance.{positions_words, open_tag_words, open_line, proof_words}
use Rattle.report_text.specs.Certificates.{cert_lines, place_words, subject_words, part_lines, part_lines_by, parts_lines}
use Rattle.report_text.specs.Lists.{pair_line, group_line, placed_line, groups_lines, pivots_words, stats_line}
use Rattle.report_text.specs.OneLine.{IsLine, IsNamed, AreNamed, IsGroup, HasLine, IsHeaded, HasLines}
use Rattle.report_text.specs.Reply.{reply_lines}
use Rattle.report_text.specs.declared.reply.Detail.{Detail}
use Rattle.report_text.specs.declared.reply.Detail.TheVariants as detail
use Rattle.report_text.specs.declared.reply.Head.{Head}
use Rattle.report_text.specs.declared.reply.Head.TheVariants as head
use Rattle.cert_check.specs.declared.dominance.OpenTag.{OpenTag}
use Rattle.cert_check.specs.declared.dominance.OpenTag.TheVariants as kind
use Rattle.report_text.specs.declared.reply.Part.{Part}
use Rattle.report_text.specs.declared.reply.Reply.{Reply}
use Rattle.report_text.specs.declared.reply.Reply.TheVariants as reply
use Rattle.report_text.specs.declared.words.TheConstants.{PLACES}
use Rattle.report_text.proofs.LineParts.{line-append, line-cond, decimal_line, signed_line, zeros_line, lines_by_test, lines-append, lines-map, lines-each, lines-flat_map, line-flat_map, line-flat_each, line-join, line_at, all-zip}

-- two texts, and one between them
joined : (a middle b : List ℕ) → IsLine a → IsLine middle → IsLine b → IsLine (a ++ middle ++ b)
joined a middle b h m k = line-append (a ++ middle) b (line-append a middle h m) k

spaced : (a b : List ℕ) → IsLine a → IsLine b → IsLine (a ++ codes " " ++ b)
spaced a b h k = joined a (codes " ") b h refl k

frac_is : (f : Fraction) → IsLine (frac_text f)
frac_is f = line-append (signed_decimal f.num) (if unsigned_abs f.den == 1 then [] else codes "/" ++ decimal (unsigned_abs f.den))
    (signed_line f.num) (line-cond (unsigned_abs f.den == 1) [] (codes "/" ++ decimal (unsigned_abs f.den)) refl (decimal_line (unsigned_abs f.den)))

decimal_is : (f : Fraction) (places : ℕ) → IsLine (decimal_text f places)
decimal_is f places =
    let size = rounded_size f places in
    let part = size % 10 ^ places in
    let minus = int_lt f.num (pos 0) && nat_lt 0 size in
    line-append (if minus then codes "-" else []) (decimal (size / 10 ^ places) ++ (codes "." ++ (replicate (places - length (decimal part)) 48 ++ decimal part)))
    (line-cond minus (codes "-") [] refl refl)
    (line-append (decimal (size / 10 ^ places)) (codes "." ++ (replicate (places - length (decimal part)) 48 ++ decimal part)) (decimal_line (size / 10 ^ places))
    (line-append (replicate (places - length (decimal part)) 48) (decimal part) (zeros_line (places - length (decimal part))) (decimal_line part)))

amount_is : (f : Fraction) → IsLine (amount_words f)
amount_is f = spaced (frac_text f) (decimal_text f PLACES) (frac_is f) (decimal_is f PLACES)

-- ---- names

quoted_is : (name : List ℕ) → IsLine name → IsLine (quoted name)
quoted_is name h = line-append name (codes "\"") h refl

two_are : (a b : List ℕ) → IsLine a → IsLine b → IsLine (two_names a b)
two_are a b h k = spaced (quoted a) (quoted b) (quoted_is a h) (quoted_is b k)

name_at_is : (names : List (List ℕ)) (p : ℕ) → AllByRecursion IsLine names → IsLine (name_at names p)
name_at_is names p h = line_at names (p - 1) h

pair_is : (names : List (List ℕ)) (p q : ℕ) → AllByRecursion IsLine names → IsLine (pair_words names p q)
pair_is names p q h = two_are (name_at names p) (name_at names q) (name_at_is names p h) (name_at_is names q h)

tag_is : (names : List (List ℕ)) (tag : Tag) → AllByRecursion IsLine names → IsLine (tag_words names tag)
tag_is names (Lower p q) h = pair_is names p q h
tag_is names (Zero p q) h = pair_is names p q h
tag_is names (Cross p q x y) h = joined (pair_words names p q) (codes " over ") (pair_words names x y) (pair_is names p q h) refl (pair_is names x y h)
tag_is names (Order p) h = quoted_is (name_at names p) (name_at_is names p h)

-- ---- refusals

detail_is : (d : Detail) → HasLine d → IsLine (detail_words d)
detail_is detail.None h = refl
detail_is (detail.At pointer) h = h
detail_is (detail.Cell line field) h = joined (decimal line) (codes " field ") (decimal field) (decimal_line line) refl (decimal_line field)
detail_is (detail.Line line) h = decimal_line line
detail_is (detail.Missing option criterion) h = two_are option criterion h.0 h.1
detail_is (detail.Place criterion) h = quoted_is criterion h
detail_is detail.Weighting h = refl
detail_is (detail.Reach criterion span reach) h =
    spaced (quoted criterion ++ codes " " ++ frac_text span) (decimal reach) (spaced (quoted criterion) (frac_text span) (quoted_is criterion h) (frac_is span)) (decimal_line reach)
detail_is (detail.Shifted shift) h = line-flat_each (λ step. codes " " ++ signed_decimal step) (λ step. signed_line step) shift.by

refusal_is : (number : ℕ) (d : Detail) → HasLine d → IsLine (refusal_line number d)
refusal_is number d h =
    line-append (codes "refused " ++ decimal number ++ codes " " ++ refusal_words number) (detail_words d)
    (spaced (decimal number) (refusal_words number) (decimal_line number) (line_at refusal_texts (number - 1) (lines_by_test refusal_texts refl))) (detail_is d h)

-- ---- lines under a heading

counted_are : (heading : List ℕ) (lines : List (List ℕ)) → IsLine heading → AllByRecursion IsLine lines → AllByRecursion IsLine (counted heading lines)
counted_are heading lines h k = (spaced heading (decimal (length lines)) h (decimal_line (length lines)), k)

value_is : (e : List ℕ × Fraction) → IsNamed e → IsLine (value_line e)
value_is e h = spaced (quoted e.0) (frac_text e.1) (quoted_is e.0 h) (frac_is e.1)

amount_line_is : (e : List ℕ × Fraction) → IsNamed e → IsLine (amount_line e)
amount_line_is e h = spaced (quoted e.0) (amount_words e.1) (quoted_is e.0 h) (amount_is e.1)

values_are : (heading : List ℕ) (names : List (List ℕ)) (values : List Fraction) → IsLine heading → AllByRecursion IsLine names
    → AllByRecursion IsLine (values_lines heading names values)
values_are heading names values h k = counted_are heading (map value_line (zip names values)) h
    (lines-map IsNamed value_line value_is (zip names values) (all-zip IsLine names values k))

amounts_are : (heading : List ℕ) (names : List (List ℕ)) (values : List Fraction) → IsLine heading → AllByRecursion IsLine names
    → AllByRecursion IsLine (amounts_lines heading names values)
amounts_are heading names values h k = counted_are heading (map amount_line (zip names values)) h
    (lines-map IsNamed amount_line amount_line_is (zip names values) (all-zip IsLine names values k))

high_is : (high : Option Fraction) → IsLine (high_words high)
high_is None = refl
high_is (Some high) = frac_is high

scale_is : (e : List ℕ × List Fraction) → IsNamed e → IsLine (scale_line e)
scale_is e h = line-append (quoted e.0) (values_words e.1) (quoted_is e.0 h) (line-flat_each (λ value. codes " " ++ frac_text value) frac_is e.1)

not_are : (gap : Fraction) (scales : List (List ℕ × List Fraction)) (weights : List (List ℕ × Fraction)) → AllByRecursion IsNamed scales
    → AllByRecursion IsNamed weights → AllByRecursion IsLine (not_lines gap scales weights)
not_are gap scales weights h k = (
  frac_is gap,
  lines-append (map scale_line scales) (map weight_line weights)
      (lines-map IsNamed scale_line scale_is scales h) (lines-map IsNamed weight_line value_is weights k),
)

subtotals_are : (parts : List (List ℕ × Fraction)) (total : Fraction) → AllByRecursion IsNamed parts → AllByRecursion IsLine (subtotals_lines parts total)
subtotals_are parts total h =
    lines-append (counted (codes "subtotals") (map amount_line parts)) ((codes "total " ++ amount_words total) ∷ [])
    (counted_are (codes "subtotals") (map amount_line parts) refl (lines-map IsNamed amount_line amount_line_is parts h)) (amount_is total, tt)

-- ---- matrices

category_is : (c : ℕ) → IsLine (category_word c)
category_is c = line_at category_words c (lines_by_test category_words refl)

range_is : (range : Bounds) → IsLine (range_text range)
range_is range = line-cond (range.lo == range.hi) (category_word range.lo) (category_word range.lo ++ codes ".." ++ category_word range.hi)
    (category_is range.lo) (joined (category_word range.lo) (codes "..") (category_word range.hi) (category_is range.lo) refl (category_is range.hi))

judged_is : (names : List (List ℕ)) → AllByRecursion IsLine names → (judged : ℕ × ℕ × Bounds) → IsLine (judged_line names judged)
judged_is names h judged = spaced (pair_words names judged.0 judged.1) (range_text judged.2) (pair_is names judged.0 judged.1 h) (range_is judged.2)

matrix_are : (names : List (List ℕ)) (judged : List (ℕ × ℕ × Bounds)) → AllByRecursion IsLine names → AllByRecursion IsLine (matrix_lines names judged)
matrix_are names judged h = (
  spaced (decimal (length names)) (decimal (length judged)) (decimal_line (length names)) (decimal_line (length judged)),
  lines-append (map quoted names) (map (judged_line names) judged) (lines-map IsLine quoted quoted_is names h) (lines-each (judged_line names) (judged_is names h) judged),
)

row_is : (names : List (List ℕ)) → AllByRecursion IsLine names → (row : Tag × ℤ) → IsLine (row_line names row)
row_is names h row = spaced (tag_words names row.0) (signed_decimal row.1) (tag_is names row.0 h) (signed_line row.1)

rows_are : (names : List (List ℕ)) (rows : List (Tag × ℤ)) → AllByRecursion IsLine names → AllByRecursion IsLine (rows_lines names rows)
rows_are names rows h = counted_are (codes "rows") (map (row_line names) rows) refl (lines-each (row_line names) (row_is names h) rows)

both_append : (xs ys : List (List ℕ × List ℕ)) → AllByRecursion AreNamed xs → AllByRecursion AreNamed ys → AllByRecursion AreNamed (xs ++ ys)
both_append [] ys h k = k
both_append (x ∷ xs) ys h k = (h.0, both_append xs ys h.1 k)

upper_are : (upper : List ℕ) (lowers : List (List ℕ)) → IsLine upper → AllByRecursion IsLine lowers
    → AllByRecursion AreNamed (map (λ (lower : List ℕ). (upper, lower)) lowers)
upper_are upper [] h k = tt
upper_are upper (lower ∷ lowers) h k = ((h, k.0), upper_are upper lowers h k.1)

pairs_are : (names : List (List ℕ)) → AllByRecursion IsLine names → AllByRecursion AreNamed (pairs_of names)
pairs_are [] h = tt
pairs_are (upper ∷ lowers) h = both_append (map (λ (lower : List ℕ). (upper, lower)) lowers) (pairs_of lowers) (upper_are upper lowers h.0 h.1) (pairs_are lowers h.1)

step_is : (step : (List ℕ × List ℕ) × ℤ) → AreNamed step.0 → IsLine (step_words step)
step_is step h = line-cond (int_eq step.1 (pos 0)) [] (codes " " ++ two_names step.0.0 step.0.1 ++ codes " " ++ signed_decimal step.1) refl
    (spaced (two_names step.0.0 step.0.1) (signed_decimal step.1) (two_are step.0.0 step.0.1 h.0 h.1) (signed_line step.1))

shift_is : (names : List (List ℕ)) → AllByRecursion IsLine names → (shift : Shift) → IsLine (shift_line names shift)
shift_is names h shift = line-flat_map (λ (step : (List ℕ × List ℕ) × ℤ). AreNamed step.0) step_words step_is (zip (pairs_of names) shift.by)
    (all-zip AreNamed (pairs_of names) shift.by (pairs_are names h))

repairs_are : (names : List (List ℕ)) (total : ℕ) (shifts : List Shift) → AllByRecursion IsLine names → AllByRecursion IsLine (repairs_lines names total shifts)
repairs_are names total shifts h = counted_are (repairs_heading total) (map (shift_line names) shifts)
    (line-append (decimal total) (codes " count") (decimal_line total) refl) (lines-each (shift_line names) (shift_is names h) shifts)

-- ---- certificates

cert_tag_are : (tag : Tag) → AllByRecursion IsLine (cert_tag_words tag)
cert_tag_are (Lower p q) = (refl, (decimal_line p, (decimal_line q, tt)))
cert_tag_are (Zero p q) = (refl, (decimal_line p, (decimal_line q, tt)))
cert_tag_are (Cross p q x y) = (refl, (decimal_line p, (decimal_line q, (decimal_line x, (decimal_line y, tt)))))
cert_tag_are (Order p) = tt

entry_is : (entry : Tag × ℤ) → IsLine (join_with_byte 32 (entry_words entry))
entry_is entry = line-join (entry_words entry) (lines-append (cert_tag_words entry.0) (signed_decimal entry.1 ∷ []) (cert_tag_are entry.0) (signed_line entry.1, tt))

claim_are : (c : Claim) (den : ℤ) → AllByRecursion IsLine (claim_words c den)
claim_are (claim.Least value) den = (refl, (frac_is value, (refl, (signed_line den, tt))))
claim_are claim.Nothing den = (refl, tt)

cert_are : (cert : CertText) → AllByRecursion IsLine (cert_lines cert)
cert_are cert = (
  line-join (head_words (head_of cert)) (lines-append (claim_words cert.claim cert.den) (ROWS.now ∷ decimal (length cert.on) ∷ [])
      (claim_are cert.claim cert.den) (refl, (decimal_line (length cert.on), tt))),
  lines-each (λ entry. join_with_byte 32 (entry_words entry)) entry_is cert.on,
)

place_is : (p : Place) → IsLine (place_words p)
place_is place.Den = refl
place_is (place.Entry k) = decimal_line k
place_is (place.Column k) = decimal_line k
place_is place.Bound = refl

positions_are : (p q : ℕ) → IsLine (positions_words p q)
positions_are p q = spaced (decimal p) (decimal q) (decimal_line p) (decimal_line q)

open_tag_is : (tag : OpenTag) → IsLine (open_tag_words tag)
open_tag_is (kind.Zero p q) = positions_are p q
open_tag_is (kind.Cross p q x y) = spaced (positions_words p q) (positions_words x y) (positions_are p q) (positions_are x y)
open_tag_is kind.AnchorUp = refl
open_tag_is kind.AnchorDown = refl
open_tag_is kind.ReachUp = refl
open_tag_is kind.ReachDown = refl
open_tag_is kind.SumUp = refl
open_tag_is kind.SumDown = refl

open_line_is : (entry : OpenTag × ℤ) → IsLine (open_line entry)
open_line_is entry = spaced (open_tag_words entry.0) (signed_decimal entry.1) (open_tag_is entry.0) (signed_line entry.1)

subject_is : (h : Head) → IsHeaded h → IsLine (subject_words h)
subject_is (head.Criterion name) h = quoted_is name h
subject_is head.Weighting h = refl

proof_is : (value : Fraction) (den : ℤ) → IsLine (proof_words value den)
proof_is value den = line-append (codes " least " ++ frac_text value ++ codes " den " ++ signed_decimal den) (codes " rows")
    (joined (frac_text value) (codes " den ") (signed_decimal den) (frac_is value) refl (signed_line den)) refl

part_by_are : (h : Head) (value : Option Fraction) (den : ℤ) (on : List (OpenTag × ℤ)) → IsHeaded h → AllByRecursion IsLine (part_lines_by h value den on)
part_by_are h None den on k = (line-append (subject_words h) (codes " same") (subject_is h k) refl, tt)
part_by_are h (Some value) den on k = counted_are (subject_words h ++ proof_words value den) (map open_line on)
    (line-append (subject_words h) (proof_words value den) (subject_is h k) (proof_is value den)) (lines-each open_line open_line_is on)

parts_are : (least : Fraction) (parts : List Part) → AllByRecursion (λ (part : Part). IsHeaded part.head) parts → AllByRecursion IsLine (parts_lines least parts)
parts_are least parts h = (
  frac_is least,
  lines-flat_map (λ (part : Part). IsHeaded part.head) part_lines
      (λ part k. part_by_are part.head part.value part.den part.on k) parts h,
)

-- ---- lists

group_is : (e : List ℕ × Option (List ℕ)) → IsGroup e → IsLine (group_line e)
group_is (name, None) h = quoted_is name h
group_is (name, Some above) h = joined (quoted name) (codes " under ") (quoted above) (quoted_is name h.0) refl (quoted_is above h.1)

placed_is : (e : List ℕ × List ℕ) → AreNamed e → IsLine (placed_line e)
placed_is e h = joined (quoted e.0) (codes " in ") (quoted e.1) (quoted_is e.0 h.0) refl (quoted_is e.1 h.1)

groups_are : (groups : List (List ℕ × Option (List ℕ))) (placed : List (List ℕ × List ℕ)) → AllByRecursion IsGroup groups → AllByRecursion AreNamed placed
    → AllByRecursion IsLine (groups_lines groups placed)
groups_are groups placed h k = lines-append (counted (codes "groups") (map group_line groups)) (map placed_line placed)
    (counted_are (codes "groups") (map group_line groups) refl (lines-map IsGroup group_line group_is groups h)) (lines-map AreNamed placed_line placed_is placed k)

stats_is : (pivots kept : ℕ) → IsLine (stats_line pivots kept)
stats_is pivots kept = spaced (pivots_words pivots) (decimal kept) (line-append (decimal pivots) (codes " kept") (decimal_line pivots) refl) (decimal_line kept)

-- ---- replies

are_lines : (r : Reply) → HasLines r → AllByRecursion IsLine (reply_lines r)
are_lines reply.Ok h = (refl, tt)
are_lines (reply.Refused number detail) h = (refusal_is number detail h, tt)
are_lines (reply.Matrix names judged) h = matrix_are names judged (recursion_from_All IsLine names h)
are_lines (reply.Rows names rows) h = rows_are names rows (recursion_from_All IsLine names h)
are_lines reply.Meets h = (refl, tt)
are_lines (reply.Fails names tag) h = (tag_is names tag (recursion_from_All IsLine names h), tt)
are_lines (reply.Scale names values cert) h =
    lines-append (values_lines (codes "scale") names values) (cert_lines cert) (values_are (codes "scale") names values refl (recursion_from_All IsLine names h)) (cert_are cert)
are_lines (reply.Inconsistent cert) h = (refl, cert_are cert)
are_lines (reply.Cert cert) h = cert_are cert
are_lines reply.Holds h = (refl, tt)
are_lines (reply.FailsAt place) h = (place_is place, tt)
are_lines reply.Consistent h = (refl, tt)
are_lines (reply.Repairs names total shifts) h = repairs_are names total shifts (recursion_from_All IsLine names h)
are_lines (reply.Anchored names values) h = amounts_are (codes "anchored") names values refl (recursion_from_All IsLine names h)
are_lines (reply.Slack low high) h = (spaced (frac_text low) (high_words high) (frac_is low) (high_is high), tt)
are_lines (reply.Weights names values) h = amounts_are (codes "weights") names values refl (recursion_from_All IsLine names h)
are_lines (reply.Scores names values) h = amounts_are (codes "scores") names values refl (recursion_from_All IsLine names h)
are_lines (reply.Dominates least) h = (frac_is least, tt)
are_lines (reply.Not gap scales weights) h = not_are gap scales weights (recursion_from_All IsNamed scales h.0) (recursion_from_All IsNamed weights h.1)
are_lines (reply.DomCert least parts) h = parts_are least parts (recursion_from_All (λ (part : Part). IsHeaded part.head) parts h)
are_lines (reply.Dominances pairs) h = counted_are (codes "dominances") (map pair_line pairs) refl
    (lines-map AreNamed pair_line (λ pair k. two_are pair.0 pair.1 k.0 k.1) pairs (recursion_from_All AreNamed pairs h))
are_lines (reply.Csv lines) h = counted_are (codes "csv") lines refl (recursion_from_All IsLine lines h)
are_lines (reply.Dump lines) h = counted_are (codes "dump") lines refl (recursion_from_All IsLine lines h)
are_lines (reply.Stats pivots kept) h = (stats_is pivots kept, tt)
are_lines (reply.Groups groups placed) h = groups_are groups placed (recursion_from_All IsGroup groups h.0) (recursion_from_All AreNamed placed h.1)
are_lines (reply.Subtotals parts total) h = subtotals_are parts total (recursion_from_All IsNamed parts h)

pub all_lines : (r : Reply) → HasLines r → All IsLine (reply_lines r)
all_lines r h = All-from_recursion IsLine (reply_lines r) (are_lines r h)

-- the first line
is_some : {A : Type 0} (x : A) (xs : List A) → (x ∷ xs) ≢ []
is_some x xs e = cc

pub some_line : (r : Reply) → reply_lines r ≢ []
some_line reply.Ok = is_some _ _
some_line (reply.Refused number detail) = is_some _ _
some_line (reply.Matrix names judged) = is_some _ _
some_line (reply.Rows names rows) = is_some _ _
some_line reply.Meets = is_some _ _
some_line (reply.Fails names tag) = is_some _ _
some_line (reply.Scale names values cert) = is_some _ _
some_line (reply.Inconsistent cert) = is_some _ _
some_line (reply.Cert cert) = is_some _ _
some_line reply.Holds = is_some _ _
some_line (reply.FailsAt place) = is_some _ _
some_line reply.Consistent = is_some _ _
some_line (reply.Repairs names total shifts) = is_some _ _
some_line (reply.Anchored names values) = is_some _ _
some_line (reply.Slack low high) = is_some _ _
some_line (reply.Weights names values) = is_some _ _
some_line (reply.Scores names values) = is_some _ _
some_line (reply.Dominates least) = is_some _ _
some_line (reply.Not gap scales weights) = is_some _ _
some_line (reply.DomCert least parts) = is_some _ _
some_line (reply.Dominances pairs) = is_some _ _
some_line (reply.Csv lines) = is_some _ _
some_line (reply.Dump lines) = is_some _ _
some_line (reply.Stats pivots kept) = is_some _ _
some_line (reply.Groups groups placed) = is_some _ _
some_line (reply.Subtotals parts total) = is_some _ _
