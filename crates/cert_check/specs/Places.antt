-- The check of a certificate's text on a matrix: its entries stand at the places of their tags among the rows.
use Rattle.std.specs.Prelude.{ℕ, ◌+◌, ◌*◌, ◌<◌, ◌==◌, ℤ, Bool, List, [], ◌∷◌, map, length, get_or}
use Rattle.std.specs.List.{position_or_len}
use Rattle.std.specs.Cmp.Lexicographic.{pointwise}
use Rattle.frac128.specs.Problem.{ProblemData}
use Rattle.frac128.specs.declared.problem.Cert.{Cert}
use Rattle.judgement_matrix.specs.Matrix.{Judgements}
use Rattle.judgement_matrix.specs.declared.tag.Tag.{Tag}
use Rattle.judgement_matrix.specs.declared.tag.Tag.TheVariants.{Lower, Zero, Cross, Order}
use Rattle.lp_macbeth.specs.Rows.{judged_rows, problem_of}
use Rattle.cert_check.specs.Lines.{Check, span_check, farkas_check}
use Rattle.cert_check.specs.declared.text.CertText.{CertText}
use Rattle.cert_check.specs.declared.text.Claim.{Claim}
use Rattle.cert_check.specs.declared.text.Claim.TheVariants.{Least, Nothing}

-- the kind of a row and its positions, as numbers
abbrev pub tag_numbers : Tag → List ℕ
tag_numbers (Lower p q) = 0 ∷ p ∷ q ∷ []
tag_numbers (Zero p q) = 1 ∷ p ∷ q ∷ []
tag_numbers (Cross p q x y) = 2 ∷ p ∷ q ∷ x ∷ y ∷ []
tag_numbers (Order p) = 3 ∷ p ∷ []

abbrev pub is_same_tag : Tag → Tag → Bool
is_same_tag a b = pointwise ◌==◌ (tag_numbers a) (tag_numbers b)

-- an entry by the position of its tag among those of rows; a tag that is none of them stands past the last one
abbrev pub at_place : List Tag → Tag × ℤ → ℕ × ℤ
at_place tags entry = (position_or_len (is_same_tag entry.0) tags, entry.1)

-- a certificate by the positions of its rows
abbrev pub at_places : Judgements → CertText → Cert
at_places m cert = record { den = cert.den; on = map (at_place (judged_rows m)) cert.on }

-- the lines that are checked, by what the certificate claims
abbrev pub check_on : ProblemData → Claim → Cert → Check
check_on p (Least value) cert = span_check p value cert
check_on p Nothing cert = farkas_check p cert

abbrev pub check_of : Judgements → CertText → Check
check_of m cert = check_on (problem_of m) cert.claim (at_places m cert)

-- ---- places by halving

-- a pair as a number, by which the pairs stand in pair order
abbrev pub pair_rank : ℕ → ℕ → ℕ
pair_rank p q = p * 256 + q

-- a tag as a number, by which the rows stand in row order
abbrev pub rank : Tag → ℕ
rank (Lower p q) = pair_rank p q
rank (Zero p q) = 65536 + pair_rank p q
rank (Cross p q x y) = (2 + pair_rank p q) * 65536 + pair_rank x y
rank (Order p) = (2 + 65536) * 65536 + p

-- each tag stands before those of a higher number
abbrev pub Rise : List Tag → Type 0
Rise tags = (i k : ℕ) → i < k → k < length tags → rank (get_or tags i (Lower 0 0)) < rank (get_or tags k (Lower 0 0))
