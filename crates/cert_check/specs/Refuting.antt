-- Entries that name rows by their tags, as a refutation of a matrix.
use Rattle.std.specs.Prelude.{◌≡◌, ◌↔◌, ℕ, ◌+◌, ◌<◌, ◌≤◌, ℤ, pos, Bool, List, [], ◌∷◌, map, length, get_or, IsTrue, Result, Ok, Err}
use Rattle.frac128.specs.Problem.{ProblemData, IsFarkasCertificate}
use Rattle.frac128.specs.declared.number.TooWide.{TooWide}
use Rattle.frac128.specs.declared.problem.Cert.{Cert}
use Rattle.judgement_matrix.specs.Matrix.{Judgements, IsPair, range_at}
use Rattle.judgement_matrix.specs.declared.tag.Tag.{Tag}
use Rattle.judgement_matrix.specs.declared.tag.Tag.TheVariants.{Lower, Zero, Cross, Order}
use Rattle.lp_macbeth.specs.Rows.{judged_rows, problem_of}
use Rattle.cert_check.specs.Lines.{IsFirstTooWide, farkas_check}
use Rattle.cert_check.specs.Places.{at_place, rank}
use Rattle.cert_check.specs.declared.verdict.Place.{Place}

-- the entries by the positions of their tags among the rows of the matrix, over 1
abbrev pub placed_on : Judgements → List (Tag × ℤ) → Cert
placed_on m on = record { den = pos 1; on = map (at_place (judged_rows m)) on }

-- so placed, they are a Farkas certificate of the problem of the matrix
abbrev pub Refute : Judgements → List (Tag × ℤ) → Type 0
Refute m on = IsFarkasCertificate (problem_of m) (placed_on m on)

-- whether it is a Farkas certificate, or that the check of it stops at a number out of range
abbrev pub TellsWhetherFarkas : ProblemData → Cert → Result Bool TooWide → Type 0
TellsWhetherFarkas p cert (Ok is_one) = IsTrue is_one ↔ IsFarkasCertificate p cert
TellsWhetherFarkas p cert (Err wide) = (line : Place) × IsFirstTooWide (farkas_check p cert) line

-- so for the entries
abbrev pub TellsWhetherRefuted : Judgements → List (Tag × ℤ) → Result Bool TooWide → Type 0
TellsWhetherRefuted m on result = TellsWhetherFarkas (problem_of m) (placed_on m on) result

-- ---- how it is told

-- the judgements give the row of the tag
abbrev pub IsRowOf : Judgements → Tag → Type 0
IsRowOf m (Lower p q) = IsPair m.size p q × (1 ≤ (range_at m p q).lo)
IsRowOf m (Zero p q) = IsPair m.size p q × ((range_at m p q).hi ≡ 0)
IsRowOf m (Cross p q x y) = IsPair m.size p q × IsPair m.size x y × ((range_at m x y).hi < (range_at m p q).lo)
IsRowOf m (Order p) = ⊥

-- the tag of the entry at a place, from 0 on
abbrev pub tag_at : List (Tag × ℤ) → ℕ → Tag
tag_at on i = (get_or on i (Lower 0 0, pos 0)).0

-- it is that of a row, which stands after that of the entry before
pub record IsRowInOrder (m : Judgements) (on : List (Tag × ℤ)) (i : ℕ) : Type 0 where
  pub is_row : IsRowOf m (tag_at on i)
  pub after_last : (k : ℕ) → k + 1 ≡ i → rank (tag_at on k) < rank (tag_at on i)

-- and so is each
abbrev pub AreRowsInOrder : Judgements → List (Tag × ℤ) → Type 0
AreRowsInOrder m on = (i : ℕ) → i < length on → IsRowInOrder m on i

-- the entries by their own numbers, from k on
abbrev pub numbered : ℕ → List (Tag × ℤ) → List (ℕ × ℤ)
numbered k [] = []
numbered k (entry ∷ entries) = (k, entry.1) ∷ numbered (k + 1) entries
