-- A matrix stays one where a pair is judged, or not judged any more.
use Rattle.std.proofs.Common.{◌≡◌, ℕ, Bool, true, false, All, length, ◌∙◌, refl}
use Rattle.std.proofs.lemmas.List.{length-set, length-replicate}
use Rattle.std.proofs.lemmas.List.Elements.{All-set, All-replicate}
use Rattle.judgement_matrix.specs.Range.{Bounds, IsRange, full}
use Rattle.judgement_matrix.specs.Matrix.{Judgements, IsSize, IsCell, IsMatrix, pairs, place, unjudged, judged, cleared}
use Rattle.judgement_matrix.proofs.ChangeLemmas.{IsCell-full}

-- a range that was judged
IsCell-judged : (range : Bounds) → IsRange range → IsCell (range, true)
IsCell-judged range is = (is, λ e. cc)

pub IsMatrix-unjudged : (n : ℕ) → IsSize n → IsMatrix (unjudged n)
IsMatrix-unjudged n size = record {
  least = size.0;
  most = size.1;
  each = length-replicate (length (pairs n)) (full, false);
  cells_are = All-replicate IsCell (length (pairs n)) (full, false) IsCell-full;
}

pub IsMatrix-judged : (m : Judgements) (p q : ℕ) (range : Bounds) → IsMatrix m → IsRange range → IsMatrix (judged m p q range)
IsMatrix-judged m p q range is ranged = record {
  least = is.least;
  most = is.most;
  each = length-set m.cells (place m.size p q) (range, true) ∙ is.each;
  cells_are = All-set IsCell m.cells (place m.size p q) (range, true) (IsCell-judged range ranged) is.cells_are;
}

pub IsMatrix-cleared : (m : Judgements) (p q : ℕ) → IsMatrix m → IsMatrix (cleared m p q)
IsMatrix-cleared m p q is = record {
  least = is.least;
  most = is.most;
  each = length-set m.cells (place m.size p q) (full, false) ∙ is.each;
  cells_are = All-set IsCell m.cells (place m.size p q) (full, false) IsCell-full is.cells_are;
}
