-- The test of equality of matrices, and that it says whether their judgements are the same.
use Rattle.std.specs.Prelude.{◌≡◌, Bool, ◌==◌}
use Rattle.std.specs.Bool.{Decides, beq}
use Rattle.std.specs.Ordering.{eq_of_both, on}
use Rattle.std.specs.Cmp.{IsEquivalence, decided, booleans_Decides}
use Rattle.std.specs.Cmp.Lexicographic.{pointwise, pointwise_decides}
use Rattle.std.proofs.Common.{ap}
use Rattle.std.proofs.lemmas.Bool.Decides.{Decides-eqb, Decides-and, Decides-like}
use Rattle.judgement_matrix.specs.Range.{Bounds}
use Rattle.judgement_matrix.specs.Matrix.{Judgements}

-- the same range
abbrev pub same_bounds : Bounds → Bounds → Bool
same_bounds = eq_of_both (on (λ r. r.lo) ◌==◌) (on (λ r. r.hi) ◌==◌)

-- the same cell
abbrev pub same_cell : Bounds × Bool → Bounds × Bool → Bool
same_cell = eq_of_both (on (λ cell. cell.0) same_bounds) (on (λ cell. cell.1) beq)

-- the same judgements
abbrev pub same_judgements : Judgements → Judgements → Bool
same_judgements = eq_of_both (on (λ m. m.size) ◌==◌) (on (λ m. m.cells) (pointwise same_cell))

same_bounds-Decides : (a b : Bounds) → Decides (same_bounds a b) (a ≡ b)
same_bounds-Decides a b =
    Decides-like (same_bounds a b) (λ e. λ i. record { lo = e.0 i; hi = e.1 i }) (λ e. (ap (λ r. r.lo) e, ap (λ r. r.hi) e))
    (Decides-and (a.lo == b.lo) (a.hi == b.hi) (Decides-eqb a.lo b.lo) (Decides-eqb a.hi b.hi))

same_cell-Decides : (a b : Bounds × Bool) → Decides (same_cell a b) (a ≡ b)
same_cell-Decides a b =
    Decides-like (same_cell a b) (λ e. λ i. (e.0 i, e.1 i)) (λ e. (ap (λ c. c.0) e, ap (λ c. c.1) e))
    (Decides-and (same_bounds a.0 b.0) (beq a.1 b.1) (same_bounds-Decides a.0 b.0) (booleans_Decides a.1 b.1))

-- the test decides whether two matrices have the same judgements
pub same_judgements-Decides : (a b : Judgements) → Decides (same_judgements a b) (a ≡ b)
same_judgements-Decides a b =
    Decides-like (same_judgements a b) (λ e. λ i. record { size = e.0 i; cells = e.1 i }) (λ e. (ap (λ m. m.size) e, ap (λ m. m.cells) e))
    (Decides-and (a.size == b.size) (pointwise same_cell a.cells b.cells) (Decides-eqb a.size b.size) (pointwise_decides same_cell-Decides a.cells b.cells))

-- so it is an equivalence
pub same_judgements_are_equivalent : IsEquivalence same_judgements
same_judgements_are_equivalent = decided same_judgements same_judgements-Decides
