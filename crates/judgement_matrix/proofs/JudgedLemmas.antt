-- What a judgement changes.
use Rattle.std.proofs.Common.{Bool, ◌≡◌, ℕ, ◌<◌, false, length, get_or, sym, ap, ◌∙◌}
use Rattle.std.specs.Prelude.{slice_set}
use Rattle.std.proofs.lemmas.List.{get_or-set_same, get_or-set_other, get_or-replicate}
use Rattle.judgement_matrix.specs.Range.{Bounds, full}
use Rattle.judgement_matrix.specs.Matrix.{Judgements, IsPair, pairs, place, cell_at, unjudged}
use Rattle.judgement_matrix.proofs.PlaceLemmas.{get_or-place, place-below}

-- two pairs at one place are one pair
pub place_injective : (n p q x y : ℕ) → IsPair n p q → IsPair n x y → place n x y ≡ place n p q → (x ≡ p) × (y ≡ q)
place_injective n p q x y in_n at_n e =
    let same = sym (get_or-place n x y (0, 0) at_n) ∙ ap (λ k. get_or (pairs n) k (0, 0)) e ∙ get_or-place n p q (0, 0) in_n in
    (ap (λ pair. pair.0) same, ap (λ pair. pair.1) same)

-- the judgements with one cell changed
abbrev changed : Judgements → ℕ → ℕ → Bounds × Bool → Judgements
changed m p q cell = record { size = m.size; cells = slice_set m.cells (place m.size p q) cell }

-- the pair that was changed
pub cell_at-set_here : (m : Judgements) (p q : ℕ) (cell : Bounds × Bool) → length m.cells ≡ length (pairs m.size) → IsPair m.size p q
    → cell_at (changed m p q cell) p q ≡ cell
cell_at-set_here m p q cell each in_n =
    let below : place m.size p q < length m.cells = rw each (place-below m.size p q in_n) in
    get_or-set_same m.cells (place m.size p q) cell (full, false) below

-- any other pair
pub cell_at-set_other : (m : Judgements) (p q x y : ℕ) (cell : Bounds × Bool) → IsPair m.size p q → IsPair m.size x y → ¬ ((x ≡ p) × (y ≡ q))
    → cell_at (changed m p q cell) x y ≡ cell_at m x y
cell_at-set_other m p q x y cell in_n at_n apart =
    get_or-set_other m.cells (place m.size p q) (place m.size x y) cell (full, false)
    (λ e. apart (place_injective m.size p q x y in_n at_n e))

-- each pair where nothing is judged
pub cell_at-unjudged : (n p q : ℕ) → IsPair n p q → cell_at (unjudged n) p q ≡ (full, false)
cell_at-unjudged n p q in_n = get_or-replicate (length (pairs n)) (place n p q) (full, false) (full, false) (place-below n p q in_n)
