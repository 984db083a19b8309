-- How a walk over the pairs goes on.
use Rattle.std.proofs.Common.{◌≡◌, ℕ, zero, suc, ◌+◌, ◌-◌, ◌<◌, ◌≤◌, ◌∷◌, refl, ap, arith}
use Rattle.std.specs.List.{flat_map, range_with_len}
use Rattle.judgement_matrix.specs.Walk.{pairs_from}
use Rattle.judgement_matrix.proofs.PlaceLemmas.{row}

-- a row goes on
pub pairs_from-more : (n p q : ℕ) → q ≤ n → pairs_from n p q ≡ (p, q) ∷ pairs_from n p (q + 1)
pairs_from-more n p q h =
    let e : n + 1 - q ≡ suc (n + 1 - (q + 1)) = omega arith in
    rw e

-- the j rows below p, from the first pair of the next row on
rows_below : (n p j : ℕ) → n - 1 - p ≡ j → p < n → flat_map (row n) (range_with_len (p + 1) (n - 1 - p)) ≡ pairs_from n (p + 1) (p + 1 + 1)
rows_below n p zero e h =
    let f : n + 1 - (p + 1 + 1) ≡ 0 = omega arith in
    let g : n - 1 - (p + 1) ≡ 0 = omega arith in
    rw (e, f, g)
rows_below n p (suc j) e h =
    let f : n + 1 - (p + 1 + 1) ≡ n - (p + 1) = omega arith in
    let g : n - 1 - (p + 1) ≡ j = omega arith in
    rw (e, f, g)

-- the rows below p
pub pairs_from-rows : (n p : ℕ) → p < n → flat_map (row n) (range_with_len (p + 1) (n - 1 - p)) ≡ pairs_from n (p + 1) (p + 1 + 1)
pairs_from-rows n p h = rows_below n p (n - 1 - p) refl h

-- a row ends
pub pairs_from-turn : (n p q : ℕ) → q ≡ n → p < q → pairs_from n p q ≡ (p, q) ∷ pairs_from n (p + 1) (p + 1 + 1)
pairs_from-turn n p q at_end h =
    let e : n + 1 - q ≡ 1 = omega arith in
    rw e (ap (λ xs. (p, q) ∷ xs) (pairs_from-rows n p (omega arith)))
