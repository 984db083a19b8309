-- Cells written pair by pair.
use Rattle.std.proofs.Common.{◌≡◌, ℕ, suc, ◌<◌, ◌≤◌, Bool, false, List, [], ◌∷◌, ◌++◌, length, map, take, drop, set, refl, ap, ap₂, ◌∙◌, arith}
use Rattle.std.proofs.lemmas.List.{take_all, drop_all, append-nil, length-replicate}
use Rattle.judgement_matrix.specs.Range.{Bounds, full}
use Rattle.judgement_matrix.specs.Matrix.{Judgements, pairs, place, unjudged}
use Rattle.judgement_matrix.proofs.PlaceLemmas.{place-at}
use Rattle.judgement_matrix.proofs.ChangeLemmas.{drop-next, drop-all, front-set}
use Rattle.table_csv.specs.Table.{cell_in, matrix_in, with_cell}

-- the matrix with the cells of the first so many pairs written
pub written : ℕ → List (List (List ℕ)) → ℕ → Judgements
written n records i = record { size = n; cells = map (cell_in records) (take i (pairs n)) ++ drop i (unjudged n).cells }

pub none_written : (n : ℕ) (records : List (List (List ℕ))) → unjudged n ≡ written n records 0
unfolding written
none_written n records = refl

pub size_written : (n : ℕ) (records : List (List (List ℕ))) (i : ℕ) (m : Judgements) → m ≡ written n records i → m.size ≡ n
unfolding written
size_written n records i m e = ap (λ j. j.size) e

pub next_written : (n : ℕ) (records : List (List (List ℕ))) (i p q : ℕ) (rest : List (ℕ × ℕ)) (old new : Judgements) → drop i (pairs n) ≡ (p, q) ∷ rest
    → old ≡ written n records i → new ≡ with_cell old p q (cell_in records (p, q)) → new ≡ written n records (suc i)
unfolding written
next_written n records i p q rest old new next was is =
    let here = drop-next (pairs n) rest i (p, q) next in
    let at : place n p q ≡ i = place-at n i p q here.0 (here.1 (0, 0)) in
    let within : i < length (unjudged n).cells = omega (arith, here.0, length-replicate {A = Bounds × Bool} (length (pairs n)) (full, false)) in
    is ∙ ap (λ m. with_cell m p q (cell_in records (p, q))) was
    ∙ ap (λ k. record { size = n; cells = set (map (cell_in records) (take i (pairs n)) ++ drop i (unjudged n).cells) k (cell_in records (p, q)) }) at
    ∙ ap (λ cells. record { size = n; cells = cells }) (front-set (cell_in records) (pairs n) rest (unjudged n).cells i (p, q) next within)

pub all_written : (n : ℕ) (records : List (List (List ℕ))) (i : ℕ) (m : Judgements) → drop i (pairs n) ≡ [] → m ≡ written n records i → m ≡ matrix_in n records
unfolding written
all_written n records i m none is =
    let past : length (pairs n) ≤ i = drop-all (pairs n) i none in
    is ∙ ap (λ cells. record { size = n; cells = cells })
    (ap₂ (λ ps rest. map (cell_in records) ps ++ rest) (take_all i (pairs n) past)
    (drop_all i (unjudged n).cells (omega (arith, past, length-replicate {A = Bounds × Bool} (length (pairs n)) (full, false))))
    ∙ append-nil (map (cell_in records) (pairs n)))
