-- Judgements that were written are read as the same judgements.
use Rattle.std.proofs.Common.{◌≡◌, ℕ, suc, ◌+◌, ◌<◌, ◌&&◌, arith, get_or, Bool, true, false, List, [], ◌∷◌, ◌++◌, length, map, replicate, nat_lt, nat_le, Option, Some, Ok, refl, sym, ap, subst, ◌∙◌, append_assoc, if◌then◌else◌}
use Rattle.std.specs.Prelude.{slice_set}
use Rattle.std.specs.List.{flat_map, AllByRecursion}
use Rattle.std.proofs.Math.Seq.{get_or-append_seam, set-append_seam}
use Rattle.std.proofs.lemmas.Bool.Decides.{nat_tests}
use Rattle.std.proofs.lemmas.List.{length-append}
use Rattle.std.proofs.lemmas.List.Elements.{recursion_from_All}
use Rattle.serde_json.specs.View.{items_of}
use Rattle.judgement_matrix.specs.Range.{Bounds, IsRange, full}
use Rattle.judgement_matrix.specs.Matrix.{Judgements, IsMatrix, IsCell, IsPair, pairs, place, cell_at, unjudged}
use Rattle.judgement_matrix.proofs.PlaceLemmas.{place-at}
use Rattle.judgement_matrix.proofs.EveryLemmas.{every-append_right, every-pairs}
use Rattle.model_json.specs.Steps.{each_into}
use Rattle.model_json.specs.Reading.{is_judgement, judgement_of, judgements_of}
use Rattle.model_json.specs.Writing.{judged_at, judgement_data, judgements_data}

both : (a b : Bool) → a ≡ true → b ≡ true → (a && b) ≡ true
both true b e f = f
both false b e f = e

passes : (n p q : ℕ) (range : Bounds) → IsPair n p q → IsRange range → is_judgement n (record { upper = p; lower = q; least = range.lo; most = range.hi })
    ≡ true
passes n p q range pair is =
    let first : nat_lt 0 p ≡ true = grind (arith, nat_tests) in
    let above : nat_lt p q ≡ true = grind (arith, nat_tests) in
    let within : nat_le q n ≡ true = grind (arith, nat_tests) in
    let rises : nat_le range.lo range.hi ≡ true = grind (arith, nat_tests) in
    let most : nat_le range.hi 6 ≡ true = grind (arith, nat_tests) in
    both _ _ (both _ _ first (both _ _ above within)) (both _ _ rises most)

module _ (m : Judgements) (criterion : Option ℕ) where
  -- the matrix whose first cells are these, with so many that are not judged behind them
  abbrev so_far : List (Bounds × Bool) → ℕ → Judgements
  so_far front left = record { size = m.size; cells = front ++ replicate left (full, false) }

  -- the pair behind those that were read
  one_more : (p q : ℕ) (range : Bounds) (front : List (Bounds × Bool)) (left j : ℕ) → IsPair m.size p q → IsRange range → place m.size p q ≡ length front
      → judgement_of criterion j (so_far front (suc left)) (judgement_data (p, q, range)) ≡ Ok (so_far (front ++ (range, true) ∷ []) left)
  unfolding judgement_of
  one_more p q range front left j pair is at =
      let new : get_or (front ++ (full, false) ∷ replicate left (full, false)) (place m.size p q) (full, false) ≡ (full, false) =
      ap (λ k. get_or (front ++ (full, false) ∷ replicate left (full, false)) k (full, false)) at
      ∙ get_or-append_seam front (full, false) (replicate left (full, false)) (full, false) in
      let cells : slice_set (front ++ (full, false) ∷ replicate left (full, false)) (place m.size p q) (range, true) ≡
      (front ++ (range, true) ∷ []) ++ replicate left (full, false) =
      ap (λ k. slice_set (front ++ (full, false) ∷ replicate left (full, false)) k (range, true)) at
      ∙ set-append_seam front (full, false) (replicate left (full, false)) (range, true)
      ∙ sym (append_assoc front ((range, true) ∷ []) (replicate left (full, false))) in
      rw (passes m.size p q range pair is, new) (ap (λ cs. Ok (record { size = m.size; cells = cs })) cells)

  -- a pair with its cell, and what is behind it
  by_cell : (p q : ℕ) (rest : List (ℕ × ℕ)) (front : List (Bounds × Bool)) (left j : ℕ) (c : Bounds × Bool) → place m.size p q ≡ length front
      → IsPair m.size p q → IsCell c
      → ((k : ℕ) → each_into (judgement_of criterion) k (so_far (front ++ c ∷ []) left) (items_of (map judgement_data (flat_map (judged_at m) rest))) ≡ Ok m)
      → each_into (judgement_of criterion) j (so_far front (suc left))
      (items_of (map judgement_data ((if c.1 then (p, q, c.0) ∷ [] else []) ++ flat_map (judged_at m) rest))) ≡ Ok m
  unfolding each_into
  by_cell p q rest front left j (range, true) at pair cell next = rw (one_more p q range front left j pair cell.0 at) (next (j + 1))
  by_cell p q rest front left j (range, false) at pair cell next =
      let same : front ++ (full, false) ∷ replicate left (full, false) ≡ (front ++ (range, false) ∷ []) ++ replicate left (full, false) =
      ap (λ r. front ++ (r, false) ∷ replicate left (full, false)) (sym (cell.1 refl))
      ∙ sym (append_assoc front ((range, false) ∷ []) (replicate left (full, false))) in
      rw same (next j)

  module _ (each : AllByRecursion IsCell m.cells) where
    -- the pairs that are left, with their cells
    rest_again : (done rest : List (ℕ × ℕ)) (front cells : List (Bounds × Bool)) (j : ℕ) → done ++ rest ≡ pairs m.size → front ++ cells ≡ m.cells
        → length front ≡ length done → length cells ≡ length rest
        → each_into (judgement_of criterion) j (so_far front (length cells)) (items_of (map judgement_data (flat_map (judged_at m) rest))) ≡ Ok m
    unfolding each_into
    rest_again done [] front [] j ps cs same left = ap (λ cells. Ok (record { size = m.size; cells = cells })) cs
    rest_again done [] front (c ∷ cells) j ps cs same left = absurd (omega arith)
    rest_again done (pair ∷ rest) front [] j ps cs same left = absurd (omega arith)
    rest_again done ((p, q) ∷ rest) front (c ∷ cells) j ps cs same left =
        let at : place m.size p q ≡ length front =
        place-at m.size (length done) p q (subst (λ xs. length done < length xs) ps (omega (arith, length-append done ((p, q) ∷ rest))))
        (ap (λ xs. get_or xs (length done) (0, 0)) (sym ps) ∙ get_or-append_seam done (p, q) rest (0, 0)) ∙ sym same in
        let here : cell_at m p q ≡ c = ap (λ k. get_or m.cells k (full, false)) at ∙ ap (λ xs. get_or xs (length front) (full, false)) (sym cs)
        ∙ get_or-append_seam front c cells (full, false) in
        let pair : IsPair m.size p q =
        (every-append_right (λ x. IsPair m.size x.0 x.1) done ((p, q) ∷ rest)
        (subst (AllByRecursion (λ x. IsPair m.size x.0 x.1)) (sym ps) (every-pairs m.size (IsPair m.size) (λ x y h. h)))).0 in
        let cell : IsCell c = (every-append_right IsCell front (c ∷ cells) (subst (AllByRecursion IsCell) (sym cs) each)).0 in
        subst (λ d. each_into (judgement_of criterion) j (so_far front (suc (length cells)))
        (items_of (map judgement_data ((if d.1 then (p, q, d.0) ∷ [] else []) ++ flat_map (judged_at m) rest))) ≡ Ok m) (sym here)
        (by_cell p q rest front (length cells) j c at pair cell (λ k. rest_again (done ++ (p, q) ∷ []) rest (front ++ c ∷ []) cells k
        (append_assoc done ((p, q) ∷ []) rest ∙ ps) (append_assoc front (c ∷ []) cells ∙ cs)
        (omega (arith, length-append done ((p, q) ∷ []), length-append front (c ∷ []), same)) (omega (arith, left))))

pub judgements_again : (criterion : Option ℕ) (size : ℕ) (m : Judgements) → IsMatrix m → m.size ≡ size
    → judgements_of criterion size (Some (judgements_data m)) ≡ Ok m
unfolding judgements_of judgements_data
judgements_again criterion size m is same =
    let start : unjudged size ≡ record { size = m.size; cells = [] ++ replicate (length m.cells) (full, false) } =
    λ i. record { size = sym same i; cells = replicate ((ap (λ n. length (pairs n)) (sym same) ∙ sym is.each) i) (full, false) } in
    ap (λ s. each_into (judgement_of criterion) 0 s (items_of (map judgement_data (flat_map (judged_at m) (pairs m.size))))) start
    ∙ rest_again m criterion (recursion_from_All IsCell m.cells is.cells_are) [] (pairs m.size) [] m.cells 0 refl refl refl is.each
