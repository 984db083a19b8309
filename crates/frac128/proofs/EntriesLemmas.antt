-- The entries of weights: their positions rise and are those of weights, and they combine the rows as all weights do.
use lib.IntN.{zero-*ℤ}
use Rattle.std.proofs.Common.{◌≡◌, Bool, true, false, ℕ, zero, suc, ◌+◌, ◌<◌, ◌≤◌, length, map, get_or, replicate, List, [], ◌∷◌, All, AllPairs, ℤ, pos, ◌+ℤ◌, ◌*ℤ◌, ◌≤ℤ◌, refl, sym, ap, ap₂, subst, ◌∙◌, arith}
use Rattle.std.specs.Ordering.{int_eq}
use Rattle.std.proofs.lemmas.Bool.Decides.{Decides-int_eq}
use Rattle.std.proofs.lemmas.List.Elements.{All-nil, All-cons, All-head, All-tail, All-map, All-weaker}
use Rattle.std.proofs.lemmas.List.Kept.{AllPairs-cons}
use Rattle.integers.specs.Vector.{dot, scale, add, weighted_sum, AreNonNegative}
use Rattle.integers.proofs.Laws.{lin}
use Rattle.integers.proofs.VectorLaws.{add_assoc, add_comm}
use Rattle.frac128.specs.Entries.{entries_from}
use Rattle.frac128.specs.Problem.{ProblemData, IsRow, AreRowMultipliers, row_at, multipliers, rows_on, combination}
use Rattle.frac128.specs.declared.problem.Row.{Row}
use Rattle.frac128.proofs.Combination.{get_or-combination, column_of-map}
use Rattle.frac128.proofs.ProblemLaws.{coefs_on}

-- ---- the entries

-- what holds without a weight where it is 0, and with it, holds of the entries with it
pub entries_cases : (P : List (ℕ × ℤ) → Type 0) (i : ℕ) (w : ℤ) (ws : List ℤ)
    → (w ≡ pos 0 → P (entries_from (suc i) ws)) → P ((i, w) ∷ entries_from (suc i) ws) → P (entries_from i (w ∷ ws))
entries_cases P i w ws without with_it = step (int_eq w (pos 0)) refl
  where
    step : (b : Bool) → int_eq w (pos 0) ≡ b → P (elim b [ true ↦ entries_from (suc i) ws | false ↦ (i, w) ∷ entries_from (suc i) ws ])
    step true e = without ((Decides-int_eq w (pos 0)).0 e)
    step false e = with_it

-- the positions are from the first one on
entries_above : (i : ℕ) (ws : List ℤ) → All (λ (e : ℕ × ℤ). i ≤ e.0) (entries_from i ws)
entries_above i [] = All-nil (λ (e : ℕ × ℤ). i ≤ e.0)
entries_above i (w ∷ ws) =
    let from : ℕ → ℕ × ℤ → Type 0 = λ k e. k ≤ e.0 in
    let rest = All-weaker (from (suc i)) (from i) (λ e h. omega arith) (entries_from (suc i) ws) (entries_above (suc i) ws) in
    entries_cases (All (from i)) i w ws (λ z. rest) (All-cons (from i) (i, w) (entries_from (suc i) ws) (omega arith) rest)

-- and below the place past the last one
pub entries_below : (n i : ℕ) (ws : List ℤ) → i + length ws ≤ n → All (λ (e : ℕ × ℤ). e.0 < n) (entries_from i ws)
entries_below n i [] l = All-nil (λ (e : ℕ × ℤ). e.0 < n)
entries_below n i (w ∷ ws) l =
    let below : ℕ × ℤ → Type 0 = λ e. e.0 < n in
    let rest = entries_below n (suc i) ws (omega arith) in
    entries_cases (All below) i w ws (λ z. rest) (All-cons below (i, w) (entries_from (suc i) ws) (omega arith) rest)

-- they rise
entries_rise : (i : ℕ) (ws : List ℤ) → AllPairs (λ a b. a < b) (map (λ (e : ℕ × ℤ). e.0) (entries_from i ws))
entries_rise i [] = λ j k d p q. absurd (omega arith)
entries_rise i (w ∷ ws) =
    let position : ℕ × ℤ → ℕ = λ e. e.0 in
    let more : List (ℕ × ℤ) = entries_from (suc i) ws in
    let rest = entries_rise (suc i) ws in
    let first = All-map (λ b. i < b) position more (entries_above (suc i) ws) in
    entries_cases (λ on. AllPairs (λ a b. a < b) (map position on)) i w ws (λ z. rest) (AllPairs-cons (λ a b. a < b) i (map position more) first rest)

-- the multipliers are not negative where the weights are not
entries_nonneg : (i : ℕ) (ws : List ℤ) → AreNonNegative ws → All (λ (e : ℕ × ℤ). pos 0 ≤ℤ e.1) (entries_from i ws)
entries_nonneg i [] h = All-nil (λ (e : ℕ × ℤ). pos 0 ≤ℤ e.1)
entries_nonneg i (w ∷ ws) h =
    let nonneg : ℕ × ℤ → Type 0 = λ e. pos 0 ≤ℤ e.1 in
    let rest = entries_nonneg (suc i) ws (All-tail (λ x. pos 0 ≤ℤ x) w ws h) in
    let first = All-head (λ x. pos 0 ≤ℤ x) w ws h in
    entries_cases (All nonneg) i w ws (λ z. rest) (All-cons nonneg (i, w) (entries_from (suc i) ws) first rest)

-- weights that are not negative, no more than counted, give multipliers of rows
pub AreRowMultipliers-from : (count : ℕ) (ws : List ℤ) → length ws ≤ count → AreNonNegative ws → AreRowMultipliers count (entries_from 0 ws)
AreRowMultipliers-from count ws few h = record {
  positions_rise = λ k below. entries_rise 0 ws k (k + 1) 0 (omega arith) below;
  positions_below = entries_below count 0 ws (omega (arith, few));
  nonneg = entries_nonneg 0 ws h;
}

-- ---- sums of rows

-- the rows from a place on
abbrev IsRest : List Row → ℕ → List Row → Type 0
IsRest rows i rest = (j : ℕ) → row_at rows (i + j) ≡ row_at rest j

-- the first of them
IsRest-head : (rows : List Row) (i : ℕ) (row : Row) (rest : List Row) → IsRest rows i (row ∷ rest) → row_at rows i ≡ row
IsRest-head rows i row rest h = subst (λ j. row_at rows j ≡ row) (omega arith) (h 0)

-- those behind it
IsRest-tail : (rows : List Row) (i : ℕ) (row : Row) (rest : List Row) → IsRest rows i (row ∷ rest) → IsRest rows (suc i) rest
IsRest-tail rows i row rest h j = subst (λ k. row_at rows k ≡ row_at rest j) (omega arith) (h (suc j))

-- all of them
IsRest-all : (rows : List Row) → IsRest rows 0 rows
IsRest-all rows j = ap (row_at rows) (omega arith)

-- entries and weights give the same sums of numbers of the rows
entries_sum : (f : Row → ℤ) (rows : List Row) (i : ℕ) (ws : List ℤ) (rest : List Row) → length ws ≡ length rest → IsRest rows i rest
    → dot (multipliers (entries_from i ws)) (map f (rows_on rows (entries_from i ws))) ≡ dot ws (map f rest)
entries_sum f rows i [] [] l h = refl
entries_sum f rows i [] (r ∷ rest) l h = absurd (omega arith)
entries_sum f rows i (w ∷ ws) [] l h = absurd (omega arith)
entries_sum f rows i (w ∷ ws) (r ∷ rest) l h =
    let same : List (ℕ × ℤ) → Type 0 = λ on. dot (multipliers on) (map f (rows_on rows on)) ≡ dot (w ∷ ws) (map f (r ∷ rest)) in
    let ih = entries_sum f rows (suc i) ws rest (omega arith) (IsRest-tail rows i r rest h) in
    let without : w ≡ pos 0 → same (entries_from (suc i) ws) = λ z.
    let e : w *ℤ f r ≡ pos 0 = ap (λ a. a *ℤ f r) z ∙ zero-*ℤ (f r) in
    omega (arith, lin) in
    entries_cases same i w ws without (ap₂ (λ a b. w *ℤ a +ℤ b) (ap f (IsRest-head rows i r rest h)) ih)

-- 0 times a row that is no longer adds nothing to zeros
add-no_multiple : (n : ℕ) (xs : List ℤ) → length xs ≤ n → add (replicate n (pos 0)) (scale (pos 0) xs) ≡ replicate n (pos 0)
add-no_multiple zero [] l = refl
add-no_multiple zero (x ∷ xs) l = absurd (omega arith)
add-no_multiple (suc n) [] l = refl
add-no_multiple (suc n) (x ∷ xs) l = ap₂ (λ y ys. y ∷ ys) (ap (λ z. pos 0 +ℤ z) (zero-*ℤ x)) (add-no_multiple n xs (omega arith))

-- a sum onto zeros, with one row more
add-past : (xs ys zs : List ℤ) → add xs (add ys zs) ≡ add ys (add xs zs)
add-past xs ys zs = sym (add_assoc xs ys zs) ∙ ap (λ l. add l zs) (add_comm xs ys) ∙ add_assoc ys xs zs

-- entries and weights give the same sum of rows with so many numbers, onto as many zeros
entries_rows : (n : ℕ) (rows : List Row) (i : ℕ) (ws : List ℤ) (rest : List Row) → length ws ≡ length rest → IsRest rows i rest → All (IsRow n) rest
    → add (replicate n (pos 0)) (weighted_sum (multipliers (entries_from i ws)) (coefs_on rows (entries_from i ws)))
    ≡ add (replicate n (pos 0)) (weighted_sum ws (map (λ (r : Row). r.coefs) rest))
entries_rows n rows i [] [] l h fit = refl
entries_rows n rows i [] (r ∷ rest) l h fit = absurd (omega arith)
entries_rows n rows i (w ∷ ws) [] l h fit = absurd (omega arith)
entries_rows n rows i (w ∷ ws) (r ∷ rest) l h fit =
    let zeros : List ℤ = replicate n (pos 0) in
    let sum_on : List (ℕ × ℤ) → List ℤ = λ on. weighted_sum (multipliers on) (coefs_on rows on) in
    let after : List ℤ = weighted_sum ws (map (λ (r : Row). r.coefs) rest) in
    let same : List (ℕ × ℤ) → Type 0 = λ on. add zeros (sum_on on) ≡ add zeros (add (scale w r.coefs) after) in
    let more : List (ℕ × ℤ) = entries_from (suc i) ws in
    let ih : add zeros (sum_on more) ≡ add zeros after =
    entries_rows n rows (suc i) ws rest (omega arith) (IsRest-tail rows i r rest h) (All-tail (IsRow n) r rest fit) in
    let wide : length r.coefs ≡ n = (All-head (IsRow n) r rest fit).one_each in
    let without : w ≡ pos 0 → same more = λ z.
    let none : add zeros (scale w r.coefs) ≡ zeros = ap (λ c. add zeros (scale c r.coefs)) z ∙ add-no_multiple n r.coefs (omega (arith, wide)) in
    ih ∙ sym (sym (add_assoc zeros (scale w r.coefs) after) ∙ ap (λ l. add l after) none) in
    let own : scale w (row_at rows i).coefs ≡ scale w r.coefs = ap (λ (row : Row). scale w row.coefs) (IsRest-head rows i r rest h) in
    let with_it : same ((i, w) ∷ more) =
    ap (λ l. add zeros (add l (sum_on more))) own
    ∙ add-past zeros (scale w r.coefs) (sum_on more)
    ∙ ap (add (scale w r.coefs)) ih
    ∙ add-past (scale w r.coefs) zeros after in
    entries_cases same i w ws without with_it

-- ---- combinations of all rows of a problem

-- the bound of the entries' combination is the weighted sum of all bounds
pub entries-bound : (p : ProblemData) (ws : List ℤ) → length ws ≡ length p.rows
    → (combination p (entries_from 0 ws)).bound ≡ dot ws (map (λ (r : Row). r.bound) p.rows)
entries-bound p ws l = entries_sum (λ (r : Row). r.bound) p.rows 0 ws p.rows l (IsRest-all p.rows)

-- a coefficient of it is the weighted sum of all rows' numbers at its place
pub entries-coef : (p : ProblemData) (ws : List ℤ) (j : ℕ) → length ws ≡ length p.rows
    → get_or (combination p (entries_from 0 ws)).coefs j (pos 0) ≡ dot ws (map (λ (r : Row). get_or r.coefs j (pos 0)) p.rows)
entries-coef p ws j l =
    let on : List (ℕ × ℤ) = entries_from 0 ws in
    get_or-combination p on j
    ∙ ap (dot (multipliers on)) (column_of-map j (rows_on p.rows on))
    ∙ entries_sum (λ (r : Row). get_or r.coefs j (pos 0)) p.rows 0 ws p.rows l (IsRest-all p.rows)
