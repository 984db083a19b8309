-- Combinations of a problem's rows, for code that makes them row by row and compares them place by place.
use lib.IntN.{+ℤ_idl}
use lib.ListN.{length-replicate}
use Rattle.std.proofs.Common.{◌≡◌, ℕ, map, ◌<◌, length, get_or, replicate, List, [], ◌∷◌, ◌++◌, ℤ, pos, ◌+ℤ◌, ◌*ℤ◌, ◌≤ℤ◌, refl, sym, ap, subst, ◌∙◌, arith}
use Rattle.std.specs.Prelude.{All}
use Rattle.std.proofs.lemmas.List.Elements.{All-nil, All-cons, All-head, All-tail, All-get_or}
use Rattle.integers.specs.Vector.{dot, scale, add, weighted_sum, column_of, AreAtMost}
use Rattle.integers.proofs.Laws.{lin}
use Rattle.integers.proofs.VectorLaws.{length-scale, length-add, get_or-scale, get_or-add, get_or-weighted_sum, add-nil, add_assoc, length-weighted_sum}
use Rattle.integers.proofs.VectorOrder.{AreAtMost-at, AreAtMost-from_places}
use Rattle.integers.proofs.Zeros.{get_or-zeros}
use Rattle.frac128.specs.Problem.{ProblemData, IsRow, IsProblem, row_at, multipliers, combination}
use Rattle.frac128.specs.declared.problem.Row.{Row}
use Rattle.frac128.proofs.ProblemLaws.{coefs_on}

-- ---- row by row

-- one more row in a sum of rows
pub weighted_sum-push : (rows : List Row) (on : List (ℕ × ℤ)) (e : ℕ × ℤ)
    → weighted_sum (multipliers (on ++ e ∷ [])) (coefs_on rows (on ++ e ∷ []))
    ≡ add (weighted_sum (multipliers on) (coefs_on rows on)) (scale e.1 (row_at rows e.0).coefs)
weighted_sum-push rows [] e = add-nil (scale e.1 (row_at rows e.0).coefs)
weighted_sum-push rows (f ∷ on) e =
    ap (add (scale f.1 (row_at rows f.0).coefs)) (weighted_sum-push rows on e)
    ∙ sym (add_assoc (scale f.1 (row_at rows f.0).coefs) (weighted_sum (multipliers on) (coefs_on rows on)) (scale e.1 (row_at rows e.0).coefs))

-- the bound of a combination with one more row
pub bound-push : (p : ProblemData) (on : List (ℕ × ℤ)) (e : ℕ × ℤ)
    → (combination p (on ++ e ∷ [])).bound ≡ (combination p on).bound +ℤ e.1 *ℤ (row_at p.rows e.0).bound
bound-push p [] e = omega (arith, lin)
bound-push p (f ∷ on) e = let ih = bound-push p on e in omega (arith, lin)

-- ---- place by place

-- the numbers at a place of each row
pub column_of-map : (j : ℕ) (rows : List Row) → column_of j (map (λ (r : Row). r.coefs) rows) ≡ map (λ (r : Row). get_or r.coefs j (pos 0)) rows
column_of-map j [] = refl
column_of-map j (r ∷ rows) = ap (λ zs. get_or r.coefs j (pos 0) ∷ zs) (column_of-map j rows)

-- a coefficient is the multipliers' product with a column
pub get_or-combination : (p : ProblemData) (on : List (ℕ × ℤ)) (j : ℕ)
    → get_or (combination p on).coefs j (pos 0) ≡ dot (multipliers on) (column_of j (coefs_on p.rows on))
get_or-combination p on j =
    let sum : List ℤ = weighted_sum (multipliers on) (coefs_on p.rows on) in
    get_or-add (replicate p.vars (pos 0)) sum j ∙ ap (λ z. z +ℤ get_or sum j (pos 0)) (get_or-zeros p.vars j) ∙ +ℤ_idl (get_or sum j (pos 0))
    ∙ get_or-weighted_sum (multipliers on) (coefs_on p.rows on) j

-- the rows at the positions have a number for each variable
pub coefs_on-lengths : (p : ProblemData) → IsProblem p → (on : List (ℕ × ℤ)) → All (λ (e : ℕ × ℤ). e.0 < length p.rows) on
    → All (λ (row : List ℤ). length row ≡ p.vars) (coefs_on p.rows on)
coefs_on-lengths p ok [] below = All-nil (λ (row : List ℤ). length row ≡ p.vars)
coefs_on-lengths p ok (e ∷ on) below =
    let fits =
    All-get_or (IsRow p.vars) p.rows e.0 (record { coefs = []; bound = pos 0 }) (All-head (λ (e : ℕ × ℤ). e.0 < length p.rows) e on below) ok.rows_fit in
    All-cons (λ (row : List ℤ). length row ≡ p.vars) (row_at p.rows e.0).coefs (coefs_on p.rows on) fits.one_each
    (coefs_on-lengths p ok on (All-tail (λ (e : ℕ × ℤ). e.0 < length p.rows) e on below))

-- a combination has one coefficient for each variable
pub length-combination : (p : ProblemData) → IsProblem p → (on : List (ℕ × ℤ)) → All (λ (e : ℕ × ℤ). e.0 < length p.rows) on
    → length (combination p on).coefs ≡ p.vars
length-combination p ok on below =
    let most = length-weighted_sum p.vars (multipliers on) (coefs_on p.rows on) (coefs_on-lengths p ok on below) in
    omega (arith, length-add (replicate p.vars (pos 0)) (weighted_sum (multipliers on) (coefs_on p.rows on)), length-replicate p.vars (pos 0))

-- coefficients at most d times the costs, shown at each variable
pub below_cost-from_places : (p : ProblemData) → IsProblem p → (on : List (ℕ × ℤ)) → All (λ (e : ℕ × ℤ). e.0 < length p.rows) on → (d : ℤ)
    → ((j : ℕ) → j < p.vars → get_or (combination p on).coefs j (pos 0) ≤ℤ (d *ℤ get_or p.cost j (pos 0))) → AreAtMost (combination p on).coefs (scale d p.cost)
below_cost-from_places p ok on below d h =
    let long = length-combination p ok on below in
    let same : length (combination p on).coefs ≡ length (scale d p.cost) = long ∙ sym (length-scale d p.cost ∙ ok.one_each) in
    AreAtMost-from_places (combination p on).coefs (scale d p.cost) same
    (λ j lt. subst (λ z. get_or (combination p on).coefs j (pos 0) ≤ℤ z) (sym (get_or-scale d p.cost j)) (h j (subst (λ n. j < n) long lt)))

-- and each of them
pub below_cost-at : (p : ProblemData) (on : List (ℕ × ℤ)) (d : ℤ) → AreAtMost (combination p on).coefs (scale d p.cost) → (j : ℕ)
    → get_or (combination p on).coefs j (pos 0) ≤ℤ (d *ℤ get_or p.cost j (pos 0))
below_cost-at p on d h j =
    subst (λ z. get_or (combination p on).coefs j (pos 0) ≤ℤ z) (get_or-scale d p.cost j) (AreAtMost-at (combination p on).coefs (scale d p.cost) h j)
