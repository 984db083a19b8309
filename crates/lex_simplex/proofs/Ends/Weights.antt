-- What is read from weights of the quantities: the entries of a certificate, and the sums that they give.
use lib.IntN.{*ℤ-zero, +ℤ_idl, +ℤ_idr}
use lib.ListN.{length-replicate, length-set, length-drop, length-take}
use Rattle.std.proofs.Common.{◌≡◌, ◌≢◌, ℕ, ◌+◌, ◌<◌, length, map, take, drop, get_or, set, replicate, List, [], ◌∷◌, All, AllPairs, ℤ, pos, negsuc, ◌+ℤ◌, ◌-ℤ◌, ◌*ℤ◌, neg_ℤ, ◌≤ℤ◌, refl, sym, ap, ap₂, subst, ◌∙◌, arith}
use Rattle.std.proofs.lemmas.List.{take_at, drop_at, get_or-set_other}
use Rattle.std.proofs.lemmas.List.Elements.{All-head, All-tail, All-drop, All-take, All-set, All-get_or}
use Rattle.integers.specs.Vector.{dot, scale, unit_vector, AreNonNegative, AreAtMost}
use Rattle.integers.proofs.Laws.{lin}
use Rattle.integers.proofs.Ring.{con, neg, ◌⊕◌, ◌⊖◌, ◌⊗◌, ◌≗◌, ◌✶◌, ◌⇐◌, ring3, combine3, combine5}
use Rattle.integers.proofs.Vector.{dot-nil, dot_comm, dot-set, dot-zeros, dot-unit_vector, length-unit_vector}
use Rattle.integers.proofs.VectorLaws.{dot-split}
use Rattle.integers.proofs.Lists.{AllPairs-head, AllPairs-tail}
use Rattle.integers.proofs.Zeros.{get_or-zeros}
use Rattle.frac128.specs.Problem.{ProblemData, IsProblem, AreRowMultipliers, combination}
use Rattle.frac128.specs.declared.problem.Row.{Row}
use Rattle.frac128.proofs.Combination.{below_cost-from_places}
use Rattle.frac128.proofs.EntriesLemmas.{AreRowMultipliers-from, entries-bound, entries-coef}
use Rattle.lex_simplex.specs.Answer.{spread_weights, row_entries}
use Rattle.lex_simplex.specs.Equations.{surplus, quantities, nonbasic}

-- ---- entries

-- weights that are not negative give entries
pub entries_of_weights : (p : ProblemData) (w : List ℤ) → length w ≡ p.vars + length p.rows → AreNonNegative w
    → AreRowMultipliers (length p.rows) (row_entries p.vars w)
entries_of_weights p w l h =
    AreRowMultipliers-from (length p.rows) (drop p.vars w) (omega (arith, length-drop p.vars w)) (All-drop (λ x. pos 0 ≤ℤ x) p.vars w h)

-- ---- sums

-- the weights' product with the quantities, apart for the variables and the rows
product_apart : (p : ProblemData) (w x : List ℤ) (n : ℤ) → length x ≡ p.vars
    → dot w (quantities p x n) ≡ dot (take p.vars w) x +ℤ dot (drop p.vars w) (map (surplus x n) p.rows)
product_apart p w x n l = dot-split p.vars w (quantities p x n)
    ∙ ap₂ (λ a b. dot (take p.vars w) a +ℤ dot (drop p.vars w) b) (take_at x (map (surplus x n) p.rows) p.vars l)
    (drop_at x (map (surplus x n) p.rows) p.vars l)

-- the surpluses at a unit vector over 0 are the rows' numbers at its place
surpluses_at_unit : (v j : ℕ) (ws : List ℤ) (rows : List Row) → j < v
    → dot ws (map (surplus (unit_vector v j) (pos 0)) rows) ≡ dot ws (map (λ (r : Row). get_or r.coefs j (pos 0)) rows)
surpluses_at_unit v j [] rows l = refl
surpluses_at_unit v j (w ∷ ws) [] l = refl
surpluses_at_unit v j (w ∷ ws) (r ∷ rows) l =
    let here : surplus (unit_vector v j) (pos 0) r ≡ get_or r.coefs j (pos 0) = omega (arith, lin, dot-unit_vector r.coefs v j l, *ℤ-zero r.bound) in
    ap₂ (λ a b. w *ℤ a +ℤ b) here (surpluses_at_unit v j ws rows l)

-- the surpluses at zeros over 1 are the rows' bounds, negated
surpluses_at_zeros : (v : ℕ) (ws : List ℤ) (rows : List Row)
    → dot ws (map (surplus (replicate v (pos 0)) (pos 1)) rows) ≡ neg_ℤ (dot ws (map (λ (r : Row). r.bound) rows))
surpluses_at_zeros v [] rows = refl
surpluses_at_zeros v (w ∷ ws) [] = refl
surpluses_at_zeros v (w ∷ ws) (r ∷ rows) =
    let z : dot r.coefs (replicate v (pos 0)) ≡ pos 0 = dot-zeros r.coefs v in
    let ih = surpluses_at_zeros v ws rows in
    combine5 (λ w d b s t. w ⊗ (d ⊖ b ⊗ con (pos 1)) ⊕ s ≗ neg (w ⊗ b ⊕ t) ⇐ w ✶ (d ≗ con (pos 0)) ∷ con (pos 1) ✶ (s ≗ neg t) ∷ []) refl w
    (dot r.coefs (replicate v (pos 0))) r.bound (dot ws (map (surplus (replicate v (pos 0)) (pos 1)) rows))
    (dot ws (map (λ (r : Row). r.bound) rows)) z ih

-- with weights whose product with the quantities is d costs less b, the bound of the rows' combination is b
pub bound_of_weights : (p : ProblemData) (w : List ℤ) (d b : ℤ) → length w ≡ p.vars + length p.rows
    → ((x : List ℤ) (n : ℤ) → length x ≡ p.vars → dot w (quantities p x n) ≡ d *ℤ dot p.cost x -ℤ b *ℤ n) → (combination p (row_entries p.vars w)).bound ≡ b
bound_of_weights p w d b l h =
    let zeros : List ℤ = replicate p.vars (pos 0) in
    let long : length zeros ≡ p.vars = length-replicate p.vars (pos 0) in
    let ws : List ℤ = drop p.vars w in
    let sum : (combination p (row_entries p.vars w)).bound ≡ dot ws (map (λ (r : Row). r.bound) p.rows) =
    entries-bound p ws (omega (arith, length-drop p.vars w)) in
    let bounds : ℤ = dot ws (map (λ (r : Row). r.bound) p.rows) in
    let here : pos 0 +ℤ neg_ℤ bounds ≡ d *ℤ pos 0 -ℤ b *ℤ pos 1 =
    sym (ap₂ (λ a c. a +ℤ c) (dot-zeros (take p.vars w) p.vars) (surpluses_at_zeros p.vars ws p.rows)) ∙ sym (product_apart p w zeros (pos 1) long)
    ∙ h zeros (pos 1) long ∙ ap (λ a. d *ℤ a -ℤ b *ℤ pos 1) (dot-zeros p.cost p.vars) in
    sum ∙ combine3 (λ s d b. s ≗ b ⇐ con (negsuc 0) ✶ (con (pos 0) ⊕ neg s ≗ d ⊗ con (pos 0) ⊖ b ⊗ con (pos 1)) ∷ []) refl bounds d b here

-- and its coefficients are at most d times the costs
pub coefs_of_weights : (p : ProblemData) → IsProblem p → (w : List ℤ) (d b : ℤ) → length w ≡ p.vars + length p.rows → AreNonNegative w
    → ((x : List ℤ) (n : ℤ) → length x ≡ p.vars → dot w (quantities p x n) ≡ d *ℤ dot p.cost x -ℤ b *ℤ n)
    → AreAtMost (combination p (row_entries p.vars w)).coefs (scale d p.cost)
coefs_of_weights p ok w d b l nonneg h =
    let ws : List ℤ = drop p.vars w in
    let on : List (ℕ × ℤ) = row_entries p.vars w in
    below_cost-from_places p ok on (entries_of_weights p w l nonneg).positions_below d (λ j below.
    let unit : List ℤ = unit_vector p.vars j in
    let long : length unit ≡ p.vars = length-unit_vector p.vars j in
    let numbers : List ℤ = map (λ (r : Row). get_or r.coefs j (pos 0)) p.rows in
    let sum : get_or (combination p on).coefs j (pos 0) ≡ dot ws numbers = entries-coef p ws j (omega (arith, length-drop p.vars w)) in
    let first : ℤ = get_or (take p.vars w) j (pos 0) in
    let at_least : pos 0 ≤ℤ first = All-get_or (λ x. pos 0 ≤ℤ x) (take p.vars w) j (pos 0) (omega (arith, length-take p.vars w))
    (All-take (λ x. pos 0 ≤ℤ x) p.vars w nonneg) in
    let here : first +ℤ dot ws numbers ≡ d *ℤ get_or p.cost j (pos 0) -ℤ b *ℤ pos 0 =
    sym (ap₂ (λ a c. a +ℤ c) (dot-unit_vector (take p.vars w) p.vars j below) (surpluses_at_unit p.vars j ws p.rows below))
    ∙ sym (product_apart p w unit (pos 0) long) ∙ h unit (pos 0) long ∙ ap (λ a. d *ℤ a -ℤ b *ℤ pos 0) (dot-unit_vector p.cost p.vars j below) in
    subst (λ a. a ≤ℤ (d *ℤ get_or p.cost j (pos 0))) (sym sum) (omega (arith, lin, here, at_least, *ℤ-zero b)))

-- ---- weights from the columns

-- as many weights as before
pub length-spread_weights : (cs : List ℕ) (ys ws : List ℤ) → length (spread_weights cs ys ws) ≡ length ws
length-spread_weights [] ys ws = refl
length-spread_weights (c ∷ cs) [] ws = refl
length-spread_weights (c ∷ cs) (y ∷ ys) ws = length-spread_weights cs ys (set ws c y) ∙ length-set ws c y

-- the weights are not negative where the numbers are not
pub spread_nonneg : (cs : List ℕ) (ys ws : List ℤ) → AreNonNegative ys → AreNonNegative ws → AreNonNegative (spread_weights cs ys ws)
spread_nonneg [] ys ws h k = k
spread_nonneg (c ∷ cs) [] ws h k = k
spread_nonneg (c ∷ cs) (y ∷ ys) ws h k = spread_nonneg cs ys (set ws c y) (All-tail (λ x. pos 0 ≤ℤ x) y ys h)
    (All-set (λ x. pos 0 ≤ℤ x) ws c y (All-head (λ x. pos 0 ≤ℤ x) y ys h) k)

-- a place that no column stands for keeps its weight
pub get_or-spread_other : (cs : List ℕ) (ys ws : List ℤ) (r : ℕ) → All (λ c. r ≢ c) cs → get_or (spread_weights cs ys ws) r (pos 0) ≡ get_or ws r (pos 0)
get_or-spread_other [] ys ws r h = refl
get_or-spread_other (c ∷ cs) [] ws r h = refl
get_or-spread_other (c ∷ cs) (y ∷ ys) ws r h = get_or-spread_other cs ys (set ws c y) r (All-tail (λ c. r ≢ c) c cs h)
    ∙ get_or-set_other ws c r y (pos 0) (All-head (λ c. r ≢ c) c cs h)

-- weights at distinct places that were 0: their product with the quantities
spread_onto : (cs : List ℕ) (ys ws qs : List ℤ) → AllPairs (λ a b. a ≢ b) cs → All (λ c. c < length ws) cs → All (λ c. get_or ws c (pos 0) ≡ pos 0) cs
    → dot (spread_weights cs ys ws) qs ≡ dot ws qs +ℤ dot ys (nonbasic cs qs)
spread_onto [] ys ws qs apart below zeros = sym (ap (λ a. dot ws qs +ℤ a) (dot-nil ys) ∙ +ℤ_idr (dot ws qs))
spread_onto (c ∷ cs) [] ws qs apart below zeros = sym (+ℤ_idr (dot ws qs))
spread_onto (c ∷ cs) (y ∷ ys) ws qs apart below zeros =
    let ne = AllPairs-head (λ a b. a ≢ b) c cs apart in
    let zero : get_or ws c (pos 0) ≡ pos 0 = All-head (λ c. get_or ws c (pos 0) ≡ pos 0) c cs zeros in
    let later : All (λ b. get_or (set ws c y) b (pos 0) ≡ pos 0) cs = λ j d l. get_or-set_other ws c (get_or cs j d) y (pos 0) (λ e. ne j d l (sym e))
    ∙ All-tail (λ c. get_or ws c (pos 0) ≡ pos 0) c cs zeros j d l in
    let inside : All (λ b. b < length (set ws c y)) cs = λ j d l. subst (λ m. get_or cs j d < m) (sym (length-set ws c y))
    (All-tail (λ c. c < length ws) c cs below j d l) in
    let ih = spread_onto cs ys (set ws c y) qs (AllPairs-tail (λ a b. a ≢ b) c cs apart) inside later in
    let here : dot (set ws c y) qs ≡ dot ws qs +ℤ y *ℤ get_or qs c (pos 0) = dot-set ws qs c y (All-head (λ c. c < length ws) c cs below)
    ∙ ap (λ a. dot ws qs +ℤ (y -ℤ a) *ℤ get_or qs c (pos 0)) zero
    ∙ ring3 (λ w y q. w ⊕ (y ⊖ con (pos 0)) ⊗ q ≗ w ⊕ y ⊗ q) refl (dot ws qs) y (get_or qs c (pos 0)) in
    omega (arith, lin, ih, here)

-- the columns' numbers as weights: their product with the quantities is the numbers' with the columns' quantities
pub dot-spread_weights : (cs : List ℕ) (ys : List ℤ) (n : ℕ) (qs : List ℤ) → AllPairs (λ a b. a ≢ b) cs → All (λ c. c < n) cs
    → dot (spread_weights cs ys (replicate n (pos 0))) qs ≡ dot ys (nonbasic cs qs)
dot-spread_weights cs ys n qs apart below = spread_onto cs ys (replicate n (pos 0)) qs apart
    (λ j d l. subst (λ m. get_or cs j d < m) (sym (length-replicate n (pos 0))) (below j d l)) (λ j d l. get_or-zeros n (get_or cs j d))
    ∙ ap (λ a. a +ℤ dot ys (nonbasic cs qs)) (dot_comm (replicate n (pos 0)) qs ∙ dot-zeros qs n) ∙ +ℤ_idl (dot ys (nonbasic cs qs))
