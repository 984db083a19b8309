-- What certificates of a linear problem say of its points, and that its least point is one.
use lib.IntN.{*ℤ_comm}
use Rattle.std.proofs.Common.{◌≡◌, ◌⊎◌, inl, inr, ℕ, ◌<◌, length, map, get_or, replicate, List, [], ◌∷◌, ℤ, pos, ◌*ℤ◌, ◌≤ℤ◌, ◌<ℤ◌, refl, sym, ap, subst, ◌∙◌}
use Rattle.std.specs.Prelude.{All}
use Rattle.std.proofs.lemmas.List.Elements.{All-nil, All-cons, All-head, All-tail, All-get_or}
use Rattle.integers.specs.Fraction.{Fraction, over, SameFractions}
use Rattle.integers.specs.Lexicographic.{LexLess}
use Rattle.integers.specs.Vector.{dot, scale, add, weighted_sum, dot_each, AreNonNegative, AreAtMost}
use Rattle.integers.proofs.Fractions.{length-over, AreFractions-over, SameFractions-sym, SameFractions-length, SameFractions-over}
use Rattle.integers.proofs.LexOrder.{LexLess-cases, LexLess-same_right}
use Rattle.integers.proofs.Order.{cancel_le, fraction_eq_le, le_of_lt, mul_nonneg, nonneg_of_mul}
use Rattle.integers.proofs.Ring.{con, ◌⊗◌, ◌≗◌, ◌≼◌, ◌✶◌, ◌⇐◌, combine5}
use Rattle.integers.proofs.Vector.{dot-scale_right}
use Rattle.integers.proofs.VectorOrder.{AreAtMost-trans, weak_duality_over, farkas, AreAtMost-add_zeros, AreAtMost-nil}
use Rattle.frac128.specs.Problem.{ProblemData, IsRowMetBy, IsFeasible, IsInfeasible, IsLowerBound, cost_and_numbers, IsLeast, row_at, multipliers, rows_on, IsSpanCertificate, IsFarkasCertificate}
use Rattle.frac128.specs.declared.problem.Cert.{Cert}
use Rattle.frac128.specs.declared.problem.Row.{Row}

-- ---- combinations

-- the coefficients of the rows at the positions
abbrev pub coefs_on : List Row → List (ℕ × ℤ) → List (List ℤ)
coefs_on rows on = map (λ (r : Row). r.coefs) (rows_on rows on)

-- the bounds of the rows at the positions
abbrev pub bounds_on : List Row → List (ℕ × ℤ) → List ℤ
bounds_on rows on = map (λ (r : Row). r.bound) (rows_on rows on)

-- the multipliers of entries are not negative
pub multipliers_nonneg : (on : List (ℕ × ℤ)) → All (λ (e : ℕ × ℤ). pos 0 ≤ℤ e.1) on → AreNonNegative (multipliers on)
multipliers_nonneg [] h = All-nil (λ x. pos 0 ≤ℤ x)
multipliers_nonneg (e ∷ on) h =
    All-cons (λ x. pos 0 ≤ℤ x) e.1 (multipliers on) (All-head (λ (e : ℕ × ℤ). pos 0 ≤ℤ e.1) e on h)
    (multipliers_nonneg on (All-tail (λ (e : ℕ × ℤ). pos 0 ≤ℤ e.1) e on h))

-- a point that meets all rows meets those at the positions
pub meets_on : (rows : List Row) (x : List ℤ) (n : ℤ) → All (IsRowMetBy x n) rows → (on : List (ℕ × ℤ)) → All (λ (e : ℕ × ℤ). e.0 < length rows) on
    → AreAtMost (scale n (bounds_on rows on)) (dot_each (coefs_on rows on) x)
meets_on rows x n meets [] below = tt
meets_on rows x n meets (e ∷ on) below =
    let met = All-get_or (IsRowMetBy x n) rows e.0 (record { coefs = []; bound = pos 0 }) (All-head (λ (e : ℕ × ℤ). e.0 < length rows) e on below) meets in (
      subst (λ z. z ≤ℤ dot (row_at rows e.0).coefs x) (*ℤ_comm (row_at rows e.0).bound n) met,
      meets_on rows x n meets on
          (All-tail (λ (e : ℕ × ℤ). e.0 < length rows) e on below),
    )

-- ---- certificates

-- a span certificate of a value bounds the cost of each point
pub span_bounds : (p : ProblemData) (cert : Cert) (value : Fraction) → IsSpanCertificate p cert value → IsLowerBound p value
span_bounds p cert value h x n f =
    let on : List (ℕ × ℤ) = cert.on in
    let sum : List ℤ = weighted_sum (multipliers on) (coefs_on p.rows on) in
    let below = AreAtMost-trans sum (add (replicate p.vars (pos 0)) sum) (scale cert.den p.cost) (AreAtMost-add_zeros p.vars sum) h.below_cost in
    let bound : ℤ = dot (multipliers on) (bounds_on p.rows on) in
    let dual =
    weak_duality_over (coefs_on p.rows on) x (bounds_on p.rows on) (multipliers on) p.cost n cert.den
    (meets_on p.rows x n f.meets on h.entries.positions_below) f.nonneg (multipliers_nonneg on h.entries.nonneg) below in
    fraction_eq_le value.num value.den bound cert.den (dot p.cost x) n h.value_den_pos h.den_pos f.den_pos (sym h.value_is)
    (subst (λ z. z ≤ℤ (dot p.cost x *ℤ cert.den)) (*ℤ_comm n bound) (subst (λ z. (n *ℤ bound) ≤ℤ z) (*ℤ_comm cert.den (dot p.cost x)) dual))

-- a Farkas certificate refutes each point
pub farkas_certificate_refutes : (p : ProblemData) (cert : Cert) → IsFarkasCertificate p cert → IsInfeasible p
farkas_certificate_refutes p cert h x n f =
    let on : List (ℕ × ℤ) = cert.on in
    let sum : List ℤ = weighted_sum (multipliers on) (coefs_on p.rows on) in
    let below =
    AreAtMost-trans sum (add (replicate p.vars (pos 0)) sum) [] (AreAtMost-add_zeros p.vars sum)
    (AreAtMost-nil (add (replicate p.vars (pos 0)) sum) h.none_above) in
    farkas (coefs_on p.rows on) x (bounds_on p.rows on) (multipliers on) n f.den_pos (multipliers_nonneg on h.entries.nonneg) below h.bound_above
    (meets_on p.rows x n f.meets on h.entries.positions_below) f.nonneg

-- ---- least points

-- two least points are one, and so are their costs
pub least_unique : (p : ProblemData) (x : List ℤ) (n : ℤ) (y : List ℤ) (m : ℤ) → IsLeast p x n → IsLeast p y m
    → SameFractions (cost_and_numbers p x n) (cost_and_numbers p y m)
least_unique p x n y m h k = step (LexLess-cases (cost_and_numbers p x n) (cost_and_numbers p y m))
  where
    step : LexLess (cost_and_numbers p x n) (cost_and_numbers p y m) ⊎ SameFractions (cost_and_numbers p x n) (cost_and_numbers p y m)
        ⊎ LexLess (cost_and_numbers p y m) (cost_and_numbers p x n) → SameFractions (cost_and_numbers p x n) (cost_and_numbers p y m)
    step (inl below) = absurd (k.none_before x n h.feasible below)
    step (inr (inl same)) = same
    step (inr (inr below)) = absurd (h.none_before y m k.feasible below)

-- ---- the writing of a point does not count

-- products with one list, of two writings of a point
pub dot-same : (c x : List ℤ) (n : ℤ) (y : List ℤ) (m : ℤ) → SameFractions (over x n) (over y m) → m *ℤ dot c x ≡ n *ℤ dot c y
dot-same c x n y m s = sym (dot-scale_right m c x) ∙ ap (λ z. dot c z) ((SameFractions-over x y n m).0 s) ∙ dot-scale_right n c y

-- the cost and the numbers of two writings of a point
pub cost_and_numbers-same : (p : ProblemData) (x : List ℤ) (n : ℤ) (y : List ℤ) (m : ℤ) → SameFractions (over x n) (over y m)
    → SameFractions (cost_and_numbers p x n) (cost_and_numbers p y m)
cost_and_numbers-same p x n y m s = (*ℤ_comm (dot p.cost x) m ∙ dot-same p.cost x n y m s ∙ *ℤ_comm n (dot p.cost y), s)

-- numbers of at least 0 are so in another writing
pub AreNonNegative-same : (x : List ℤ) (n : ℤ) (y : List ℤ) (m : ℤ) → pos 0 <ℤ n → pos 0 <ℤ m → SameFractions (over x n) (over y m) → AreNonNegative x
    → AreNonNegative y
AreNonNegative-same [] n [] m pn pm s h = h
AreNonNegative-same [] n (b ∷ y) m pn pm s h = absurd s
AreNonNegative-same (a ∷ x) n [] m pn pm s h = absurd s
AreNonNegative-same (a ∷ x) n (b ∷ y) m pn pm s h =
    let first = mul_nonneg a m (All-head (λ x. pos 0 ≤ℤ x) a x h) (le_of_lt (pos 0) m pm) in
    All-cons (λ x. pos 0 ≤ℤ x) b y (nonneg_of_mul b n pn (subst (λ z. pos 0 ≤ℤ z) s.0 first))
    (AreNonNegative-same x n y m pn pm s.1 (All-tail (λ x. pos 0 ≤ℤ x) a x h))

-- a row that a point meets is met in another writing
pub IsRowMetBy-same : (x : List ℤ) (n : ℤ) (y : List ℤ) (m : ℤ) (row : Row) → pos 0 <ℤ n → pos 0 <ℤ m → SameFractions (over x n) (over y m) → IsRowMetBy x n row
    → IsRowMetBy y m row
IsRowMetBy-same x n y m row pn pm s h =
    cancel_le (row.bound *ℤ m) (dot row.coefs y) n pn
    (combine5 (λ b n m d e. b ⊗ m ⊗ n ≼ e ⊗ n ⇐ m ✶ (b ⊗ n ≼ d) ∷ con (pos 1) ✶ (m ⊗ d ≗ n ⊗ e) ∷ []) refl row.bound n m (dot row.coefs x) (dot row.coefs y)
    (le_of_lt (pos 0) m pm) h (dot-same row.coefs x n y m s))

-- a point meets a problem however it is written
pub IsFeasible-same : (p : ProblemData) (x : List ℤ) (n : ℤ) (y : List ℤ) (m : ℤ) → pos 0 <ℤ m → SameFractions (over x n) (over y m) → IsFeasible p x n
    → IsFeasible p y m
IsFeasible-same p x n y m pm s f = record {
  den_pos = pm;
  one_each = sym (length-over y m) ∙ sym (SameFractions-length (over x n) (over y m) s) ∙ length-over x n ∙ f.one_each;
  nonneg = AreNonNegative-same x n y m f.den_pos pm s f.nonneg;
  meets = λ k d below. IsRowMetBy-same x n y m (get_or p.rows k d) f.den_pos pm s (f.meets k d below);
}

-- a point is least however it is written
pub IsLeast-same : (p : ProblemData) (x : List ℤ) (n : ℤ) (y : List ℤ) (m : ℤ) → pos 0 <ℤ m → SameFractions (over x n) (over y m)
    → IsLeast p x n → IsLeast p y m
IsLeast-same p x n y m pm s h = record {
  feasible = IsFeasible-same p x n y m pm s h.feasible;
  none_before =
      λ z k f below. h.none_before z k f (LexLess-same_right (cost_and_numbers p z k) (cost_and_numbers p y m) (cost_and_numbers p x n)
      (AreFractions-over (dot p.cost z ∷ z) k f.den_pos) (AreFractions-over (dot p.cost y ∷ y) m pm)
      (AreFractions-over (dot p.cost x ∷ x) n h.feasible.den_pos) below
      (SameFractions-sym (cost_and_numbers p x n) (cost_and_numbers p y m) (cost_and_numbers-same p x n y m s)));
}
