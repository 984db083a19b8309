-- The end of a run where no constant is negative: the basic point is the least point, and its cost is that of the cost row.
use lib.IntN.{zero-*ℤ}
use Rattle.std.proofs.Common.{◌≡◌, ◌⊎◌, inl, inr, ℕ, suc, ◌<◌, length, map, take, get_or, replicate, List, [], ◌∷◌, All, ℤ, pos, ◌+ℤ◌, ◌-ℤ◌, ◌*ℤ◌, neg_ℤ, ◌≤ℤ◌, ◌<ℤ◌, refl, sym, ap, subst, ◌∙◌, arith}
use Rattle.std.proofs.lemmas.List.Elements.{All-nil, All-cons, All-head, All-tail, All-take, All-append}
use Rattle.integers.specs.Fraction.{Fraction, SameFraction, over, SameFractions, AreFractions}
use Rattle.integers.specs.Lexicographic.{IsLexPositive, LexLess}
use Rattle.integers.specs.Vector.{dot, row_step, AreNonNegative, AreZero}
use Rattle.integers.proofs.Laws.{lin}
use Rattle.integers.proofs.Order.{mul_pos, mul_nonneg, nonneg_of_mul, le_of_lt}
use Rattle.integers.proofs.Ring.{neg, ◌⊕◌, ◌⊖◌, ◌⊗◌, ◌≗◌, ◌✶◌, ◌⇐◌, combine7}
use Rattle.integers.proofs.Fractions.{SameFraction-trans, SameFractions-sym, SameFractions-trans, AreFractions-over}
use Rattle.integers.proofs.LexOrder.{LexLess-over}
use Rattle.integers.proofs.Lists.{All-parts}
use Rattle.integers.proofs.VectorOrder.{below_length, dot_cases}
use Rattle.integers.proofs.Zeros.{AreZero-cons, AreZero-head, AreZero-tail}
use Rattle.frac128.specs.Problem.{ProblemData, IsProblem, IsRowMetBy, IsFeasible, cost_at, cost_and_numbers}
use Rattle.frac128.specs.declared.problem.Row.{Row}
use Rattle.frac128.proofs.ProblemLaws.{cost_and_numbers-same}
use Rattle.lex_simplex.specs.Answer.{IsLeastPoint}
use Rattle.lex_simplex.specs.Tableau.{TableRow, Tableau, entry, value_of}
use Rattle.lex_simplex.specs.Equations.{surplus, quantities, nonbasic, Holds, AllHold, IsTableauOf, IsTableRow}
use Rattle.lex_simplex.proofs.Tableaus.BasicPoint.{basic, Holds-zeros}
use Rattle.lex_simplex.proofs.Tableaus.Rows.{AreFractions-rows, dens_pos, nonbasic_nonneg, length-nonbasic, variables_hold}

-- ---- products with numbers that are not negative

-- over columns that are lexicographically positive, the rows' products with such numbers are so, or all are 0
dots_cases : (us : List ℤ) (rows : List TableRow) → AreNonNegative us
    → ((e : ℕ) → pos 0 <ℤ get_or us e (pos 0) → IsLexPositive (map (λ (row : TableRow). entry row e) rows))
    → IsLexPositive (map (λ (row : TableRow). dot row.coefs us) rows) ⊎ AreZero (map (λ (row : TableRow). dot row.coefs us) rows)
dots_cases us [] n h = inr (All-nil (λ x. x ≡ pos 0))
dots_cases us (row ∷ rows) n h = step (dot_cases row.coefs us n (λ e p. nonneg e (h e p))) (λ k. dots_cases us rows n k)
  where
    nonneg : (e : ℕ) → pos 0 <ℤ entry row e ⊎ (entry row e ≡ pos 0) × IsLexPositive (map (λ (row : TableRow). entry row e) rows) → pos 0 ≤ℤ entry row e
    nonneg e (inl p) = le_of_lt (pos 0) (entry row e) p
    nonneg e (inr p) = let z = p.0 in omega (arith, lin)

    rest : (e : ℕ) → entry row e ≡ pos 0 → pos 0 <ℤ entry row e ⊎ (entry row e ≡ pos 0) × IsLexPositive (map (λ (row : TableRow). entry row e) rows)
        → IsLexPositive (map (λ (row : TableRow). entry row e) rows)
    rest e z (inl p) = absurd (omega (arith, lin))
    rest e z (inr p) = p.1

    join : dot row.coefs us ≡ pos 0 → IsLexPositive (map (λ (row : TableRow). dot row.coefs us) rows) ⊎ AreZero
        (map (λ (row : TableRow). dot row.coefs us) rows) → IsLexPositive (map (λ (row : TableRow). dot row.coefs us) (row ∷ rows)) ⊎ AreZero
        (map (λ (row : TableRow). dot row.coefs us) (row ∷ rows))
    join z (inl p) = inl (inr (z, p))
    join z (inr zs) = inr (AreZero-cons (dot row.coefs us) (map (λ (row : TableRow). dot row.coefs us) rows) z zs)

    step : pos 0 <ℤ dot row.coefs us ⊎ (dot row.coefs us ≡ pos 0) × ((e : ℕ) → pos 0 <ℤ get_or us e (pos 0) → entry row e ≡ pos 0)
        → (((e : ℕ) → pos 0 <ℤ get_or us e (pos 0) → IsLexPositive (map (λ (row : TableRow). entry row e) rows))
        → IsLexPositive (map (λ (row : TableRow). dot row.coefs us) rows) ⊎ AreZero (map (λ (row : TableRow). dot row.coefs us) rows))
        → IsLexPositive (map (λ (row : TableRow). dot row.coefs us) (row ∷ rows)) ⊎ AreZero (map (λ (row : TableRow). dot row.coefs us) (row ∷ rows))
    step (inl p) later = inl (inl p)
    step (inr r) later = join r.0 (later (λ e p. rest e (r.1 e p) (h e p)))

-- ---- points and the rows' values

-- where the columns' quantities are 0, each quantity over n is its row's value
pub same_values : (qs : List ℤ) (v : ℕ) (n : ℤ) (rows : List TableRow) → AllHold qs (replicate v (pos 0)) n rows
    → SameFractions (over qs n) (map value_of rows)
same_values [] v n [] h = tt
same_values [] v n (row ∷ rows) h = absurd h
same_values (q ∷ qs) v n [] h = absurd h
same_values (q ∷ qs) v n (row ∷ rows) h = (Holds-zeros q v n row h.0, same_values qs v n rows h.1)

-- quantities with values that are not negative
values_nonneg : (qs : List ℤ) (n : ℤ) (rows : List TableRow) → pos 0 <ℤ n → All (λ (row : TableRow). pos 0 <ℤ row.den) rows
    → All (λ (row : TableRow). pos 0 ≤ℤ row.constant) rows → SameFractions (over qs n) (map value_of rows) → AreNonNegative qs
values_nonneg [] n rows pn dens h s = All-nil (λ x. pos 0 ≤ℤ x)
values_nonneg (q ∷ qs) n [] pn dens h s = absurd s
values_nonneg (q ∷ qs) n (row ∷ rows) pn dens h s =
    let product = mul_nonneg row.constant n (All-head (λ (row : TableRow). pos 0 ≤ℤ row.constant) row rows h) (le_of_lt (pos 0) n pn) in
    let first = nonneg_of_mul q row.den (All-head (λ (row : TableRow). pos 0 <ℤ row.den) row rows dens) (subst (λ z. pos 0 ≤ℤ z) (sym s.0) product) in
    All-cons (λ x. pos 0 ≤ℤ x) q qs first (values_nonneg qs n rows pn (All-tail (λ (row : TableRow). pos 0 <ℤ row.den) row rows dens)
    (All-tail (λ (row : TableRow). pos 0 ≤ℤ row.constant) row rows h) s.1)

-- how far a point is from another in a row, times the denominators, is the row's product
gap_is : (D C X Y k m d : ℤ) → X *ℤ D ≡ C *ℤ k → D *ℤ Y ≡ C *ℤ m +ℤ d → (m *ℤ X -ℤ k *ℤ Y) *ℤ D ≡ neg_ℤ (d *ℤ k)
gap_is = combine7 (λ D C X Y k m d. (m ⊗ X ⊖ k ⊗ Y) ⊗ D ≗ neg (d ⊗ k) ⇐ m ✶ (X ⊗ D ≗ C ⊗ k) ∷ neg k ✶ (D ⊗ Y ≗ C ⊗ m ⊕ d) ∷ []) refl

-- no point comes before the rows' values if the rows' products are lexicographically positive or all 0
none_below : (X Y us : List ℤ) (k m : ℤ) (rows : List TableRow) → pos 0 <ℤ k → All (λ (row : TableRow). pos 0 <ℤ row.den) rows
    → SameFractions (over X k) (map value_of rows) → AllHold Y us m rows
    → IsLexPositive (map (λ (row : TableRow). dot row.coefs us) rows) ⊎ AreZero (map (λ (row : TableRow). dot row.coefs us) rows)
    → ¬ IsLexPositive (row_step m k X Y)
none_below [] [] us k m rows pk dens s h c p = absurd p
none_below [] (y ∷ Y) us k m [] pk dens s h c p = absurd h
none_below [] (y ∷ Y) us k m (row ∷ rows) pk dens s h c p = absurd s
none_below (x ∷ X) Y us k m [] pk dens s h c p = absurd s
none_below (x ∷ X) [] us k m (row ∷ rows) pk dens s h c p = absurd h
none_below (x ∷ X) (y ∷ Y) us k m (row ∷ rows) pk dens s h c p =
    step c p (λ w. none_below X Y us k m rows pk (All-tail (λ (row : TableRow). pos 0 <ℤ row.den) row rows dens) s.1 h.1 w)
  where
    d : ℤ
    d = dot row.coefs us

    g : ℤ
    g = m *ℤ x -ℤ k *ℤ y

    is : g *ℤ row.den ≡ neg_ℤ (d *ℤ k)
    is = gap_is row.den row.constant x y k m d s.0 h.0

    den : pos 0 <ℤ row.den
    den = All-head (λ (row : TableRow). pos 0 <ℤ row.den) row rows dens

    not_positive : pos 0 ≤ℤ d → pos 0 <ℤ g → ⊥
    not_positive n q = let a = mul_pos g row.den q den in let b = mul_nonneg d k n (le_of_lt (pos 0) k pk) in let e = is in absurd (omega (arith, lin))

    not_zero : pos 0 <ℤ d → g ≡ pos 0 → ⊥
    not_zero q z = let a = mul_pos d k q pk in let e : pos 0 ≡ neg_ℤ (d *ℤ k) = sym (zero-*ℤ row.den) ∙ ap (λ w. w *ℤ row.den) (sym z) ∙ is in
        absurd (omega (arith, lin))

    step : IsLexPositive (map (λ (row : TableRow). dot row.coefs us) (row ∷ rows)) ⊎ AreZero (map (λ (row : TableRow). dot row.coefs us) (row ∷ rows))
        → pos 0 <ℤ g ⊎ (g ≡ pos 0) × IsLexPositive (row_step m k X Y)
        → (IsLexPositive (map (λ (row : TableRow). dot row.coefs us) rows) ⊎ AreZero (map (λ (row : TableRow). dot row.coefs us) rows)
        → ¬ IsLexPositive (row_step m k X Y)) → ⊥
    step (inl (inl q)) (inl r) later = not_positive (le_of_lt (pos 0) d q) r
    step (inl (inl q)) (inr r) later = not_zero q r.0
    step (inl (inr q)) (inl r) later = not_positive (let z = q.0 in omega (arith, lin)) r
    step (inl (inr q)) (inr r) later = later (inl q.1) r.1
    step (inr q) (inl r) later = not_positive (let z = AreZero-head d (map (λ (row : TableRow). dot row.coefs us) rows) q in omega (arith, lin)) r
    step (inr q) (inr r) later = later (inr (AreZero-tail d (map (λ (row : TableRow). dot row.coefs us) rows) q)) r.1

-- ---- what is feasible

-- rows whose surpluses are not negative are met
met_from_surpluses : (x : List ℤ) (n : ℤ) (rows : List Row) → AreNonNegative (map (surplus x n) rows) → All (IsRowMetBy x n) rows
met_from_surpluses x n [] h = All-nil (IsRowMetBy x n)
met_from_surpluses x n (row ∷ rows) h = All-cons (IsRowMetBy x n) row rows (let k =
    All-head (λ x. pos 0 ≤ℤ x) (surplus x n row) (map (surplus x n) rows) h in
    omega (arith, lin)) (met_from_surpluses x n rows (All-tail (λ x. pos 0 ≤ℤ x) (surplus x n row) (map (surplus x n) rows) h))

-- and the converse
surpluses_from_met : (x : List ℤ) (n : ℤ) (rows : List Row) → All (IsRowMetBy x n) rows → AreNonNegative (map (surplus x n) rows)
surpluses_from_met x n [] h = All-nil (λ x. pos 0 ≤ℤ x)
surpluses_from_met x n (row ∷ rows) h = All-cons (λ x. pos 0 ≤ℤ x) (surplus x n row) (map (surplus x n) rows) (let k =
    All-head (IsRowMetBy x n) row rows h in omega (arith, lin)) (surpluses_from_met x n rows (All-tail (IsRowMetBy x n) row rows h))

-- the quantities of a point that meets the problem are not negative
pub quantities_nonneg : (p : ProblemData) (x : List ℤ) (n : ℤ) → IsFeasible p x n → AreNonNegative (quantities p x n)
quantities_nonneg p x n f = All-append (λ x. pos 0 ≤ℤ x) x (map (surplus x n) p.rows) f.nonneg (surpluses_from_met x n p.rows f.meets)

-- ---- the basic point

-- the variables of the basic point are the values of their rows
basic_values : (p : ProblemData) (t : Tableau) (h : IsTableauOf p t)
    → SameFractions (over (basic p t h).0 (basic p t h).1) (map value_of (take p.vars t.rows))
basic_values p t h =
    let b = basic p t h in
    same_values b.0 p.vars b.1 (take p.vars t.rows) (subst (λ us. AllHold b.0 us b.1 (take p.vars t.rows)) b.4 (variables_hold p t h b.0 b.1 b.3))

-- and its cost is the value of the cost row
basic_cost : (p : ProblemData) (t : Tableau) (h : IsTableauOf p t) → SameFraction (cost_at p (basic p t h).0 (basic p t h).1) (value_of t.cost)
basic_cost p t h =
    let b = basic p t h in
    Holds-zeros (dot p.cost b.0) p.vars b.1 t.cost (subst (λ us. Holds (dot p.cost b.0) us b.1 t.cost) b.4 (h.cost_holds b.0 b.1 b.3))

-- it meets the problem where no constant is negative
basic_feasible : (p : ProblemData) (t : Tableau) (h : IsTableauOf p t) → All (λ (row : TableRow). pos 0 ≤ℤ row.constant) t.rows
    → IsFeasible p (basic p t h).0 (basic p t h).1
basic_feasible p t h c =
    let b = basic p t h in
    let qs : List ℤ = quantities p b.0 b.1 in
    let values = same_values qs p.vars b.1 t.rows (subst (λ us. AllHold qs us b.1 t.rows) b.4 (h.rows_hold b.0 b.1 b.3)) in
    let nonneg = values_nonneg qs b.1 t.rows b.2 (dens_pos p.vars t.rows h.rows_fit) c values in
    let parts = (All-parts (λ x. pos 0 ≤ℤ x) b.0 (map (surplus b.0 b.1) p.rows)).0 nonneg in
    record {
      den_pos = b.2;
      one_each = b.3;
      nonneg = parts.0;
      meets = met_from_surpluses b.0 b.1 p.rows parts.1;
    }

-- no point that meets the problem comes before it
basic_first : (p : ProblemData) (t : Tableau) (h : IsTableauOf p t) (y : List ℤ) (m : ℤ) → IsFeasible p y m
    → ¬ LexLess (cost_and_numbers p y m) (cost_and_numbers p (basic p t h).0 (basic p t h).1)
basic_first p t h y m f less =
    let b = basic p t h in
    let x : List ℤ = b.0 in
    let k : ℤ = b.1 in
    let us : List ℤ = nonbasic t.columns (quantities p y m) in
    let rows : List TableRow = t.cost ∷ take p.vars t.rows in
    let long : length us ≡ p.vars = length-nonbasic t.columns (quantities p y m) ∙ h.one_column_each in
    let nonneg : AreNonNegative us = nonbasic_nonneg t.columns (quantities p y m) (quantities_nonneg p y m f) in
    let positive : (e : ℕ) → pos 0 <ℤ get_or us e (pos 0) → IsLexPositive (map (λ (row : TableRow). entry row e) rows) =
    λ e q. subst (λ v. IsLexPositive (map (λ (row : TableRow). entry row e) (t.cost ∷ take v t.rows))) h.one_column_each
    (h.columns_positive e (subst (λ v. e < v) long (below_length us e q))) in
    let dens = All-cons (λ (row : TableRow). pos 0 <ℤ row.den) t.cost (take p.vars t.rows) h.cost_fits.den_pos
    (All-take (λ (row : TableRow). pos 0 <ℤ row.den) p.vars t.rows (dens_pos p.vars t.rows h.rows_fit)) in
    let lists : length (dot p.cost y ∷ y) ≡ length (dot p.cost x ∷ x) = ap suc (f.one_each ∙ sym b.3) in
    let gap : IsLexPositive (row_step m k (dot p.cost x ∷ x) (dot p.cost y ∷ y)) = (LexLess-over (dot p.cost y ∷ y) (dot p.cost x ∷ x) m k lists).0 less in
    none_below (dot p.cost x ∷ x) (dot p.cost y ∷ y) us k m rows b.2 dens (basic_cost p t h, basic_values p t h) (
      h.cost_holds y m f.one_each,
      variables_hold p t h y m f.one_each,
    ) (dots_cases us rows nonneg positive) gap

-- where no constant is negative, the values of the variables' rows are the least point
pub optimal_point : (p : ProblemData) (t : Tableau) → IsProblem p → IsTableauOf p t → All (λ (row : TableRow). pos 0 ≤ℤ row.constant) t.rows
    → IsLeastPoint p (map value_of (take p.vars t.rows))
optimal_point p t ok h c = record {
  x = (basic p t h).0;
  n = (basic p t h).1;
  same = basic_values p t h;
  least = record { feasible = basic_feasible p t h c; none_before = basic_first p t h };
}

-- the point of these values costs what the cost row says
pub cost_value : (p : ProblemData) (t : Tableau) → IsTableauOf p t → (x : List ℤ) (n : ℤ) → pos 0 <ℤ n
    → SameFractions (over x n) (map value_of (take p.vars t.rows)) → SameFraction (cost_at p x n) (value_of t.cost)
cost_value p t h x n pn s =
    let b = basic p t h in
    let values : List Fraction = map value_of (take p.vars t.rows) in
    let fractions : AreFractions values = AreFractions-rows p.vars (take p.vars t.rows) (All-take (IsTableRow p.vars) p.vars t.rows h.rows_fit) in
    let same : SameFractions (over x n) (over b.0 b.1) = SameFractions-trans (over x n) values (over b.0 b.1) (AreFractions-over x n pn) fractions
    (AreFractions-over b.0 b.1 b.2) s (SameFractions-sym (over b.0 b.1) values (basic_values p t h)) in
    SameFraction-trans (cost_at p x n) (cost_at p b.0 b.1) (value_of t.cost) pn b.2 h.cost_fits.den_pos (cost_and_numbers-same p x n b.0 b.1 same).0
    (basic_cost p t h)
