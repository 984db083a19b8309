-- Points with given numbers in the columns of a tableau, over some multiple of each denominator, and the tableau's values at zeros.
use lib.IntN.{*ℤ_comm, *ℤ-zero, zero-*ℤ, +ℤ_idr}
use lib.ListN.{length-replicate}
use Rattle.std.proofs.Common.{◌≡◌, ◌≢◌, ℕ, zero, suc, ◌<◌, length, map, take, get_or, replicate, List, [], ◌∷◌, All, AllPairs, ℤ, pos, negsuc, ◌+ℤ◌, ◌-ℤ◌, ◌*ℤ◌, ◌<ℤ◌, refl, sym, ap, ap₂, subst, subst₂, ◌∙◌, arith, Contains}
use Rattle.std.proofs.lemmas.List.{length-map, length-take-le, get_or_default, get_or-map}
use Rattle.std.proofs.lemmas.List.Elements.{All-nil, All-cons, All-head, All-tail, All-take, All-get_or, All-map}
use Rattle.std.specs.Int.Signed.{lt_z_yes}
use Rattle.integers.specs.Vector.{dot, scale, row_step, unit_vector, AreZero}
use Rattle.integers.specs.Fraction.{SameFraction, SameFractions}
use Rattle.integers.proofs.Laws.{lin, *ℤ_assoc, *ℤ-one}
use Rattle.integers.proofs.Order.{mul_pos, zero_of_mul, cancel_eq}
use Rattle.integers.proofs.Ring.{con, ◌⊕◌, ◌⊖◌, ◌⊗◌, ◌≗◌, ◌✶◌, ◌⇐◌, combine6, combine8, neg}
use Rattle.integers.proofs.Vector.{dot_comm, dot-row_step, dot-scale_right, dot-zeros, length-unit_vector, get_or-unit_vector, get_or-unit_vector_other}
use Rattle.integers.proofs.VectorLaws.{length-scale, length-row_step, scale-scale, get_or-scale}
use Rattle.integers.proofs.Zeros.{dot-AreZero, get_or-zeros, same_from_difference, scale-zeros}
use Rattle.frac128.specs.Problem.{ProblemData}
use Rattle.lex_simplex.specs.Tableau.{TableRow, Tableau, row_of, value_of}
use Rattle.lex_simplex.specs.Equations.{quantities, nonbasic, Holds, AllHold, IsTableauOf}
use Rattle.lex_simplex.proofs.Tableaus.Rows.{AllHold-length, dens_pos, get_or-nonbasic, row_of-holds, variables_hold}

-- ---- rows that hold

-- a multiple of a row's equation
pub Holds-scale : (c q : ℤ) (us : List ℤ) (n : ℤ) (row : TableRow) → Holds q us n row → Holds (c *ℤ q) (scale c us) (c *ℤ n) row
Holds-scale c q us n row h = combine8 (λ c q n D C d s z. D ⊗ (c ⊗ q) ≗ C ⊗ (c ⊗ n) ⊕ s ⇐ c ✶ (D ⊗ q ≗ C ⊗ n ⊕ d) ∷ con (pos 1) ✶ (c ⊗ d ≗ s) ∷ []) refl c q
    n row.den row.constant (dot row.coefs us) (dot row.coefs (scale c us)) c h (sym (dot-scale_right c row.coefs us))

-- a multiple of the equations
pub AllHold-scale : (c : ℤ) (qs us : List ℤ) (n : ℤ) (rows : List TableRow) → AllHold qs us n rows → AllHold (scale c qs) (scale c us) (c *ℤ n) rows
AllHold-scale c [] us n [] h = tt
AllHold-scale c [] us n (row ∷ rows) h = absurd h
AllHold-scale c (q ∷ qs) us n [] h = absurd h
AllHold-scale c (q ∷ qs) us n (row ∷ rows) h = (Holds-scale c q us n row h.0, AllHold-scale c qs us n rows h.1)

-- one row more, with its denominator in the common one
solved-step : (us : List ℤ) (n : ℤ) (row : TableRow) (rows : List TableRow) (x : List ℤ) (k : ℤ) → AllHold x (scale k us) (k *ℤ n) rows
    → AllHold ((k *ℤ (row.constant *ℤ n +ℤ dot row.coefs us)) ∷ scale row.den x) (scale (row.den *ℤ k) us) ((row.den *ℤ k) *ℤ n) (row ∷ rows)
solved-step us n row rows x k h =
    let s : ℤ = dot row.coefs (scale (row.den *ℤ k) us) in
    let first : row.den *ℤ (k *ℤ (row.constant *ℤ n +ℤ dot row.coefs us)) ≡ row.constant *ℤ ((row.den *ℤ k) *ℤ n) +ℤ s =
    combine6 (λ d k c n e s. d ⊗ (k ⊗ (c ⊗ n ⊕ e)) ≗ c ⊗ ((d ⊗ k) ⊗ n) ⊕ s ⇐ con (pos 1) ✶ ((d ⊗ k) ⊗ e ≗ s) ∷ []) refl row.den k row.constant n
    (dot row.coefs us) s (sym (dot-scale_right (row.den *ℤ k) row.coefs us)) in (
      first,
      subst₂ (λ vs m. AllHold (scale row.den x) vs m rows) (scale-scale row.den k us) (sym (*ℤ_assoc row.den k n))
          (AllHold-scale row.den x (scale k us) (k *ℤ n) rows h),
    )

-- quantities that meet the rows with given numbers in the columns, over a common denominator
solved : (us : List ℤ) (n : ℤ) (rows : List TableRow) → All (λ (row : TableRow). pos 0 <ℤ row.den) rows
    → (x : List ℤ) × (k : ℤ) × (pos 0 <ℤ k) × AllHold x (scale k us) (k *ℤ n) rows
solved us n [] p = ([], pos 1, lt_z_yes tt, tt)
solved us n (row ∷ rows) p =
    let r = solved us n rows (All-tail (λ (row : TableRow). pos 0 <ℤ row.den) row rows p) in (
      (r.1 *ℤ (row.constant *ℤ n +ℤ dot row.coefs us)) ∷ scale row.den r.0,
      row.den *ℤ r.1,
      mul_pos row.den r.1 (All-head (λ (row : TableRow). pos 0 <ℤ row.den) row rows p) r.2,
      solved-step us n row rows r.0 r.1 r.3,
    )

-- where the rows hold at the same quantities, the columns' numbers differ by numbers with which each row's product is 0
differ : (qs us vs : List ℤ) (n : ℤ) (rows : List TableRow) → AllHold qs us n rows → AllHold qs vs n rows
    → All (λ (row : TableRow). dot row.coefs (row_step (pos 1) (pos 1) us vs) ≡ pos 0) rows
differ [] us vs n [] h k = All-nil (λ (row : TableRow). dot row.coefs (row_step (pos 1) (pos 1) us vs) ≡ pos 0)
differ [] us vs n (row ∷ rows) h k = absurd h
differ (q ∷ qs) us vs n [] h k = absurd h
differ (q ∷ qs) us vs n (row ∷ rows) h k =
    let e : ℤ = dot row.coefs us in
    let f : ℤ = dot row.coefs vs in
    let apart : dot row.coefs (row_step (pos 1) (pos 1) us vs) ≡ pos 1 *ℤ e -ℤ pos 1 *ℤ f = dot_comm row.coefs (row_step (pos 1) (pos 1) us vs)
    ∙ dot-row_step (pos 1) (pos 1) us vs row.coefs ∙ ap₂ (λ a b. pos 1 *ℤ a -ℤ pos 1 *ℤ b) (dot_comm us row.coefs) (dot_comm vs row.coefs) in
    let here : pos 1 *ℤ e -ℤ pos 1 *ℤ f ≡ pos 0 = combine6
    (λ d q c n e f. con (pos 1) ⊗ e ⊖ con (pos 1) ⊗ f ≗ con (pos 0) ⇐ con (negsuc 0) ✶ (d ⊗ q ≗ c ⊗ n ⊕ e) ∷ con (pos 1) ✶ (d ⊗ q ≗ c ⊗ n ⊕ f) ∷ [])
    refl row.den q row.constant n e f h.0 k.0 in
    All-cons (λ (row : TableRow). dot row.coefs (row_step (pos 1) (pos 1) us vs) ≡ pos 0) row rows (apart ∙ here) (differ qs us vs n rows h.1 k.1)

-- ---- the rows of a tableau

-- there is a point with any given numbers in the columns, up to a common factor
pub reach : (p : ProblemData) (t : Tableau) → IsTableauOf p t → (us : List ℤ) (n : ℤ) → length us ≡ p.vars
    → (x : List ℤ) × (k : ℤ) × (pos 0 <ℤ k) × (length x ≡ p.vars) × (nonbasic t.columns (quantities p x (k *ℤ n)) ≡ scale k us)
reach p t h us n l =
    let rows : List TableRow = take p.vars t.rows in
    let r = solved us n rows (All-take (λ (row : TableRow). pos 0 <ℤ row.den) p.vars t.rows (dens_pos p.vars t.rows h.rows_fit)) in
    let x : List ℤ = r.0 in
    let k : ℤ = r.1 in
    let long : length x ≡ p.vars = AllHold-length x (scale k us) (k *ℤ n) rows r.3 ∙ length-take-le p.vars t.rows (omega (arith, h.one_row_each)) in
    let vs : List ℤ = nonbasic t.columns (quantities p x (k *ℤ n)) in
    let vs_long : length vs ≡ p.vars = length-map t.columns (λ c. get_or (quantities p x (k *ℤ n)) c (pos 0)) ∙ h.one_column_each in
    let us_long : length (scale k us) ≡ p.vars = length-scale k us ∙ l in
    let gap : List ℤ = row_step (pos 1) (pos 1) vs (scale k us) in
    let gap_long : length gap ≡ p.vars = omega (arith, length-row_step (pos 1) (pos 1) vs (scale k us), vs_long, us_long) in
    let zero : AreZero gap = h.independent gap gap_long (differ x vs (scale k us) (k *ℤ n) rows (variables_hold p t h x (k *ℤ n) long) r.3) in
    (x, k, r.2, long, same_from_difference vs (scale k us) (vs_long ∙ sym us_long) zero)

-- no two columns stand for one quantity
pub columns_distinct : (p : ProblemData) (t : Tableau) → IsTableauOf p t → AllPairs (λ a b. a ≢ b) t.columns
columns_distinct p t h i j d less below same =
    let us : List ℤ = unit_vector p.vars i in
    let r = reach p t h us (pos 1) (length-unit_vector p.vars i) in
    let qs : List ℤ = quantities p r.0 (r.1 *ℤ pos 1) in
    let at : (e : ℕ) → e < length t.columns → get_or qs (get_or t.columns e 0) (pos 0) ≡ r.1 *ℤ get_or us e (pos 0) =
    λ e l. sym (get_or-nonbasic t.columns qs e l) ∙ ap (λ (vs : List ℤ). get_or vs e (pos 0)) r.4 ∙ get_or-scale r.1 us e in
    let i_below : i < length t.columns = omega arith in
    let one : get_or t.columns i 0 ≡ get_or t.columns j 0 = get_or_default t.columns i 0 d i_below ∙ same ∙ get_or_default t.columns j d 0 below in
    let k_is : r.1 *ℤ get_or us i (pos 0) ≡ r.1 *ℤ get_or us j (pos 0) = sym (at i i_below) ∙ ap (λ c. get_or qs c (pos 0)) one ∙ at j below in
    let i_var : i < p.vars = omega (arith, h.one_column_each) in
    let k_is_zero : r.1 *ℤ pos 1 ≡ r.1 *ℤ pos 0 = ap (λ z. r.1 *ℤ z) (sym (get_or-unit_vector p.vars i i_var)) ∙ k_is
    ∙ ap (λ z. r.1 *ℤ z) (get_or-unit_vector_other p.vars i j (λ e. absurd (omega arith))) in
    let positive = r.2 in
    absurd (omega (arith, lin, *ℤ-one r.1, *ℤ-zero r.1, k_is_zero))

-- ---- the basic point

-- a point where the columns' quantities are 0
pub basic : (p : ProblemData) (t : Tableau) → IsTableauOf p t
    → (x : List ℤ) × (k : ℤ) × (pos 0 <ℤ k) × (length x ≡ p.vars) × (nonbasic t.columns (quantities p x k) ≡ replicate p.vars (pos 0))
basic p t h =
    let r = reach p t h (replicate p.vars (pos 0)) (pos 1) (length-replicate p.vars (pos 0)) in (
      r.0,
      r.1,
      r.2,
      r.3,
      subst (λ m. nonbasic t.columns (quantities p r.0 m) ≡ scale r.1 (replicate p.vars (pos 0))) (*ℤ-one r.1) r.4
          ∙ scale-zeros r.1 p.vars,
    )

-- where the columns' quantities are 0 a row says that den times the quantity is the constant times n
pub Holds-zeros : (q : ℤ) (v : ℕ) (n : ℤ) (row : TableRow) → Holds q (replicate v (pos 0)) n row → q *ℤ row.den ≡ row.constant *ℤ n
Holds-zeros q v n row h = *ℤ_comm q row.den ∙ h ∙ ap (λ z. row.constant *ℤ n +ℤ z) (dot-zeros row.coefs v) ∙ +ℤ_idr (row.constant *ℤ n)

-- the row of a column's quantity has the constant 0
pub column_constant : (p : ProblemData) (t : Tableau) → IsTableauOf p t → (j : ℕ) → j < length t.columns
    → (row_of t (get_or t.columns j 0)).constant ≡ pos 0
column_constant p t h j l =
    let b = basic p t h in
    let qs : List ℤ = quantities p b.0 b.1 in
    let c : ℕ = get_or t.columns j 0 in
    let row : TableRow = row_of t c in
    let c_below : c < length t.rows = All-get_or (λ c. c < length t.rows) t.columns j 0 l h.columns_below in
    let zero : get_or qs c (pos 0) ≡ pos 0 = sym (get_or-nonbasic t.columns qs j l) ∙ ap (λ (vs : List ℤ). get_or vs j (pos 0)) b.4
    ∙ get_or-zeros p.vars j in
    let holds = row_of-holds p t c h c_below b.0 b.1 b.3 in
    let here : Holds (pos 0) (replicate p.vars (pos 0)) b.1 row = subst₂ (λ q us. Holds q us b.1 row) zero b.4 holds in
    zero_of_mul row.constant b.1 b.2 (sym (Holds-zeros (pos 0) p.vars b.1 row here) ∙ zero-*ℤ row.den)

-- ---- the values there

-- where the columns' quantities are 0, that of a member is
zero_at : (columns : List ℕ) (qs : List ℤ) (q : ℕ) → AreZero (nonbasic columns qs) → Contains columns q → get_or qs q (pos 0) ≡ pos 0
zero_at columns qs q z (k, l, e) =
    ap (λ c. get_or qs c (pos 0)) (sym e) ∙ sym (get_or-map (λ c. get_or qs c (pos 0)) columns k q (pos 0) l)
    ∙ z k (pos 0) (omega (arith, length-map columns (λ c. get_or qs c (pos 0))))

-- and those of columns among them are
pub AreZero-nonbasic : (columns others : List ℕ) (qs : List ℤ) → All (Contains columns) others → AreZero (nonbasic columns qs)
    → AreZero (nonbasic others qs)
AreZero-nonbasic columns others qs h z = All-map (λ x. x ≡ pos 0) (λ c. get_or qs c (pos 0)) others
    (λ i d l. zero_at columns qs (get_or others i d) z (h i d l))

-- two rows that hold of one quantity there have the same value
pub Holds-same : (q : ℤ) (us vs : List ℤ) (n : ℤ) (row other : TableRow) → pos 0 <ℤ n → AreZero us → AreZero vs → Holds q us n row → Holds q vs n other
    → SameFraction (value_of row) (value_of other)
Holds-same q us vs n row other p z w h k = cancel_eq (row.constant *ℤ other.den) (other.constant *ℤ row.den) n p
    (combine6 (λ q n b d c e. b ⊗ e ⊗ n ≗ c ⊗ d ⊗ n ⇐ neg e ✶ (d ⊗ q ≗ b ⊗ n ⊕ con (pos 0)) ∷ d ✶ (e ⊗ q ≗ c ⊗ n ⊕ con (pos 0)) ∷ []) refl q n row.constant
    row.den other.constant other.den (h ∙ ap (λ x. row.constant *ℤ n +ℤ x) (dot-AreZero row.coefs us z)) (k
    ∙ ap (λ x. other.constant *ℤ n +ℤ x) (dot-AreZero other.coefs vs w)))

-- and so do the first rows of two lists
pub AllHold-same : (count : ℕ) (qs us vs : List ℤ) (n : ℤ) (rows others : List TableRow) → pos 0 <ℤ n → AreZero us → AreZero vs → AllHold qs us n rows
    → AllHold qs vs n others → SameFractions (map value_of (take count rows)) (map value_of (take count others))
AllHold-same zero qs us vs n rows others p z w h k = tt
AllHold-same (suc count) [] us vs n [] [] p z w h k = tt
AllHold-same (suc count) [] us vs n [] (other ∷ others) p z w h k = absurd k
AllHold-same (suc count) [] us vs n (row ∷ rows) others p z w h k = absurd h
AllHold-same (suc count) (q ∷ qs) us vs n [] others p z w h k = absurd h
AllHold-same (suc count) (q ∷ qs) us vs n (row ∷ rows) [] p z w h k = absurd k
AllHold-same (suc count) (q ∷ qs) us vs n (row ∷ rows) (other ∷ others) p z w h k =
    (Holds-same q us vs n row other p z w h.0 k.0, AllHold-same count qs us vs n rows others p z w h.1 k.1)
