-- Terms of a commutative ring over ℤ as data (`Expr`), their normal form, a list of monomials (`Poly`), and the proof that
-- equal normal forms mean equal values (`same_value`). `Rattle.integers.proofs.Ring` has the calls.
use Prim.Native.Nat.{compare, Ordering}
use lib.Dec.{eqb→eq, compare_is_eq}
use lib.IntN.{+ℤ_idl, +ℤ_idr, +ℤ_comm, +ℤ_assoc, *ℤ-zero, zero-*ℤ, neg_ℤ-+ℤ}
use Rattle.std.proofs.Common.{◌≡◌, ℕ, zero, suc, Bool, true, false, T, leb, List, [], ◌∷◌, ℤ, pos, negsuc, ◌+ℤ◌, ◌-ℤ◌, ◌*ℤ◌, neg_ℤ, refl, sym, ap, ap₂, ◌∙◌}
use Rattle.integers.proofs.Laws.{*ℤ-+ℤ, +ℤ-*ℤ, *ℤ_assoc, *ℤ_left_comm, +ℤ_left_comm, neg_ℤ-*ℤ, one-*ℤ, *ℤ-one}

-- ---- terms and their values

-- a term over numbered variables
pub data Expr : Type 0 where
  var : ℕ → Expr
  con : ℤ → Expr
  neg : Expr → Expr
  ◌⊕◌ : Expr → Expr → Expr
  ◌⊖◌ : Expr → Expr → Expr
  ◌⊗◌ : Expr → Expr → Expr

infixl 6 ◌⊕◌ ◌⊖◌
infixl 7 ◌⊗◌
-- the value of a variable
abbrev pub at : List ℤ → ℕ → ℤ
at [] i = pos 0
at (x ∷ xs) zero = x
at (x ∷ xs) (suc i) = at xs i

-- the value of a term
abbrev pub eval : List ℤ → Expr → ℤ
eval env (var i) = at env i
eval env (con c) = c
eval env (neg e) = neg_ℤ (eval env e)
eval env (a ⊕ b) = eval env a +ℤ eval env b
eval env (a ⊖ b) = eval env a -ℤ eval env b
eval env (a ⊗ b) = eval env a *ℤ eval env b

-- ---- normal forms and their values

-- a sum of monomials: each a coefficient and the numbers of its variables
pub data Poly : Type 0 where
  nil : Poly
  term : ℤ → List ℕ → Poly → Poly

-- the value of a monomial
abbrev pub eval_mono : List ℤ → List ℕ → ℤ
eval_mono env [] = pos 1
eval_mono env (i ∷ is) = at env i *ℤ eval_mono env is

-- the value of a sum of monomials
abbrev pub eval_poly : List ℤ → Poly → ℤ
eval_poly env nil = pos 0
eval_poly env (term c m p) = c *ℤ eval_mono env m +ℤ eval_poly env p

-- ---- computing the normal form

-- a variable into its place in a sorted monomial
abbrev pub insert_var : ℕ → List ℕ → List ℕ
insert_var i [] = i ∷ []
insert_var i (j ∷ js) = elim (leb i j) [ true ↦ i ∷ j ∷ js | false ↦ j ∷ insert_var i js ]

-- the product of two monomials
abbrev pub mul_mono : List ℕ → List ℕ → List ℕ
mul_mono [] n = n
mul_mono (i ∷ m) n = insert_var i (mul_mono m n)

-- how two monomials stand in the order of the normal form
abbrev pub order_mono : List ℕ → List ℕ → Ordering
order_mono [] [] = Ordering.eq
order_mono [] (j ∷ n) = Ordering.lt
order_mono (i ∷ m) [] = Ordering.gt
order_mono (i ∷ m) (j ∷ n) = elim (compare i j) [ Ordering.lt ↦ Ordering.lt | Ordering.eq ↦ order_mono m n | Ordering.gt ↦ Ordering.gt ]

-- a monomial in front of a sum, left out where its coefficient is 0
abbrev pub keep : ℤ → List ℕ → Poly → Poly
keep (pos zero) m p = p
keep (pos (suc n)) m p = term (pos (suc n)) m p
keep (negsuc n) m p = term (negsuc n) m p

-- a monomial into its place in a sum
abbrev pub insert_term : ℤ → List ℕ → Poly → Poly
insert_term c m nil = term c m nil
insert_term c m (term d n p) =
    elim (order_mono m n) [ Ordering.lt ↦ term c m (term d n p) | Ordering.eq ↦ keep (c +ℤ d) n p | Ordering.gt ↦ term d n (insert_term c m p) ]

-- the sum of two sums
abbrev pub add_poly : Poly → Poly → Poly
add_poly nil q = q
add_poly (term c m p) q = insert_term c m (add_poly p q)

-- a monomial times a sum, added to another sum
abbrev pub add_product : ℤ → List ℕ → Poly → Poly → Poly
add_product c m nil r = r
add_product c m (term d n q) r = insert_term (c *ℤ d) (mul_mono m n) (add_product c m q r)

-- the product of two sums
abbrev pub mul_poly : Poly → Poly → Poly
mul_poly nil q = nil
mul_poly (term c m p) q = add_product c m q (mul_poly p q)

-- a sum with all signs changed
abbrev pub neg_poly : Poly → Poly
neg_poly nil = nil
neg_poly (term c m p) = term (neg_ℤ c) m (neg_poly p)

-- the normal form of a term
abbrev pub norm : Expr → Poly
norm (var i) = term (pos 1) (i ∷ []) nil
norm (con c) = keep c [] nil
norm (neg e) = neg_poly (norm e)
norm (a ⊕ b) = add_poly (norm a) (norm b)
norm (a ⊖ b) = add_poly (neg_poly (norm b)) (norm a)
norm (a ⊗ b) = mul_poly (norm a) (norm b)

-- ---- soundness

-- a variable more is a factor more
insert_var_lem : (env : List ℤ) (i : ℕ) (m : List ℕ) → eval_mono env (insert_var i m) ≡ at env i *ℤ eval_mono env m
insert_var_lem env i [] = refl
insert_var_lem env i (j ∷ js) = step (leb i j) (insert_var_lem env i js)
  where
    step : (b : Bool) → eval_mono env (insert_var i js) ≡ at env i *ℤ eval_mono env js
        → eval_mono env (elim b [ true ↦ i ∷ j ∷ js | false ↦ j ∷ insert_var i js ]) ≡ at env i *ℤ (at env j *ℤ eval_mono env js)
    step true ih = refl
    step false ih = ap (λ x. at env j *ℤ x) ih ∙ *ℤ_left_comm (at env j) (at env i) (eval_mono env js)

-- the value of a product of monomials
mul_mono_lem : (env : List ℤ) (m n : List ℕ) → eval_mono env (mul_mono m n) ≡ eval_mono env m *ℤ eval_mono env n
mul_mono_lem env [] n = sym (one-*ℤ (eval_mono env n))
mul_mono_lem env (i ∷ m) n =
    insert_var_lem env i (mul_mono m n) ∙ ap (λ x. at env i *ℤ x) (mul_mono_lem env m n) ∙ sym (*ℤ_assoc (at env i) (eval_mono env m) (eval_mono env n))

-- monomials that stand equal are equal
order_mono_lem : (m n : List ℕ) → T (compare_is_eq (order_mono m n)) → m ≡ n
order_mono_lem [] [] t = refl
order_mono_lem [] (j ∷ n) t = absurd t
order_mono_lem (i ∷ m) [] t = absurd t
order_mono_lem (i ∷ m) (j ∷ n) t = step (compare i j) (eqb→eq i j) (order_mono_lem m n) t
  where
    step : (o : Ordering) → (T (compare_is_eq o) → i ≡ j) → (T (compare_is_eq (order_mono m n)) → m ≡ n)
        → T (compare_is_eq (elim o [ Ordering.lt ↦ Ordering.lt | Ordering.eq ↦ order_mono m n | Ordering.gt ↦ Ordering.gt ])) → i ∷ m ≡ j ∷ n
    step Ordering.lt e ih t = absurd t
    step Ordering.eq e ih t = ap₂ (λ x y. x ∷ y) (e tt) (ih t)
    step Ordering.gt e ih t = absurd t

-- a monomial with the coefficient 0 adds nothing
keep_lem : (env : List ℤ) (c : ℤ) (m : List ℕ) (p : Poly) → eval_poly env (keep c m p) ≡ c *ℤ eval_mono env m +ℤ eval_poly env p
keep_lem env (pos zero) m p = sym (ap (λ x. x +ℤ eval_poly env p) (zero-*ℤ (eval_mono env m)) ∙ +ℤ_idl (eval_poly env p))
keep_lem env (pos (suc n)) m p = refl
keep_lem env (negsuc n) m p = refl

-- a monomial more is a summand more
insert_term_lem : (env : List ℤ) (c : ℤ) (m : List ℕ) (p : Poly) → eval_poly env (insert_term c m p) ≡ c *ℤ eval_mono env m +ℤ eval_poly env p
insert_term_lem env c m nil = refl
insert_term_lem env c m (term d n p) = step (order_mono m n) (order_mono_lem m n) (insert_term_lem env c m p)
  where
    step : (o : Ordering) → (T (compare_is_eq o) → m ≡ n) → eval_poly env (insert_term c m p) ≡ c *ℤ eval_mono env m +ℤ eval_poly env p
        → eval_poly env (elim o [ Ordering.lt ↦ term c m (term d n p) | Ordering.eq ↦ keep (c +ℤ d) n p | Ordering.gt ↦ term d n (insert_term c m p) ])
        ≡ c *ℤ eval_mono env m +ℤ (d *ℤ eval_mono env n +ℤ eval_poly env p)
    step Ordering.lt e ih = refl
    step Ordering.eq e ih =
        keep_lem env (c +ℤ d) n p ∙ ap (λ x. x +ℤ eval_poly env p) (+ℤ-*ℤ c d (eval_mono env n))
        ∙ +ℤ_assoc (c *ℤ eval_mono env n) (d *ℤ eval_mono env n) (eval_poly env p)
        ∙ ap (λ x. c *ℤ eval_mono env x +ℤ (d *ℤ eval_mono env n +ℤ eval_poly env p)) (sym (e tt))
    step Ordering.gt e ih = ap (λ x. d *ℤ eval_mono env n +ℤ x) ih ∙ +ℤ_left_comm (d *ℤ eval_mono env n) (c *ℤ eval_mono env m) (eval_poly env p)

-- the value of a sum
add_poly_lem : (env : List ℤ) (p q : Poly) → eval_poly env (add_poly p q) ≡ eval_poly env p +ℤ eval_poly env q
add_poly_lem env nil q = sym (+ℤ_idl (eval_poly env q))
add_poly_lem env (term c m p) q =
    insert_term_lem env c m (add_poly p q) ∙ ap (λ x. c *ℤ eval_mono env m +ℤ x) (add_poly_lem env p q)
    ∙ sym (+ℤ_assoc (c *ℤ eval_mono env m) (eval_poly env p) (eval_poly env q))

-- two coefficients and two monomials of a product change places
swap_inner : (a b c d : ℤ) → (a *ℤ b) *ℤ (c *ℤ d) ≡ (a *ℤ c) *ℤ (b *ℤ d)
swap_inner a b c d = *ℤ_assoc a b (c *ℤ d) ∙ ap (λ x. a *ℤ x) (*ℤ_left_comm b c d) ∙ sym (*ℤ_assoc a c (b *ℤ d))

-- the value of a monomial times a sum, added to another
add_product_lem : (env : List ℤ) (c : ℤ) (m : List ℕ) (q r : Poly)
    → eval_poly env (add_product c m q r) ≡ (c *ℤ eval_mono env m) *ℤ eval_poly env q +ℤ eval_poly env r
add_product_lem env c m nil r = sym (ap (λ x. x +ℤ eval_poly env r) (*ℤ-zero (c *ℤ eval_mono env m)) ∙ +ℤ_idl (eval_poly env r))
add_product_lem env c m (term d n q) r =
    let x : ℤ = c *ℤ eval_mono env m in
    let first = ap (λ z. (c *ℤ d) *ℤ z) (mul_mono_lem env m n) ∙ swap_inner c d (eval_mono env m) (eval_mono env n) in
    let rest = insert_term_lem env (c *ℤ d) (mul_mono m n) (add_product c m q r) in
    let ih = add_product_lem env c m q r in
    let out = *ℤ-+ℤ (c *ℤ eval_mono env m) (d *ℤ eval_mono env n) (eval_poly env q) in
    rest ∙ ap₂ (λ u v. u +ℤ v) first ih ∙ sym (+ℤ_assoc (x *ℤ (d *ℤ eval_mono env n)) (x *ℤ eval_poly env q) (eval_poly env r))
    ∙ ap (λ u. u +ℤ eval_poly env r) (sym out)

-- the value of a product
mul_poly_lem : (env : List ℤ) (p q : Poly) → eval_poly env (mul_poly p q) ≡ eval_poly env p *ℤ eval_poly env q
mul_poly_lem env nil q = sym (zero-*ℤ (eval_poly env q))
mul_poly_lem env (term c m p) q =
    add_product_lem env c m q (mul_poly p q) ∙ ap (λ x. (c *ℤ eval_mono env m) *ℤ eval_poly env q +ℤ x) (mul_poly_lem env p q)
    ∙ sym (+ℤ-*ℤ (c *ℤ eval_mono env m) (eval_poly env p) (eval_poly env q))

-- the value with all signs changed
neg_poly_lem : (env : List ℤ) (p : Poly) → eval_poly env (neg_poly p) ≡ neg_ℤ (eval_poly env p)
neg_poly_lem env nil = refl
neg_poly_lem env (term c m p) =
    ap₂ (λ x y. x +ℤ y) (neg_ℤ-*ℤ c (eval_mono env m)) (neg_poly_lem env p) ∙ sym (neg_ℤ-+ℤ (c *ℤ eval_mono env m) (eval_poly env p))

-- the normal form has the term's value
pub norm_lem : (env : List ℤ) (e : Expr) → eval_poly env (norm e) ≡ eval env e
norm_lem env (var i) = +ℤ_idr (pos 1 *ℤ (at env i *ℤ pos 1)) ∙ one-*ℤ (at env i *ℤ pos 1) ∙ *ℤ-one (at env i)
norm_lem env (con c) = keep_lem env c [] nil ∙ +ℤ_idr (c *ℤ pos 1) ∙ *ℤ-one c
norm_lem env (neg e) = neg_poly_lem env (norm e) ∙ ap neg_ℤ (norm_lem env e)
norm_lem env (a ⊕ b) = add_poly_lem env (norm a) (norm b) ∙ ap₂ (λ x y. x +ℤ y) (norm_lem env a) (norm_lem env b)
norm_lem env (a ⊖ b) =
    add_poly_lem env (neg_poly (norm b)) (norm a) ∙ ap₂ (λ x y. x +ℤ y) (neg_poly_lem env (norm b) ∙ ap neg_ℤ (norm_lem env b)) (norm_lem env a)
    ∙ +ℤ_comm (neg_ℤ (eval env b)) (eval env a)
norm_lem env (a ⊗ b) = mul_poly_lem env (norm a) (norm b) ∙ ap₂ (λ x y. x *ℤ y) (norm_lem env a) (norm_lem env b)

-- terms with one normal form have one value
pub same_value : (env : List ℤ) (a b : Expr) → norm a ≡ norm b → eval env a ≡ eval env b
same_value env a b e = sym (norm_lem env a) ∙ ap (eval_poly env) e ∙ norm_lem env b
