-- Sums from the bottom carry the order of points, by cost and then by gaps, into the order of scales.
use lib.IntN.{+ℤ_idl}
use Rattle.std.proofs.Common.{suc}
use Rattle.std.proofs.lemmas.List.{reverse-reverse}
use Rattle.integers.proofs.Ring.{con}
use Rattle.std.specs.Prelude.{reverse}
use Rattle.std.proofs.Common.{◌≤◌, neg_ℤ, drop}
use Rattle.std.proofs.Common.{◌≡◌, inl, inr, ◌↔◌, ℤ, pos, ◌+ℤ◌, ◌-ℤ◌, ◌*ℤ◌, List, [], ◌∷◌, ◌++◌, length, refl, sym, ap, ap₂, subst, ◌∙◌, arith}
use Rattle.std.proofs.lemmas.List.{reverse-append}
use Rattle.integers.specs.Lexicographic.{IsLexPositive}
use Rattle.integers.specs.Vector.{int_sum, row_step}
use Rattle.integers.proofs.Laws.{lin}
use Rattle.integers.proofs.Ring.{◌⊕◌, ◌⊖◌, ◌⊗◌, ◌≗◌, ring2, ring6}
use Rattle.integers.specs.Fraction.{over}
use Rattle.integers.specs.Lexicographic.{LexLess}
use Rattle.integers.specs.Vector.{scale}
use Rattle.integers.proofs.Laws.{neg_ℤ-*ℤ}
use Rattle.integers.proofs.LexOrder.{LexLess-over}
use Rattle.integers.proofs.Vector.{row_step_lem}
use Rattle.integers.proofs.VectorLaws.{int_sum-add, int_sum-scale}
use Rattle.judgement_matrix.specs.Least.{order_key, IsSmaller}
use Rattle.lp_macbeth.specs.Gaps.{heights, scale_of}

-- the heights between the bottom and the top
abbrev pub climbs : ℤ → List ℤ → List ℤ
climbs a [] = []
climbs a (x ∷ []) = []
climbs a (x ∷ y ∷ ys) = (a +ℤ x) ∷ climbs (a +ℤ x) (y ∷ ys)

-- heights are the bottom, those between, and the top
heights-parts : (a x : ℤ) (xs : List ℤ) → heights a (x ∷ xs) ≡ a ∷ (climbs a (x ∷ xs) ++ (a +ℤ int_sum (x ∷ xs)) ∷ [])
heights-parts a x [] = ap (λ z. a ∷ z ∷ []) (omega (arith, lin))
heights-parts a x (y ∷ ys) =
    let top : a +ℤ x +ℤ int_sum (y ∷ ys) ≡ a +ℤ int_sum (x ∷ y ∷ ys) = omega (arith, lin) in
    ap (λ zs. a ∷ zs) (heights-parts (a +ℤ x) y ys ∙ ap (λ t. (a +ℤ x) ∷ (climbs (a +ℤ x) (y ∷ ys) ++ t ∷ [])) top)

-- the top element's number, the numbers of the others from the bottom upwards
pub reversed_scale : (x : ℤ) (xs : List ℤ) → scale_of (x ∷ xs) ≡ int_sum (x ∷ xs) ∷ (reverse (climbs (pos 0) (x ∷ xs)) ++ pos 0 ∷ [])
reversed_scale x xs =
    let top : pos 0 +ℤ int_sum (x ∷ xs) ≡ int_sum (x ∷ xs) = +ℤ_idl (int_sum (x ∷ xs)) in
    ap reverse (heights-parts (pos 0) x xs ∙ ap (λ t. pos 0 ∷ (climbs (pos 0) (x ∷ xs) ++ t ∷ [])) top)
    ∙ reverse-append (pos 0 ∷ []) (climbs (pos 0) (x ∷ xs) ++ int_sum (x ∷ xs) ∷ [])
    ∙ ap (λ zs. zs ++ pos 0 ∷ []) (reverse-append (climbs (pos 0) (x ∷ xs)) (int_sum (x ∷ xs) ∷ []))

-- a row step of heights is one of gaps
climbs-row_step : (d e a b : ℤ) (ys xs : List ℤ) → length ys ≡ length xs
    → row_step d e (climbs a ys) (climbs b xs) ≡ climbs (d *ℤ a -ℤ e *ℤ b) (row_step d e ys xs)
climbs-row_step d e a b [] [] h = refl
climbs-row_step d e a b [] (x ∷ xs) h = absurd (omega arith)
climbs-row_step d e a b (y ∷ ys) [] h = absurd (omega arith)
climbs-row_step d e a b (y ∷ []) (x ∷ []) h = refl
climbs-row_step d e a b (y ∷ []) (x ∷ u ∷ us) h = absurd (omega arith)
climbs-row_step d e a b (y ∷ v ∷ vs) (x ∷ []) h = absurd (omega arith)
climbs-row_step d e a b (y ∷ v ∷ vs) (x ∷ u ∷ us) h =
    let next : d *ℤ (a +ℤ y) -ℤ e *ℤ (b +ℤ x) ≡ d *ℤ a -ℤ e *ℤ b +ℤ (d *ℤ y -ℤ e *ℤ x) =
    ring6 (λ d e a b y x. d ⊗ (a ⊕ y) ⊖ e ⊗ (b ⊕ x) ≗ d ⊗ a ⊖ e ⊗ b ⊕ (d ⊗ y ⊖ e ⊗ x)) refl d e a b y x in
    ap₂ (λ z zs. z ∷ zs) next (climbs-row_step d e (a +ℤ y) (b +ℤ x) (v ∷ vs) (u ∷ us) (omega arith) ∙ ap (λ z. climbs z (row_step d e (v ∷ vs) (u ∷ us))) next)

-- numbers whose sum is 0: their first number other than 0 is the first of the sums from the front, the whole sum left out
climbs_sign : (zs : List ℤ) → int_sum zs ≡ pos 0 → IsLexPositive zs ↔ IsLexPositive (climbs (pos 0) zs)
climbs_sign [] h = (λ p. p, λ p. p)
climbs_sign (z ∷ []) h = (λ p. elim p [ inl l ↦ absurd (omega (arith, lin, l)) | inr e ↦ e.1 ], λ p. absurd p)
climbs_sign (z ∷ y ∷ ys) h =
    let same : pos 0 +ℤ z ≡ z = +ℤ_idl z in
    let more : z ≡ pos 0 → IsLexPositive (y ∷ ys) ↔ IsLexPositive (climbs (pos 0 +ℤ z) (y ∷ ys)) =
    λ e. subst (λ a. IsLexPositive (y ∷ ys) ↔ IsLexPositive (climbs a (y ∷ ys))) (sym (same ∙ e)) (climbs_sign (y ∷ ys) (omega (arith, lin, e))) in (
      λ p. elim p [ inl l ↦ inl (omega (arith, lin, l)) | inr r ↦ inr (same ∙ r.0, (more r.0).0 r.1) ],
      λ p. elim p [ inl l ↦ inl (omega (arith, lin, l)) | inr r ↦ (let e : z ≡ pos 0 = sym same ∙ r.0 in inr (e, (more e).1 r.1)) ],
    )

-- ---- points and scales

-- the numbers by which a scale is ordered
order_key-scale_of : (x : ℤ) (xs : List ℤ) → order_key (scale_of (x ∷ xs)) ≡ int_sum (x ∷ xs) ∷ climbs (pos 0) (x ∷ xs)
order_key-scale_of x xs =
    let between : List ℤ = climbs (pos 0) (x ∷ xs) in
    ap order_key (reversed_scale x xs)
    ∙ ap (λ l. int_sum (x ∷ xs) ∷ drop 1 l) (reverse-append (reverse between) (pos 0 ∷ []) ∙ ap (λ l. pos 0 ∷ l) (reverse-reverse between))

-- the sum of a row step
int_sum-row_step : (d e : ℤ) (ys xs : List ℤ) → int_sum (row_step d e ys xs) ≡ d *ℤ int_sum ys -ℤ e *ℤ int_sum xs
int_sum-row_step d e ys xs =
    ap int_sum (row_step_lem d e ys xs) ∙ int_sum-add (scale d ys) (scale (neg_ℤ e) xs)
    ∙ ap₂ (λ a b. a +ℤ b) (int_sum-scale d ys) (int_sum-scale (neg_ℤ e) xs ∙ neg_ℤ-*ℤ e (int_sum xs))

-- as many heights between
length-climbs : (a b : ℤ) (xs ys : List ℤ) → length xs ≡ length ys → length (climbs a xs) ≡ length (climbs b ys)
length-climbs a b [] [] h = refl
length-climbs a b [] (y ∷ ys) h = absurd (omega arith)
length-climbs a b (x ∷ xs) [] h = absurd (omega arith)
length-climbs a b (x ∷ []) (y ∷ []) h = refl
length-climbs a b (x ∷ []) (y ∷ v ∷ vs) h = absurd (omega arith)
length-climbs a b (x ∷ u ∷ us) (y ∷ []) h = absurd (omega arith)
length-climbs a b (x ∷ u ∷ us) (y ∷ v ∷ vs) h = ap suc (length-climbs (a +ℤ x) (b +ℤ y) (u ∷ us) (v ∷ vs) (omega arith))

-- numbers after their sum have the sign of the sums from the front after it
sum_first_sign : (h : ℤ) (zs : List ℤ) → h ≡ int_sum zs → IsLexPositive (h ∷ zs) ↔ IsLexPositive (h ∷ climbs (pos 0) zs)
sum_first_sign h zs is = (
  λ p. elim p [ inl l ↦ inl l | inr r ↦ inr (r.0, (climbs_sign zs (sym is ∙ r.0)).0 r.1) ],
  λ p. elim p [ inl l ↦ inl l | inr r ↦ inr (r.0, (climbs_sign zs (sym is ∙ r.0)).1 r.1) ],
)

-- points by cost and then by gaps are ordered as their scales
pub order_carries : (xs : List ℤ) (d : ℤ) (ys : List ℤ) (e : ℤ) → 1 ≤ length xs → length xs ≡ length ys
    → LexLess (over (int_sum xs ∷ xs) d) (over (int_sum ys ∷ ys) e) ↔ IsSmaller (scale_of xs) d (scale_of ys) e
order_carries [] d ys e long same = absurd (omega arith)
order_carries (x ∷ xs) d [] e long same = absurd (omega arith)
order_carries (x ∷ xs) d (y ∷ ys) e long same =
    let sx : ℤ = int_sum (x ∷ xs) in
    let sy : ℤ = int_sum (y ∷ ys) in
    let head : d *ℤ sy -ℤ e *ℤ sx ≡ int_sum (row_step d e (y ∷ ys) (x ∷ xs)) = sym (int_sum-row_step d e (y ∷ ys) (x ∷ xs)) in
    let zero : d *ℤ pos 0 -ℤ e *ℤ pos 0 ≡ pos 0 = ring2 (λ d e. d ⊗ con (pos 0) ⊖ e ⊗ con (pos 0) ≗ con (pos 0)) refl d e in
    let between : row_step d e (climbs (pos 0) (y ∷ ys)) (climbs (pos 0) (x ∷ xs)) ≡ climbs (pos 0) (row_step d e (y ∷ ys) (x ∷ xs)) =
    climbs-row_step d e (pos 0) (pos 0) (y ∷ ys) (x ∷ xs) (sym same) ∙ ap (λ a. climbs a (row_step d e (y ∷ ys) (x ∷ xs))) zero in
    let points = LexLess-over (sx ∷ x ∷ xs) (sy ∷ y ∷ ys) d e (omega (arith, same)) in
    let scales = LexLess-over (sx ∷ climbs (pos 0) (x ∷ xs)) (sy ∷ climbs (pos 0) (y ∷ ys)) d e
    (ap suc (length-climbs (pos 0) (pos 0) (x ∷ xs) (y ∷ ys) same)) in
    let signs = sum_first_sign (d *ℤ sy -ℤ e *ℤ sx) (row_step d e (y ∷ ys) (x ∷ xs)) head in
    let key : List ℤ → List ℤ → Type 0 = λ a b. LexLess (over a d) (over b e) in (
      λ h.
          let positive = signs.0 (points.0 h) in
          let less = scales.1 (subst (λ l. IsLexPositive ((d *ℤ sy -ℤ e *ℤ sx) ∷ l)) (sym between) positive) in
          subst (λ a. key a (order_key (scale_of (y ∷ ys)))) (sym (order_key-scale_of x xs))
          (subst (key (sx ∷ climbs (pos 0) (x ∷ xs))) (sym (order_key-scale_of y ys)) less),
      λ h.
          let less = subst (key (sx ∷ climbs (pos 0) (x ∷ xs))) (order_key-scale_of y ys)
          (subst (λ a. key a (order_key (scale_of (y ∷ ys)))) (order_key-scale_of x xs) h) in
          points.1 (signs.1 (subst (λ l. IsLexPositive ((d *ℤ sy -ℤ e *ℤ sx) ∷ l)) between (scales.0 less))),
    )
