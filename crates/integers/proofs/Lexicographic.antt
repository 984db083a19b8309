-- Lexicographically positive lists: their sums and multiples, and the three cases of a list.
use lib.IntN.{*ℤ_comm, *ℤ-zero}
use Rattle.std.specs.Int.Signed.{<ℤ_irrefl}
use Rattle.std.proofs.lemmas.List.Elements.{All-nil, All-head, All-tail}
use Rattle.std.proofs.Common.{◌≡◌, ◌⊎◌, inl, inr, ◌↔◌, ◌≤◌, length, List, [], ◌∷◌, All, ℤ, pos, negsuc, ◌+ℤ◌, ◌*ℤ◌, neg_ℤ, ◌≤ℤ◌, ◌<ℤ◌, sym, ap, ap₂, subst, ◌∙◌, arith}
use Rattle.std.specs.List.{AllZip}
use Rattle.integers.specs.Lexicographic.{IsLexPositive}
use Rattle.integers.specs.Vector.{scale, add, row_step, weighted_sum, AreZero, AreNonNegative}
use Rattle.integers.proofs.Laws.{lin, minus_one-*ℤ}
use Rattle.integers.proofs.Order.{le_of_lt, mul_pos, pos_of_mul, zero_of_mul, lt_cases}
use Rattle.integers.proofs.Vector.{row_step_lem}
use Rattle.integers.proofs.VectorLaws.{add_comm}
use Rattle.integers.proofs.Zeros.{AreZero-cons, AreZero-head, AreZero-tail, AreZero-scale_zero, AreZero-add}

-- ---- positive lists

-- a positive list is not all zeros
pub IsLexPositive-not_zero : (xs : List ℤ) → IsLexPositive xs → ¬ AreZero xs
IsLexPositive-not_zero [] p z = p
IsLexPositive-not_zero (x ∷ xs) (inl p) z = <ℤ_irrefl (subst (λ a. pos 0 <ℤ a) (AreZero-head x xs z) p)
IsLexPositive-not_zero (x ∷ xs) (inr p) z = IsLexPositive-not_zero xs p.1 (AreZero-tail x xs z)

-- the first number of a lexicographically positive list is not negative
pub IsLexPositive-first : (x : ℤ) (xs : List ℤ) → IsLexPositive (x ∷ xs) → pos 0 ≤ℤ x
IsLexPositive-first x xs (inl p) = le_of_lt (pos 0) x p
IsLexPositive-first x xs (inr p) = let z = p.0 in omega (arith, lin)

-- a positive multiple of a positive list, and the converse
pub IsLexPositive-scale : (c : ℤ) (xs : List ℤ) → pos 0 <ℤ c → IsLexPositive xs ↔ IsLexPositive (scale c xs)
IsLexPositive-scale c xs p = (to xs, from xs)
  where
    to : (xs : List ℤ) → IsLexPositive xs → IsLexPositive (scale c xs)
    to [] h = h
    to (x ∷ xs) (inl h) = inl (mul_pos c x p h)
    to (x ∷ xs) (inr h) = inr (ap (λ z. c *ℤ z) h.0 ∙ *ℤ-zero c, to xs h.1)

    from : (xs : List ℤ) → IsLexPositive (scale c xs) → IsLexPositive xs
    from [] h = h
    from (x ∷ xs) (inl h) = inl (pos_of_mul x c p (subst (λ z. pos 0 <ℤ z) (*ℤ_comm c x) h))
    from (x ∷ xs) (inr h) = inr (zero_of_mul x c p (*ℤ_comm x c ∙ h.0), from xs h.1)

-- the first number is a positive multiple of the second
abbrev pub IsMultiple : ℤ → ℤ → Type 0
IsMultiple x y = (c : ℤ) × (pos 0 <ℤ c) × (c *ℤ y ≡ x)

-- a list is positive where positive multiples of its numbers are
pub IsLexPositive-multiples : (xs ys : List ℤ) → AllZip IsMultiple xs ys → IsLexPositive xs → IsLexPositive ys
IsLexPositive-multiples [] [] m h = h
IsLexPositive-multiples [] (y ∷ ys) m h = absurd m
IsLexPositive-multiples (x ∷ xs) [] m h = absurd m
IsLexPositive-multiples (x ∷ xs) (y ∷ ys) m (inl h) = inl (pos_of_mul y m.0.0 m.0.1 (subst (λ z. pos 0 <ℤ z) (sym m.0.2 ∙ *ℤ_comm m.0.0 y) h))
IsLexPositive-multiples (x ∷ xs) (y ∷ ys) m (inr h) = inr (zero_of_mul y m.0.0 m.0.1 (*ℤ_comm y m.0.0 ∙ m.0.2 ∙ h.0), IsLexPositive-multiples xs ys m.1 h.1)

-- the sum of two positive lists
pub IsLexPositive-add : (xs ys : List ℤ) → IsLexPositive xs → IsLexPositive ys → IsLexPositive (add xs ys)
IsLexPositive-add [] ys p q = q
IsLexPositive-add (x ∷ xs) [] p q = p
IsLexPositive-add (x ∷ xs) (y ∷ ys) (inl p) (inl q) = inl (omega (arith, lin))
IsLexPositive-add (x ∷ xs) (y ∷ ys) (inl p) (inr q) = let e = q.0 in inl (omega (arith, lin))
IsLexPositive-add (x ∷ xs) (y ∷ ys) (inr p) (inl q) = let e = p.0 in inl (omega (arith, lin))
IsLexPositive-add (x ∷ xs) (y ∷ ys) (inr p) (inr q) = inr (ap₂ (λ a b. a +ℤ b) p.0 q.0, IsLexPositive-add xs ys p.1 q.1)

-- a positive list and zeros
pub IsLexPositive-add_zero : (xs ys : List ℤ) → IsLexPositive xs → AreZero ys → IsLexPositive (add xs ys)
IsLexPositive-add_zero [] ys p q = absurd p
IsLexPositive-add_zero (x ∷ xs) [] p q = p
IsLexPositive-add_zero (x ∷ xs) (y ∷ ys) (inl p) q = let e = AreZero-head y ys q in inl (omega (arith, lin))
IsLexPositive-add_zero (x ∷ xs) (y ∷ ys) (inr p) q = inr (ap₂ (λ a b. a +ℤ b) p.0 (AreZero-head y ys q), IsLexPositive-add_zero xs ys p.1 (AreZero-tail y ys q))

-- of a list and its opposite at most one is positive
pub IsLexPositive-opposite : (xs : List ℤ) → IsLexPositive xs → ¬ IsLexPositive (scale (negsuc 0) xs)
IsLexPositive-opposite [] p q = p
IsLexPositive-opposite (x ∷ xs) (inl p) (inl q) = let e = minus_one-*ℤ x in absurd (omega (arith, lin))
IsLexPositive-opposite (x ∷ xs) (inl p) (inr q) = let e = minus_one-*ℤ x in let z = q.0 in absurd (omega (arith, lin))
IsLexPositive-opposite (x ∷ xs) (inr p) (inl q) = let e = minus_one-*ℤ x in let z = p.0 in absurd (omega (arith, lin))
IsLexPositive-opposite (x ∷ xs) (inr p) (inr q) = IsLexPositive-opposite xs p.1 q.1

-- a list is positive, or all zeros, or its opposite is positive
pub lex_cases : (xs : List ℤ) → IsLexPositive xs ⊎ AreZero xs ⊎ IsLexPositive (scale (negsuc 0) xs)
lex_cases [] = inr (inl (All-nil (λ x. x ≡ pos 0)))
lex_cases (x ∷ xs) = step (lt_cases (pos 0) x) (lex_cases xs)
  where
    step : pos 0 <ℤ x ⊎ (pos 0 ≡ x) ⊎ x <ℤ pos 0 → IsLexPositive xs ⊎ AreZero xs ⊎ IsLexPositive (scale (negsuc 0) xs)
        → IsLexPositive (x ∷ xs) ⊎ AreZero (x ∷ xs) ⊎ IsLexPositive (scale (negsuc 0) (x ∷ xs))
    step (inl p) c = inl (inl p)
    step (inr (inl e)) (inl p) = inl (inr (sym e, p))
    step (inr (inl e)) (inr (inl z)) = inr (inl (AreZero-cons x xs (sym e) z))
    step (inr (inl e)) (inr (inr n)) = inr (inr (inr (ap (λ z. negsuc 0 *ℤ z) (sym e), n)))
    step (inr (inr p)) c = let e = minus_one-*ℤ x in inr (inr (inl (omega (arith, lin))))

-- ---- rows

-- a positive multiple of a positive list plus a multiple of another that is not negative
pub IsLexPositive-row_step : (p q : ℤ) (xs ys : List ℤ) → pos 0 <ℤ p → q ≤ℤ pos 0 → IsLexPositive xs → IsLexPositive ys → IsLexPositive (row_step p q xs ys)
IsLexPositive-row_step p q xs ys pp qq hx hy = subst IsLexPositive (sym (row_step_lem p q xs ys)) (step (lt_cases (pos 0) (neg_ℤ q)))
  where
    first : IsLexPositive (scale p xs)
    first = (IsLexPositive-scale p xs pp).0 hx

    step : pos 0 <ℤ neg_ℤ q ⊎ (pos 0 ≡ neg_ℤ q) ⊎ neg_ℤ q <ℤ pos 0 → IsLexPositive (add (scale p xs) (scale (neg_ℤ q) ys))
    step (inl h) = IsLexPositive-add (scale p xs) (scale (neg_ℤ q) ys) first ((IsLexPositive-scale (neg_ℤ q) ys h).0 hy)
    step (inr (inl e)) = IsLexPositive-add_zero (scale p xs) (scale (neg_ℤ q) ys) first (subst (λ c. AreZero (scale c ys)) e (AreZero-scale_zero ys))
    step (inr (inr h)) = absurd (omega (arith, lin))

-- of positive rows a sum with weights at least 0 is positive, unless all weights are 0 and the sum is
pub IsLexPositive-weighted_sum : (ys : List ℤ) (rows : List (List ℤ)) → AreNonNegative ys → All IsLexPositive rows → length ys ≤ length rows
    → IsLexPositive (weighted_sum ys rows) ⊎ AreZero ys × AreZero (weighted_sum ys rows)
IsLexPositive-weighted_sum [] rows p h l = inr (All-nil (λ x. x ≡ pos 0), All-nil (λ x. x ≡ pos 0))
IsLexPositive-weighted_sum (y ∷ ys) [] p h l = absurd (omega arith)
IsLexPositive-weighted_sum (y ∷ ys) (row ∷ rows) p h l =
    step (lt_cases (pos 0) y) (IsLexPositive-weighted_sum ys rows (All-tail (λ x. pos 0 ≤ℤ x) y ys p) (All-tail IsLexPositive row rows h) (omega arith))
    (All-head (λ x. pos 0 ≤ℤ x) y ys p) (All-head IsLexPositive row rows h)
  where
    step : pos 0 <ℤ y ⊎ (pos 0 ≡ y) ⊎ y <ℤ pos 0 → IsLexPositive (weighted_sum ys rows) ⊎ AreZero ys × AreZero (weighted_sum ys rows) → pos 0 ≤ℤ y
        → IsLexPositive row → IsLexPositive (add (scale y row) (weighted_sum ys rows)) ⊎ AreZero (y ∷ ys) × AreZero (add (scale y row) (weighted_sum ys rows))
    step (inl q) (inl r) n k = inl (IsLexPositive-add (scale y row) (weighted_sum ys rows) ((IsLexPositive-scale y row q).0 k) r)
    step (inl q) (inr r) n k = inl (IsLexPositive-add_zero (scale y row) (weighted_sum ys rows) ((IsLexPositive-scale y row q).0 k) r.1)
    step (inr (inl e)) (inl r) n k =
        inl (subst IsLexPositive (add_comm (weighted_sum ys rows) (scale y row))
        (IsLexPositive-add_zero (weighted_sum ys rows) (scale y row) r (subst (λ c. AreZero (scale c row)) e (AreZero-scale_zero row))))
    step (inr (inl e)) (inr r) n k =
        inr (
          AreZero-cons y ys (sym e) r.0,
          AreZero-add (scale y row) (weighted_sum ys rows)
              (subst (λ c. AreZero (scale c row)) e (AreZero-scale_zero row)) r.1,
        )
    step (inr (inr q)) c n k = absurd (omega (arith, lin))
