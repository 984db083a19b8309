-- Dominance is dominance over the closures, where open points exist.
use Rattle.std.proofs.Common.{◌≡◌, ℕ, suc, ℤ, pos, ◌+ℤ◌, ◌*ℤ◌, ◌≤ℤ◌, ◌<ℤ◌, List, [], ◌∷◌, length, refl, ap, ap₂, subst, ◌∙◌, arith}
use Rattle.std.proofs.lemmas.Int.{by_lt_z}
use Rattle.std.specs.Int.Signed.{lt_z_yes}
use Rattle.integers.specs.Vector.{dot, scale}
use Rattle.integers.proofs.Laws.{lin}
use Rattle.integers.proofs.Order.{mul_nonneg, mul_pos, le_of_lt}
use Rattle.integers.proofs.Vector.{dot-add, dot-scale, dot-add_right, dot-scale_right}
use Rattle.integers.proofs.Ring.{con, ◌⊕◌, ◌⊗◌, ◌≗◌, ◌≼◌, ◌≺◌, ◌✶◌, ◌⇐◌, ring5, combine2, combine4}
use Rattle.judgement_matrix.specs.Matrix.{Judgements}
use Rattle.open_dominance.specs.Open.{mix, References, IsOpenScale, IsClosureScale, IsOpenWeighting, IsClosureWeighting}
use Rattle.open_dominance.specs.Dominance.{Ground, AreScales, leads_over, differences, HasLead, HasClosedLead, HaveOpenPoints}
use Rattle.open_dominance.proofs.OpenLemmas.{open_is_closed}
use Rattle.open_dominance.proofs.MixLemmas.{difference-mix, IsOpenScale-mix, IsOpenWeighting-mix}

-- ---- what is open is in the closure

pub scale_in_closure : (m : Judgements) (refs : References) (v : List ℤ) (n : ℤ) → IsOpenScale m refs v n → IsClosureScale m refs v n
scale_in_closure m refs v n h = record { within = h.within; closed = open_is_closed m v h.opened }

pub weighting_in_closure : (m : Judgements) (k : List ℤ) (d : ℤ) → IsOpenWeighting m k d → IsClosureWeighting m k d
weighting_in_closure m k d h = record { weights = h.weights; closed = open_is_closed m _ h.opened }

pub scales_in_closure : (cs : List Ground) (vs : List (List ℤ)) (n : ℤ) → AreScales IsOpenScale cs vs n → AreScales IsClosureScale cs vs n
scales_in_closure [] [] n h = h
scales_in_closure [] (v ∷ vs) n h = absurd h
scales_in_closure (c ∷ cs) [] n h = absurd h
scales_in_closure (c ∷ cs) (v ∷ vs) n h = (scale_in_closure c.matrix c.refs v n h.0, scales_in_closure cs vs n h.1)

-- dominance over the closures is more
pub lead_of_closed : (m : Judgements) (cs : List Ground) (ahead : List (List ℤ) → List ℤ) → HasClosedLead m cs ahead → HasLead m cs ahead
lead_of_closed m cs ahead h vs n k d scales weighting = h vs n k d (scales_in_closure cs vs n scales) (weighting_in_closure m k d weighting)

-- ---- mixtures of scales, one for each criterion

abbrev pub mixes : ℤ → List (List ℤ) → ℤ → List (List ℤ) → List (List ℤ)
mixes a [] b ws = []
mixes a (v ∷ vs) b [] = []
mixes a (v ∷ vs) b (w ∷ ws) = mix a v b w ∷ mixes a vs b ws

pub mixes_open : (cs : List Ground) (a : ℤ) (vs : List (List ℤ)) (n : ℤ) (b : ℤ) (ws : List (List ℤ)) (k : ℤ) → pos 0 <ℤ a → pos 0 ≤ℤ b
    → AreScales IsOpenScale cs vs n → AreScales IsClosureScale cs ws k → AreScales IsOpenScale cs (mixes a vs b ws) (a *ℤ n +ℤ b *ℤ k)
mixes_open [] a [] n b [] k pa pb g h = let l = mul_pos a n pa g in let r = mul_nonneg b k pb (le_of_lt (pos 0) k h) in omega (arith, lin, l, r)
mixes_open [] a [] n b (w ∷ ws) k pa pb g h = absurd h
mixes_open [] a (v ∷ vs) n b ws k pa pb g h = absurd g
mixes_open (c ∷ cs) a [] n b ws k pa pb g h = absurd g
mixes_open (c ∷ cs) a (v ∷ vs) n b [] k pa pb g h = absurd h
mixes_open (c ∷ cs) a (v ∷ vs) n b (w ∷ ws) k pa pb g h =
    (IsOpenScale-mix c.matrix c.refs a v n b w k pa pb g.0 h.0, mixes_open cs a vs n b ws k pa pb g.1 h.1)

-- as many scales on both sides
pub as_many : (cs : List Ground) (vs : List (List ℤ)) (n : ℤ) (ws : List (List ℤ)) (k : ℤ) → AreScales IsOpenScale cs vs n → AreScales IsClosureScale cs ws k
    → length vs ≡ length ws
as_many [] [] n [] k g h = refl
as_many [] [] n (w ∷ ws) k g h = absurd h
as_many [] (v ∷ vs) n ws k g h = absurd g
as_many (c ∷ cs) [] n ws k g h = absurd g
as_many (c ∷ cs) (v ∷ vs) n [] k g h = absurd h
as_many (c ∷ cs) (v ∷ vs) n (w ∷ ws) k g h = ap suc (as_many cs vs n ws k g.1 h.1)

-- what is ahead goes with mixtures
abbrev pub GoesWithMixtures : (List (List ℤ) → List ℤ) → Type 0
GoesWithMixtures ahead = (a : ℤ) (vs : List (List ℤ)) (b : ℤ) (ws : List (List ℤ)) → length vs ≡ length ws
    → ahead (mixes a vs b ws) ≡ mix a (ahead vs) b (ahead ws)

pub dot-mix_right : (l : List ℤ) (a : ℤ) (v : List ℤ) (b : ℤ) (w : List ℤ) → dot l (mix a v b w) ≡ a *ℤ dot l v +ℤ b *ℤ dot l w
dot-mix_right l a v b w = dot-add_right l (scale a v) (scale b w) ∙ ap₂ (λ x y. x +ℤ y) (dot-scale_right a l v) (dot-scale_right b l w)

pub dot-mix : (a : ℤ) (v : List ℤ) (b : ℤ) (w l : List ℤ) → dot (mix a v b w) l ≡ a *ℤ dot v l +ℤ b *ℤ dot w l
dot-mix a v b w l = dot-add (scale a v) (scale b w) l ∙ ap₂ (λ x y. x +ℤ y) (dot-scale a v l) (dot-scale b w l)

pub leads_over-mixes : (ls : List (List ℤ)) → GoesWithMixtures (leads_over ls)
leads_over-mixes [] a vs b ws e = refl
leads_over-mixes (l ∷ ls) a [] b [] e = refl
leads_over-mixes (l ∷ ls) a [] b (w ∷ ws) e = absurd (omega (arith, e))
leads_over-mixes (l ∷ ls) a (v ∷ vs) b [] e = absurd (omega (arith, e))
leads_over-mixes (l ∷ ls) a (v ∷ vs) b (w ∷ ws) e = ap₂ (λ x xs. x ∷ xs) (dot-mix_right l a v b w) (leads_over-mixes ls a vs b ws (omega (arith, e)))

pub differences-mixes : (upper lower : List ℕ) → GoesWithMixtures (differences upper lower)
differences-mixes [] lower a vs b ws e = refl
differences-mixes (p ∷ upper) [] a vs b ws e = refl
differences-mixes (p ∷ upper) (q ∷ lower) a [] b [] e = refl
differences-mixes (p ∷ upper) (q ∷ lower) a [] b (w ∷ ws) e = absurd (omega (arith, e))
differences-mixes (p ∷ upper) (q ∷ lower) a (v ∷ vs) b [] e = absurd (omega (arith, e))
differences-mixes (p ∷ upper) (q ∷ lower) a (v ∷ vs) b (w ∷ ws) e =
    ap₂ (λ x xs. x ∷ xs) (difference-mix a v b w p q) (differences-mixes upper lower a vs b ws (omega (arith, e)))

-- ---- a negative lead of the closure shows in a mixture

-- a square is at least 0
squares : (x : ℤ) → pos 0 ≤ℤ (x *ℤ x)
squares x = grind arith

-- a square is at least its root
at_most_square : (x : ℤ) → x ≤ℤ (x *ℤ x)
at_most_square x = by_lt_z (pos 0) x
    (λ p. combine2 (λ x y. x ≼ x ⊗ x ⇐ x ✶ (con (pos 1) ≼ x) ∷ []) refl x x (le_of_lt (pos 0) x p) (omega (arith, lin, p)))
    (λ p. let q = squares x in omega (arith, lin, p, q))

outweighed : (a b c t : ℤ) → a <ℤ t → pos 0 ≤ℤ t → (b +ℤ pos 1) ≤ℤ t → pos 0 ≤ℤ (t *ℤ t) → (c +ℤ pos 1) ≤ℤ pos 0 → (a +ℤ t *ℤ b +ℤ t *ℤ t *ℤ c) <ℤ pos 0
outweighed a b c t = combine4 (λ a b c t. a ⊕ t ⊗ b ⊕ t ⊗ t ⊗ c ≺ con (pos 0) ⇐ con (pos 1) ✶ (a ≺ t) ∷ t ✶ (b ⊕ con (pos 1) ≼ t) ∷ (t ⊗ t) ✶ (c ⊕ con (pos 1) ≼ con (pos 0)) ∷ []) refl a b c t (lt_z_yes tt)

-- how much of the closure's point is enough
abbrev enough : ℤ → ℤ → ℤ
enough a b = pos 1 +ℤ a *ℤ a +ℤ b *ℤ b

enough_nonneg : (a b : ℤ) → pos 0 ≤ℤ enough a b
enough_nonneg a b = let za = squares a in let zb = squares b in omega (arith, lin, za, zb)

shown : (a b c : ℤ) → c <ℤ pos 0 → pos 0 ≤ℤ (a +ℤ enough a b *ℤ b +ℤ enough a b *ℤ enough a b *ℤ c) → ⊥
shown a b c below h =
    let sa = at_most_square a in
    let sb = at_most_square b in
    let za = squares a in
    let zb = squares b in
    let t_pos : pos 0 ≤ℤ enough a b = omega (arith, lin, za, zb) in
    let under = outweighed a b c (enough a b) (omega (arith, lin, sa, zb)) t_pos (omega (arith, lin, sb, za)) (mul_nonneg (enough a b) (enough a b) t_pos t_pos) (omega (arith, lin, below)) in
    absurd (omega (arith, lin, under, h))

-- the lead of a mixture of points
mixed_lead : (ahead : List (List ℤ) → List ℤ) → GoesWithMixtures ahead → (us vs : List (List ℤ)) (j k : List ℤ) (t : ℤ) → length us ≡ length vs
    → dot (mix (pos 1) j t k) (ahead (mixes (pos 1) us t vs))
    ≡ dot j (ahead us) +ℤ t *ℤ (dot j (ahead vs) +ℤ dot k (ahead us)) +ℤ t *ℤ t *ℤ dot k (ahead vs)
mixed_lead ahead linear us vs j k t e =
    ap (λ xs. dot (mix (pos 1) j t k) xs) (linear (pos 1) us t vs e)
    ∙ dot-mix_right (mix (pos 1) j t k) (pos 1) (ahead us) t (ahead vs)
    ∙ ap₂ (λ x y. pos 1 *ℤ x +ℤ t *ℤ y) (dot-mix (pos 1) j t k (ahead us)) (dot-mix (pos 1) j t k (ahead vs))
    ∙ ring5 (λ a b c d t. con (pos 1) ⊗ (con (pos 1) ⊗ a ⊕ t ⊗ b) ⊕ t ⊗ (con (pos 1) ⊗ c ⊕ t ⊗ d) ≗ a ⊕ t ⊗ (c ⊕ b) ⊕ t ⊗ t ⊗ d) refl
    (dot j (ahead us)) (dot k (ahead us)) (dot j (ahead vs)) (dot k (ahead vs)) t

-- where open points exist, dominance is dominance over the closures
pub closed_of_lead : (m : Judgements) (cs : List Ground) (ahead : List (List ℤ) → List ℤ) → GoesWithMixtures ahead → HaveOpenPoints m cs
    → HasLead m cs ahead → HasClosedLead m cs ahead
closed_of_lead m cs ahead linear points h vs n k d scales weighting =
    by_lt_z (dot k (ahead vs)) (pos 0)
    (λ below. absurd (shown (dot points.weights (ahead points.scales)) (dot points.weights (ahead vs) +ℤ dot k (ahead points.scales)) (dot k (ahead vs)) below
    (subst (λ z. pos 0 ≤ℤ z) (mixed_lead ahead linear points.scales vs points.weights k t (as_many cs points.scales points.den vs n points.are_open scales))
    (h (mixes (pos 1) points.scales t vs) (pos 1 *ℤ points.den +ℤ t *ℤ n) (mix (pos 1) points.weights t k) (pos 1 *ℤ points.sum +ℤ t *ℤ d)
    (mixes_open cs (pos 1) points.scales points.den t vs n (lt_z_yes tt) t_nonneg points.are_open scales)
    (IsOpenWeighting-mix m (pos 1) points.weights points.sum t k d (lt_z_yes tt) t_nonneg points.is_open weighting)))))
    (λ q. q)
  where
    t : ℤ
    t = enough (dot points.weights (ahead points.scales)) (dot points.weights (ahead vs) +ℤ dot k (ahead points.scales))

    t_nonneg : pos 0 ≤ℤ t
    t_nonneg = enough_nonneg (dot points.weights (ahead points.scales)) (dot points.weights (ahead vs) +ℤ dot k (ahead points.scales))
