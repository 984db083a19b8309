-- The lexicographic order of lists of fractions: an order, blind to how the fractions are written, strict under positive steps.
use lib.IntN.{*ℤ_comm}
use Rattle.std.specs.Int.Signed.{lt_z_yes}
use Rattle.std.proofs.lemmas.List.Elements.{All-cons, All-head, All-tail}
use Rattle.std.proofs.Common.{◌≡◌, ◌⊎◌, inl, inr, ◌↔◌, ◌≤◌, length, List, [], ◌∷◌, ℤ, pos, ◌+ℤ◌, ◌-ℤ◌, ◌*ℤ◌, ◌<ℤ◌, refl, sym, ap, subst, ◌∙◌, arith}
use Rattle.integers.specs.Fraction.{Fraction, IsFraction, SameFraction, FractionLess, AreFractions, over, SameFractions}
use Rattle.integers.specs.Lexicographic.{IsLexPositive, LexLess}
use Rattle.integers.specs.Vector.{row_step}
use Rattle.integers.proofs.Fractions.{length-over, SameFraction-trans, IsBelow_irrefl, FractionLess-trans, FractionLess-same_left, FractionLess-same_right, SameFractions-sym}
use Rattle.integers.proofs.Laws.{lin}
use Rattle.integers.proofs.Order.{mul_pos, fraction_cases}
use Rattle.integers.proofs.Ring.{con, ◌⊕◌, ◌⊗◌, ◌≗◌, ◌≺◌, ◌✶◌, ◌⇐◌, combine5}

-- ---- an order

-- no list is before itself
pub LexLess_irrefl : (fs : List Fraction) → ¬ LexLess fs fs
LexLess_irrefl [] h = h
LexLess_irrefl (f ∷ fs) (inl h) = IsBelow_irrefl f h
LexLess_irrefl (f ∷ fs) (inr h) = LexLess_irrefl fs h.1

-- before, and before again
pub LexLess-trans : (fs gs hs : List Fraction) → AreFractions fs → AreFractions gs → AreFractions hs → LexLess fs gs → LexLess gs hs → LexLess fs hs
LexLess-trans [] [] hs pf pg ph s t = absurd s
LexLess-trans [] (g ∷ gs) [] pf pg ph s t = absurd t
LexLess-trans [] (g ∷ gs) (h ∷ hs) pf pg ph s t = tt
LexLess-trans (f ∷ fs) [] hs pf pg ph s t = absurd s
LexLess-trans (f ∷ fs) (g ∷ gs) [] pf pg ph s t = absurd t
LexLess-trans (f ∷ fs) (g ∷ gs) (h ∷ hs) pf pg ph s t =
    step s t (LexLess-trans fs gs hs (All-tail IsFraction f fs pf) (All-tail IsFraction g gs pg) (All-tail IsFraction h hs ph))
  where
    f0 : IsFraction f
    f0 = All-head IsFraction f fs pf

    g0 : IsFraction g
    g0 = All-head IsFraction g gs pg

    h0 : IsFraction h
    h0 = All-head IsFraction h hs ph

    step : FractionLess f g ⊎ SameFraction f g × LexLess fs gs → FractionLess g h ⊎ SameFraction g h × LexLess gs hs
        → (LexLess fs gs → LexLess gs hs → LexLess fs hs) → FractionLess f h ⊎ SameFraction f h × LexLess fs hs
    step (inl a) (inl b) rest = inl (FractionLess-trans f g h f0 g0 h0 a b)
    step (inl a) (inr b) rest = inl (FractionLess-same_right f g h f0 g0 h0 a b.0)
    step (inr a) (inl b) rest = inl (FractionLess-same_left f g h f0 g0 h0 a.0 b)
    step (inr a) (inr b) rest = inr (SameFraction-trans f g h f0 g0 h0 a.0 b.0, rest a.1 b.1)

-- not both before and after
pub LexLess_asym : (fs gs : List Fraction) → AreFractions fs → AreFractions gs → LexLess fs gs → ¬ LexLess gs fs
LexLess_asym fs gs pf pg s t = LexLess_irrefl fs (LexLess-trans fs gs fs pf pg pf s t)

-- of two lists one is before the other or they are the same
pub LexLess-cases : (fs gs : List Fraction) → LexLess fs gs ⊎ SameFractions fs gs ⊎ LexLess gs fs
LexLess-cases [] [] = inr (inl tt)
LexLess-cases [] (g ∷ gs) = inl tt
LexLess-cases (f ∷ fs) [] = inr (inr tt)
LexLess-cases (f ∷ fs) (g ∷ gs) = step (fraction_cases f.num f.den g.num g.den) (LexLess-cases fs gs)
  where
    step : FractionLess f g ⊎ SameFraction f g ⊎ FractionLess g f → LexLess fs gs ⊎ SameFractions fs gs ⊎ LexLess gs fs
        → (FractionLess f g ⊎ SameFraction f g × LexLess fs gs) ⊎ (SameFraction f g × SameFractions fs gs)
        ⊎ (FractionLess g f ⊎ SameFraction g f × LexLess gs fs)
    step (inl a) c = inl (inl a)
    step (inr (inl e)) (inl c) = inl (inr (e, c))
    step (inr (inl e)) (inr (inl c)) = inr (inl (e, c))
    step (inr (inl e)) (inr (inr c)) = inr (inr (inr (sym e, c)))
    step (inr (inr a)) c = inr (inr (inl a))

-- ---- the writing does not count

-- the same fractions may stand on the left
pub LexLess-same_left : (fs gs hs : List Fraction) → AreFractions fs → AreFractions gs → AreFractions hs → SameFractions fs gs → LexLess gs hs → LexLess fs hs
LexLess-same_left [] [] hs pf pg ph s t = t
LexLess-same_left [] (g ∷ gs) hs pf pg ph s t = absurd s
LexLess-same_left (f ∷ fs) [] hs pf pg ph s t = absurd s
LexLess-same_left (f ∷ fs) (g ∷ gs) [] pf pg ph s t = absurd t
LexLess-same_left (f ∷ fs) (g ∷ gs) (h ∷ hs) pf pg ph s t =
    step t (LexLess-same_left fs gs hs (All-tail IsFraction f fs pf) (All-tail IsFraction g gs pg) (All-tail IsFraction h hs ph) s.1)
  where
    f0 : IsFraction f
    f0 = All-head IsFraction f fs pf

    g0 : IsFraction g
    g0 = All-head IsFraction g gs pg

    h0 : IsFraction h
    h0 = All-head IsFraction h hs ph

    step : FractionLess g h ⊎ SameFraction g h × LexLess gs hs → (LexLess gs hs → LexLess fs hs) → FractionLess f h ⊎ SameFraction f h × LexLess fs hs
    step (inl b) rest = inl (FractionLess-same_left f g h f0 g0 h0 s.0 b)
    step (inr b) rest = inr (SameFraction-trans f g h f0 g0 h0 s.0 b.0, rest b.1)

-- the same fractions may stand on the right
pub LexLess-same_right : (fs gs hs : List Fraction) → AreFractions fs → AreFractions gs → AreFractions hs → LexLess fs gs → SameFractions gs hs → LexLess fs hs
LexLess-same_right [] [] hs pf pg ph s t = absurd s
LexLess-same_right [] (g ∷ gs) [] pf pg ph s t = absurd t
LexLess-same_right [] (g ∷ gs) (h ∷ hs) pf pg ph s t = tt
LexLess-same_right (f ∷ fs) [] hs pf pg ph s t = absurd s
LexLess-same_right (f ∷ fs) (g ∷ gs) [] pf pg ph s t = absurd t
LexLess-same_right (f ∷ fs) (g ∷ gs) (h ∷ hs) pf pg ph s t =
    step s (λ k. LexLess-same_right fs gs hs (All-tail IsFraction f fs pf) (All-tail IsFraction g gs pg) (All-tail IsFraction h hs ph) k t.1)
  where
    f0 : IsFraction f
    f0 = All-head IsFraction f fs pf

    g0 : IsFraction g
    g0 = All-head IsFraction g gs pg

    h0 : IsFraction h
    h0 = All-head IsFraction h hs ph

    step : FractionLess f g ⊎ SameFraction f g × LexLess fs gs → (LexLess fs gs → LexLess fs hs) → FractionLess f h ⊎ SameFraction f h × LexLess fs hs
    step (inl b) rest = inl (FractionLess-same_right f g h f0 g0 h0 b t.0)
    step (inr b) rest = inr (SameFraction-trans f g h f0 g0 h0 b.0 t.0, rest b.1)

-- both lists may be written in another way
pub LexLess-same : (fs fs' gs gs' : List Fraction) → AreFractions fs → AreFractions fs' → AreFractions gs → AreFractions gs' → SameFractions fs fs'
    → SameFractions gs gs' → LexLess fs gs ↔ LexLess fs' gs'
LexLess-same fs fs' gs gs' pf pf' pg pg' s t = (
  λ h. LexLess-same_left fs' fs gs' pf' pf pg' (SameFractions-sym fs fs' s) (LexLess-same_right fs gs gs' pf pg pg' h t),
  λ h. LexLess-same_left fs fs' gs pf pf' pg s (LexLess-same_right fs' gs' gs pf' pg' pg h (SameFractions-sym gs gs' t)),
)

-- no list is before one that names the same fractions
pub LexLess-not_same : (fs gs : List Fraction) → AreFractions fs → AreFractions gs → LexLess fs gs → ¬ SameFractions fs gs
LexLess-not_same fs gs pf pg h s = LexLess_irrefl fs (LexLess-same_right fs gs fs pf pg pf h (SameFractions-sym fs gs s))

-- ---- the order as the sign of differences

-- the numerators of the differences: how far each fraction of the second list is above the one at its place
abbrev pub differences : List Fraction → List Fraction → List ℤ
differences [] gs = []
differences (f ∷ fs) [] = []
differences (f ∷ fs) (g ∷ gs) = (f.den *ℤ g.num -ℤ g.den *ℤ f.num) ∷ differences fs gs

-- lists of one length: before exactly where the differences are lexicographically positive
pub LexLess-differences : (fs gs : List Fraction) → length fs ≡ length gs → LexLess fs gs ↔ IsLexPositive (differences fs gs)
LexLess-differences fs gs l = (to fs gs l, from fs gs l)
  where
    to : (fs gs : List Fraction) → length fs ≡ length gs → LexLess fs gs → IsLexPositive (differences fs gs)
    to [] [] l h = h
    to [] (g ∷ gs) l h = absurd (omega arith)
    to (f ∷ fs) [] l h = absurd (omega arith)
    to (f ∷ fs) (g ∷ gs) l (inl h) = inl (omega (arith, lin, *ℤ_comm f.num g.den, *ℤ_comm g.num f.den))
    to (f ∷ fs) (g ∷ gs) l (inr h) = let e = h.0 in inr (omega (arith, lin, *ℤ_comm f.num g.den, *ℤ_comm g.num f.den), to fs gs (omega arith) h.1)

    from : (fs gs : List Fraction) → length fs ≡ length gs → IsLexPositive (differences fs gs) → LexLess fs gs
    from [] [] l h = h
    from [] (g ∷ gs) l h = absurd h
    from (f ∷ fs) [] l h = absurd h
    from (f ∷ fs) (g ∷ gs) l (inl h) = inl (omega (arith, lin, *ℤ_comm f.num g.den, *ℤ_comm g.num f.den))
    from (f ∷ fs) (g ∷ gs) l (inr h) = let e = h.0 in inr (omega (arith, lin, *ℤ_comm f.num g.den, *ℤ_comm g.num f.den), from fs gs (omega arith) h.1)

-- over one denominator each, the differences are a row step
pub differences-over : (xs ys : List ℤ) (d e : ℤ) → length xs ≡ length ys → differences (over xs d) (over ys e) ≡ row_step d e ys xs
differences-over [] [] d e l = refl
differences-over [] (y ∷ ys) d e l = absurd (omega arith)
differences-over (x ∷ xs) [] d e l = absurd (omega arith)
differences-over (x ∷ xs) (y ∷ ys) d e l = ap (λ zs. (d *ℤ y -ℤ e *ℤ x) ∷ zs) (differences-over xs ys d e (omega arith))

-- xs over d is before ys over e exactly where d ys - e xs is positive: the comparison of a ratio test
pub LexLess-over : (xs ys : List ℤ) (d e : ℤ) → length xs ≡ length ys → LexLess (over xs d) (over ys e) ↔ IsLexPositive (row_step d e ys xs)
LexLess-over xs ys d e l =
    let both = LexLess-differences (over xs d) (over ys e) (length-over xs d ∙ l ∙ sym (length-over ys e)) in
    let is = differences-over xs ys d e l in
    (λ h. subst IsLexPositive is (both.0 h), λ h. both.1 (subst IsLexPositive (sym is) h))

-- ---- a positive step

-- each fraction plus p/q times a number over the same denominator
abbrev pub plus_multiple : ℤ → ℤ → List Fraction → List ℤ → List Fraction
plus_multiple p q [] vs = []
plus_multiple p q (f ∷ fs) [] = f ∷ fs
plus_multiple p q (f ∷ fs) (v ∷ vs) = record { num = q *ℤ f.num +ℤ p *ℤ v; den = q *ℤ f.den } ∷ plus_multiple p q fs vs

-- the sums have positive denominators
pub AreFractions-plus_multiple : (p q : ℤ) (fs : List Fraction) (vs : List ℤ) → pos 0 <ℤ q → AreFractions fs → AreFractions (plus_multiple p q fs vs)
AreFractions-plus_multiple p q [] vs pq pf = pf
AreFractions-plus_multiple p q (f ∷ fs) [] pq pf = pf
AreFractions-plus_multiple p q (f ∷ fs) (v ∷ vs) pq pf =
    All-cons IsFraction (record { num = q *ℤ f.num +ℤ p *ℤ v; den = q *ℤ f.den }) (plus_multiple p q fs vs) (mul_pos q f.den pq (All-head IsFraction f fs pf))
    (AreFractions-plus_multiple p q fs vs pq (All-tail IsFraction f fs pf))

-- a positive multiple of a lexicographically positive list takes a list of fractions up
pub LexLess-plus_multiple : (p q : ℤ) (fs : List Fraction) (vs : List ℤ) → pos 0 <ℤ p → pos 0 <ℤ q → AreFractions fs → length vs ≤ length fs → IsLexPositive vs
    → LexLess fs (plus_multiple p q fs vs)
LexLess-plus_multiple p q fs [] pp pq pf l h = absurd h
LexLess-plus_multiple p q [] (v ∷ vs) pp pq pf l h = absurd (omega arith)
LexLess-plus_multiple p q (f ∷ fs) (v ∷ vs) pp pq pf l (inl h) =
    let step : pos 0 <ℤ (f.den *ℤ (p *ℤ v)) = mul_pos f.den (p *ℤ v) (All-head IsFraction f fs pf) (mul_pos p v pp h) in
    inl (combine5 (λ a b p q v. a ⊗ (q ⊗ b) ≺ (q ⊗ a ⊕ p ⊗ v) ⊗ b ⇐ con (pos 1) ✶ (con (pos 0) ≺ b ⊗ (p ⊗ v)) ∷ []) refl f.num f.den p q v (lt_z_yes tt) step)
LexLess-plus_multiple p q (f ∷ fs) (v ∷ vs) pp pq pf l (inr h) =
    inr (
      combine5 (λ a b p q v. a ⊗ (q ⊗ b) ≗ (q ⊗ a ⊕ p ⊗ v) ⊗ b ⇐ (p ⊗ b) ✶ (con (pos 0) ≗ v) ∷ []) refl f.num f.den p q v (sym h.0),
      LexLess-plus_multiple p
          q fs vs pp pq (All-tail IsFraction f fs pf) (omega arith) h.1,
    )
