-- The calls that close a goal with products by one line that computes.
--
--     square_of_sum : (a b : ℤ) → (a +ℤ b) *ℤ (a +ℤ b) ≡ a *ℤ a +ℤ pos 2 *ℤ (a *ℤ b) +ℤ b *ℤ b
--     square_of_sum = ring2 (λ a b. (a ⊕ b) ⊗ (a ⊕ b) ≗ a ⊗ a ⊕ con (pos 2) ⊗ (a ⊗ b) ⊕ b ⊗ b) refl
--
-- `ringN` proves an identity in N variables. `combineN` proves `l ≗ r`, `l ≼ r` or `l ≺ r` from facts `aᵢ ≗ bᵢ`, `aᵢ ≼ bᵢ`, `aᵢ ≺ bᵢ`
-- with multipliers cᵢ for which r - l is the sum of cᵢ (bᵢ - aᵢ): its type asks for each fact in turn, for an order after the
-- multiplier's sign (0 ≤ cᵢ for `≼`, 0 < cᵢ for `≺`). A `≺` needs a `≺` among the facts, and a `≗` takes only `≗`.
use lib.IntN.{+ℤ_assoc, +ℤ_idl, +ℤ_invr, *ℤ-zero}
use Rattle.std.proofs.Common.{◌≡◌, Bool, true, false, T, List, [], ◌∷◌, ℤ, pos, ◌+ℤ◌, ◌-ℤ◌, ◌*ℤ◌, ◌≤ℤ◌, ◌<ℤ◌, refl, sym, ap, subst, ◌∙◌, arith}
use Rattle.integers.proofs.Laws.{lin, mul_nonneg, mul_pos}
use Rattle.integers.proofs.Polynomial.{same_value}
pub use Rattle.integers.proofs.Polynomial.{Expr, var, con, neg, ◌⊕◌, ◌⊖◌, ◌⊗◌, at, eval, Poly, norm}

-- a fact on two terms: equal, at most, below
pub data Fact : Type 0 where
  ◌≗◌ : Expr → Expr → Fact
  ◌≼◌ : Expr → Expr → Fact
  ◌≺◌ : Expr → Expr → Fact

infix 4 ◌≗◌ ◌≼◌ ◌≺◌
-- the fact at the variables' values
abbrev pub Holds : List ℤ → Fact → Type 0
Holds env (a ≗ b) = eval env a ≡ eval env b
Holds env (a ≼ b) = eval env a ≤ℤ eval env b
Holds env (a ≺ b) = eval env a <ℤ eval env b

-- the right side less the left side
abbrev pub gap : Fact → Expr
gap (a ≗ b) = b ⊖ a
gap (a ≼ b) = b ⊖ a
gap (a ≺ b) = b ⊖ a

-- a given fact with its multiplier
pub data Given : Type 0 where
  ◌✶◌ : Expr → Fact → Given

infix 90 ◌✶◌
-- a fact that follows from given ones
pub data Claim : Type 0 where
  ◌⇐◌ : Fact → List Given → Claim

infix 3 ◌⇐◌
-- the given facts, each after the sign that its multiplier needs, imply the claimed one
abbrev pub Implies : List ℤ → Fact → List Given → Type 0
Implies env goal [] = Holds env goal
Implies env goal (c ✶ (a ≗ b) ∷ gs) = eval env a ≡ eval env b → Implies env goal gs
Implies env goal (c ✶ (a ≼ b) ∷ gs) = pos 0 ≤ℤ eval env c → eval env a ≤ℤ eval env b → Implies env goal gs
Implies env goal (c ✶ (a ≺ b) ∷ gs) = pos 0 <ℤ eval env c → eval env a <ℤ eval env b → Implies env goal gs

-- what the claim says at the variables' values
abbrev pub ClaimHolds : List ℤ → Claim → Type 0
ClaimHolds env (goal ⇐ gs) = Implies env goal gs

-- the sum of the gaps of the given facts, times their multipliers
abbrev pub total : List Given → Expr
total [] = con (pos 0)
total (c ✶ f ∷ gs) = c ⊗ gap f ⊕ total gs

-- what is known of the sign of a sum of gaps
pub data Sign : Type 0 where
  is_zero : Sign
  is_not_negative : Sign
  is_positive : Sign

-- the sign with a summand more that is not negative
abbrev pub weaker : Sign → Sign
weaker is_zero = is_not_negative
weaker is_not_negative = is_not_negative
weaker is_positive = is_positive

-- the sign of a sum that has the sign k without the given facts
abbrev pub sign_with : Sign → List Given → Sign
sign_with k [] = k
sign_with k (c ✶ (a ≗ b) ∷ gs) = sign_with k gs
sign_with k (c ✶ (a ≼ b) ∷ gs) = sign_with (weaker k) gs
sign_with k (c ✶ (a ≺ b) ∷ gs) = sign_with is_positive gs

-- whether a gap of this sign proves the fact
abbrev pub enough : Fact → Sign → Bool
enough (a ≗ b) is_zero = true
enough (a ≗ b) is_not_negative = false
enough (a ≗ b) is_positive = false
enough (a ≼ b) is_zero = true
enough (a ≼ b) is_not_negative = true
enough (a ≼ b) is_positive = true
enough (a ≺ b) is_zero = false
enough (a ≺ b) is_not_negative = false
enough (a ≺ b) is_positive = true

-- a normal form, and whether the signs suffice
pub data Checked : Type 0 where
  checked : Bool → Poly → Checked

-- the claim's gap is the sum, and the signs suffice: `refl` proves it where it is so
abbrev pub Follows : Claim → Type 0
Follows (goal ⇐ gs) = checked (enough goal (sign_with is_zero gs)) (norm (total gs)) ≡ checked true (norm (gap goal))

-- the two sides have one normal form: `refl` proves it where it is so
abbrev pub Same : Fact → Type 0
Same (a ≗ b) = norm a ≡ norm b
Same (a ≼ b) = norm a ≡ norm b
Same (a ≺ b) = ⊥

-- the number has that sign
HasSign : Sign → ℤ → Type 0
HasSign is_zero z = z ≡ pos 0
HasSign is_not_negative z = pos 0 ≤ℤ z
HasSign is_positive z = pos 0 <ℤ z

-- ---- soundness

-- an equation adds 0
gap-same : (c a b : ℤ) → a ≡ b → c *ℤ (b -ℤ a) ≡ pos 0
gap-same c a b e = ap (λ x. c *ℤ x) (ap (λ x. b -ℤ x) e ∙ +ℤ_invr b) ∙ *ℤ-zero c

-- an order times a factor that is not negative adds what is not negative
gap-at_most : (c a b : ℤ) → pos 0 ≤ℤ c → a ≤ℤ b → pos 0 ≤ℤ (c *ℤ (b -ℤ a))
gap-at_most c a b s h = mul_nonneg c (b -ℤ a) s (omega (arith, lin))

-- a strict order times a positive factor adds what is positive
gap-below : (c a b : ℤ) → pos 0 <ℤ c → a <ℤ b → pos 0 <ℤ (c *ℤ (b -ℤ a))
gap-below c a b s h = mul_pos c (b -ℤ a) s (omega (arith, lin))

-- 0 more keeps the sign
with_zero : (k : Sign) (z x : ℤ) → HasSign k z → x ≡ pos 0 → HasSign k (z +ℤ x)
unfolding HasSign
with_zero is_zero z x s e = omega (arith, lin)
with_zero is_not_negative z x s e = omega (arith, lin)
with_zero is_positive z x s e = omega (arith, lin)

-- a summand more that is not negative
with_not_negative : (k : Sign) (z x : ℤ) → HasSign k z → pos 0 ≤ℤ x → HasSign (weaker k) (z +ℤ x)
unfolding HasSign
with_not_negative is_zero z x s e = omega (arith, lin)
with_not_negative is_not_negative z x s e = omega (arith, lin)
with_not_negative is_positive z x s e = omega (arith, lin)

-- a positive summand more
with_positive : (k : Sign) (z x : ℤ) → HasSign k z → pos 0 <ℤ x → HasSign is_positive (z +ℤ x)
unfolding HasSign
with_positive is_zero z x s e = omega (arith, lin)
with_positive is_not_negative z x s e = omega (arith, lin)
with_positive is_positive z x s e = omega (arith, lin)

-- the sign of the gap proves the fact
at_end : (env : List ℤ) (goal : Fact) (k : Sign) (z : ℤ) → HasSign k z → eval env (gap goal) ≡ z +ℤ pos 0 → T (enough goal k) → Holds env goal
unfolding HasSign
at_end env (a ≗ b) is_zero z s e t = omega (arith, lin)
at_end env (a ≗ b) is_not_negative z s e t = absurd t
at_end env (a ≗ b) is_positive z s e t = absurd t
at_end env (a ≼ b) is_zero z s e t = omega (arith, lin)
at_end env (a ≼ b) is_not_negative z s e t = omega (arith, lin)
at_end env (a ≼ b) is_positive z s e t = omega (arith, lin)
at_end env (a ≺ b) is_zero z s e t = absurd t
at_end env (a ≺ b) is_not_negative z s e t = absurd t
at_end env (a ≺ b) is_positive z s e t = omega (arith, lin)

-- one given fact after the other goes into the sum
implied : (env : List ℤ) (goal : Fact) (gs : List Given) (k : Sign) (z : ℤ) → HasSign k z → eval env (gap goal) ≡ z +ℤ eval env (total gs)
    → T (enough goal (sign_with k gs)) → Implies env goal gs
implied env goal [] k z s e t = at_end env goal k z s e t
implied env goal (c ✶ (a ≗ b) ∷ gs) k z s e t =
    let x : ℤ = eval env c *ℤ (eval env b -ℤ eval env a) in
    λ h. implied env goal gs k (z +ℤ x) (with_zero k z x s (gap-same (eval env c) (eval env a) (eval env b) h)) (e ∙ sym (+ℤ_assoc z x (eval env (total gs)))) t
implied env goal (c ✶ (a ≼ b) ∷ gs) k z s e t =
    let x : ℤ = eval env c *ℤ (eval env b -ℤ eval env a) in
    λ p h. implied env goal gs (weaker k) (z +ℤ x) (with_not_negative k z x s (gap-at_most (eval env c) (eval env a) (eval env b) p h))
    (e ∙ sym (+ℤ_assoc z x (eval env (total gs)))) t
implied env goal (c ✶ (a ≺ b) ∷ gs) k z s e t =
    let x : ℤ = eval env c *ℤ (eval env b -ℤ eval env a) in
    λ p h. implied env goal gs is_positive (z +ℤ x) (with_positive k z x s (gap-below (eval env c) (eval env a) (eval env b) p h))
    (e ∙ sym (+ℤ_assoc z x (eval env (total gs)))) t

-- whether the signs suffice
suffices : Checked → Bool
suffices (checked b p) = b

-- the normal form
sum_of : Checked → Poly
sum_of (checked b p) = p

-- a claim that computes holds at all values
pub combine : (env : List ℤ) (claim : Claim) → Follows claim → ClaimHolds env claim
unfolding HasSign suffices sum_of
combine env (goal ⇐ gs) e =
    implied env goal gs is_zero (pos 0) refl (sym (same_value env (total gs) (gap goal) (ap sum_of e)) ∙ sym (+ℤ_idl (eval env (total gs))))
    (subst T (sym (ap suffices e)) tt)

-- an identity that computes holds at all values
pub ring : (env : List ℤ) (fact : Fact) → Same fact → Holds env fact
ring env (a ≗ b) e = same_value env a b e
ring env (a ≼ b) e = let same = same_value env a b e in omega (arith, lin)
ring env (a ≺ b) e = absurd e

-- ---- the calls, by the number of variables

-- an identity in 1 variable
pub ring1 : (fact : Expr → Fact) → Same (fact (var 0)) → (a : ℤ) → Holds (a ∷ []) (fact (var 0))
ring1 fact same a = ring (a ∷ []) (fact (var 0)) same

-- an identity in 2 variables
pub ring2 : (fact : Expr → Expr → Fact) → Same (fact (var 0) (var 1)) → (a b : ℤ) → Holds (a ∷ b ∷ []) (fact (var 0) (var 1))
ring2 fact same a b = ring (a ∷ b ∷ []) (fact (var 0) (var 1)) same

-- an identity in 3 variables
pub ring3 : (fact : Expr → Expr → Expr → Fact) → Same (fact (var 0) (var 1) (var 2)) → (a b c : ℤ) → Holds (a ∷ b ∷ c ∷ []) (fact (var 0) (var 1) (var 2))
ring3 fact same a b c = ring (a ∷ b ∷ c ∷ []) (fact (var 0) (var 1) (var 2)) same

-- an identity in 4 variables
pub ring4 : (fact : Expr → Expr → Expr → Expr → Fact) → Same (fact (var 0) (var 1) (var 2) (var 3)) → (a b c d : ℤ)
    → Holds (a ∷ b ∷ c ∷ d ∷ []) (fact (var 0) (var 1) (var 2) (var 3))
ring4 fact same a b c d = ring (a ∷ b ∷ c ∷ d ∷ []) (fact (var 0) (var 1) (var 2) (var 3)) same

-- an identity in 5 variables
pub ring5 : (fact : Expr → Expr → Expr → Expr → Expr → Fact) → Same (fact (var 0) (var 1) (var 2) (var 3) (var 4)) → (a b c d e : ℤ)
    → Holds (a ∷ b ∷ c ∷ d ∷ e ∷ []) (fact (var 0) (var 1) (var 2) (var 3) (var 4))
ring5 fact same a b c d e = ring (a ∷ b ∷ c ∷ d ∷ e ∷ []) (fact (var 0) (var 1) (var 2) (var 3) (var 4)) same

-- an identity in 6 variables
pub ring6 : (fact : Expr → Expr → Expr → Expr → Expr → Expr → Fact) → Same (fact (var 0) (var 1) (var 2) (var 3) (var 4) (var 5)) → (a b c d e f : ℤ)
    → Holds (a ∷ b ∷ c ∷ d ∷ e ∷ f ∷ []) (fact (var 0) (var 1) (var 2) (var 3) (var 4) (var 5))
ring6 fact same a b c d e f = ring (a ∷ b ∷ c ∷ d ∷ e ∷ f ∷ []) (fact (var 0) (var 1) (var 2) (var 3) (var 4) (var 5)) same

-- an identity in 7 variables
pub ring7 : (fact : Expr → Expr → Expr → Expr → Expr → Expr → Expr → Fact) → Same (fact (var 0) (var 1) (var 2) (var 3) (var 4) (var 5) (var 6))
    → (a b c d e f g : ℤ) → Holds (a ∷ b ∷ c ∷ d ∷ e ∷ f ∷ g ∷ []) (fact (var 0) (var 1) (var 2) (var 3) (var 4) (var 5) (var 6))
ring7 fact same a b c d e f g = ring (a ∷ b ∷ c ∷ d ∷ e ∷ f ∷ g ∷ []) (fact (var 0) (var 1) (var 2) (var 3) (var 4) (var 5) (var 6)) same

-- an identity in 8 variables
pub ring8 : (fact : Expr → Expr → Expr → Expr → Expr → Expr → Expr → Expr → Fact) → Same (fact (var 0) (var 1) (var 2) (var 3) (var 4) (var 5) (var 6) (var 7))
    → (a b c d e f g h : ℤ) → Holds (a ∷ b ∷ c ∷ d ∷ e ∷ f ∷ g ∷ h ∷ []) (fact (var 0) (var 1) (var 2) (var 3) (var 4) (var 5) (var 6) (var 7))
ring8 fact same a b c d e f g h = ring (a ∷ b ∷ c ∷ d ∷ e ∷ f ∷ g ∷ h ∷ []) (fact (var 0) (var 1) (var 2) (var 3) (var 4) (var 5) (var 6) (var 7)) same

-- an identity in 10 variables
pub ring10 : (fact : Expr → Expr → Expr → Expr → Expr → Expr → Expr → Expr → Expr → Expr → Fact)
    → Same (fact (var 0) (var 1) (var 2) (var 3) (var 4) (var 5) (var 6) (var 7) (var 8) (var 9)) → (a b c d e f g h i j : ℤ)
    → Holds (a ∷ b ∷ c ∷ d ∷ e ∷ f ∷ g ∷ h ∷ i ∷ j ∷ []) (fact (var 0) (var 1) (var 2) (var 3) (var 4) (var 5) (var 6) (var 7) (var 8) (var 9))
ring10 fact same a b c d e f g h i j =
    ring (a ∷ b ∷ c ∷ d ∷ e ∷ f ∷ g ∷ h ∷ i ∷ j ∷ []) (fact (var 0) (var 1) (var 2) (var 3) (var 4) (var 5) (var 6) (var 7) (var 8) (var 9)) same

-- a claim in 2 variables
pub combine2 : (claim : Expr → Expr → Claim) → Follows (claim (var 0) (var 1)) → (a b : ℤ) → ClaimHolds (a ∷ b ∷ []) (claim (var 0) (var 1))
combine2 claim follows a b = combine (a ∷ b ∷ []) (claim (var 0) (var 1)) follows

-- a claim in 3 variables
pub combine3 : (claim : Expr → Expr → Expr → Claim) → Follows (claim (var 0) (var 1) (var 2)) → (a b c : ℤ)
    → ClaimHolds (a ∷ b ∷ c ∷ []) (claim (var 0) (var 1) (var 2))
combine3 claim follows a b c = combine (a ∷ b ∷ c ∷ []) (claim (var 0) (var 1) (var 2)) follows

-- a claim in 4 variables
pub combine4 : (claim : Expr → Expr → Expr → Expr → Claim) → Follows (claim (var 0) (var 1) (var 2) (var 3)) → (a b c d : ℤ)
    → ClaimHolds (a ∷ b ∷ c ∷ d ∷ []) (claim (var 0) (var 1) (var 2) (var 3))
combine4 claim follows a b c d = combine (a ∷ b ∷ c ∷ d ∷ []) (claim (var 0) (var 1) (var 2) (var 3)) follows

-- a claim in 5 variables
pub combine5 : (claim : Expr → Expr → Expr → Expr → Expr → Claim) → Follows (claim (var 0) (var 1) (var 2) (var 3) (var 4)) → (a b c d e : ℤ)
    → ClaimHolds (a ∷ b ∷ c ∷ d ∷ e ∷ []) (claim (var 0) (var 1) (var 2) (var 3) (var 4))
combine5 claim follows a b c d e = combine (a ∷ b ∷ c ∷ d ∷ e ∷ []) (claim (var 0) (var 1) (var 2) (var 3) (var 4)) follows

-- a claim in 6 variables
pub combine6 : (claim : Expr → Expr → Expr → Expr → Expr → Expr → Claim) → Follows (claim (var 0) (var 1) (var 2) (var 3) (var 4) (var 5)) → (a b c d e f : ℤ)
    → ClaimHolds (a ∷ b ∷ c ∷ d ∷ e ∷ f ∷ []) (claim (var 0) (var 1) (var 2) (var 3) (var 4) (var 5))
combine6 claim follows a b c d e f = combine (a ∷ b ∷ c ∷ d ∷ e ∷ f ∷ []) (claim (var 0) (var 1) (var 2) (var 3) (var 4) (var 5)) follows

-- a claim in 7 variables
pub combine7 : (claim : Expr → Expr → Expr → Expr → Expr → Expr → Expr → Claim) → Follows (claim (var 0) (var 1) (var 2) (var 3) (var 4) (var 5) (var 6))
    → (a b c d e f g : ℤ) → ClaimHolds (a ∷ b ∷ c ∷ d ∷ e ∷ f ∷ g ∷ []) (claim (var 0) (var 1) (var 2) (var 3) (var 4) (var 5) (var 6))
combine7 claim follows a b c d e f g = combine (a ∷ b ∷ c ∷ d ∷ e ∷ f ∷ g ∷ []) (claim (var 0) (var 1) (var 2) (var 3) (var 4) (var 5) (var 6)) follows

-- a claim in 8 variables
pub combine8 : (claim : Expr → Expr → Expr → Expr → Expr → Expr → Expr → Expr → Claim)
    → Follows (claim (var 0) (var 1) (var 2) (var 3) (var 4) (var 5) (var 6) (var 7)) → (a b c d e f g h : ℤ)
    → ClaimHolds (a ∷ b ∷ c ∷ d ∷ e ∷ f ∷ g ∷ h ∷ []) (claim (var 0) (var 1) (var 2) (var 3) (var 4) (var 5) (var 6) (var 7))
combine8 claim follows a b c d e f g h =
    combine (a ∷ b ∷ c ∷ d ∷ e ∷ f ∷ g ∷ h ∷ []) (claim (var 0) (var 1) (var 2) (var 3) (var 4) (var 5) (var 6) (var 7)) follows

-- a claim in 9 variables
pub combine9 : (claim : Expr → Expr → Expr → Expr → Expr → Expr → Expr → Expr → Expr → Claim)
    → Follows (claim (var 0) (var 1) (var 2) (var 3) (var 4) (var 5) (var 6) (var 7) (var 8)) → (a b c d e f g h i : ℤ)
    → ClaimHolds (a ∷ b ∷ c ∷ d ∷ e ∷ f ∷ g ∷ h ∷ i ∷ []) (claim (var 0) (var 1) (var 2) (var 3) (var 4) (var 5) (var 6) (var 7) (var 8))
combine9 claim follows a b c d e f g h i =
    combine (a ∷ b ∷ c ∷ d ∷ e ∷ f ∷ g ∷ h ∷ i ∷ []) (claim (var 0) (var 1) (var 2) (var 3) (var 4) (var 5) (var 6) (var 7) (var 8)) follows

-- a claim in 10 variables
pub combine10 : (claim : Expr → Expr → Expr → Expr → Expr → Expr → Expr → Expr → Expr → Expr → Claim)
    → Follows (claim (var 0) (var 1) (var 2) (var 3) (var 4) (var 5) (var 6) (var 7) (var 8) (var 9)) → (a b c d e f g h i j : ℤ)
    → ClaimHolds (a ∷ b ∷ c ∷ d ∷ e ∷ f ∷ g ∷ h ∷ i ∷ j ∷ []) (claim (var 0) (var 1) (var 2) (var 3) (var 4) (var 5) (var 6) (var 7) (var 8) (var 9))
combine10 claim follows a b c d e f g h i j =
    combine (a ∷ b ∷ c ∷ d ∷ e ∷ f ∷ g ∷ h ∷ i ∷ j ∷ []) (claim (var 0) (var 1) (var 2) (var 3) (var 4) (var 5) (var 6) (var 7) (var 8) (var 9)) follows

-- a claim in 11 variables
pub combine11 : (claim : Expr → Expr → Expr → Expr → Expr → Expr → Expr → Expr → Expr → Expr → Expr → Claim)
    → Follows (claim (var 0) (var 1) (var 2) (var 3) (var 4) (var 5) (var 6) (var 7) (var 8) (var 9) (var 10)) → (a b c d e f g h i j k : ℤ)
    → ClaimHolds (a ∷ b ∷ c ∷ d ∷ e ∷ f ∷ g ∷ h ∷ i ∷ j ∷ k ∷ [])
    (claim (var 0) (var 1) (var 2) (var 3) (var 4) (var 5) (var 6) (var 7) (var 8) (var 9) (var 10))
combine11 claim follows a b c d e f g h i j k =
    combine (a ∷ b ∷ c ∷ d ∷ e ∷ f ∷ g ∷ h ∷ i ∷ j ∷ k ∷ [])
    (claim (var 0) (var 1) (var 2) (var 3) (var 4) (var 5) (var 6) (var 7) (var 8) (var 9) (var 10)) follows

-- a claim in 12 variables
pub combine12 : (claim : Expr → Expr → Expr → Expr → Expr → Expr → Expr → Expr → Expr → Expr → Expr → Expr → Claim)
    → Follows (claim (var 0) (var 1) (var 2) (var 3) (var 4) (var 5) (var 6) (var 7) (var 8) (var 9) (var 10) (var 11)) → (a b c d e f g h i j k l : ℤ)
    → ClaimHolds (a ∷ b ∷ c ∷ d ∷ e ∷ f ∷ g ∷ h ∷ i ∷ j ∷ k ∷ l ∷ [])
    (claim (var 0) (var 1) (var 2) (var 3) (var 4) (var 5) (var 6) (var 7) (var 8) (var 9) (var 10) (var 11))
combine12 claim follows a b c d e f g h i j k l =
    combine (a ∷ b ∷ c ∷ d ∷ e ∷ f ∷ g ∷ h ∷ i ∷ j ∷ k ∷ l ∷ [])
    (claim (var 0) (var 1) (var 2) (var 3) (var 4) (var 5) (var 6) (var 7) (var 8) (var 9) (var 10) (var 11)) follows
