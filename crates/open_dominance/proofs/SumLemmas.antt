-- Weights fall along the weighting order, so sums along it that are all at least 0 decide.
use lib.IntN.{zero-*ℤ, *ℤ-zero}
use Rattle.std.proofs.Common.{◌≡◌, ℕ, suc, ◌+◌, ◌-◌, ◌<◌, ℤ, pos, ◌+ℤ◌, ◌-ℤ◌, ◌*ℤ◌, ◌≤ℤ◌, List, [], ◌∷◌, ◌++◌, length, get_or, refl, subst, arith}
use lib.ListN.{length-append}
use Rattle.std.proofs.lemmas.List.Elements.{All-head, All-tail}
use Rattle.integers.specs.Vector.{dot, running_sums, AreNonNegative}
use Rattle.integers.proofs.Laws.{lin}
use Rattle.integers.proofs.Order.{mul_nonneg, le_trans}
use Rattle.integers.proofs.Ring.{◌⊕◌, ◌⊖◌, ◌⊗◌, ◌≗◌, ring5}
use Rattle.judgement_matrix.specs.Matrix.{Judgements}
use Rattle.open_dominance.specs.Open.{IsClosureWeighting}
use Rattle.open_dominance.specs.Dominance.{Ground, LeadsDominate, leads_over, AreLeastLeads}
use Rattle.open_dominance.proofs.OpenLemmas.{differences_of_closed}
use Rattle.open_dominance.proofs.ClosureLemmas.{lead_of_closed}
use Rattle.open_dominance.proofs.LeastLemmas.{closed_of_sums}

-- the first number, or 0
abbrev first : List ℤ → ℤ
first [] = pos 0
first (x ∷ xs) = x

-- each number is at least the one behind it, and the last at least 0
abbrev AreFallingDown : List ℤ → Type 0
AreFallingDown [] = Unit {0}
AreFallingDown (x ∷ xs) = (first xs ≤ℤ x) × AreFallingDown xs

first_nonneg : (k : List ℤ) → AreFallingDown k → pos 0 ≤ℤ first k
first_nonneg [] h = omega (arith, lin)
first_nonneg (x ∷ k) h = le_trans (pos 0) (first k) x (first_nonneg k h.1) h.0

summed : (x y a g rest : ℤ) → (x -ℤ y) *ℤ (a +ℤ g) +ℤ (y *ℤ (a +ℤ g) +ℤ rest) ≡ x *ℤ a +ℤ (x *ℤ g +ℤ rest)
summed = ring5 (λ x y a g rest. (x ⊖ y) ⊗ (a ⊕ g) ⊕ (y ⊗ (a ⊕ g) ⊕ rest) ≗ x ⊗ a ⊕ (x ⊗ g ⊕ rest)) refl

decided : (k gs : List ℤ) (a : ℤ) → AreFallingDown k → pos 0 ≤ℤ a → AreNonNegative (running_sums a gs) → pos 0 ≤ℤ (first k *ℤ a +ℤ dot k gs)
decided [] gs a h nonneg sums = omega (arith, lin, zero-*ℤ a)
decided (x ∷ k) [] a h nonneg sums = let p = mul_nonneg x a (first_nonneg (x ∷ k) h) nonneg in omega (arith, lin, p)
decided (x ∷ k) (g ∷ gs) a h nonneg sums =
    let next : pos 0 ≤ℤ (a +ℤ g) = All-head (λ z. pos 0 ≤ℤ z) (a +ℤ g) (running_sums (a +ℤ g) gs) sums in
    let rest = decided k gs (a +ℤ g) h.1 next (All-tail (λ z. pos 0 ≤ℤ z) (a +ℤ g) (running_sums (a +ℤ g) gs) sums) in
    let fall = h.0 in
    let step = mul_nonneg (x -ℤ first k) (a +ℤ g) (omega (arith, lin, fall)) next in
    subst (λ z. pos 0 ≤ℤ z) (summed x (first k) a g (dot k gs)) (omega (arith, lin, step, rest))

-- ---- weights of the closure

first_is : (k : List ℤ) → get_or (k ++ pos 0 ∷ []) 0 (pos 0) ≡ first k
first_is [] = refl
first_is (x ∷ k) = refl

falling_from : (k : List ℤ) → ((i : ℕ) → i < length k → get_or (k ++ pos 0 ∷ []) (suc i) (pos 0) ≤ℤ get_or (k ++ pos 0 ∷ []) i (pos 0)) → AreFallingDown k
falling_from [] h = tt
falling_from (x ∷ k) h = (subst (λ z. z ≤ℤ x) (first_is k) (h 0 (omega arith)), falling_from k (λ i l. h (suc i) (omega (arith, l))))

weights_fall : (m : Judgements) (k : List ℤ) (d : ℤ) → IsClosureWeighting m k d → AreFallingDown k
weights_fall m k d h = falling_from k (λ i l.
    let each = h.weights.scale.each in
    let long = length-append k (pos 0 ∷ []) in
    let fall = (differences_of_closed m (k ++ pos 0 ∷ []) h.closed).none_below (i + 1) (i + 2) (omega (arith, each, long, l)) in
    let up : i + 1 - 1 ≡ i = omega arith in
    let down : i + 2 - 1 ≡ suc i = omega arith in
    let same = rw (up, down) at fall in
    omega (arith, lin, same))

-- sums along the order that are all at least 0 make every weighted sum so
pub weighted_by_sums : (m : Judgements) (gs k : List ℤ) (d : ℤ) → AreNonNegative (running_sums (pos 0) gs) → IsClosureWeighting m k d → pos 0 ≤ℤ dot k gs
weighted_by_sums m gs k d sums h =
    let p = decided k gs (pos 0) (weights_fall m k d h) (omega (arith, lin)) sums in
    omega (arith, lin, p, *ℤ-zero (first k))

pub sums_decide : (m : Judgements) (cs : List Ground) (ls : List (List ℤ)) (gs : List ℤ) (n : ℤ) → AreLeastLeads cs ls gs n
    → AreNonNegative (running_sums (pos 0) gs) → LeadsDominate m cs ls
sums_decide m cs ls gs n least sums =
    lead_of_closed m cs (leads_over ls) (closed_of_sums m cs ls gs n least (λ k d h. weighted_by_sums m gs k d sums h))
