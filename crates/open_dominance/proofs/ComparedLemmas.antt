-- Least gaps of options' elements decide whether one option dominates the other.
use Rattle.std.specs.List.{AllByRecursion}
use Rattle.std.proofs.Common.{◌≡◌, ◌↔◌, ℕ, ◌-◌, ◌≤◌, ℤ, pos, negsuc, ◌+ℤ◌, ◌*ℤ◌, ◌≤ℤ◌, ◌<ℤ◌, List, [], ◌∷◌, map, refl, sym, ap, ap₂, subst, ◌∙◌, arith}
use Rattle.integers.specs.Fraction.{IsWriting}
use Rattle.integers.specs.Vector.{dot, add, scale, unit_vector}
use Rattle.integers.proofs.Order.{cancel_eq, cancel_le, le_of_lt}
use Rattle.integers.proofs.Ring.{con, neg, ◌⊕◌, ◌⊖◌, ◌⊗◌, ◌≗◌, ◌≼◌, ◌✶◌, ◌⇐◌, ring2, combine7}
use Rattle.integers.proofs.Vector.{dot_comm, dot-add, dot-scale, dot-unit_vector}
use Rattle.judgement_matrix.specs.Matrix.{Judgements}
use Rattle.judgement_matrix.specs.Scale.{value_at, difference}
use Rattle.open_dominance.specs.Compared.{Compared, grounds, uppers, lowers, leasts, IsLeastCompared, HasNoSumBelow}
use Rattle.open_dominance.specs.Dominance.{HaveOpenPoints, Dominates, leads_over, differences, IsLeastLead, AreLeastLeads}
use Rattle.open_dominance.specs.Gap.{references_of}
use Rattle.open_dominance.proofs.ClosureLemmas.{closed_of_lead, lead_of_closed, differences-mixes}
use Rattle.open_dominance.proofs.LeastLemmas.{closed_of_sums, sums_of_closed}

-- ---- two elements as a lead

abbrev lead_of : ℕ → ℕ → ℕ → List ℤ
lead_of n a b = add (unit_vector n (a - 1)) (scale (negsuc 0) (unit_vector n (b - 1)))

dot-lead_of : (n a b : ℕ) (v : List ℤ) → (1 ≤ a) × (a ≤ n) → (1 ≤ b) × (b ≤ n) → dot (lead_of n a b) v ≡ difference v a b
dot-lead_of n a b v ha hb =
    let first = dot_comm (unit_vector n (a - 1)) v ∙ dot-unit_vector v n (a - 1) (omega (arith, ha)) in
    let second = dot_comm (unit_vector n (b - 1)) v ∙ dot-unit_vector v n (b - 1) (omega (arith, hb)) in
    dot-add (unit_vector n (a - 1)) (scale (negsuc 0) (unit_vector n (b - 1))) v
    ∙ ap₂ (λ x y. x +ℤ y) first (dot-scale (negsuc 0) (unit_vector n (b - 1)) v ∙ ap (λ y. negsuc 0 *ℤ y) second)
    ∙ ring2 (λ x y. x ⊕ con (negsuc 0) ⊗ y ≗ x ⊖ y) refl (value_at v a) (value_at v b)

abbrev leads : List Compared → List (List ℤ)
leads xs = map (λ x. lead_of x.criterion.matrix.size x.upper x.lower) xs

ahead_same : (xs : List Compared) (vs : List (List ℤ)) → AllByRecursion IsLeastCompared xs → differences (uppers xs) (lowers xs) vs ≡ leads_over (leads xs) vs
ahead_same [] vs h = refl
ahead_same (x ∷ xs) [] h = refl
ahead_same (x ∷ xs) (v ∷ vs) h =
    ap₂ (λ y ys. y ∷ ys) (sym (dot-lead_of x.criterion.matrix.size x.upper x.lower v h.0.upper_is h.0.lower_is)) (ahead_same xs vs h.1)

-- ---- the least leads

attained_over : (l o p q y d : ℤ) → pos 0 <ℤ q → l *ℤ q ≡ p *ℤ o → y *ℤ q ≡ p *ℤ d → l *ℤ d ≡ y *ℤ o
attained_over l o p q y d pq a b =
    cancel_eq (l *ℤ d) (y *ℤ o) q pq
    (combine7 (λ l o p q y d z. l ⊗ d ⊗ q ≗ y ⊗ o ⊗ q ⇐ d ✶ (l ⊗ q ≗ p ⊗ o) ∷ neg o ✶ (y ⊗ q ≗ p ⊗ d) ∷ []) refl l o p q y d q a b)

below_over : (l k p q y d : ℤ) → pos 0 <ℤ q → pos 0 ≤ℤ d → (p *ℤ k) ≤ℤ (l *ℤ q) → y *ℤ q ≡ p *ℤ d → (y *ℤ k) ≤ℤ (l *ℤ d)
below_over l k p q y d pq pd a b =
    cancel_le (y *ℤ k) (l *ℤ d) q pq
    (combine7 (λ l k p q y d z. y ⊗ k ⊗ q ≼ l ⊗ d ⊗ q ⇐ d ✶ (p ⊗ k ≼ l ⊗ q) ∷ k ✶ (y ⊗ q ≗ p ⊗ d) ∷ []) refl l k p q y d q pd a b)

least_lead : (x : Compared) (y d : ℤ) → IsLeastCompared x → pos 0 <ℤ d → y *ℤ x.least.den ≡ x.least.num *ℤ d
    → IsLeastLead (record { matrix = x.criterion.matrix; refs = references_of x.criterion }) (lead_of x.criterion.matrix.size x.upper x.lower) y d
least_lead x y d h pd same =
    let n = x.criterion.matrix.size in
    let is = λ (v : List ℤ). dot-lead_of n x.upper x.lower v h.upper_is h.lower_is in
    record {
      den_pos = pd;
      at = h.least.at;
      over = h.least.over;
      among = h.least.among;
      attained = attained_over (dot (lead_of n x.upper x.lower) h.least.at) h.least.over x.least.num x.least.den y d h.fraction
          (ap (λ z. z *ℤ x.least.den) (is h.least.at) ∙ h.least.attained) same;
      none_below = λ v k closed.
          below_over (dot (lead_of n x.upper x.lower) v) k x.least.num x.least.den y d h.fraction (le_of_lt (pos 0) d pd)
          (subst (λ z. (x.least.num *ℤ k) ≤ℤ (z *ℤ x.least.den)) (sym (is v)) (h.least.none_below v k closed)) same;
    }

least_leads : (xs : List Compared) (g : List ℤ) (d : ℤ) → AllByRecursion IsLeastCompared xs → IsWriting (leasts xs) g d → AreLeastLeads (grounds xs) (leads xs) g d
least_leads [] [] d h w = w.den_pos
least_leads [] (y ∷ g) d h w = absurd w.same
least_leads (x ∷ xs) [] d h w = absurd w.same
least_leads (x ∷ xs) (y ∷ g) d h w =
    (least_lead x y d h.0 w.den_pos w.same.0, least_leads xs g d h.1 (record { den_pos = w.den_pos; same = w.same.1 }))

-- ---- dominance

pub least_gaps_decide : (m : Judgements) (xs : List Compared) (g : List ℤ) (d : ℤ) → HaveOpenPoints m (grounds xs) → AllByRecursion IsLeastCompared xs
    → IsWriting (leasts xs) g d → Dominates m (grounds xs) (uppers xs) (lowers xs) ↔ HasNoSumBelow m g
least_gaps_decide m xs g d points h w = (to, from)
  where
    ahead : List (List ℤ) → List ℤ
    ahead = differences (uppers xs) (lowers xs)

    to : Dominates m (grounds xs) (uppers xs) (lowers xs) → HasNoSumBelow m g
    to dominates =
        let closed = closed_of_lead m (grounds xs) ahead (differences-mixes (uppers xs) (lowers xs)) points dominates in
        sums_of_closed m (grounds xs) (leads xs) g d (least_leads xs g d h w)
        (λ vs n k e scales weighting. subst (λ z. pos 0 ≤ℤ dot k z) (ahead_same xs vs h) (closed vs n k e scales weighting))

    from : HasNoSumBelow m g → Dominates m (grounds xs) (uppers xs) (lowers xs)
    from sums =
        let closed = closed_of_sums m (grounds xs) (leads xs) g d (least_leads xs g d h w) sums in
        lead_of_closed m (grounds xs) ahead
        (λ vs n k e scales weighting. subst (λ z. pos 0 ≤ℤ dot k z) (sym (ahead_same xs vs h)) (closed vs n k e scales weighting))
