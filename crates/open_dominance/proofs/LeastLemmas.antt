-- Dominance over the closures is that the least weighted sum of the least leads is at least 0.
use lib.IntN.{*ℤ-zero}
use Rattle.std.proofs.Common.{◌≡◌, ◌↔◌, ◌-◌, ℤ, pos, ◌*ℤ◌, ◌≤ℤ◌, ◌<ℤ◌, List, [], ◌∷◌, refl, sym, ap, ap₂, subst, ◌∙◌, arith}
use Rattle.integers.specs.Vector.{dot, scale, AreAtMost}
use Rattle.integers.proofs.Laws.{lin}
use Rattle.integers.proofs.Order.{mul_nonneg, mul_pos, le_of_lt, le_trans, nonneg_of_mul}
use Rattle.integers.proofs.Vector.{dot-scale_right}
use Rattle.integers.proofs.VectorLaws.{get_or-scale, length-scale, scale-scale}
use Rattle.integers.proofs.VectorOrder.{dot_le_right}
use Rattle.integers.proofs.Ring.{con, ◌⊗◌, ◌≗◌, ◌≼◌, ◌✶◌, ◌⇐◌, ring2, combine4, combine5}
use Rattle.judgement_matrix.specs.Matrix.{Judgements}
use Rattle.judgement_matrix.specs.Scale.{difference, IsMetInUnit}
use Rattle.judgement_matrix.proofs.MixLemmas.{difference-scale, IsMetInUnit-scale}
use Rattle.open_dominance.specs.Open.{References, IsMetInClosure, IsClosureScale, IsClosureWeighting}
use Rattle.open_dominance.specs.Dominance.{Ground, AreScales, leads_over, HasClosedLead, AreLeastLeads, IsLeastSum}

-- ---- a scale of the closure in another writing

pub IsMetInClosure-scale : (m : Judgements) (c : ℤ) (v : List ℤ) → pos 0 <ℤ c → IsMetInClosure m v → IsMetInClosure m (scale c v)
IsMetInClosure-scale m c v pc h = subst (λ u. IsMetInUnit m u (scale c v)) (*ℤ-zero c) (IsMetInUnit-scale m c (pos 0) v (le_of_lt (pos 0) c pc) h)

reach_scaled : (c r n x : ℤ) → pos 0 ≤ℤ c → x ≤ℤ (r *ℤ n) → (c *ℤ x) ≤ℤ (r *ℤ (c *ℤ n))
reach_scaled = combine4 (λ c r n x. c ⊗ x ≼ r ⊗ (c ⊗ n) ⇐ c ✶ (x ≼ r ⊗ n) ∷ []) refl

pub IsClosureScale-scale : (m : Judgements) (refs : References) (c : ℤ) (v : List ℤ) (n : ℤ) → pos 0 <ℤ c → IsClosureScale m refs v n
    → IsClosureScale m refs (scale c v) (c *ℤ n)
IsClosureScale-scale m refs c v n pc h = record {
  within = record {
    den_pos = mul_pos c n pc h.within.den_pos;
    each = length-scale c v ∙ h.within.each;
    good_is = get_or-scale c v (refs.good - 1) ∙ ap (λ z. c *ℤ z) h.within.good_is ∙ ring2 (λ c n. c ⊗ (con (pos 100) ⊗ n) ≗ con (pos 100) ⊗ (c ⊗ n)) refl c n;
    neutral_is = get_or-scale c v (refs.neutral - 1) ∙ ap (λ z. c *ℤ z) h.within.neutral_is ∙ ring2 (λ c n. c ⊗ con (pos 0) ≗ con (pos 0)) refl c n;
    reached = subst (λ z. z ≤ℤ (pos refs.reach *ℤ (c *ℤ n))) (sym (difference-scale c v 1 m.size))
        (reach_scaled c (pos refs.reach) n (difference v 1 m.size) (le_of_lt (pos 0) c pc) h.within.reached);
  };
  closed = IsMetInClosure-scale m c v pc h.closed;
}

-- each of several scales times c
abbrev pub scale_each : ℤ → List (List ℤ) → List (List ℤ)
scale_each c [] = []
scale_each c (v ∷ vs) = scale c v ∷ scale_each c vs

pub AreScales-scale : (cs : List Ground) (c : ℤ) (vs : List (List ℤ)) (n : ℤ) → pos 0 <ℤ c → AreScales IsClosureScale cs vs n
    → AreScales IsClosureScale cs (scale_each c vs) (c *ℤ n)
AreScales-scale [] c [] n pc h = mul_pos c n pc h
AreScales-scale [] c (v ∷ vs) n pc h = absurd h
AreScales-scale (x ∷ cs) c [] n pc h = absurd h
AreScales-scale (x ∷ cs) c (v ∷ vs) n pc h = (IsClosureScale-scale x.matrix x.refs c v n pc h.0, AreScales-scale cs c vs n pc h.1)

pub leads_over-scale : (ls : List (List ℤ)) (c : ℤ) (vs : List (List ℤ)) → leads_over ls (scale_each c vs) ≡ scale c (leads_over ls vs)
leads_over-scale [] c vs = refl
leads_over-scale (l ∷ ls) c [] = refl
leads_over-scale (l ∷ ls) c (v ∷ vs) = ap₂ (λ x xs. x ∷ xs) (dot-scale_right c l v) (leads_over-scale ls c vs)

-- ---- the scales at which the least leads are attained, over one denominator

pub record AttainTogether (cs : List Ground) (ls : List (List ℤ)) (gs : List ℤ) (n : ℤ) : Type 0 where
  pub scales : List (List ℤ)
  pub den : ℤ
  pub den_pos : pos 0 <ℤ den
  pub among : AreScales IsClosureScale cs scales den
  pub same : scale n (leads_over ls scales) ≡ scale den gs

pub least_den : (cs : List Ground) (ls : List (List ℤ)) (gs : List ℤ) (n : ℤ) → AreLeastLeads cs ls gs n → pos 0 <ℤ n
least_den [] [] [] n h = h
least_den [] [] (g ∷ gs) n h = absurd h
least_den [] (l ∷ ls) gs n h = absurd h
least_den (c ∷ cs) [] gs n h = absurd h
least_den (c ∷ cs) (l ∷ ls) [] n h = absurd h
least_den (c ∷ cs) (l ∷ ls) (g ∷ gs) n h = h.0.den_pos

first_same : (n d x g o : ℤ) → x *ℤ n ≡ g *ℤ o → n *ℤ (d *ℤ x) ≡ (o *ℤ d) *ℤ g
first_same = combine5 (λ n d x g o. n ⊗ (d ⊗ x) ≗ (o ⊗ d) ⊗ g ⇐ d ✶ (x ⊗ n ≗ g ⊗ o) ∷ []) refl

pub attain_together : (cs : List Ground) (ls : List (List ℤ)) (gs : List ℤ) (n : ℤ) → AreLeastLeads cs ls gs n → AttainTogether cs ls gs n
attain_together [] [] [] n h = record { scales = []; den = n; den_pos = h; among = h; same = refl }
attain_together [] [] (g ∷ gs) n h = absurd h
attain_together [] (l ∷ ls) gs n h = absurd h
attain_together (c ∷ cs) [] gs n h = absurd h
attain_together (c ∷ cs) (l ∷ ls) [] n h = absurd h
attain_together (c ∷ cs) (l ∷ ls) (g ∷ gs) n h =
    let rest = attain_together cs ls gs n h.1 in
    let o_pos = h.0.among.within.den_pos in
    record {
      scales = scale rest.den h.0.at ∷ scale_each h.0.over rest.scales;
      den = h.0.over *ℤ rest.den;
      den_pos = mul_pos h.0.over rest.den o_pos rest.den_pos;
      among = (
        subst (λ z. IsClosureScale c.matrix c.refs (scale rest.den h.0.at) z) (ring2 (λ a b. a ⊗ b ≗ b ⊗ a) refl rest.den h.0.over)
            (IsClosureScale-scale c.matrix c.refs rest.den h.0.at h.0.over rest.den_pos h.0.among),
        AreScales-scale cs h.0.over rest.scales rest.den o_pos rest.among,
      );
      same = ap₂ (λ x xs. x ∷ xs)
          (ap (λ z. n *ℤ z) (dot-scale_right rest.den l h.0.at) ∙ first_same n rest.den (dot l h.0.at) g h.0.over h.0.attained)
          (ap (λ z. scale n z) (leads_over-scale ls h.0.over rest.scales) ∙ scale-scale n h.0.over (leads_over ls rest.scales)
          ∙ ap (λ z. scale z (leads_over ls rest.scales)) (ring2 (λ a b. a ⊗ b ≗ b ⊗ a) refl n h.0.over)
          ∙ sym (scale-scale h.0.over n (leads_over ls rest.scales)) ∙ ap (λ z. scale h.0.over z) rest.same ∙ scale-scale h.0.over rest.den gs);
    }

-- ---- the least leads are below those of all scales

pub least_below : (cs : List Ground) (ls : List (List ℤ)) (gs : List ℤ) (n : ℤ) (vs : List (List ℤ)) (k : ℤ) → AreLeastLeads cs ls gs n
    → AreScales IsClosureScale cs vs k → AreAtMost (scale k gs) (scale n (leads_over ls vs))
least_below [] [] [] n vs k h s = tt
least_below [] [] (g ∷ gs) n vs k h s = absurd h
least_below [] (l ∷ ls) gs n vs k h s = absurd h
least_below (c ∷ cs) [] gs n vs k h s = absurd h
least_below (c ∷ cs) (l ∷ ls) [] n vs k h s = absurd h
least_below (c ∷ cs) (l ∷ ls) (g ∷ gs) n [] k h s = absurd s
least_below (c ∷ cs) (l ∷ ls) (g ∷ gs) n (v ∷ vs) k h s =
    let b = h.0.none_below v k s.0 in
    (omega (arith, lin, b, ring2 (λ a b. a ⊗ b ≗ b ⊗ a) refl g k, ring2 (λ a b. a ⊗ b ≗ b ⊗ a) refl (dot l v) n), least_below cs ls gs n vs k h.1 s.1)

pub scales_den : (cs : List Ground) (vs : List (List ℤ)) (k : ℤ) → AreScales IsClosureScale cs vs k → pos 0 <ℤ k
scales_den [] [] k h = h
scales_den [] (v ∷ vs) k h = absurd h
scales_den (c ∷ cs) [] k h = absurd h
scales_den (c ∷ cs) (v ∷ vs) k h = h.0.within.den_pos

-- where the weighted sum of the least leads is never below 0, the lead over the closures never is
pub closed_of_sums : (m : Judgements) (cs : List Ground) (ls : List (List ℤ)) (gs : List ℤ) (n : ℤ) → AreLeastLeads cs ls gs n
    → ((k : List ℤ) (d : ℤ) → IsClosureWeighting m k d → pos 0 ≤ℤ dot k gs) → HasClosedLead m cs (leads_over ls)
closed_of_sums m cs ls gs n least sums vs k w d scales weighting =
    let n_pos = least_den cs ls gs n least in
    let low = dot_le_right w (scale k gs) (scale n (leads_over ls vs)) (least_below cs ls gs n vs k least scales) weighting.weights.nonneg in
    let up = mul_nonneg k (dot w gs) (le_of_lt (pos 0) k (scales_den cs vs k scales)) (sums w d weighting) in
    nonneg_of_mul (dot w (leads_over ls vs)) n n_pos
    (omega (arith, lin, low, up, dot-scale_right k w gs, dot-scale_right n w (leads_over ls vs), ring2 (λ a b. a ⊗ b ≗ b ⊗ a) refl (dot w (leads_over ls vs)) n))

-- and the other way round
pub sums_of_closed : (m : Judgements) (cs : List Ground) (ls : List (List ℤ)) (gs : List ℤ) (n : ℤ) → AreLeastLeads cs ls gs n
    → HasClosedLead m cs (leads_over ls) → (k : List ℤ) (d : ℤ) → IsClosureWeighting m k d → pos 0 ≤ℤ dot k gs
sums_of_closed m cs ls gs n least lead k d weighting =
    let t = attain_together cs ls gs n least in
    let up = mul_nonneg n (dot k (leads_over ls t.scales)) (le_of_lt (pos 0) n (least_den cs ls gs n least)) (lead t.scales t.den k d t.among weighting) in
    let same = sym (dot-scale_right n k (leads_over ls t.scales)) ∙ ap (λ z. dot k z) t.same ∙ dot-scale_right t.den k gs in
    nonneg_of_mul (dot k gs) t.den t.den_pos (omega (arith, lin, up, same, ring2 (λ a b. a ⊗ b ≗ b ⊗ a) refl (dot k gs) t.den))

-- exactly where the least sum is at least 0
pub closed_by_least_sum : (m : Judgements) (cs : List Ground) (ls : List (List ℤ)) (gs : List ℤ) (n g d : ℤ) → AreLeastLeads cs ls gs n → IsLeastSum m gs g d
    → HasClosedLead m cs (leads_over ls) ↔ (pos 0 ≤ℤ g)
closed_by_least_sum m cs ls gs n g d least sum = (to, from)
  where
    to : HasClosedLead m cs (leads_over ls) → pos 0 ≤ℤ g
    to lead =
        let s = sums_of_closed m cs ls gs n least lead sum.at sum.over sum.among in
        let up = mul_nonneg (dot sum.at gs) d s (le_of_lt (pos 0) d sum.den_pos) in
        nonneg_of_mul g sum.over sum.among.weights.scale.den_pos (subst (λ z. pos 0 ≤ℤ z) sum.attained up)

    from : pos 0 ≤ℤ g → HasClosedLead m cs (leads_over ls)
    from nonneg = closed_of_sums m cs ls gs n least (λ k e weighting.
        let up = mul_nonneg g e nonneg (le_of_lt (pos 0) e weighting.weights.scale.den_pos) in
        nonneg_of_mul (dot k gs) d sum.den_pos (le_trans (pos 0) (g *ℤ e) (dot k gs *ℤ d) up (sum.none_below k e weighting)))
