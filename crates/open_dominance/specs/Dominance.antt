-- One option dominates another where it scores at least as much under every open scale of each criterion and every
-- open weighting.
use Rattle.std.specs.Prelude.{◌≡◌, ℕ, ℤ, pos, ◌*ℤ◌, ◌≤ℤ◌, ◌<ℤ◌, List, [], ◌∷◌}
use Rattle.integers.specs.Vector.{dot}
use Rattle.judgement_matrix.specs.Matrix.{Judgements}
use Rattle.judgement_matrix.specs.Scale.{difference}
use Rattle.open_dominance.specs.Open.{References, IsOpenScale, IsClosureScale, IsOpenWeighting, IsClosureWeighting}

-- what a criterion asks of its scales
pub record Ground : Type 0 where
  pub matrix : Judgements
  pub refs : References

-- one scale for each criterion, all over one denominator, each of a kind
abbrev pub AreScales : (Judgements → References → List ℤ → ℤ → Type 0) → List Ground → List (List ℤ) → ℤ → Type 0
AreScales Is [] [] n = pos 0 <ℤ n
AreScales Is [] (v ∷ vs) n = ⊥
AreScales Is (c ∷ cs) [] n = ⊥
AreScales Is (c ∷ cs) (v ∷ vs) n = Is c.matrix c.refs v n × AreScales Is cs vs n

-- what leads, one for each criterion, make of the scales: how far the first option is ahead on each
abbrev pub leads_over : List (List ℤ) → List (List ℤ) → List ℤ
leads_over [] vs = []
leads_over (l ∷ ls) [] = []
leads_over (l ∷ ls) (v ∷ vs) = dot l v ∷ leads_over ls vs

-- how far the elements of one option are above those of another on each criterion
abbrev pub differences : List ℕ → List ℕ → List (List ℤ) → List ℤ
differences [] lower vs = []
differences (a ∷ upper) [] vs = []
differences (a ∷ upper) (b ∷ lower) [] = []
differences (a ∷ upper) (b ∷ lower) (v ∷ vs) = difference v a b ∷ differences upper lower vs

-- the weighted sum of what the scales give is at least 0, for every open scale of each criterion and every open weighting;
-- the criteria stand in the order of the weighting
abbrev pub HasLead : Judgements → List Ground → (List (List ℤ) → List ℤ) → Type 0
HasLead m cs ahead = (vs : List (List ℤ)) (n : ℤ) (k : List ℤ) (d : ℤ)
    → AreScales IsOpenScale cs vs n → IsOpenWeighting m k d → pos 0 ≤ℤ dot k (ahead vs)

-- the same over the closures
abbrev pub HasClosedLead : Judgements → List Ground → (List (List ℤ) → List ℤ) → Type 0
HasClosedLead m cs ahead = (vs : List (List ℤ)) (n : ℤ) (k : List ℤ) (d : ℤ)
    → AreScales IsClosureScale cs vs n → IsClosureWeighting m k d → pos 0 ≤ℤ dot k (ahead vs)

-- an option with the upper elements dominates one with the lower ones
abbrev pub Dominates : Judgements → List Ground → List ℕ → List ℕ → Type 0
Dominates m cs upper lower = HasLead m cs (differences upper lower)

-- so by leads
abbrev pub LeadsDominate : Judgements → List Ground → List (List ℤ) → Type 0
LeadsDominate m cs ls = HasLead m cs (leads_over ls)

-- there are open scales of each criterion, and an open weighting
pub record HaveOpenPoints (m : Judgements) (cs : List Ground) : Type 0 where
  pub scales : List (List ℤ)
  pub den : ℤ
  pub are_open : AreScales IsOpenScale cs scales den
  pub weights : List ℤ
  pub sum : ℤ
  pub is_open : IsOpenWeighting m weights sum

-- g over n is the least lead of a criterion over its closure
pub record IsLeastLead (c : Ground) (l : List ℤ) (g n : ℤ) : Type 0 where
  pub den_pos : pos 0 <ℤ n
  pub at : List ℤ
  pub over : ℤ
  pub among : IsClosureScale c.matrix c.refs at over
  pub attained : dot l at *ℤ n ≡ g *ℤ over
  pub none_below : (v : List ℤ) (k : ℤ) → IsClosureScale c.matrix c.refs v k → (g *ℤ k) ≤ℤ (dot l v *ℤ n)

-- the least leads of all criteria over one denominator
abbrev pub AreLeastLeads : List Ground → List (List ℤ) → List ℤ → ℤ → Type 0
AreLeastLeads [] [] [] n = pos 0 <ℤ n
AreLeastLeads [] ls gs n = ⊥
AreLeastLeads (c ∷ cs) [] gs n = ⊥
AreLeastLeads (c ∷ cs) (l ∷ ls) [] n = ⊥
AreLeastLeads (c ∷ cs) (l ∷ ls) (g ∷ gs) n = IsLeastLead c l g n × AreLeastLeads cs ls gs n

-- g over n is the least weighted sum of numbers over the closure of the weightings
pub record IsLeastSum (m : Judgements) (gs : List ℤ) (g n : ℤ) : Type 0 where
  pub den_pos : pos 0 <ℤ n
  pub at : List ℤ
  pub over : ℤ
  pub among : IsClosureWeighting m at over
  pub attained : dot at gs *ℤ n ≡ g *ℤ over
  pub none_below : (k : List ℤ) (d : ℤ) → IsClosureWeighting m k d → (g *ℤ d) ≤ℤ (dot k gs *ℤ n)
