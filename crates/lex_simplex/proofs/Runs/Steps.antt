-- Turns one after the other, and the runs that they make, from any tableau on.
use Rattle.std.proofs.Common.{◌≡◌, ◌≢◌, ℕ, zero, suc, ◌<◌, Result, refl, sym, ap, subst, ◌∙◌, arith}
use Rattle.lex_simplex.proofs.Runs.ToGo.{turns_within}
use Rattle.lex_simplex.specs.Tableau.{Tableau}
use Rattle.lex_simplex.specs.Turn.{TurnResult, turn, next, ended, Reaches, IsRunFrom}
use Rattle.lex_simplex.specs.declared.end.End.{End}
use Rattle.lex_simplex.specs.declared.end.PivotFault.{PivotFault}

-- ---- turns, and then more

-- turns, and then one more
pub Reaches-append_one : (k : ℕ) (t s u : Tableau) → Reaches k t s → turn s ≡ next u → Reaches (suc k) t u
Reaches-append_one zero t s u h e = (u, ap turn h ∙ e, refl)
Reaches-append_one (suc k) t s u h e = (h.0, h.1, Reaches-append_one k h.0 s u h.2 e)

-- ---- one run

-- a next tableau is no end
next≢ended : (s : Tableau) (e : Result End PivotFault) → next s ≢ ended e
next≢ended s e h = cc

-- the next tableau is one
next_inj : (s u : Tableau) → next s ≡ next u → s ≡ u
next_inj s u h = cc

-- the end is one
ended_inj : (e f : Result End PivotFault) → ended e ≡ ended f → e ≡ f
ended_inj e f h = cc

-- turns that end from one tableau on are the same
runs_agree : (n m : ℕ) (t u v : Tableau) (e f : Result End PivotFault) → Reaches n t u → turn u ≡ ended e → Reaches m t v → turn v ≡ ended f
    → (e ≡ f) × (n ≡ m) × (u ≡ v)
runs_agree zero zero t u v e f h a g b = let same : u ≡ v = sym h ∙ g in (ended_inj e f (sym a ∙ ap turn same ∙ b), refl, same)
runs_agree zero (suc m) t u v e f h a g b = absurd (next≢ended g.0 e (sym g.1 ∙ ap turn h ∙ a))
runs_agree (suc n) zero t u v e f h a g b = absurd (next≢ended h.0 f (sym h.1 ∙ ap turn g ∙ b))
runs_agree (suc n) (suc m) t u v e f h a g b =
    let same : g.0 ≡ h.0 = next_inj g.0 h.0 (sym g.1 ∙ h.1) in
    let rest = runs_agree n m h.0 u v e f h.2 a (subst (λ w. Reaches m w v) same g.2) b in
    (rest.0, ap suc rest.1, rest.2)

-- from a tableau on there is one run
pub run_is_one : (t : Tableau) (e f : Result End PivotFault) (n m : ℕ) (a : IsRunFrom t e n) (b : IsRunFrom t f m) → (e ≡ f) × (n ≡ m) × (a.last ≡ b.last)
run_is_one t e f n m a b = runs_agree n m t a.last b.last e f a.turns a.ends b.turns b.ends

-- ---- turns within a bound

-- where fewer turns than a bound can be made, a run ends
pub run_within : (bound : ℕ) (t : Tableau) → ((n : ℕ) (s : Tableau) → Reaches n t s → n < bound)
    → (end : Result End PivotFault) × (n : ℕ) × IsRunFrom t end n
run_within zero t few = absurd (let none = few zero t refl in omega arith)
run_within (suc bound) t few = step (turn t) refl (λ u. run_within bound u)
  where
    step : (x : TurnResult) → turn t ≡ x → ((u : Tableau) → ((n : ℕ) (s : Tableau) → Reaches n u s → n < bound)
        → (end : Result End PivotFault) × (n : ℕ) × IsRunFrom u end n) → (end : Result End PivotFault) × (n : ℕ) × IsRunFrom t end n
    step (next u) e rest =
        let r = rest u (λ n s h. let less = few (suc n) s (u, e, h) in omega arith) in
        (r.0, suc r.1, record { last = r.2.last; turns = (u, e, r.2.turns); ends = r.2.ends })
    step (ended end) e rest = (end, 0, record { last = t; turns = refl; ends = e })

-- at the end of a run there is no turn
pub turns_within-ended : (m : ℕ) (t : Tableau) (end : Result End PivotFault) → turn t ≡ ended end → turns_within m t ≡ 0
turns_within-ended zero t end e = refl
turns_within-ended (suc m) t end e = ap (λ x. elim x [ next s ↦ suc (turns_within m s) | ended end ↦ 0 ]) e

-- a turn, and then those from the next tableau on
pub turns_within-next : (m : ℕ) (t s : Tableau) → turn t ≡ next s → turns_within (suc m) t ≡ suc (turns_within m s)
turns_within-next m t s e = ap (λ x. elim x [ next s ↦ suc (turns_within m s) | ended end ↦ 0 ]) e

-- so many turns can be made
pub turns_within-made : (m : ℕ) (t : Tableau) → (s : Tableau) × Reaches (turns_within m t) t s
turns_within-made zero t = (t, refl)
turns_within-made (suc m) t = step (turn t) refl (λ u. turns_within-made m u)
  where
    step : (x : TurnResult) → turn t ≡ x → ((u : Tableau) → (s : Tableau) × Reaches (turns_within m u) u s)
        → (s : Tableau) × Reaches (turns_within (suc m) t) t s
    step (next u) e rest = let r = rest u in (r.0, subst (λ n. Reaches n t r.0) (sym (turns_within-next m t u e)) (u, e, r.1))
    step (ended end) e rest = (t, subst (λ n. Reaches n t t) (sym (turns_within-ended (suc m) t end e)) refl)

-- where a run ends within the bound, a greater bound changes nothing
pub turns_within-more : (m : ℕ) (t : Tableau) → turns_within m t < m → turns_within (suc m) t ≡ turns_within m t
turns_within-more zero t h = absurd (omega arith)
turns_within-more (suc m) t h = step (turn t) refl (λ u. turns_within-more m u)
  where
    step : (x : TurnResult) → turn t ≡ x → ((u : Tableau) → turns_within m u < m → turns_within (suc m) u ≡ turns_within m u)
        → turns_within (suc (suc m)) t ≡ turns_within (suc m) t
    step (next u) e rest =
        let here = turns_within-next m t u e in
        let less : turns_within m u < m = omega arith in
        turns_within-next (suc m) t u e ∙ ap suc (rest u less) ∙ sym here
    step (ended end) e rest = turns_within-ended (suc (suc m)) t end e ∙ sym (turns_within-ended (suc m) t end e)
