-- Each option dominates itself, and what a dominated option dominates is dominated.
use Rattle.std.proofs.Common.{◌≡◌, ℕ, ℤ, pos, ◌+ℤ◌, ◌*ℤ◌, ◌≤ℤ◌, List, [], ◌∷◌, length, refl, sym, ap, ap₂, subst, ◌∙◌, arith}
use Rattle.integers.specs.Vector.{dot, add}
use Rattle.integers.proofs.Laws.{lin}
use Rattle.integers.proofs.Ring.{con, ◌⊕◌, ◌⊖◌, ◌⊗◌, ◌≗◌, ring2, ring3}
use Rattle.integers.proofs.Vector.{dot-add_right}
use Rattle.judgement_matrix.specs.Matrix.{Judgements}
use Rattle.judgement_matrix.specs.Scale.{value_at}
use Rattle.open_dominance.specs.Dominance.{Ground, differences, Dominates}

nothing_ahead : (k : List ℤ) (at : List ℕ) (vs : List (List ℤ)) → dot k (differences at at vs) ≡ pos 0
nothing_ahead [] at vs = refl
nothing_ahead (x ∷ k) [] vs = refl
nothing_ahead (x ∷ k) (a ∷ at) [] = refl
nothing_ahead (x ∷ k) (a ∷ at) (v ∷ vs) =
    ap₂ (λ y z. x *ℤ y +ℤ z) (ring2 (λ z x. z ⊖ z ≗ con (pos 0)) refl (value_at v a) x) (nothing_ahead k at vs)
    ∙ ring2 (λ x y. x ⊗ con (pos 0) ⊕ con (pos 0) ≗ con (pos 0)) refl x x

pub dominates_itself : (m : Judgements) (cs : List Ground) (at : List ℕ) → Dominates m cs at at
dominates_itself m cs at vs n k d scales weighting = subst (λ z. pos 0 ≤ℤ z) (sym (nothing_ahead k at vs)) (omega (arith, lin))

-- how far the first is above the last is how far it is above the one between, and that above the last
by_way_of : (first second third : List ℕ) (vs : List (List ℤ)) → length first ≡ length second → length second ≡ length third
    → differences first third vs ≡ add (differences first second vs) (differences second third vs)
by_way_of [] [] [] vs e f = refl
by_way_of [] [] (c ∷ third) vs e f = absurd (omega (arith, f))
by_way_of [] (b ∷ second) third vs e f = absurd (omega (arith, e))
by_way_of (a ∷ first) [] third vs e f = absurd (omega (arith, e))
by_way_of (a ∷ first) (b ∷ second) [] vs e f = absurd (omega (arith, f))
by_way_of (a ∷ first) (b ∷ second) (c ∷ third) [] e f = refl
by_way_of (a ∷ first) (b ∷ second) (c ∷ third) (v ∷ vs) e f =
    ap₂ (λ x xs. x ∷ xs) (ring3 (λ a b c. a ⊖ c ≗ (a ⊖ b) ⊕ (b ⊖ c)) refl (value_at v a) (value_at v b) (value_at v c))
    (by_way_of first second third vs (omega (arith, e)) (omega (arith, f)))

pub dominates_through : (m : Judgements) (cs : List Ground) (first second third : List ℕ) → length first ≡ length second → length second ≡ length third
    → Dominates m cs first second → Dominates m cs second third → Dominates m cs first third
dominates_through m cs first second third e f upper lower vs n k d scales weighting =
    let p = upper vs n k d scales weighting in
    let q = lower vs n k d scales weighting in
    let same = ap (λ z. dot k z) (by_way_of first second third vs e f) ∙ dot-add_right k (differences first second vs) (differences second third vs) in
    omega (arith, lin, p, q, same)
