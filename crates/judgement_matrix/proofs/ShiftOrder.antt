-- The order of shifts.
use Rattle.std.proofs.Common.{◌≡◌, ◌≢◌, ◌⊎◌, ◌↔◌, inl, inr, ℤ, List, [], ◌∷◌, ◌++◌, refl, sym, ap, ◌∙◌, Ordering, Less, Equal, Greater, int_cmp}
use Rattle.std.specs.Ordering.{MatchOrdering, ordering_then, ordering_reverse}
use Rattle.std.specs.Prelude.{◌<ℤ◌}
use Rattle.std.specs.Cmp.{int_cmp_total, int_cmp_is, int_ranks}
use Rattle.std.specs.Cmp.Lexicographic.{lists_total, slice_cmp}
use Rattle.std.proofs.lemmas.Map.Lookups.{exact_signed}
use Rattle.judgement_matrix.specs.Repair.{IsShiftBefore}

then_equal : (a b : Ordering) → ordering_then a b ≡ Equal → (a ≡ Equal) × (b ≡ Equal)
then_equal Less b e = absurd cc
then_equal Equal b e = (refl, e)
then_equal Greater b e = absurd cc

same_lists : (s t : List ℤ) → slice_cmp int_cmp s t ≡ Equal → s ≡ t
same_lists [] [] e = refl
same_lists [] (y ∷ t) e = absurd cc
same_lists (x ∷ s) [] e = absurd cc
same_lists (x ∷ s) (y ∷ t) e =
    let parts = then_equal (int_cmp x y) (slice_cmp int_cmp s t) e in
    let head : x ≡ y = exact_signed x y parts.0 in
    let rest : s ≡ t = same_lists s t parts.1 in
    cc

turned : (r : Ordering) → ordering_reverse r ≡ Greater → r ≡ Less
turned Less e = refl
turned Equal e = absurd cc
turned Greater e = absurd cc

by_order : (s t : List ℤ) (r : Ordering) → slice_cmp int_cmp s t ≡ r → IsShiftBefore s t ⊎ ((s ≡ t) ⊎ IsShiftBefore t s)
by_order s t Less e = inl e
by_order s t Equal e = inr (inl (same_lists s t e))
by_order s t Greater e = inr (inr (turned (slice_cmp int_cmp t s) (sym ((lists_total int_cmp_total).antisymm s t) ∙ e)))

-- of two shifts one stands before the other, or they are one
pub IsShiftBefore_total : (s t : List ℤ) → IsShiftBefore s t ⊎ ((s ≡ t) ⊎ IsShiftBefore t s)
IsShiftBefore_total s t = by_order s t (slice_cmp int_cmp s t) refl

pub IsShiftBefore_trans : (s t u : List ℤ) → IsShiftBefore s t → IsShiftBefore t u → IsShiftBefore s u
IsShiftBefore_trans = (lists_total int_cmp_total).trans

same_front : (front s t : List ℤ) → slice_cmp int_cmp (front ++ s) (front ++ t) ≡ slice_cmp int_cmp s t
same_front [] s t = refl
same_front (x ∷ front) s t =
    let equal : int_cmp x x ≡ Equal = sym (int_cmp_is x x Equal refl) in
    ap (λ o. ordering_then o (slice_cmp int_cmp (front ++ s) (front ++ t))) equal ∙ same_front front s t

less_or : (a b : ℤ) (r r' : Ordering) → a ≢ b → MatchOrdering r (a <ℤ b) (a ≡ b) (b <ℤ a) → (ordering_then r r' ≡ Less) ↔ (r ≡ Less)
less_or a b Less r' apart h = (λ e. refl, λ e. refl)
less_or a b Equal r' apart h = absurd (apart h)
less_or a b Greater r' apart h = (λ e. absurd cc, λ e. absurd cc)

less_is : (a b : ℤ) (r : Ordering) → r ≡ Less → MatchOrdering r (a <ℤ b) (a ≡ b) (b <ℤ a) → a <ℤ b
less_is a b Less e h = h
less_is a b Equal e h = absurd cc
less_is a b Greater e h = absurd cc

-- the first number that differs decides, the less one first
pub IsShiftBefore-first : (front s t : List ℤ) (a b : ℤ) → a ≢ b → IsShiftBefore (front ++ a ∷ s) (front ++ b ∷ t) ↔ (a <ℤ b)
IsShiftBefore-first front s t a b apart =
    let first = less_or a b (int_cmp a b) (slice_cmp int_cmp s t) apart (int_ranks a b) in
    let same = same_front front (a ∷ s) (b ∷ t) in (
      λ before. less_is a b (int_cmp a b) (first.0 (sym same ∙ before)) (int_ranks a b),
      λ less. same ∙ first.1 (sym (int_cmp_is a b Less less)),
    )
