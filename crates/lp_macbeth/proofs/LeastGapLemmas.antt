-- The least of some fractions is one of them, and none of them is below it.
use Rattle.std.specs.Cmp.{int_ranks}
use Rattle.std.specs.Ordering.{MatchOrdering, int_cmp}
use Rattle.std.specs.declared.cmp.Ordering.TheVariants.{Less, Equal, Greater}
use Rattle.std.proofs.Common.{◌≡◌, ◌⊎◌, inl, inr, zero, suc, ◌≤◌, ◌*ℤ◌, List, [], ◌∷◌, length, All, Contains, Ordering, refl, sym, subst, ◌∙◌, arith}
use Rattle.std.proofs.lemmas.List.Elements.{All-nil, All-cons, All-head, All-tail}
use Rattle.integers.specs.Fraction.{Fraction, IsFraction, AreFractions, SameFraction, FractionLess, FractionAtMost}
use Rattle.integers.proofs.FractionOrder.{FractionAtMost-refl, FractionAtMost-trans, FractionAtMost-from_less, FractionAtMost-from_same}
use Rattle.integers.proofs.Fractions.{SameFraction-sym}
use Rattle.lp_macbeth.specs.ClosedWeighting.{lesser, least_from, least_of, IsLeastOf}

-- one of the two, and at most each
record IsLesser (f g least : Fraction) : Type 0 where
  pub one : (least ≡ f) ⊎ (least ≡ g)
  pub first : FractionAtMost least f
  pub second : FractionAtMost least g

lesser_is : (f g : Fraction) → IsLesser f g (lesser f g)
lesser_is f g = by_order (int_cmp (g.num *ℤ f.den) (f.num *ℤ g.den)) (int_ranks (g.num *ℤ f.den) (f.num *ℤ g.den))
  where
    by_order : (o : Ordering) → MatchOrdering o (FractionLess g f) (SameFraction g f) (FractionLess f g)
        → IsLesser f g (elim o [ Less ↦ g | Equal ↦ f | Greater ↦ f ])
    by_order Less h = record { one = inr refl; first = FractionAtMost-from_less g f h; second = FractionAtMost-refl g }
    by_order Equal h = record { one = inl refl; first = FractionAtMost-refl f; second = FractionAtMost-from_same f g (SameFraction-sym g f h) }
    by_order Greater h = record { one = inl refl; first = FractionAtMost-refl f; second = FractionAtMost-from_less f g h }

IsFraction-lesser : (f g : Fraction) → IsFraction f → IsFraction g → IsFraction (lesser f g)
IsFraction-lesser f g pf pg = from (lesser f g) ((lesser_is f g).one)
  where
    from : (least : Fraction) → (least ≡ f) ⊎ (least ≡ g) → IsFraction least
    from least (inl e) = subst IsFraction (sym e) pf
    from least (inr e) = subst IsFraction (sym e) pg

-- the least of two or more is that of the lesser of the first two and the others
joined : (f g least : Fraction) (gs : List Fraction) → IsFraction f → IsFraction g → IsFraction least → IsLeastOf (lesser f g ∷ gs) least
    → IsLeastOf (f ∷ g ∷ gs) least
joined f g least gs pf pg pl h = record { among = place h.among; none_below = below }
  where
    both : IsLesser f g (lesser f g)
    both = lesser_is f g

    first : FractionAtMost least (lesser f g)
    first = All-head (FractionAtMost least) (lesser f g) gs h.none_below

    chosen : (s : Fraction) → (lesser f g ≡ f) ⊎ (lesser f g ≡ g) → lesser f g ≡ s → Contains (f ∷ g ∷ gs) s
    chosen s (inl e) is = (0, omega arith, sym e ∙ is)
    chosen s (inr e) is = (1, omega arith, sym e ∙ is)

    place : Contains (lesser f g ∷ gs) least → Contains (f ∷ g ∷ gs) least
    place (zero, l, e) = chosen least both.one e
    place (suc k, l, e) = (suc (suc k), omega (arith, l), e)

    below : All (FractionAtMost least) (f ∷ g ∷ gs)
    below =
        let pm = IsFraction-lesser f g pf pg in
        All-cons (FractionAtMost least) f (g ∷ gs) (FractionAtMost-trans least (lesser f g) f pl pm pf first both.first)
        (All-cons (FractionAtMost least) g gs (FractionAtMost-trans least (lesser f g) g pl pm pg first both.second)
        (All-tail (FractionAtMost least) (lesser f g) gs h.none_below))

least_from_is : (f : Fraction) (gs : List Fraction) → IsFraction f → AreFractions gs → IsFraction (least_from f gs) × IsLeastOf (f ∷ gs) (least_from f gs)
least_from_is f [] pf pg =
    (pf, record { among = (0, omega arith, refl); none_below = All-cons (FractionAtMost f) f [] (FractionAtMost-refl f) (All-nil (FractionAtMost f)) })
least_from_is f (g ∷ gs) pf pg =
    let first = All-head IsFraction g gs pg in
    let rest = least_from_is (lesser f g) gs (IsFraction-lesser f g pf first) (All-tail IsFraction g gs pg) in
    (rest.0, joined f g (least_from (lesser f g) gs) gs pf first rest.0 rest.1)

pub least_is : (fs : List Fraction) → 1 ≤ length fs → AreFractions fs → IsFraction (least_of fs) × IsLeastOf fs (least_of fs)
least_is [] some pf = absurd (omega (arith, some))
least_is (f ∷ fs) some pf = least_from_is f fs (All-head IsFraction f fs pf) (All-tail IsFraction f fs pf)
