-- What `==` tells of outcomes: that the two are one.
use Rattle.std.specs.Bool.{Decides}
use Rattle.std.specs.Ordering.{int_eq}
use Rattle.std.specs.Cmp.{signed_Decides}
use Rattle.std.specs.Cmp.Lexicographic.{pointwise, pointwise_decides}
use Rattle.std.proofs.Common.{◌≡◌, Bool, ◌&&◌, List, [], ◌∷◌, refl, ap, arith}
use Rattle.integers.specs.Fraction.{Fraction}
use Rattle.frac128.specs.declared.problem.Cert.{Cert}
use Rattle.frac128.proofs.Equality.{both_Decides, cert_Decides}
use Rattle.lex_simplex.specs.Same.{is_same_fraction, is_same_cert, is_same_outcome, point_of, value_of, cert_of}
use Rattle.lex_simplex.specs.declared.outcome.Outcome.{Outcome}
use Rattle.lex_simplex.specs.declared.outcome.Outcome.TheVariants.{Least, Nothing}

pub fraction_Decides : (f g : Fraction) → Decides (is_same_fraction f g) (f ≡ g)
fraction_Decides f g =
    let h = both_Decides (int_eq f.num g.num) (int_eq f.den g.den) (f.num ≡ g.num) (f.den ≡ g.den) (signed_Decides f.num g.num) (signed_Decides f.den g.den) in (
      λ e. let p = h.0 e in λ i. record { num = p.0 i; den = p.1 i },
      λ e. h.1 (ap (λ (x : Fraction). x.num) e, ap (λ (x : Fraction). x.den) e),
    )

-- the parts of two outcomes are equal
abbrev Parts : Outcome → Outcome → Type 0
Parts a b = (value_of a ≡ value_of b) × ((point_of a ≡ point_of b) × (cert_of a ≡ cert_of b))

parts_Decides : (a b : Outcome) → Decides (is_same_outcome a b) (Parts a b)
parts_Decides a b =
    both_Decides
    (pointwise is_same_fraction (value_of a) (value_of b))
    (pointwise is_same_fraction (point_of a) (point_of b) && is_same_cert (cert_of a) (cert_of b))
    (value_of a ≡ value_of b)
    ((point_of a ≡ point_of b) × (cert_of a ≡ cert_of b))
    (pointwise_decides fraction_Decides (value_of a) (value_of b))
    (both_Decides (pointwise is_same_fraction (point_of a) (point_of b)) (is_same_cert (cert_of a) (cert_of b)) (point_of a ≡ point_of b)
    (cert_of a ≡ cert_of b) (pointwise_decides fraction_Decides (point_of a) (point_of b)) (cert_Decides (cert_of a) (cert_of b)))

-- an outcome is its parts
same_of_parts : (a b : Outcome) → Parts a b → a ≡ b
same_of_parts (Least p v c) (Least q w d) h =
    let value : v ≡ w = let e = h.0 in cc in
    let point = h.1.0 in
    let cert = h.1.1 in
    λ i. Least (point i) (value i) (cert i)
same_of_parts (Least p v c) (Nothing d) h = absurd (let e = h.0 in cc)
same_of_parts (Nothing c) (Least q w d) h = absurd (let e = h.0 in cc)
same_of_parts (Nothing c) (Nothing d) h = ap Nothing h.1.1

pub outcome_Decides : (a b : Outcome) → Decides (is_same_outcome a b) (a ≡ b)
outcome_Decides a b =
    let h = parts_Decides a b in
    (λ e. same_of_parts a b (h.0 e), λ e. h.1 (ap value_of e, (ap point_of e, ap cert_of e)))
