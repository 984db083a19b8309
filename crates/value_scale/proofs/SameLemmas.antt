-- What `==` tells of basic scales: that the two are one.
use Rattle.std.specs.Bool.{Decides}
use Rattle.std.specs.Cmp.Lexicographic.{pointwise, pointwise_decides}
use Rattle.std.proofs.Common.{◌≡◌, ap}
use Rattle.frac128.proofs.Equality.{both_Decides, cert_Decides}
use Rattle.lex_simplex.specs.Same.{is_same_fraction, is_same_cert}
use Rattle.lex_simplex.proofs.Ends.Same.{fraction_Decides}
use Rattle.value_scale.specs.Same.{scales_of, cert_of, is_same_basic}
use Rattle.value_scale.specs.declared.basic.Basic.{Basic}
use Rattle.value_scale.specs.declared.basic.Basic.TheVariants.{Scale, Inconsistent}

-- a basic scale is its parts
same_of_parts : (a b : Basic) → (scales_of a ≡ scales_of b) × (cert_of a ≡ cert_of b) → a ≡ b
same_of_parts (Scale v c) (Scale w d) h =
    let values : v ≡ w = let e = h.0 in cc in
    let cert = h.1 in
    λ i. Scale (values i) (cert i)
same_of_parts (Scale v c) (Inconsistent d) h = absurd (let e = h.0 in cc)
same_of_parts (Inconsistent c) (Scale w d) h = absurd (let e = h.0 in cc)
same_of_parts (Inconsistent c) (Inconsistent d) h = ap Inconsistent h.1

pub basic_Decides : (a b : Basic) → Decides (is_same_basic a b) (a ≡ b)
basic_Decides a b =
    let h = both_Decides (pointwise (pointwise is_same_fraction) (scales_of a) (scales_of b)) (is_same_cert (cert_of a) (cert_of b))
    (scales_of a ≡ scales_of b) (cert_of a ≡ cert_of b) (pointwise_decides (pointwise_decides fraction_Decides) (scales_of a) (scales_of b))
    (cert_Decides (cert_of a) (cert_of b)) in
    (λ e. same_of_parts a b (h.0 e), λ e. h.1 (ap scales_of e, ap cert_of e))
