-- Equality of basic scales as a test, which is an equivalence.
use Rattle.std.specs.Prelude.{Bool, List, [], ◌∷◌}
use Rattle.std.specs.Cmp.{IsEquivalence, and_equiv, on_equiv}
use Rattle.std.specs.Cmp.Lexicographic.{pointwise, lists_equiv}
use Rattle.std.specs.Ordering.{eq_of_both, on}
use Rattle.integers.specs.Fraction.{Fraction}
use Rattle.frac128.specs.declared.problem.Cert.{Cert}
use Rattle.lex_simplex.specs.Same.{is_same_fraction, is_same_fraction-laws, is_same_cert, is_same_cert-laws}
use Rattle.value_scale.specs.declared.basic.Basic.{Basic}
use Rattle.value_scale.specs.declared.basic.Basic.TheVariants.{Scale, Inconsistent}

-- the values, where there is a scale
abbrev pub scales_of : Basic → List (List Fraction)
scales_of (Scale values cert) = values ∷ []
scales_of (Inconsistent cert) = []

-- its certificate
abbrev pub cert_of : Basic → Cert
cert_of (Scale values cert) = cert
cert_of (Inconsistent cert) = cert

-- the same values, or both none, and the same certificate
abbrev pub is_same_basic : Basic → Basic → Bool
is_same_basic = eq_of_both (on scales_of (pointwise (pointwise is_same_fraction))) (on cert_of is_same_cert)

pub is_same_basic-laws : IsEquivalence is_same_basic
is_same_basic-laws = and_equiv (on_equiv scales_of (lists_equiv (lists_equiv is_same_fraction-laws))) (on_equiv cert_of is_same_cert-laws)
