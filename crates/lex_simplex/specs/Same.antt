-- Equality of outcomes as a test, which is an equivalence.
use Rattle.std.specs.Prelude.{Bool, nat_eq, ℕ, ℤ, List, [], ◌∷◌}
use Rattle.std.specs.Cmp.{IsEquivalence, and_equiv, on_equiv, nat_eq_equiv, int_eq_equiv}
use Rattle.std.specs.Cmp.Lexicographic.{pointwise, lists_equiv}
use Rattle.std.specs.Ordering.{eq_of_both, int_eq, on}
use Rattle.integers.specs.Fraction.{Fraction}
use Rattle.frac128.specs.declared.problem.Cert.{Cert}
use Rattle.lex_simplex.specs.declared.outcome.Outcome.{Outcome}
use Rattle.lex_simplex.specs.declared.outcome.Outcome.TheVariants.{Least, Nothing}

-- the same numerator and the same denominator
abbrev pub is_same_fraction : Fraction → Fraction → Bool
is_same_fraction = eq_of_both (on (λ (f : Fraction). f.num) int_eq) (on (λ (f : Fraction). f.den) int_eq)

pub is_same_fraction-laws : IsEquivalence is_same_fraction
is_same_fraction-laws = and_equiv (on_equiv (λ (f : Fraction). f.num) int_eq_equiv) (on_equiv (λ (f : Fraction). f.den) int_eq_equiv)

-- the same row and the same multiplier
abbrev pub is_same_entry : ℕ × ℤ → ℕ × ℤ → Bool
is_same_entry = eq_of_both (on (λ (e : ℕ × ℤ). e.0) nat_eq) (on (λ (e : ℕ × ℤ). e.1) int_eq)

is_same_entry-laws : IsEquivalence is_same_entry
is_same_entry-laws = and_equiv (on_equiv (λ (e : ℕ × ℤ). e.0) nat_eq_equiv) (on_equiv (λ (e : ℕ × ℤ). e.1) int_eq_equiv)

-- the same denominator and the same entries
abbrev pub is_same_cert : Cert → Cert → Bool
is_same_cert = eq_of_both (on (λ (c : Cert). c.den) int_eq) (on (λ (c : Cert). c.on) (pointwise is_same_entry))

pub is_same_cert-laws : IsEquivalence is_same_cert
is_same_cert-laws = and_equiv
    (on_equiv (λ (c : Cert). c.den) int_eq_equiv)
    (on_equiv (λ (c : Cert). c.on) (lists_equiv is_same_entry-laws))

-- the point of an outcome, where it has one
abbrev pub point_of : Outcome → List Fraction
point_of (Least point value cert) = point
point_of (Nothing cert) = []

-- its value, where it has one
abbrev pub value_of : Outcome → List Fraction
value_of (Least point value cert) = value ∷ []
value_of (Nothing cert) = []

-- its certificate
abbrev pub cert_of : Outcome → Cert
cert_of (Least point value cert) = cert
cert_of (Nothing cert) = cert

-- the same value, point and certificate, or the same refutation
abbrev pub is_same_outcome : Outcome → Outcome → Bool
is_same_outcome = eq_of_both
    (on value_of (pointwise is_same_fraction))
    (eq_of_both (on point_of (pointwise is_same_fraction)) (on cert_of is_same_cert))

pub is_same_outcome-laws : IsEquivalence is_same_outcome
is_same_outcome-laws = and_equiv
    (on_equiv value_of (lists_equiv is_same_fraction-laws))
    (and_equiv (on_equiv point_of (lists_equiv is_same_fraction-laws)) (on_equiv cert_of is_same_cert-laws))
