-- What a formula gives is in lowest terms.
use Rattle.std.specs.Result.{IfOk}
use Rattle.std.proofs.Common.{◌≢◌, List, All, Result, Ok, Err, pos}
use Rattle.std.proofs.lemmas.List.Elements.{All-weaker}
use Rattle.integers.specs.Fraction.{Fraction, IsFraction, AreFractions, fraction_sum, fraction_product, fraction_quotient}
use Rattle.frac128.specs.Checked.{IsExact, SumFits, ProductFits, QuotientFits, checked_sum, checked_product, checked_quotient}
use Rattle.frac128.specs.Frac.{IsReduced}
use Rattle.frac128.specs.declared.number.TooWide.{TooWide}
use Rattle.frac128.proofs.Checked.{checked_sum-exact, checked_product-exact, checked_quotient-exact}

exact_reduced : (r : Result Fraction TooWide) (Fits : Type 0) (value : Fraction) → IsExact r Fits value → IfOk r IsReduced
exact_reduced (Ok f) Fits value h = h.1
exact_reduced (Err e) Fits value h = tt

pub checked_sum-reduced : (f g : Fraction) → IsFraction f → IsFraction g → IfOk (checked_sum f g) IsReduced
checked_sum-reduced f g pf pg = exact_reduced (checked_sum f g) (SumFits f g) (fraction_sum f g) (checked_sum-exact f g pf pg)

pub checked_product-reduced : (f g : Fraction) → IsFraction f → IsFraction g → IfOk (checked_product f g) IsReduced
checked_product-reduced f g pf pg = exact_reduced (checked_product f g) (ProductFits f g) (fraction_product f g) (checked_product-exact f g pf pg)

pub checked_quotient-reduced : (f g : Fraction) → IsFraction f → g.num ≢ pos 0 → IfOk (checked_quotient f g) IsReduced
checked_quotient-reduced f g pf ng = exact_reduced (checked_quotient f g) (QuotientFits f g) (fraction_quotient f g) (checked_quotient-exact f g pf ng)

-- so the denominators are positive
pub reduced_are_fractions : (fs : List Fraction) → All IsReduced fs → AreFractions fs
reduced_are_fractions fs h = All-weaker IsReduced IsFraction (λ f r. r.0) fs h
