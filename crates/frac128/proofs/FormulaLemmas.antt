-- What a formula gives, step by step: where a step gives a fraction, it is the number that the step is named for.
use Rattle.std.specs.Result.{IfOk}
use Rattle.std.proofs.Common.{◌≢◌, Result, Ok, Err, pos}
use Rattle.integers.specs.Fraction.{Fraction, IsFraction, SameFraction, fraction_sum, fraction_difference, fraction_product, fraction_quotient}
use Rattle.frac128.specs.Chain.{◌>>=◌}
use Rattle.frac128.specs.Checked.{IsExact, checked_sum, checked_difference, checked_product, checked_quotient, SumFits, DifferenceFits, ProductFits, QuotientFits}
use Rattle.frac128.specs.declared.number.TooWide.{TooWide}
use Rattle.frac128.proofs.Checked.{checked_sum-exact, checked_difference-exact, checked_product-exact, checked_quotient-exact}

-- what holds of the last step holds of the chain
pub IfOk-bind : {A B E : Type 0} (r : Result A E) (next : A → Result B E) (P : A → Type 0) (Q : B → Type 0) → IfOk r P → ((x : A) → P x → IfOk (next x) Q)
    → IfOk (r >>= next) Q
IfOk-bind (Ok x) next P Q h then = then x h
IfOk-bind (Err e) next P Q h then = tt

-- a positive denominator, and the value
abbrev pub IsValued : Fraction → Fraction → Type 0
IsValued value f = IsFraction f × SameFraction f value

valued : (r : Result Fraction TooWide) (Fits : Type 0) (value : Fraction) → IsExact r Fits value → IfOk r (IsValued value)
valued (Ok f) Fits value h = (h.1.0, h.2)
valued (Err e) Fits value h = tt

pub checked_sum-value : (f g : Fraction) → IsFraction f → IsFraction g → IfOk (checked_sum f g) (IsValued (fraction_sum f g))
checked_sum-value f g pf pg = valued (checked_sum f g) (SumFits f g) (fraction_sum f g) (checked_sum-exact f g pf pg)

pub checked_difference-value : (f g : Fraction) → IsFraction f → IsFraction g → IfOk (checked_difference f g) (IsValued (fraction_difference f g))
checked_difference-value f g pf pg = valued (checked_difference f g) (DifferenceFits f g) (fraction_difference f g) (checked_difference-exact f g pf pg)

pub checked_product-value : (f g : Fraction) → IsFraction f → IsFraction g → IfOk (checked_product f g) (IsValued (fraction_product f g))
checked_product-value f g pf pg = valued (checked_product f g) (ProductFits f g) (fraction_product f g) (checked_product-exact f g pf pg)

pub checked_quotient-value : (f g : Fraction) → IsFraction f → g.num ≢ pos 0 → IfOk (checked_quotient f g) (IsValued (fraction_quotient f g))
checked_quotient-value f g pf ng = valued (checked_quotient f g) (QuotientFits f g) (fraction_quotient f g) (checked_quotient-exact f g pf ng)
