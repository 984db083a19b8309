-- What weights are worth, from what the weights of a basic scale answer.
use Rattle.std.proofs.Common.{◌≡◌, ◌-◌, ℕ, suc, pos, Bool, true, false, cond, List, [], ◌∷◌, length, Result, Ok, Err, IsTrue, refl, ap, subst, arith}
use Rattle.std.specs.Prelude.{◌&&◌}
use Rattle.std.specs.List.{list_all}
use Rattle.std.specs.Ordering.{int_eq}
use Rattle.std.specs.Result.{is_err, IfOk}
use Rattle.std.proofs.lemmas.Bool.Decides.{Decides-int_eq}
use Rattle.std.proofs.lemmas.List.{length-take}
use Rattle.std.proofs.lemmas.List.Elements.{All-nil, All-cons, All-head, All-tail}
use Rattle.integers.specs.Fraction.{Fraction, fraction_of}
use Rattle.frac128.specs.Checked.{◌>>=◌, checked_quotient}
use Rattle.frac128.specs.declared.number.TooWide.{TooWide}
use Rattle.value_scale.specs.declared.basic.Basic.{Basic}
use Rattle.value_scale.specs.declared.basic.Basic.TheVariants.{Scale, Inconsistent}
use Rattle.swing_weights.specs.declared.weighing.WeightFault.{WeightFault}
use Rattle.model_core.specs.State.{ModelState}
use Rattle.session_state.specs.declared.subject.Subject.TheVariants.{Weighting}
use Rattle.swing_weights.specs.Weights.{swings, AreAllZero, AnswersBasic, AnswersValues, checked_total_from, checked_shares, checked_weights}
use Rattle.report_text.specs.declared.reply.Detail.TheVariants as detail
use Rattle.report_text.specs.declared.reply.Reply.TheVariants as reply
use Rattle.session_edits.specs.Refusals.{refused, or_too_wide}
use Rattle.session_edits.specs.Scales.{weights_of, values_of}
use Rattle.session_edits.specs.declared.refusal.TheConstants.{FLAT, TOO_WIDE}

is_zero : Fraction → Bool
is_zero f = int_eq f.num (pos 0)

-- both tests pass
pub both : (a b : Bool) → (a && b) ≡ true → (a ≡ true) × (b ≡ true)
both true true h = (refl, refl)
both true false h = absurd (cc)
both false b h = absurd (cc)

joined : (a b : Bool) → a ≡ true → b ≡ true → (a && b) ≡ true
joined true b h k = k
joined false b h k = absurd (cc)

pub all_zero : (values : List Fraction) → list_all (λ (f : Fraction). int_eq f.num (pos 0)) values ≡ true → AreAllZero values
all_zero [] h = All-nil (λ (f : Fraction). f.num ≡ pos 0)
all_zero (f ∷ fs) h =
    let k = both (int_eq f.num (pos 0)) (list_all (λ (g : Fraction). int_eq g.num (pos 0)) fs) h in
    All-cons (λ (g : Fraction). g.num ≡ pos 0) f fs ((Decides-int_eq f.num (pos 0)).0 k.0) (all_zero fs k.1)

pub are_zero : (values : List Fraction) → AreAllZero values → list_all (λ (f : Fraction). int_eq f.num (pos 0)) values ≡ true
are_zero [] h = refl
are_zero (f ∷ fs) h =
    joined (int_eq f.num (pos 0)) (list_all (λ (g : Fraction). int_eq g.num (pos 0)) fs)
    ((Decides-int_eq f.num (pos 0)).1 (All-head (λ (g : Fraction). g.num ≡ pos 0) f fs h))
    (are_zero fs (All-tail (λ (g : Fraction). g.num ≡ pos 0) f fs h))

not_flat : (b : Bool) → ¬ (b ≡ true) → b ≡ false
not_flat true h = absurd (h refl)
not_flat false h = refl

-- ---- the weights by the values

-- where not all are 0 the formula is worked
pub weights_worked : (values : List Fraction) → ¬ AreAllZero values → weights_of values ≡ or_too_wide (checked_weights values)
weights_worked values h =
    ap (λ b. cond b (Err (reply.Refused FLAT detail.Weighting)) (or_too_wide (checked_weights values)))
    (not_flat (list_all (λ (f : Fraction). int_eq f.num (pos 0)) values) (λ e. h (all_zero values e)))

pub weights_flat : (values : List Fraction) → AreAllZero values → weights_of values ≡ Err (reply.Refused FLAT detail.Weighting)
weights_flat values h =
    ap (λ b. cond b (Err (reply.Refused FLAT detail.Weighting)) (or_too_wide (checked_weights values))) (are_zero values h)

-- what is too wide is refused so
pub wide_refused : {A : Type 0} (r : Result A TooWide) → IsTrue (is_err r) → or_too_wide r ≡ Err (refused TOO_WIDE)
wide_refused (Ok x) h = let no = h in absurd (cc)
wide_refused (Err wide) h = refl

-- ---- how many there are

one_more : (share : Result Fraction TooWide) (others : Result (List Fraction) TooWide) (n : ℕ) → IfOk others (λ ys. length ys ≡ n)
    → IfOk (share >>= (λ y. others >>= (λ ys. Ok (y ∷ ys)))) (λ ys. length ys ≡ suc n)
one_more (Ok y) (Ok ys) n h = ap suc h
one_more (Ok y) (Err e) n h = tt
one_more (Err e) others n h = tt

each_share : (total : Fraction) (fs : List Fraction) → IfOk (checked_shares total fs) (λ ys. length ys ≡ length fs)
unfolding checked_shares
each_share total [] = refl
each_share total (f ∷ fs) = one_more (checked_quotient f total) (checked_shares total fs) (length fs) (each_share total fs)

behind : (total : Result Fraction TooWide) (fs : List Fraction) → IfOk (total >>= (λ t. checked_shares t fs)) (λ ys. length ys ≡ length fs)
behind (Ok t) fs = each_share t fs
behind (Err e) fs = tt

each_weight : (values : List Fraction) → IfOk (checked_weights values) (λ ys. length ys ≡ length (swings values))
unfolding checked_weights
each_weight values = behind (checked_total_from (fraction_of (pos 0)) (swings values)) (swings values)

-- a weight for each value but the last
pub weights_length : (values weights : List Fraction) → checked_weights values ≡ Ok weights → length weights ≡ length values - 1
weights_length values weights h =
    let each : length weights ≡ length (swings values) = subst (λ r. IfOk r (λ ys. length ys ≡ length (swings values))) h (each_weight values) in
    omega (arith, each, length-take (length values - 1) values)

-- what is answered for a basic scale whose values are these is answered for the values
pub of_basic : {V : Type 0} (items : V → List Fraction) (m : ModelState) (basic : Basic) (values : List Fraction) (answer : Result V WeightFault)
    → values_of m Weighting basic ≡ Ok values → AnswersBasic items basic answer → AnswersValues items values answer
of_basic items m (Scale own cert) values answer h is =
    let same : own ≡ values = cc in subst (λ v. AnswersValues items v answer) same is
of_basic items m (Inconsistent cert) values answer h is = absurd (let e = h in cc)
