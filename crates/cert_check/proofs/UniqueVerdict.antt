-- A check has one answer.
use Rattle.std.proofs.Common.{◌≡◌, ◌⊎◌, inl, inr, ◌<◌, refl, ap, subst}
use Rattle.std.specs.Prelude.{Result, Ok, Err}
use Rattle.std.proofs.lemmas.Bool.{cases_order}
use Rattle.frac128.specs.declared.number.TooWide.{TooWide}
use Rattle.cert_check.specs.declared.verdict.Place.{Place}
use Rattle.cert_check.specs.declared.verdict.Place.TheVariants.{Den, Entry, Column, Bound}
use Rattle.cert_check.specs.declared.verdict.Verdict.{Verdict}
use Rattle.cert_check.specs.declared.verdict.Verdict.TheVariants.{Holds, Fails}
use Rattle.cert_check.specs.Lines.{Check, IsBefore, Passes, Fits, IsReached, IsVerdict}

-- of two lines one is before the other, or they are one
order : (a b : Place) → (a ≡ b) ⊎ (IsBefore a b ⊎ IsBefore b a)
order Den Den = inl refl
order Den (Entry k) = inr (inl tt)
order Den (Column k) = inr (inl tt)
order Den Bound = inr (inl tt)
order (Entry i) Den = inr (inr tt)
order (Entry i) (Entry k) = step (cases_order i k)
  where
    step : (i ≡ k) ⊎ ((i < k) ⊎ (k < i)) → (Entry i ≡ Entry k) ⊎ (IsBefore (Entry i) (Entry k) ⊎ IsBefore (Entry k) (Entry i))
    step (inl same) = inl (ap (λ n. Entry n) same)
    step (inr less) = inr less
order (Entry i) (Column k) = inr (inl tt)
order (Entry i) Bound = inr (inl tt)
order (Column i) Den = inr (inr tt)
order (Column i) (Entry k) = inr (inr tt)
order (Column i) (Column k) = step (cases_order i k)
  where
    step : (i ≡ k) ⊎ ((i < k) ⊎ (k < i)) → (Column i ≡ Column k) ⊎ (IsBefore (Column i) (Column k) ⊎ IsBefore (Column k) (Column i))
    step (inl same) = inl (ap (λ n. Column n) same)
    step (inr less) = inr less
order (Column i) Bound = inr (inl tt)
order Bound Den = inr (inr tt)
order Bound (Entry k) = inr (inr tt)
order Bound (Column k) = inr (inr tt)
order Bound Bound = inl refl

-- a check comes to the first of two lines that don't pass, and not beyond
one_stop : (check : Check) (a b : Place) → IsReached check a → IsReached check b → ¬ Passes check a → ¬ Passes check b → a ≡ b
one_stop check a b to_a to_b not_a not_b = step (order a b)
  where
    step : (a ≡ b) ⊎ (IsBefore a b ⊎ IsBefore b a) → a ≡ b
    step (inl same) = same
    step (inr (inl before)) = absurd (not_a (to_b.passed a to_a.is_line before))
    step (inr (inr before)) = absurd (not_b (to_a.passed b to_b.is_line before))

-- the one answer
pub one_answer : (check : Check) (first second : Result Verdict TooWide) → IsVerdict check first → IsVerdict check second → first ≡ second
one_answer check (Ok Holds) (Ok Holds) h k = refl
one_answer check (Ok Holds) (Ok (Fails b)) h k = absurd (k.false (h b k.reached.is_line).0)
one_answer check (Ok Holds) (Err d) h k = absurd (k.1.too_wide (h k.0 k.1.reached.is_line).1)
one_answer check (Ok (Fails a)) (Ok Holds) h k = absurd (h.false (k a h.reached.is_line).0)
one_answer check (Ok (Fails a)) (Ok (Fails b)) h k = ap (λ place. Ok (Fails place))
    (one_stop check a b h.reached k.reached (λ p. h.false p.0) (λ p. k.false p.0))
one_answer check (Ok (Fails a)) (Err d) h k =
    let same = one_stop check a k.0 h.reached k.1.reached (λ p. h.false p.0) (λ p. k.1.too_wide p.1) in
    absurd (k.1.too_wide (subst (Fits check) same h.fits))
one_answer check (Err e) (Ok Holds) h k = absurd (h.1.too_wide (k h.0 h.1.reached.is_line).1)
one_answer check (Err e) (Ok (Fails b)) h k =
    let same = one_stop check b h.0 k.reached h.1.reached (λ p. k.false p.0) (λ p. h.1.too_wide p.1) in
    absurd (h.1.too_wide (subst (Fits check) same k.fits))
one_answer check (Err e) (Err d) h k = refl
