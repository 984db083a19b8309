-- A pivot on the cells of a row.
use Prim.Native.Nat.{◌∣◌}
use lib.IntN.{*ℤ-zero}
use lib.ListN.{length-set}
use Rattle.std.proofs.Math.Nat.{div-le_self}
use Rattle.std.proofs.lemmas.List.Elements.{All-map, All-weaker}
use Rattle.std.proofs.lemmas.Nat.Gcd.{same_from_IsGcd}
use Rattle.std.proofs.lemmas.List.{length-map, get_or_default, get_or-set_other}
use Rattle.std.proofs.Common.{◌≡◌, ℕ, ◌<◌, length, get_or, set, List, ℤ, pos, ◌*ℤ◌, ◌≤ℤ◌, ◌<ℤ◌, unsigned_abs, int_div, All, ◌^◌, Result, refl, sym, ap, subst, subst₂, ◌∙◌, arith}
use Rattle.integers.specs.Divisibility.{IsGcdOf, IsGcdOfAll, common_divisor, divisor_of_all, quotients}
use Rattle.integers.specs.Vector.{row_step}
use Rattle.integers.proofs.Divisibility.{divisor_of_first, pos-unsigned_abs, positive_divisor, quotient_positive, unsigned_abs-int_div, IsGcdOfAll-divisor_of_all, IsGcdOfAll-quotients}
use Rattle.integers.proofs.Gcd.{IsGcd-common_divisor}
use Rattle.integers.proofs.Laws.{lin}
use Rattle.integers.proofs.Order.{mul_pos}
use Rattle.integers.proofs.VectorLaws.{get_or-row_step, length-row_step}
use Rattle.frac128.specs.Range.{IsInRange}
use Rattle.lex_simplex.specs.Steps.{CanExchange, DoneIff, ExchangeFits, ExchangeFitsBy, IsReducedRow, exchanged_row, exchanged_row_by, reduced_list}
use Rattle.lex_simplex.proofs.CellLists.Steps.{StepFits-all}
use Rattle.lex_simplex.specs.Turn.{shared_divisor}

-- the common divisor that code finds
pub shared_divisor-is : (a b z : ℤ) → IsGcdOf a b (unsigned_abs z) → pos 0 ≤ℤ z → z ≡ shared_divisor a b
shared_divisor-is a b z h s = sym (pos-unsigned_abs z s)
    ∙ ap pos (same_from_IsGcd (unsigned_abs a) (unsigned_abs b) (unsigned_abs z) (common_divisor (unsigned_abs a) (unsigned_abs b)) h
    (IsGcd-common_divisor (unsigned_abs a) (unsigned_abs b)))

-- the denominator of the row after the step
pub den_after : (p q : ℤ) (place : ℕ) (pivot row : List ℤ) → CanExchange p place pivot row
    → pos 0 <ℤ get_or (row_step p q (set row place (pos 0)) pivot) 0 (pos 0)
den_after p q place pivot row can =
    let is = get_or-row_step p q (set row place (pos 0)) pivot 0 in
    let first = get_or-set_other row place 0 (pos 0) (pos 0) (λ e. omega (arith, can.behind_den)) in
    let none : q *ℤ get_or pivot 0 (pos 0) ≡ pos 0 = ap (λ z. q *ℤ z) can.none_of_den ∙ *ℤ-zero q in
    let some : pos 0 <ℤ (p *ℤ get_or (set row place (pos 0)) 0 (pos 0)) =
    subst (λ z. pos 0 <ℤ (p *ℤ z)) (sym first) (mul_pos p (get_or row 0 (pos 0)) can.number_pos can.den_pos) in
    omega (arith, lin, is, none, some)

-- the row's multiple is positive
pub can_by : (number z p : ℤ) (place : ℕ) (pivot row : List ℤ) → CanExchange number place pivot row → p ≡ int_div number z
    → unsigned_abs z ∣ unsigned_abs number → pos 0 <ℤ z → CanExchange p place pivot row
can_by number z p place pivot row can is h s = record {
  same_length = can.same_length;
  behind_den = can.behind_den;
  within = can.within;
  number_pos = subst (λ w. pos 0 <ℤ w) (sym is) (quotient_positive number z can.number_pos s h);
  den_pos = can.den_pos;
  none_of_den = can.none_of_den;
  reduced = can.reduced;
}

-- the number that code reads at the place
pub own_is : (row : List ℤ) (place : ℕ) (own : ℤ) → place < length row → own ≡ get_or row place own → own ≡ get_or row place (pos 0)
own_is row place own h read = read ∙ get_or_default row place own (pos 0) h

-- a number divided by what the pivot row's number and the row's own share
pub factor-is : (a number : ℤ) (row : List ℤ) (place : ℕ) (own divisor factor : ℤ) → place < length row → own ≡ get_or row place own
    → IsGcdOf number own (unsigned_abs divisor) → pos 0 ≤ℤ divisor → factor ≡ int_div a divisor
    → factor ≡ int_div a (shared_divisor number (get_or row place (pos 0)))
factor-is a number row place own divisor factor h read gcd s is = is
    ∙ ap (int_div a) (shared_divisor-is number own divisor gcd s ∙ ap (shared_divisor number) (own_is row place own h read))

-- what is done with the factors that code finds is the exchange
pub done-by_factors : {A E : Type 0} (result : Result A E) (number : ℤ) (place : ℕ) (pivot row : List ℤ) (own divisor p q : ℤ) (new : List ℤ)
    → place < length row → own ≡ get_or row place own → IsGcdOf number own (unsigned_abs divisor) → pos 0 ≤ℤ divisor
    → p ≡ int_div number divisor → q ≡ int_div own divisor
    → DoneIff result (ExchangeFitsBy p q place pivot row) new (exchanged_row_by p q place pivot row)
    → DoneIff result (ExchangeFits number place pivot row) new (exchanged_row number place pivot row)
done-by_factors result number place pivot row own divisor p q new within read gcd sign p_is q_is done =
    let factor : ℤ → ℤ = λ a. int_div a (shared_divisor number (get_or row place (pos 0))) in
    let first : p ≡ factor number = factor-is number number row place own divisor p within read gcd sign p_is in
    let second : q ≡ factor (get_or row place (pos 0)) = factor-is own number row place own divisor q within read gcd sign q_is
    ∙ ap factor (own_is row place own within read) in
    subst₂ (λ p q. DoneIff result (ExchangeFitsBy p q place pivot row) new (exchanged_row_by p q place pivot row)) first second done

-- a pivot keeps the length of a row's cells
pub length-exchanged_row : (number : ℤ) (place : ℕ) (pivot row : List ℤ) → length row ≡ length pivot
    → length (exchanged_row number place pivot row) ≡ length row
length-exchanged_row number place pivot row same =
    let own : ℤ = get_or row place (pos 0) in
    let p : ℤ = int_div number (shared_divisor number own) in
    let q : ℤ = int_div own (shared_divisor number own) in
    let step : List ℤ = row_step p q (set row place (pos 0)) pivot in
    length-map step (λ x. int_div x (pos (divisor_of_all step)))
    ∙ omega (arith, length-row_step p q (set row place (pos 0)) pivot, length-set row place (pos 0), same)

-- ---- reduced rows

-- quotients of numbers in range are in range
quotients-in_range : (d : ℕ) (xs : List ℤ) → All IsInRange xs → All IsInRange (quotients xs (pos d))
quotients-in_range d xs h = All-map IsInRange (λ x. int_div x (pos d)) xs (All-weaker IsInRange (λ x. IsInRange (int_div x (pos d))) less_far xs h)
  where
    less_far : (x : ℤ) → IsInRange x → IsInRange (int_div x (pos d))
    less_far x f = let most = div-le_self (unsigned_abs x) d in subst (λ n. n < 2 ^ 127) (sym (unsigned_abs-int_div x d)) (omega (arith, most, f))

-- a list with a positive first number, divided by what all share, is reduced
pub reduced_list-is : (xs : List ℤ) → pos 0 <ℤ get_or xs 0 (pos 0) → All IsInRange xs → IsReducedRow (reduced_list xs)
reduced_list-is xs first h =
    let g : ℕ = divisor_of_all xs in
    let is : IsGcdOfAll xs g = IsGcdOfAll-divisor_of_all xs in
    let positive : pos 0 <ℤ pos g = divisor_of_first xs (pos g) first is (omega (arith, lin)) in
    record {
      in_range = quotients-in_range g xs h;
      no_divisor = IsGcdOfAll-quotients g xs (omega (arith, lin, positive)) is;
    }

-- a row after a pivot is
pub exchanged_row-reduced : (number : ℤ) (place : ℕ) (pivot row : List ℤ) → CanExchange number place pivot row → ExchangeFits number place pivot row
    → IsReducedRow (exchanged_row number place pivot row)
exchanged_row-reduced number place pivot row can fits =
    let own : ℤ = get_or row place (pos 0) in
    let g : ℤ = shared_divisor number own in
    let divides : unsigned_abs g ∣ unsigned_abs number = (IsGcd-common_divisor (unsigned_abs number) (unsigned_abs own)).0 in
    let positive : pos 0 <ℤ g = positive_divisor number g can.number_pos divides (omega (arith, lin)) in
    let p : ℤ = int_div number g in
    let q : ℤ = int_div own g in
    let step : List ℤ = row_step p q (set row place (pos 0)) pivot in
    let all = StepFits-all p q (set row place (pos 0)) pivot (length-set row place (pos 0) ∙ can.same_length) in
    reduced_list-is step (den_after p q place pivot row (can_by number g p place pivot row can refl divides positive)) (all.0 fits).2
