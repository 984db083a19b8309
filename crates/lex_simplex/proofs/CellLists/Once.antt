-- Rows that a pivot takes once: what it does to them, in what place, and where no division is left to do.
use Prim.Native.Nat.{◌∣◌}
use lib.IntN.{*ℤ-zero}
use Rattle.std.proofs.Math.Nat.{div_self, zero-div}
use Rattle.std.proofs.Math.Seq.{get_or-append_seam, set-append_seam}
use Rattle.std.proofs.lemmas.List.{append_assoc, length-append, length-set, set-get_or, get_or-set_same, get_or-set_other}
use Rattle.std.proofs.lemmas.List.Elements.{All-head, All-tail, All-set, All-get_or, All-from_get_or}
use Rattle.std.proofs.lemmas.Bool.{cases_eq}
use Rattle.std.proofs.lemmas.Nat.Gcd.{dvd_trans}
use Rattle.std.proofs.Common.{◌≡◌, ◌↔◌, inl, inr, ℕ, suc, ◌<◌, length, get_or, set, All, List, [], ◌∷◌, ◌++◌, ℤ, pos, negsuc, ◌-ℤ◌, ◌*ℤ◌, ◌<ℤ◌, unsigned_abs, int_div, refl, sym, ap, ap₂, subst, subst₂, ◌∙◌, arith}
use Rattle.integers.specs.Divisibility.{IsGcdOfAll, DividesAll, divisor_of_all, quotients}
use Rattle.integers.specs.Vector.{dot, row_step}
use Rattle.integers.proofs.Divisibility.{DividesAll-nil, DividesAll-one, DividesAll-cons, pos-unsigned_abs, dvd-dot, same_from_IsGcdOfAll, IsGcdOfAll-divisor_of_all, quotients-one, unsigned_abs_pos}
use Rattle.integers.proofs.Order.{le_of_lt}
use Rattle.integers.proofs.Ring.{con, ◌⊕◌, ◌⊖◌, ◌⊗◌, ◌≗◌, ◌✶◌, ◌⇐◌, ring2, ring3, combine3}
use Rattle.integers.proofs.VectorLaws.{get_or-row_step, length-row_step}
use Rattle.frac128.specs.Entries.{entries_from}
use Rattle.frac128.specs.Range.{IsInRange}
use Rattle.frac128.proofs.EntriesLemmas.{entries_below, entries_cases}
use Rattle.frac128.proofs.Numbers.{in_range-zero}
use Rattle.lex_simplex.specs.Steps.{CanExchange, CellFits, ExchangeFits, ExchangeFitsBy, LessFits, StepFits, exchanged_row, exchanged_row_by, row_less, reduced_list}
use Rattle.lex_simplex.specs.Turn.{shared_divisor}

-- ---- a row whose own number is 0

-- a positive number and 0 share all of the number
shared_divisor-zero : (a : ℤ) → pos 0 <ℤ a → shared_divisor a (pos 0) ≡ a
shared_divisor-zero a p = pos-unsigned_abs a (le_of_lt (pos 0) a p)

-- divided by itself it is 1
int_div-self : (a : ℤ) → pos 0 <ℤ a → int_div a a ≡ pos 1
int_div-self (pos n) p = ap pos (div_self (unsigned_abs_pos (pos n) p))
int_div-self (negsuc n) p = absurd p.lt

-- 0 divided by it is 0
zero-int_div : (a : ℤ) → pos 0 <ℤ a → int_div (pos 0) a ≡ pos 0
zero-int_div (pos n) p = ap pos (zero-div n)
zero-int_div (negsuc n) p = absurd p.lt

-- one time a row and no time another is the row
row_step-none : (xs ys : List ℤ) → length xs ≡ length ys → row_step (pos 1) (pos 0) xs ys ≡ xs
row_step-none [] [] same = refl
row_step-none [] (y ∷ ys) same = absurd (omega arith)
row_step-none (x ∷ xs) [] same = absurd (omega arith)
row_step-none (x ∷ xs) (y ∷ ys) same =
    ap₂ (λ z zs. z ∷ zs) (ring2 (λ x y. con (pos 1) ⊗ x ⊖ con (pos 0) ⊗ y ≗ x) refl x y) (row_step-none xs ys (omega arith))

-- one time a number in range is in range
once_fits : (x : ℤ) → IsInRange x → IsInRange (pos 1 *ℤ x)
once_fits x h = subst IsInRange (ring2 (λ x y. x ≗ con (pos 1) ⊗ x) refl x x) h

-- and so is it less a multiple of 0, or no multiple of another
less_none_fits : (q x y : ℤ) → q *ℤ y ≡ pos 0 → IsInRange x → CellFits (pos 1) q x y
less_none_fits q x y none h = (
  once_fits x h,
  in_range-zero (q *ℤ y) none,
  subst IsInRange (combine3 (λ x y q. x ≗ con (pos 1) ⊗ x ⊖ q ⊗ y ⇐ con (pos 1) ✶ (q ⊗ y ≗ con (pos 0)) ∷ []) refl x y q none) h,
)

-- each number of it fits
StepFits-none : (xs ys : List ℤ) → All IsInRange xs → StepFits (pos 1) (pos 0) xs ys
StepFits-none [] ys h = tt
StepFits-none (x ∷ xs) [] h = tt
StepFits-none (x ∷ xs) (y ∷ ys) h =
    let none : pos 0 *ℤ y ≡ pos 0 = ring2 (λ y z. con (pos 0) ⊗ y ≗ con (pos 0)) refl y y in
    (less_none_fits (pos 0) x y none (All-head IsInRange x xs h), StepFits-none xs ys (All-tail IsInRange x xs h))

-- numbers without a common divisor are reduced
pub reduced_list-none : (xs : List ℤ) → IsGcdOfAll xs 1 → reduced_list xs ≡ xs
reduced_list-none xs h = ap (λ n. quotients xs (pos n)) (same_from_IsGcdOfAll xs (divisor_of_all xs) 1 (IsGcdOfAll-divisor_of_all xs) h) ∙ quotients-one xs

-- a row whose own number is 0 stays as it is
pub exchanged_row-none : (number : ℤ) (place : ℕ) (pivot row : List ℤ) → CanExchange number place pivot row → get_or row place (pos 0) ≡ pos 0
    → ExchangeFits number place pivot row × (row ≡ exchanged_row number place pivot row)
exchanged_row-none number place pivot row can none = (
  subst₂ (λ p q. ExchangeFitsBy p q place pivot row) (sym p_is) (sym q_is)
      (subst (λ zs. StepFits (pos 1) (pos 0) zs pivot) (sym kept) (StepFits-none row pivot can.reduced.in_range)),
  sym (ap₂ (λ p q. exchanged_row_by p q place pivot row) p_is q_is ∙ ap (λ zs. reduced_list (row_step (pos 1) (pos 0) zs pivot)) kept
      ∙ ap reduced_list (row_step-none row pivot can.same_length) ∙ reduced_list-none row can.reduced.no_divisor),
)
  where
    share : shared_divisor number (get_or row place (pos 0)) ≡ number
    share = ap (shared_divisor number) none ∙ shared_divisor-zero number can.number_pos

    p_is : int_div number (shared_divisor number (get_or row place (pos 0))) ≡ pos 1
    p_is = ap (int_div number) share ∙ int_div-self number can.number_pos

    q_is : int_div (get_or row place (pos 0)) (shared_divisor number (get_or row place (pos 0))) ≡ pos 0
    q_is = ap₂ int_div none share ∙ zero-int_div number can.number_pos

    kept : set row place (pos 0) ≡ row
    kept = ap (set row place) (sym none) ∙ set-get_or row place (pos 0)

-- ---- entries

-- a place behind a front
seam : (front : List ℤ) (z : ℤ) (xs : List ℤ) → (front ++ z ∷ []) ++ xs ≡ front ++ z ∷ xs
seam front z xs = append_assoc front (z ∷ []) xs

-- one number more in front
longer : (front : List ℤ) (z : ℤ) → length (front ++ z ∷ []) ≡ suc (length front)
longer front z = omega (arith, length-append front (z ∷ []))

-- the entries of a row, taken off another behind a front, are a row step
row_less-entries : (q : ℤ) (front xs ys : List ℤ) → length xs ≡ length ys
    → row_less q (entries_from (length front) ys) (front ++ xs) ≡ front ++ row_step (pos 1) q xs ys
row_less-entries q front [] [] same = refl
row_less-entries q front [] (y ∷ ys) same = absurd (omega arith)
row_less-entries q front (x ∷ xs) [] same = absurd (omega arith)
row_less-entries q front (x ∷ xs) (y ∷ ys) same = step (λ z. row_less-entries q (front ++ z ∷ []) xs ys (omega arith))
  where
    after : List ℤ
    after = row_step (pos 1) q xs ys

    more : List (ℕ × ℤ)
    more = entries_from (suc (length front)) ys

    changed : {w : ℤ} → w ≡ x → set (front ++ x ∷ xs) (length front) (w -ℤ q *ℤ y) ≡ front ++ (x -ℤ q *ℤ y) ∷ xs
    changed {w} is = set-append_seam front x xs (w -ℤ q *ℤ y) ∙ ap (λ v. front ++ (v -ℤ q *ℤ y) ∷ xs) is

    step : ((z : ℤ) → row_less q (entries_from (length (front ++ z ∷ [])) ys) ((front ++ z ∷ []) ++ xs) ≡ (front ++ z ∷ []) ++ after)
        → row_less q (entries_from (length front) (y ∷ ys)) (front ++ x ∷ xs) ≡ front ++ row_step (pos 1) q (x ∷ xs) (y ∷ ys)
    step ih =
        let rest : (z : ℤ) → row_less q more (front ++ z ∷ xs) ≡ front ++ z ∷ after = λ z.
        subst₂ (λ n zs. row_less q (entries_from n ys) zs ≡ front ++ z ∷ after) (longer front z) (seam front z xs) (ih z ∙ seam front z after) in
        entries_cases (λ on. row_less q on (front ++ x ∷ xs) ≡ front ++ row_step (pos 1) q (x ∷ xs) (y ∷ ys)) (length front) y ys
        (λ none. rest x ∙ ap (λ z. front ++ z ∷ after) (combine3 (λ x y q. x ≗ con (pos 1) ⊗ x ⊖ q ⊗ y ⇐ q ✶ (y ≗ con (pos 0)) ∷ []) refl x y q none))
        (ap (row_less q more) (changed (get_or-append_seam front x xs (pos 0)))
        ∙ rest (x -ℤ q *ℤ y)
        ∙ ap (λ z. front ++ z ∷ after) (ring3 (λ x y q. x ⊖ q ⊗ y ≗ con (pos 1) ⊗ x ⊖ q ⊗ y) refl x y q))

-- and they fit where it does, for a row in range
LessFits-entries : (q : ℤ) (front xs ys : List ℤ) → length xs ≡ length ys → All IsInRange xs
    → LessFits q (entries_from (length front) ys) (front ++ xs) ↔ StepFits (pos 1) q xs ys
LessFits-entries q front [] [] same h = (λ f. tt, λ f. tt)
LessFits-entries q front [] (y ∷ ys) same h = absurd (omega arith)
LessFits-entries q front (x ∷ xs) [] same h = absurd (omega arith)
LessFits-entries q front (x ∷ xs) (y ∷ ys) same h = step (λ z. LessFits-entries q (front ++ z ∷ []) xs ys (omega arith) (All-tail IsInRange x xs h))
  where
    here : IsInRange x
    here = All-head IsInRange x xs h

    more : List (ℕ × ℤ)
    more = entries_from (suc (length front)) ys

    is : get_or (front ++ x ∷ xs) (length front) (pos 0) ≡ x
    is = get_or-append_seam front x xs (pos 0)

    one : {w : ℤ} → w ≡ x → w -ℤ q *ℤ y ≡ pos 1 *ℤ x -ℤ q *ℤ y
    one {w} e = ap (λ v. v -ℤ q *ℤ y) e ∙ ring3 (λ x y q. x ⊖ q ⊗ y ≗ con (pos 1) ⊗ x ⊖ q ⊗ y) refl x y q

    changed : {w : ℤ} → w ≡ x → set (front ++ x ∷ xs) (length front) (w -ℤ q *ℤ y) ≡ front ++ (x -ℤ q *ℤ y) ∷ xs
    changed {w} e = set-append_seam front x xs (w -ℤ q *ℤ y) ∙ ap (λ v. front ++ (v -ℤ q *ℤ y) ∷ xs) e

    step : ((z : ℤ) → LessFits q (entries_from (length (front ++ z ∷ [])) ys) ((front ++ z ∷ []) ++ xs) ↔ StepFits (pos 1) q xs ys)
        → LessFits q (entries_from (length front) (y ∷ ys)) (front ++ x ∷ xs) ↔ StepFits (pos 1) q (x ∷ xs) (y ∷ ys)
    step ih =
        let rest : (z : ℤ) → LessFits q more (front ++ z ∷ xs) ↔ StepFits (pos 1) q xs ys = λ z.
        subst₂ (λ n zs. LessFits q (entries_from n ys) zs ↔ StepFits (pos 1) q xs ys) (longer front z) (seam front z xs) (ih z) in
        let z : ℤ = x -ℤ q *ℤ y in
        entries_cases (λ on. LessFits q on (front ++ x ∷ xs) ↔ StepFits (pos 1) q (x ∷ xs) (y ∷ ys)) (length front) y ys
        (λ none. let cell = less_none_fits q x y (ap (λ z. q *ℤ z) none ∙ *ℤ-zero q) here in (λ f. (cell, (rest x).0 f), λ f. (rest x).1 f.1)) (
          λ f. ((once_fits x here, f.0, subst IsInRange (one is) f.1), (rest z).0 (subst (LessFits q more) (changed is) f.2)),
          λ f. (f.0.1, subst IsInRange (sym (one is)) f.0.2, subst (LessFits q more) (sym (changed is)) ((rest z).1 f.1)),
        )

-- the entries taken off a row are the row step
pub row_less-is : (q : ℤ) (row pivot : List ℤ) → length row ≡ length pivot → row_less q (entries_from 0 pivot) row ≡ row_step (pos 1) q row pivot
row_less-is q row pivot same = row_less-entries q [] row pivot same

-- and fit where it does, for a row in range
pub LessFits-is : (q : ℤ) (row pivot : List ℤ) → length row ≡ length pivot → All IsInRange row
    → LessFits q (entries_from 0 pivot) row ↔ StepFits (pos 1) q row pivot
LessFits-is q row pivot same h = LessFits-entries q [] row pivot same h

-- ---- no divisor

-- a common divisor of a row and of q divides the row less q times another, from both sides
DividesAll-row_step : (d : ℕ) (q : ℤ) (xs ys : List ℤ) → length xs ≡ length ys → d ∣ unsigned_abs q → DividesAll d (row_step (pos 1) q xs ys)
    → DividesAll d xs
DividesAll-row_step d q [] [] same h k = DividesAll-nil d
DividesAll-row_step d q [] (y ∷ ys) same h k = absurd (omega arith)
DividesAll-row_step d q (x ∷ xs) [] same h k = absurd (omega arith)
DividesAll-row_step d q (x ∷ xs) (y ∷ ys) same h k =
    let parts = (DividesAll-cons d (pos 1 *ℤ x -ℤ q *ℤ y) (row_step (pos 1) q xs ys)).0 k in
    let two : List ℤ = (pos 1 *ℤ x -ℤ q *ℤ y) ∷ q ∷ [] in
    let both : DividesAll d two = (DividesAll-cons d (pos 1 *ℤ x -ℤ q *ℤ y) (q ∷ [])).1 (parts.0, (DividesAll-cons d q []).1 (h, DividesAll-nil d)) in
    let sum : dot two (pos 1 ∷ y ∷ []) ≡ x = ring3 (λ x y q. (con (pos 1) ⊗ x ⊖ q ⊗ y) ⊗ con (pos 1) ⊕ (q ⊗ y ⊕ con (pos 0)) ≗ x) refl x y q in
    (DividesAll-cons d x xs).1 (
      subst (λ z. d ∣ unsigned_abs z) sum (dvd-dot d two (pos 1 ∷ y ∷ []) both),
      DividesAll-row_step d q xs ys (omega arith) h parts.1,
    )

-- a row that is taken once has no common divisor after the pivot where the pivot row's denominator is 1
pub no_divisor-once : (q : ℤ) (place : ℕ) (pivot row : List ℤ) → CanExchange (pos 1) place pivot row
    → unsigned_abs q ∣ unsigned_abs (get_or row place (pos 0)) → get_or pivot place (pos 0) ≡ negsuc 0
    → IsGcdOfAll (row_step (pos 1) q (set row place (pos 0)) pivot) 1
no_divisor-once q place pivot row can divides den = (DividesAll-one new, λ d h. can.reduced.no_divisor.1 d (old d h))
  where
    zeroed : List ℤ
    zeroed = set row place (pos 0)

    new : List ℤ
    new = row_step (pos 1) q zeroed pivot

    same : length zeroed ≡ length pivot
    same = length-set row place (pos 0) ∙ can.same_length

    corner : get_or new place (pos 0) ≡ q
    corner = get_or-row_step (pos 1) q zeroed pivot place ∙ ap₂ (λ a b. pos 1 *ℤ a -ℤ q *ℤ b) (get_or-set_same row place (pos 0) (pos 0) can.within) den
        ∙ ring2 (λ q z. con (pos 1) ⊗ con (pos 0) ⊖ q ⊗ con (negsuc 0) ≗ q) refl q q

    divides_q : (d : ℕ) → DividesAll d new → d ∣ unsigned_abs q
    divides_q d h = subst (λ z. d ∣ unsigned_abs z) corner
        (All-get_or (λ x. d ∣ unsigned_abs x) new place (pos 0)
        (omega (arith, length-row_step (pos 1) q zeroed pivot, length-set row place (pos 0), can.within)) h)

    old : (d : ℕ) → DividesAll d new → DividesAll d row
    old d h =
        let rest : DividesAll d zeroed = DividesAll-row_step d q zeroed pivot same (divides_q d h) h in
        All-from_get_or (λ x. d ∣ unsigned_abs x) row (pos 0) (λ i below. elim (cases_eq i place) [
          | inl here ↦ subst (λ j. d ∣ unsigned_abs (get_or row j (pos 0))) (sym here) (dvd_trans d (divides_q d h) divides)
          | inr other ↦ subst (λ z. d ∣ unsigned_abs z) (get_or-set_other row place i (pos 0) (pos 0) other)
              (All-get_or (λ x. d ∣ unsigned_abs x) zeroed i (pos 0) (omega (arith, length-set row place (pos 0))) rest)
        ])

-- ---- as code does it

-- the entries' places are within the row
pub once_below : (place : ℕ) (pivot row : List ℤ) (entries : List (ℕ × ℤ)) → CanExchange (pos 1) place pivot row → entries ≡ entries_from 0 pivot
    → All (λ (e : ℕ × ℤ). e.0 < length (set row place (pos 0))) entries
once_below place pivot row entries can is =
    subst (All (λ (e : ℕ × ℤ). e.0 < length (set row place (pos 0)))) (sym is)
    (entries_below (length (set row place (pos 0))) 0 pivot (omega (arith, length-set row place (pos 0), can.same_length)))

-- taking them off fits where the pivot does
pub once-fits : (q : ℤ) (place : ℕ) (pivot row : List ℤ) (entries : List (ℕ × ℤ)) → CanExchange (pos 1) place pivot row → entries ≡ entries_from 0 pivot
    → LessFits q entries (set row place (pos 0)) ↔ ExchangeFitsBy (pos 1) q place pivot row
once-fits q place pivot row entries can is =
    subst (λ on. LessFits q on (set row place (pos 0)) ↔ ExchangeFitsBy (pos 1) q place pivot row) (sym is)
    (LessFits-is q (set row place (pos 0)) pivot (length-set row place (pos 0)
    ∙ can.same_length) (All-set IsInRange row place (pos 0) (in_range-zero (pos 0) refl) can.reduced.in_range))

-- and gives the row before its division
pub once-step : (q : ℤ) (place : ℕ) (pivot row : List ℤ) (entries : List (ℕ × ℤ)) → CanExchange (pos 1) place pivot row → entries ≡ entries_from 0 pivot
    → row_less q entries (set row place (pos 0)) ≡ row_step (pos 1) q (set row place (pos 0)) pivot
once-step q place pivot row entries can is =
    ap (λ on. row_less q on (set row place (pos 0))) is ∙ row_less-is q (set row place (pos 0)) pivot (length-set row place (pos 0) ∙ can.same_length)
