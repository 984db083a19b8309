-- The tests that a turn makes, and what its choices are: the pivot row and the pivot column in words of order.
use Rattle.std.specs.Cmp.{int_ranks}
use Rattle.std.specs.Ordering.{MatchOrdering, int_cmp}
use Rattle.std.specs.List.{list_all}
use Rattle.std.proofs.lemmas.Bool.{false≢true, false_from_ne_true, cases_eq}
use Rattle.std.proofs.lemmas.Bool.Decides.{Decides-by_and, Decides-ltb, Decides-eqb, Decides-and, Decides-or, Decides-not}
use Rattle.std.proofs.lemmas.Int.{ints, by_lt_z}
use Rattle.std.proofs.lemmas.List.Elements.{All-weaker}
use Rattle.std.proofs.lemmas.List.Quantifiers.{position-Some}
use Rattle.std.proofs.Common.{◌≡◌, ◌≢◌, ◌⊎◌, inl, inr, ◌↔◌, ℕ, ◌^◌, ◌<◌, length, Bool, true, false, not, ◌||◌, nat_eq, int_lt, Decides, IsTrue, List, [], ◌∷◌, ℤ, pos, ◌*ℤ◌, ◌≤ℤ◌, ◌<ℤ◌, All, Some, None, Ordering, Less, Equal, Greater, unsigned_abs, refl, sym, arith}
use Rattle.integers.specs.Counting.{numbers_from}
use Rattle.integers.specs.Fraction.{Fraction, SameFraction, FractionLess, AreFractions}
use Rattle.integers.specs.Lexicographic.{LexLess}
use Rattle.integers.proofs.Fractions.{AreFractions-over}
use Rattle.integers.proofs.LexOrder.{LexLess_asym}
use Rattle.integers.proofs.Lists.{position-is, position-none}
use Rattle.integers.proofs.Numbers.{Decides-numbers, find-numbers_is, find-numbers_none, find-numbers_some}
use Rattle.integers.proofs.OrderTests.{int_lt-Decides, int_lt-false}
use Rattle.frac128.specs.Range.{IsInRange, is_in_range}
use Rattle.lex_simplex.specs.Pivot.{IsLeaving, IsEntering}
use Rattle.lex_simplex.specs.Tableau.{no_row, Tableau, TableRow, row_of, entry, column}
use Rattle.lex_simplex.specs.Turn.{leaving, entering, is_entering, ratios, comes_before}

-- ---- the tests

-- the test of order is the order
pub comes_before-LexLess : (fs gs : List Fraction) → IsTrue (comes_before fs gs) ↔ LexLess fs gs
comes_before-LexLess [] [] = (λ e. false≢true e, λ h. absurd h)
comes_before-LexLess [] (g ∷ gs) = (λ e. tt, λ h. refl)
comes_before-LexLess (f ∷ fs) [] = (λ e. false≢true e, λ h. absurd h)
comes_before-LexLess (f ∷ fs) (g ∷ gs) = step (int_cmp (f.num *ℤ g.den) (g.num *ℤ f.den)) (int_ranks (f.num *ℤ g.den) (g.num *ℤ f.den))
    (comes_before-LexLess fs gs)
  where
    step : (o : Ordering) → MatchOrdering o (FractionLess f g) (SameFraction f g) (FractionLess g f) → IsTrue (comes_before fs gs) ↔ LexLess fs gs
        → IsTrue (elim o [ Less ↦ true | Equal ↦ comes_before fs gs | Greater ↦ false ]) ↔ (FractionLess f g ⊎ SameFraction f g × LexLess fs gs)
    step Less r ih = (λ e. inl r, λ h. refl)
    step Equal r ih = (λ e. inr (r, ih.0 e), λ h. elim h [ inl l ↦ absurd (omega (arith, ints)) | inr k ↦ ih.1 k.1 ])
    step Greater r ih = (
      λ e. absurd (false≢true e),
      λ h. elim h [
        | inl l ↦ absurd (omega (arith, ints))
        | inr k ↦ absurd (let s = k.0 in
            omega (arith, ints))
      ],
    )

-- the test of one number's range
pub is_in_range-IsInRange : (z : ℤ) → Decides (is_in_range z) (IsInRange z)
is_in_range-IsInRange z = Decides-ltb (unsigned_abs z) (2 ^ 127)

-- the test of each number's range
pub in_range-test : (zs : List ℤ) → IsTrue (list_all is_in_range zs) ↔ All IsInRange zs
in_range-test zs = Decides-by_and is_in_range IsInRange (list_all is_in_range) is_in_range-IsInRange refl (λ _ _. refl) zs

-- ---- the pivot row

-- what fills a list of rows up, as `row_of` reads it
abbrev past : TableRow
past = no_row

-- whether the constant is negative
abbrev is_negative : TableRow → Bool
is_negative row = int_lt row.constant (pos 0)

-- the pivot row is the first quantity whose constant is negative
pub leaving-some : (t : Tableau) (r : ℕ) → (leaving t ≡ Some r) ↔ IsLeaving t r
leaving-some t r = (to, from)
  where
    to : leaving t ≡ Some r → IsLeaving t r
    to e =
        let h = position-Some is_negative t.rows r past e in
        record {
          below = h.0;
          negative = (int_lt-Decides (row_of t r).constant (pos 0)).0 h.1;
          first = λ i l. (int_lt-false (row_of t i).constant (pos 0)).0 (h.2 i l);
        }

    from : IsLeaving t r → leaving t ≡ Some r
    from h = position-is is_negative t.rows r past h.below ((int_lt-Decides (row_of t r).constant (pos 0)).1 h.negative)
        (λ i l. (int_lt-false (row_of t i).constant (pos 0)).1 (h.first i l))

-- there is none exactly where no constant is negative
pub leaving-none : (t : Tableau) → (leaving t ≡ None) ↔ All (λ (row : TableRow). pos 0 ≤ℤ row.constant) t.rows
leaving-none t =
    let none = position-none is_negative t.rows in (
      λ e. All-weaker (λ row. is_negative row ≡ false) (λ (row : TableRow). pos 0 ≤ℤ row.constant) (λ row. (int_lt-false row.constant (pos 0)).0) t.rows
          (none.0 e),
      λ h. none.1 (All-weaker (λ (row : TableRow). pos 0 ≤ℤ row.constant) (λ row. is_negative row ≡ false)
          (λ row. (int_lt-false row.constant (pos 0)).1) t.rows h),
    )

-- ---- the pivot column

-- the ratios have positive denominators
pub AreFractions-ratios : (t : Tableau) (r e : ℕ) → pos 0 <ℤ entry (row_of t r) e → AreFractions (ratios t r e)
AreFractions-ratios t r e p = AreFractions-over (column t e) (entry (row_of t r) e) p

-- e is not put off by the column f: they are one, or f has no positive number, or its ratios come after those of e
abbrev IsNotAfter : Tableau → ℕ → ℕ → ℕ → Type 0
IsNotAfter t r e f = ((f ≡ e) ⊎ ¬ (pos 0 <ℤ entry (row_of t r) f)) ⊎ LexLess (ratios t r e) (ratios t r f)

-- the test of that
abbrev is_not_after : Tableau → ℕ → ℕ → ℕ → Bool
is_not_after t r e f = nat_eq f e || not (int_lt (pos 0) (entry (row_of t r) f)) || comes_before (ratios t r e) (ratios t r f)

-- the test against one column
is_not_after-Decides : (t : Tableau) (r e f : ℕ) → Decides (is_not_after t r e f) (IsNotAfter t r e f)
is_not_after-Decides t r e f =
    let sign : Bool = int_lt (pos 0) (entry (row_of t r) f) in
    let positive : Decides sign (pos 0 <ℤ entry (row_of t r) f) = int_lt-Decides (pos 0) (entry (row_of t r) f) in
    Decides-or (nat_eq f e || not sign) (comes_before (ratios t r e) (ratios t r f))
    (Decides-or (nat_eq f e) (not sign) (Decides-eqb f e) (Decides-not sign positive)) (comes_before-LexLess (ratios t r e) (ratios t r f))

-- the test of a pivot column
is_entering-Decides : (t : Tableau) (r e : ℕ) → Decides (is_entering t r e) (pos 0 <ℤ entry (row_of t r) e
    × ((f : ℕ) → f < length t.columns → IsNotAfter t r e f))
is_entering-Decides t r e =
    Decides-and (int_lt (pos 0) (entry (row_of t r) e)) (list_all (is_not_after t r e) (numbers_from 0 (length t.columns)))
    (int_lt-Decides (pos 0) (entry (row_of t r) e)) (Decides-numbers (is_not_after t r e) (IsNotAfter t r e) (is_not_after-Decides t r e)
    (length t.columns))

-- a least column passes the test
passes : (t : Tableau) (r e : ℕ) → IsEntering t r e → is_entering t r e ≡ true
passes t r e h = (is_entering-Decides t r e).1 (h.positive, λ f below. one f below (cases_eq f e))
  where
    one : (f : ℕ) → f < length t.columns → (f ≡ e) ⊎ (f ≢ e) → IsNotAfter t r e f
    one f below (inl same) = inl (inl same)
    one f below (inr apart) = by_lt_z (pos 0) (entry (row_of t r) f) (λ p. inr (h.least f below apart p)) (λ n. inl (inr (λ p. omega (arith, ints))))

-- beside a least column no other passes
fails : (t : Tableau) (r e : ℕ) → IsEntering t r e → (f : ℕ) → f < length t.columns → f ≢ e → is_entering t r f ≡ false
fails t r e h f below apart = false_from_ne_true (is_entering t r f) (λ test. let both = (is_entering-Decides t r f).0 test in
    not_both both.0 (both.1 e h.below))
  where
    not_both : pos 0 <ℤ entry (row_of t r) f → IsNotAfter t r f e → ⊥
    not_both p (inl (inl same)) = apart (sym same)
    not_both p (inl (inr none)) = none h.positive
    not_both p (inr before) = LexLess_asym (ratios t r f) (ratios t r e) (AreFractions-ratios t r f p) (AreFractions-ratios t r e h.positive) before
        (h.least f below apart p)

-- the least column is the pivot column
pub entering-is : (t : Tableau) (r e : ℕ) → IsEntering t r e → entering t r ≡ Some e
entering-is t r e h = find-numbers_is (is_entering t r) 0 (length t.columns) e (omega arith) (omega (arith, h.below)) (passes t r e h)
    (λ f l. fails t r e h f (omega arith))

-- the pivot column is the least
pub is-entering : (t : Tableau) (r e : ℕ) → entering t r ≡ Some e → IsEntering t r e
is-entering t r e h =
    let found = find-numbers_some (is_entering t r) 0 (length t.columns) e h in
    let both = (is_entering-Decides t r e).0 found.2 in
    record {
      below = omega (arith, found.1);
      positive = both.0;
      least = λ f below apart p. before f apart p (both.1 f below);
    }
  where
    before : (f : ℕ) → f ≢ e → pos 0 <ℤ entry (row_of t r) f → IsNotAfter t r e f → LexLess (ratios t r e) (ratios t r f)
    before f apart p (inl (inl same)) = absurd (apart same)
    before f apart p (inl (inr none)) = absurd (none p)
    before f apart p (inr b) = b

-- where no number of the row is positive there is no pivot column
pub entering-none : (t : Tableau) (r : ℕ) → ((f : ℕ) → f < length t.columns → entry (row_of t r) f ≤ℤ pos 0) → entering t r ≡ None
entering-none t r h = find-numbers_none (is_entering t r) 0 (length t.columns)
    (λ f l. false_from_ne_true (is_entering t r f) (λ test. not_both f (h f (omega arith)) ((is_entering-Decides t r f).0 test).0))
  where
    not_both : (f : ℕ) → entry (row_of t r) f ≤ℤ pos 0 → pos 0 <ℤ entry (row_of t r) f → ⊥
    not_both f n p = omega (arith, ints)
