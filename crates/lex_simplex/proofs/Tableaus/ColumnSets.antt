-- The set of a tableau's columns: it is a choice of as many quantities as there are columns, and it fixes the values.
use Rattle.std.specs.List.{list_any}
use Rattle.std.specs.List.Sorted.{IsStrictlyIncreasing}
use Rattle.std.specs.Prelude.{nat_eq}
use Rattle.std.proofs.lemmas.List.Elements.{All-filter, All-replicate, All-contains, All-contains_itself}
use Rattle.std.proofs.lemmas.List.Kept.{AllPairs-from_increasing, IsStrictlyIncreasing-filter}
use Rattle.std.proofs.Common.{◌≡◌, ◌≢◌, ◌↔◌, ℕ, ◌<◌, length, get_or, take, map, List, All, AllPairs, Contains, ℤ, pos, subst, refl, sym, ◌∙◌, arith, eqb-true}
use Rattle.std.proofs.lemmas.Map.Views.{Contains-from_any, list_any-from_Contains}
use Rattle.std.proofs.lemmas.Cmp.{nat_eq_equiv}
use Rattle.integers.specs.Counting.{numbers_from}
use Rattle.integers.specs.Fraction.{SameFractions}
use Rattle.integers.specs.Vector.{dot, AreZero}
use Rattle.integers.proofs.Counting.{distinct_at_most}
use Rattle.integers.proofs.Lists.{Contains-filter, Contains-from_filter}
use Rattle.integers.proofs.Numbers.{Contains-numbers_from, IsStrictlyIncreasing-numbers_from, numbers_from-below}
use Rattle.frac128.specs.Problem.{ProblemData}
use Rattle.lex_simplex.specs.Columns.{column_set}
use Rattle.lex_simplex.specs.Equations.{IsTableauOf, quantities, nonbasic}
use Rattle.lex_simplex.specs.Tableau.{Tableau, value_of, values}
use Rattle.lex_simplex.proofs.Tableaus.BasicPoint.{basic, columns_distinct, AllHold-same, AreZero-nonbasic, Holds-same}

-- the set has the quantities of the columns
pub column_set-Contains : (p : ProblemData) (t : Tableau) → IsTableauOf p t → (q : ℕ) → Contains (column_set t) q ↔ Contains t.columns q
column_set-Contains p t ok q = (
  λ c. Contains-from_any eqb-true q t.columns (Contains-from_filter (λ q. list_any (nat_eq q) t.columns) (numbers_from 0 (length t.rows)) q c).1,
  λ c. Contains-filter (λ q. list_any (nat_eq q) t.columns) (numbers_from 0 (length t.rows)) q
      (Contains-numbers_from 0 (length t.rows) q (omega arith) (let l = All-contains (λ c. c < length t.rows) t.columns q ok.columns_below c in
      omega arith)) (list_any-from_Contains nat_eq_equiv q t.columns c),
)

-- its quantities rise
column_set-rises : (t : Tableau) → IsStrictlyIncreasing (column_set t)
column_set-rises t = IsStrictlyIncreasing-filter (λ q. list_any (nat_eq q) t.columns) (numbers_from 0 (length t.rows))
    (IsStrictlyIncreasing-numbers_from 0 (length t.rows))

-- it has as many quantities as there are columns
length-column_set : (p : ProblemData) (t : Tableau) → IsTableauOf p t → length (column_set t) ≡ length t.columns
length-column_set p t ok =
    let apart : AllPairs (λ x y. x ≢ y) (column_set t) = λ i j d l m e. let less = AllPairs-from_increasing (column_set t) (column_set-rises t) i j d l m in
    omega arith in
    let at_most = distinct_at_most (column_set t) t.columns apart
    (λ i d l. (column_set-Contains p t ok (get_or (column_set t) i d)).0 (All-contains_itself (column_set t) i d l)) in
    let at_least = distinct_at_most t.columns (column_set t) (columns_distinct p t ok)
    (λ i d l. (column_set-Contains p t ok (get_or t.columns i d)).1 (All-contains_itself t.columns i d l)) in
    omega arith

-- the set is a choice of as many quantities as there are columns
pub column_set_is_choice : (p : ProblemData) (t : Tableau) → IsTableauOf p t
    → IsStrictlyIncreasing (column_set t) × All (λ q. q < length t.rows) (column_set t) × (length (column_set t) ≡ length t.columns)
column_set_is_choice p t ok = (
  column_set-rises t,
  All-filter (λ q. list_any (nat_eq q) t.columns) (λ q. q < length t.rows) (numbers_from 0 (length t.rows)) (λ i d l. let below =
      numbers_from-below 0 (length t.rows) i d l in omega arith),
  length-column_set p t ok,
)

-- tableaus of a problem with the same set of columns have the same values
pub same_columns_same_values : (p : ProblemData) (t s : Tableau) → IsTableauOf p t → IsTableauOf p s → column_set t ≡ column_set s
    → SameFractions (values t) (values s)
same_columns_same_values p t s ok good same =
    let point = basic p t ok in
    let x : List ℤ = point.0 in
    let n : ℤ = point.1 in
    let qs : List ℤ = quantities p x n in
    let first : AreZero (nonbasic t.columns qs) = subst AreZero (sym point.4) (All-replicate (λ u. u ≡ pos 0) p.vars (pos 0) refl) in
    let inside : All (Contains t.columns) s.columns = λ i d l. (column_set-Contains p t ok (get_or s.columns i d)).0
    (subst (λ qs. Contains qs (get_or s.columns i d)) (sym same)
    ((column_set-Contains p s good (get_or s.columns i d)).1 (All-contains_itself s.columns i d l))) in
    let second : AreZero (nonbasic s.columns qs) = AreZero-nonbasic t.columns s.columns qs inside first in
    let costs = Holds-same (dot p.cost x) (nonbasic t.columns qs) (nonbasic s.columns qs) n t.cost s.cost point.2 first second (ok.cost_holds x n point.3)
    (good.cost_holds x n point.3) in
    let numbers = AllHold-same (length t.columns) qs (nonbasic t.columns qs) (nonbasic s.columns qs) n t.rows s.rows point.2 first second
    (ok.rows_hold x n point.3) (good.rows_hold x n point.3) in (
      costs,
      subst (λ count. SameFractions (map value_of (take (length t.columns) t.rows)) (map value_of (take count s.rows))) (ok.one_column_each
          ∙ sym good.one_column_each) numbers,
    )
