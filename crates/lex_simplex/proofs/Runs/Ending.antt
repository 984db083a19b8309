-- Runs of turns: each tableau on the way is one of the problem, no set of columns comes twice, and so each run ends.
use Rattle.std.specs.List.Sorted.{IsStrictlyIncreasing}
use Rattle.std.proofs.lemmas.List.Elements.{All-nil, All-cons}
use Rattle.std.proofs.lemmas.List.Kept.{AllPairs-cons}
use Rattle.std.proofs.Common.{◌≡◌, ◌≢◌, ℕ, zero, suc, ◌<◌, length, List, [], ◌∷◌, All, AllPairs, Result, refl, sym, ap, ap₂, subst, ◌∙◌, arith}
use Rattle.integers.specs.Counting.{choose}
use Rattle.integers.specs.Lexicographic.{LexLess}
use Rattle.integers.proofs.LexOrder.{LexLess-trans, LexLess-not_same}
use Rattle.integers.proofs.Counting.{distinct_choices_at_most}
use Rattle.frac128.specs.Problem.{ProblemData, IsProblem}
use Rattle.lex_simplex.proofs.Runs.ToGo.{choices_of, turns_within, turns_to_go}
use Rattle.lex_simplex.specs.Columns.{column_set}
use Rattle.lex_simplex.specs.Equations.{IsTableauOf}
use Rattle.lex_simplex.specs.Tableau.{Tableau, start, values}
use Rattle.lex_simplex.specs.Turn.{turn, next, Reaches, IsRunFrom, IsRun}
use Rattle.lex_simplex.specs.declared.end.End.{End}
use Rattle.lex_simplex.specs.declared.end.PivotFault.{PivotFault}
use Rattle.lex_simplex.proofs.Tableaus.ColumnSets.{column_set_is_choice, same_columns_same_values}
use Rattle.lex_simplex.proofs.Pivots.Kept.{pivoted_is}
use Rattle.lex_simplex.proofs.Runs.Steps.{Reaches-append_one, run_is_one, run_within}
use Rattle.lex_simplex.proofs.Runs.Steps.{turns_within-next, turns_within-made, turns_within-more}
use Rattle.lex_simplex.proofs.Tableaus.Start.{start_is}
use Rattle.lex_simplex.proofs.Runs.OneTurn.{turn_next}
use Rattle.lex_simplex.proofs.Pivots.Values.{AreFractions-values, values_rise}

-- ---- tableaus of the problem

-- a turn leads to a tableau of the problem
pub next_is : (p : ProblemData) (t s : Tableau) → IsTableauOf p t → turn t ≡ next s → IsTableauOf p s
next_is p t s ok e = let r = turn_next t s e in subst (IsTableauOf p) (sym r.4) (pivoted_is p t r.0 r.1 ok r.2.below r.3)

-- turns lead to one
pub turns_are : (p : ProblemData) (n : ℕ) (t s : Tableau) → IsTableauOf p t → Reaches n t s → IsTableauOf p s
turns_are p zero t s ok h = subst (IsTableauOf p) h ok
turns_are p (suc n) t s ok h = turns_are p n h.0 s (next_is p t h.0 ok h.1) h.2

-- ---- the values rise

-- a turn takes the values up
pub next_rises : (p : ProblemData) (t s : Tableau) → IsTableauOf p t → turn t ≡ next s → LexLess (values t) (values s)
next_rises p t s ok e = let r = turn_next t s e in subst (λ u. LexLess (values t) (values u)) (sym r.4)
    (values_rise p t r.0 r.1 ok r.2.below r.3.below r.2.negative r.3.positive)

-- turns, at least one, take them up
pub turns_rise : (p : ProblemData) (n : ℕ) (t s : Tableau) → IsTableauOf p t → Reaches (suc n) t s → LexLess (values t) (values s)
turns_rise p zero t s ok h = subst (λ u. LexLess (values t) (values u)) h.2 (next_rises p t h.0 ok h.1)
turns_rise p (suc n) t s ok h =
    let after = next_is p t h.0 ok h.1 in
    LexLess-trans (values t) (values h.0) (values s) (AreFractions-values p t ok) (AreFractions-values p h.0 after)
    (AreFractions-values p s (turns_are p (suc n) h.0 s after h.2)) (next_rises p t h.0 ok h.1) (turns_rise p n h.0 s after h.2)

-- so they change the set of columns
pub columns_change : (p : ProblemData) (n : ℕ) (t s : Tableau) → IsTableauOf p t → Reaches (suc n) t s → column_set t ≢ column_set s
columns_change p n t s ok h same =
    let end = turns_are p (suc n) t s ok h in
    LexLess-not_same (values t) (values s) (AreFractions-values p t ok) (AreFractions-values p s end) (turns_rise p n t s ok h)
    (same_columns_same_values p t s ok end same)

-- ---- a bound on the turns

-- as many columns as variables, and as many rows as quantities: the choices are the same for each tableau of the problem
pub choices_same : (p : ProblemData) (t s : Tableau) → IsTableauOf p t → IsTableauOf p s → choices_of t ≡ choices_of s
choices_same p t s ok good = ap₂ choose (ok.one_row_each ∙ sym good.one_row_each) (ok.one_column_each ∙ sym good.one_column_each)

-- the sets of columns on the way
sets_of : (n : ℕ) (t s : Tableau) → Reaches n t s → List (List ℕ)
sets_of zero t s h = column_set t ∷ []
sets_of (suc n) t s h = column_set t ∷ sets_of n h.0 s h.2

-- one more than turns
length-sets_of : (n : ℕ) (t s : Tableau) (h : Reaches n t s) → length (sets_of n t s h) ≡ suc n
unfolding sets_of
length-sets_of zero t s h = refl
length-sets_of (suc n) t s h = ap suc (length-sets_of n h.0 s h.2)

-- what holds of each tableau's set of columns holds of the sets on the way
All-sets_of : (p : ProblemData) (P : List ℕ → Type 0) → ((t : Tableau) → IsTableauOf p t → P (column_set t)) → (n : ℕ) (t s : Tableau) (h : Reaches n t s)
    → IsTableauOf p t → All P (sets_of n t s h)
unfolding sets_of
All-sets_of p P each zero t s h ok = All-cons P (column_set t) [] (each t ok) (All-nil P)
All-sets_of p P each (suc n) t s h ok = All-cons P (column_set t) (sets_of n h.0 s h.2) (each t ok)
    (All-sets_of p P each n h.0 s h.2 (next_is p t h.0 ok h.1))

-- the set of a tableau before is apart from those on the way
sets_of-later : (p : ProblemData) (m : ℕ) (w : Tableau) → IsTableauOf p w → (n : ℕ) (t s : Tableau) (h : Reaches n t s) → Reaches (suc m) w t
    → All (λ set. column_set w ≢ set) (sets_of n t s h)
unfolding sets_of
sets_of-later p m w ok zero t s h before = All-cons (λ set. column_set w ≢ set) (column_set t) [] (columns_change p m w t ok before)
    (All-nil (λ set. column_set w ≢ set))
sets_of-later p m w ok (suc n) t s h before = All-cons (λ set. column_set w ≢ set) (column_set t) (sets_of n h.0 s h.2) (columns_change p m w t ok before)
    (sets_of-later p (suc m) w ok n h.0 s h.2 (Reaches-append_one (suc m) w t h.0 before h.1))

-- the sets on the way are apart
sets_of-apart : (p : ProblemData) (n : ℕ) (t s : Tableau) (h : Reaches n t s) → IsTableauOf p t → AllPairs (λ x y. x ≢ y) (sets_of n t s h)
unfolding sets_of
sets_of-apart p zero t s h ok = λ i j d l m e. absurd (omega arith)
sets_of-apart p (suc n) t s h ok = AllPairs-cons (λ x y. x ≢ y) (column_set t) (sets_of n h.0 s h.2)
    (sets_of-later p zero t ok n h.0 s h.2 (h.0, h.1, refl)) (sets_of-apart p n h.0 s h.2 (next_is p t h.0 ok h.1))

-- there are fewer turns than ways to choose the columns
pub turns_are_few : (p : ProblemData) (n : ℕ) (t s : Tableau) → IsTableauOf p t → Reaches n t s → n < choices_of t
turns_are_few p n t s ok h =
    let count : ℕ = length t.rows in
    let each : (u : Tableau) → IsTableauOf p u → IsStrictlyIncreasing (column_set u) × All (λ q. q < count) (column_set u)
    × (length (column_set u) ≡ length t.columns) = λ u good. let c = column_set_is_choice p u good in (
      c.0,
      subst (λ m. All (λ q. q < m) (column_set u)) (good.one_row_each ∙ sym ok.one_row_each) c.1,
      c.2 ∙ good.one_column_each
          ∙ sym ok.one_column_each,
    ) in
    let few = distinct_choices_at_most count (length t.columns) (sets_of n t s h) (sets_of-apart p n t s h ok)
    (All-sets_of p (λ set. IsStrictlyIncreasing set × All (λ q. q < count) set × (length set ≡ length t.columns)) each n t s h ok) in
    omega (arith, length-sets_of n t s h)

-- ---- the turns to go

-- the turns from a tableau on are one more than those from the next one on
pub turns_to_go-next : (p : ProblemData) (t s : Tableau) → IsTableauOf p t → turn t ≡ next s → turns_to_go t ≡ suc (turns_to_go s)
turns_to_go-next p t s ok e = step (choices_of t) refl
  where
    step : (n : ℕ) → choices_of t ≡ n → turns_within (choices_of t) t ≡ suc (turns_within (choices_of s) s)
    step zero c = absurd (let few = turns_are_few p zero t t ok refl in omega arith)
    step (suc m) c =
        let made = turns_within-made m s in
        let few : suc (turns_within m s) < choices_of t = turns_are_few p (suc (turns_within m s)) t made.0 ok (s, e, made.1) in
        let less : turns_within m s < m = omega arith in
        let same : choices_of s ≡ suc m = sym (choices_same p t s ok (next_is p t s ok e)) ∙ c in
        ap (λ n. turns_within n t) c ∙ turns_within-next m t s e ∙ ap suc (sym (turns_within-more m s less) ∙ ap (λ n. turns_within n s) (sym same))

-- they fall with each turn
pub turns_to_go_falls : (p : ProblemData) (t s : Tableau) → IsTableauOf p t → turn t ≡ next s → turns_to_go s < turns_to_go t
turns_to_go_falls p t s ok e = let n = turns_to_go-next p t s ok e in omega arith

-- ---- how a run ends

-- each run ends
pub run_exists : (p : ProblemData) (t : Tableau) → IsTableauOf p t → (end : Result End PivotFault) × (n : ℕ) × IsRunFrom t end n
run_exists p t ok = run_within (choices_of t) t (λ n s h. turns_are_few p n t s ok h)

-- ---- runs of a problem

-- turns from the start lead to tableaus of the problem
pub start_turns_are : (p : ProblemData) (n : ℕ) (t : Tableau) → IsProblem p → Reaches n (start p) t → IsTableauOf p t
start_turns_are p n t ok h = turns_are p n (start p) t (start_is p ok) h

-- each problem has a run
pub problem_run_exists : (p : ProblemData) → IsProblem p → (end : Result End PivotFault) × (n : ℕ) × IsRun p end n
problem_run_exists p ok = run_exists p (start p) (start_is p ok)

-- and only one
pub problem_run_is_one : (p : ProblemData) (e f : Result End PivotFault) (n m : ℕ) → IsRun p e n → IsRun p f m → (e ≡ f) × (n ≡ m)
problem_run_is_one p e f n m a b = let r = run_is_one (start p) e f n m a b in (r.0, r.1)
