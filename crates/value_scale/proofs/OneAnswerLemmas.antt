-- A matrix has one answer: what was found for it is found again, but for the multipliers that prove it.
use Rattle.std.proofs.Common.{◌≡◌, inl, inr, ◌-◌, ℕ, take, List, [], ◌∷◌, All, Result, Ok, Err, refl, sym, ap, ap₂, subst, ◌∙◌}
use Rattle.std.proofs.lemmas.List.Elements.{All-head, All-tail, All-weaker}
use Rattle.integers.specs.Fraction.{Fraction, IsFraction, AreFractions, SameFractions, over}
use Rattle.integers.proofs.Fractions.{SameFractions-sym, SameFractions-trans, AreFractions-over}
use Rattle.frac128.specs.Frac.{IsReduced}
use Rattle.frac128.specs.Problem.{ProblemData}
use Rattle.frac128.specs.declared.number.TooWide.{TooWide as Wide}
use Rattle.frac128.proofs.Checked.{reduced_unique}
use Rattle.frac128.proofs.ProblemLaws.{least_unique}
use Rattle.judgement_matrix.specs.Matrix.{Judgements}
use Rattle.lex_simplex.specs.Answer.{IsLeastPoint}
use Rattle.lex_simplex.specs.Count.{capped_sum}
use Rattle.lex_simplex.specs.declared.end.End.{End}
use Rattle.lex_simplex.specs.declared.end.PivotFault.{PivotFault}
use Rattle.lex_simplex.proofs.Runs.Ending.{problem_run_is_one}
use Rattle.lp_macbeth.specs.Threshold.{threshold_problem_of}
use Rattle.value_scale.specs.Basic.{AreGapSums, EndsSo, IsFoundBy, IsFound, IsAnswered, TellTheSame}
use Rattle.value_scale.specs.GapSums.{checked_values}
use Rattle.value_scale.specs.declared.basic.Basic.{Basic}
use Rattle.value_scale.specs.declared.basic.Basic.TheVariants.{Scale, Inconsistent}
use Rattle.value_scale.specs.declared.fault.ScaleFault.{ScaleFault}
use Rattle.value_scale.specs.declared.fault.ScaleFault.TheVariants as fault

-- ---- the least point in lowest terms is one

-- reduced fractions that are the same numbers are one list
same_reduced : (fs gs : List Fraction) → All IsReduced fs → All IsReduced gs → SameFractions fs gs → fs ≡ gs
same_reduced [] [] p q s = refl
same_reduced [] (g ∷ gs) p q s = absurd s
same_reduced (f ∷ fs) [] p q s = absurd s
same_reduced (f ∷ fs) (g ∷ gs) p q s =
    ap₂ (λ x xs. x ∷ xs) (reduced_unique f g (All-head IsReduced f fs p) (All-head IsReduced g gs q) s.0)
    (same_reduced fs gs (All-tail IsReduced f fs p) (All-tail IsReduced g gs q) s.1)

fractions_of : (fs : List Fraction) → All IsReduced fs → AreFractions fs
fractions_of fs h = All-weaker IsReduced IsFraction (λ f r. r.0) fs h

one_least_point : (p : ProblemData) (fs gs : List Fraction) → IsLeastPoint p fs → IsLeastPoint p gs → All IsReduced fs → All IsReduced gs → fs ≡ gs
one_least_point p fs gs f g rf rg =
    let first = over f.x f.n in
    let second = over g.x g.n in
    let are_first = AreFractions-over f.x f.n f.least.feasible.den_pos in
    let are_second = AreFractions-over g.x g.n g.least.feasible.den_pos in
    let same = (least_unique p f.x f.n g.x g.n f.least g.least).1 in
    same_reduced fs gs rf rg (SameFractions-trans fs first gs (fractions_of fs rf) are_first (fractions_of gs rg) (SameFractions-sym first fs f.same)
    (SameFractions-trans first second gs are_first are_second (fractions_of gs rg) same g.same))

-- so are its gap sums
one_sum : (m : Judgements) (r s : Result (List Fraction) Wide) → AreGapSums m r → AreGapSums m s → r ≡ s
one_sum m r s a b =
    sym a.are ∙ ap (λ fs. checked_values (take (m.size - 1) fs)) (one_least_point (threshold_problem_of m) a.point b.point a.least b.least a.reduced b.reduced)
    ∙ b.are

-- ---- what an end tells

same_told : (m : Judgements) (end : Result End PivotFault) (first second : Result Basic ScaleFault) → IsAnswered first → IsAnswered second
    → EndsSo m first end → EndsSo m second end → TellTheSame first second
same_told m end (Ok (Scale v c)) (Ok (Scale w d)) p q a b = let e = one_sum m (Ok v) (Ok w) a.1 b.1 in cc
same_told m end (Ok (Scale v c)) (Ok (Inconsistent d)) p q a b = absurd (let e = a.0 in cc)
same_told m end (Ok (Scale v c)) (Err fault.TooWide) p q a (inl b) = absurd (let e = a.0 in cc)
same_told m end (Ok (Scale v c)) (Err fault.TooWide) p q a (inr b) = absurd (let e = one_sum m (Ok v) (Err (record {})) a.1 b.1 in cc)
same_told m end (Ok (Inconsistent c)) (Ok (Scale w d)) p q a b = absurd (let e = b.0 in cc)
same_told m end (Ok (Inconsistent c)) (Ok (Inconsistent d)) p q a b = tt
same_told m end (Ok (Inconsistent c)) (Err fault.TooWide) p q a (inl b) = absurd (cc)
same_told m end (Ok (Inconsistent c)) (Err fault.TooWide) p q a (inr b) = absurd (let e = b.0 in cc)
same_told m end (Err fault.TooWide) (Ok (Scale w d)) p q (inl a) b = absurd (let e = b.0 in cc)
same_told m end (Err fault.TooWide) (Ok (Scale w d)) p q (inr a) b = absurd (let e = one_sum m (Err (record {})) (Ok w) a.1 b.1 in cc)
same_told m end (Err fault.TooWide) (Ok (Inconsistent d)) p q (inl a) b = absurd (cc)
same_told m end (Err fault.TooWide) (Ok (Inconsistent d)) p q (inr a) b = absurd (let e = a.0 in cc)
same_told m end (Err fault.TooWide) (Err fault.TooWide) p q a b = refl
same_told m end (Err fault.NoMemory) second p q a b = absurd p
same_told m end (Ok (Scale v c)) (Err fault.NoMemory) p q a b = absurd q
same_told m end (Ok (Inconsistent c)) (Err fault.NoMemory) p q a b = absurd q
same_told m end (Err fault.TooWide) (Err fault.NoMemory) p q a b = absurd q

-- an answer other than want of memory comes from the run
found_by : (m : Judgements) (count : ℕ) (answer : Result Basic ScaleFault) (after : ℕ) → IsAnswered answer → IsFound m count answer after
    → IsFoundBy m count answer after
found_by m count (Ok basic) after p h = h.1
found_by m count (Err fault.TooWide) after p h = h
found_by m count (Err fault.NoMemory) after p h = absurd p

pub found_again : (m : Judgements) (count after later : ℕ) (first second : Result Basic ScaleFault) → IsAnswered first → IsAnswered second
    → IsFound m count first after → IsFound m count second later → TellTheSame first second × (after ≡ later)
found_again m count after later first second p q a b = one (found_by m count first after p a) (found_by m count second later q b)
  where
    one : IsFoundBy m count first after → IsFoundBy m count second later → TellTheSame first second × (after ≡ later)
    one f g =
        let same = problem_run_is_one (threshold_problem_of m) f.end g.end f.pivots g.pivots f.run g.run in (
          same_told m g.end first second p q (subst (λ e. EndsSo m first e) same.0 f.ends) g.ends,
          f.counted ∙ ap (λ n. capped_sum count n) same.1 ∙ sym g.counted,
        )
