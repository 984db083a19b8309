-- Problems with further variables that cost nothing: where their points, cut, are those of a problem, so is the least one.
use lib.IntN.{+ℤ_idr}
use Rattle.std.proofs.Common.{◌≡◌, inl, inr, ℕ, suc, ℤ, pos, ◌+ℤ◌, List, [], ◌∷◌, ◌++◌, length, take, drop, replicate, sym, ap, ap₂, subst, ◌∙◌, arith}
use Rattle.std.proofs.lemmas.List.{take-append-drop}
use Rattle.frac128.specs.Problem.{ProblemData, IsFeasible, cost_and_numbers}
use Rattle.integers.specs.Fraction.{over}
use Rattle.integers.specs.Lexicographic.{LexLess}
use Rattle.integers.specs.Vector.{dot}
use Rattle.integers.proofs.Vector.{dot-append, dot_comm, dot-zeros}
use Rattle.lp_macbeth.specs.ClosedThreshold.{IsThresholdForm}

-- what decides in the first parts decides
before-append : (xs ys us vs : List ℤ) (d e : ℤ) → length xs ≡ length ys → LexLess (over xs d) (over ys e) → LexLess (over (xs ++ us) d) (over (ys ++ vs) e)
before-append [] [] us vs d e same h = absurd h
before-append [] (y ∷ ys) us vs d e same h = absurd (omega arith)
before-append (x ∷ xs) [] us vs d e same h = absurd (omega arith)
before-append (x ∷ xs) (y ∷ ys) us vs d e same h = elim h [ inl l ↦ inl l | inr r ↦ inr (r.0, before-append xs ys us vs d e (omega arith) r.1) ]

-- thresholds cost nothing
cost_of_parts : (cost x t : List ℤ) (k : ℕ) → length cost ≡ length x → dot (cost ++ replicate k (pos 0)) (x ++ t) ≡ dot cost x
cost_of_parts cost x t k each =
    dot-append cost (replicate k (pos 0)) x t each ∙ ap (λ c. dot cost x +ℤ c) (dot_comm (replicate k (pos 0)) t ∙ dot-zeros t k) ∙ +ℤ_idr (dot cost x)

-- a point that comes before another does so with any thresholds
extended_before : (p q : ProblemData) (k : ℕ) (y u x t : List ℤ) (d e : ℤ) → q.cost ≡ p.cost ++ replicate k (pos 0) → length p.cost ≡ length y
    → length p.cost ≡ length x → LexLess (cost_and_numbers p y d) (cost_and_numbers p x e)
    → LexLess (cost_and_numbers q (y ++ u) d) (cost_and_numbers q (x ++ t) e)
extended_before p q k y u x t d e costs first second h =
    let both = before-append (dot p.cost y ∷ y) (dot p.cost x ∷ x) u t d e (ap suc (sym first ∙ second)) h in
    let F : ℤ → ℤ → Type 0 = λ a b. LexLess (over (a ∷ (y ++ u)) d) (over (b ∷ (x ++ t)) e) in
    let one : dot q.cost (y ++ u) ≡ dot p.cost y = ap (λ c. dot c (y ++ u)) costs ∙ cost_of_parts p.cost y u k first in
    let two : dot q.cost (x ++ t) ≡ dot p.cost x = ap (λ c. dot c (x ++ t)) costs ∙ cost_of_parts p.cost x t k second in
    subst (λ a. F a (dot q.cost (x ++ t))) (sym one) (subst (F (dot p.cost y)) (sym two) both)

-- so points that are cut and extended are all that is wanted
pub form_from_points : (p q : ProblemData) (k : ℕ) → q.cost ≡ p.cost ++ replicate k (pos 0) → length p.cost ≡ p.vars
    → ((z : List ℤ) (n : ℤ) → IsFeasible q z n → IsFeasible p (take p.vars z) n)
    → ((x : List ℤ) (n : ℤ) → IsFeasible p x n → (t : List ℤ) × IsFeasible q (x ++ t) n) → IsThresholdForm p q
form_from_points p q k costs each cut extended = record {
  cut = cut;
  extended = extended;
  value = λ z n h.
      let v : ℕ = p.vars in
      let point = cut z n h in
      let same : dot q.cost z ≡ dot p.cost (take v z) =
      ap₂ dot costs (sym (take-append-drop v z)) ∙ cost_of_parts p.cost (take v z) (drop v z) k (each ∙ sym point.one_each) in
      ap (λ (a : ℤ). record { num = a; den = n }) same;
  least = λ z n h.
      let v : ℕ = p.vars in
      let point = cut z n h.feasible in
      record {
        feasible = point;
        none_before = λ y d other before.
            let more = extended y d other in
            let longer = extended_before p q k y more.0 (take v z) (drop v z) d n costs (each ∙ sym other.one_each) (each ∙ sym point.one_each) before in
            h.none_before (y ++ more.0) d more.1
            (subst (λ u. LexLess (cost_and_numbers q (y ++ more.0) d) (cost_and_numbers q u n)) (take-append-drop v z) longer);
      };
  nothing = (
    λ none x n h. (let more = extended x n h in none (x ++ more.0) n more.1),
    λ none z n h. none (take p.vars z) n (cut z n h),
  );
}
