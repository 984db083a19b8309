-- The ratios of two columns differ: columns that are independent over the variables' rows are no multiples of each other.
use Rattle.std.proofs.lemmas.List.Elements.{All-nil, All-cons}
use Rattle.std.proofs.lemmas.Int.{ints}
use Rattle.std.proofs.Common.{◌≡◌, ◌≢◌, ℕ, ◌<◌, length, take, List, [], ◌∷◌, ℤ, pos, neg_ℤ, ◌<ℤ◌, All, refl, sym, subst, ◌∙◌, arith}
use Rattle.integers.specs.Fraction.{over, SameFractions}
use Rattle.integers.specs.Vector.{dot, AreZero}
use Rattle.integers.proofs.Ring.{con, neg, ◌⊕◌, ◌⊗◌, ◌≗◌, ◌✶◌, ◌⇐◌, combine5}
use Rattle.integers.proofs.Vector.{dot-pair, get_or-pair, length-pair, pair}
use Rattle.frac128.specs.Problem.{ProblemData}
use Rattle.lex_simplex.specs.Equations.{IsTableauOf}
use Rattle.lex_simplex.specs.Tableau.{Tableau, TableRow, row_of, entry}
use Rattle.lex_simplex.specs.Turn.{ratios}
use Rattle.lex_simplex.proofs.Tableaus.Rows.{column_in}

-- where the ratios of two columns are the same, each row's product with the pair of their exchanged denominators is 0
cancels : (rows : List TableRow) (n e f : ℕ) (a b : ℤ) → e < n → f < n → e ≢ f → SameFractions (over (column_in rows e) a) (over (column_in rows f) b)
    → All (λ (row : TableRow). dot row.coefs (pair n e b f (neg_ℤ a)) ≡ pos 0) rows
cancels [] n e f a b eb fb apart s = All-nil (λ (row : TableRow). dot row.coefs (pair n e b f (neg_ℤ a)) ≡ pos 0)
cancels (row ∷ rows) n e f a b eb fb apart s =
    All-cons (λ (row : TableRow). dot row.coefs (pair n e b f (neg_ℤ a)) ≡ pos 0) row rows
    (combine5 (λ d x y a b. d ≗ con (pos 0) ⇐ con (pos 1) ✶ (d ≗ x ⊗ b ⊕ y ⊗ neg a) ∷ con (pos 1) ✶ (x ⊗ b ≗ y ⊗ a) ∷ []) refl
    (dot row.coefs (pair n e b f (neg_ℤ a))) (entry row e) (entry row f) a b (dot-pair row.coefs n e b f (neg_ℤ a) eb fb apart) s.0)
    (cancels rows n e f a b eb fb apart s.1)

-- the ratios of two columns with a positive number in a row differ
pub ratios_differ : (p : ProblemData) (t : Tableau) (r e f : ℕ) → IsTableauOf p t → r < length t.rows → e < length t.columns → f < length t.columns → e ≢ f
    → pos 0 <ℤ entry (row_of t r) e → pos 0 <ℤ entry (row_of t r) f → ¬ SameFractions (ratios t r e) (ratios t r f)
ratios_differ p t r e f ok rb eb fb apart pe pf same =
    let a : ℤ = entry (row_of t r) e in
    let b : ℤ = entry (row_of t r) f in
    let eb' : e < p.vars = omega (arith, ok.one_column_each) in
    let fb' : f < p.vars = omega (arith, ok.one_column_each) in
    let d : List ℤ = pair p.vars e b f (neg_ℤ a) in
    let each : All (λ (row : TableRow). dot row.coefs d ≡ pos 0) (take (length t.columns) t.rows) =
    cancels (take (length t.columns) t.rows) p.vars e f a b eb' fb' apart same.1 in
    let zero : AreZero d = ok.independent d (length-pair p.vars e b f (neg_ℤ a))
    (subst (λ n. All (λ (row : TableRow). dot row.coefs d ≡ pos 0) (take n t.rows)) ok.one_column_each each) in
    let none : b ≡ pos 0 = sym (get_or-pair p.vars e b f (neg_ℤ a) eb' apart) ∙ zero e (pos 0) (omega (arith, length-pair p.vars e b f (neg_ℤ a))) in
    omega (arith, ints, none)
