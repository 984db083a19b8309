-- Judged pairs and rows stand at places among the elements.
use Rattle.std.proofs.Common.{◌≡◌, ℕ, ℤ, Bool, true, false, cond, List, [], ◌∷◌, map, subst, sym, arith}
use Rattle.std.specs.Prelude.{All, Result, Ok, Err}
use Rattle.std.specs.List.{flat_map, AllByRecursion}
use Rattle.std.specs.Result.{IfOk}
use Rattle.std.proofs.lemmas.List.Elements.{All-nil, All-cons, All-head, All-tail, All-append}
use Rattle.frac128.specs.declared.problem.Row.{Row}
use Rattle.judgement_matrix.specs.Range.{Bounds}
use Rattle.judgement_matrix.specs.Matrix.{Judgements, IsPair, cell_at}
use Rattle.judgement_matrix.specs.Rows.{rows, IsTagAmong}
use Rattle.judgement_matrix.specs.declared.tag.Tag.{Tag}
use Rattle.judgement_matrix.specs.declared.tag.Tag.TheVariants.{Lower, Zero, Cross, Order}
use Rattle.judgement_matrix.proofs.AmongLemmas.{every-rows}
use Rattle.lp_macbeth.specs.Pairs.{ArePairs}
use Rattle.lp_macbeth.specs.Rows.{row_of, tagged_rows}
use Rattle.report_text.specs.Matrices.{IsJudgedOf}
use Rattle.report_text.specs.Names.{IsPlace, IsTagOf}
use Rattle.model_json.specs.Writing.{judged_at}
use Rattle.session_edits.specs.Matrices.{with_bound}

-- ---- judged pairs

at_pair : (n : ℕ) (p : ℕ × ℕ) (range : Bounds) (b : Bool) → IsPair n p.0 p.1 → All (IsJudgedOf n) (cond b ((p.0, p.1, range) ∷ []) [])
at_pair n p range true h =
    let first = h.0 in
    let above = h.1 in
    let last = h.2 in
    All-cons (IsJudgedOf n) (p.0, p.1, range) [] ((first, omega arith), (omega arith, last)) (All-nil (IsJudgedOf n))
at_pair n p range false h = All-nil (IsJudgedOf n)

pub judged_places : (m : Judgements) (n : ℕ) (ps : List (ℕ × ℕ)) → ArePairs n ps → All (IsJudgedOf n) (flat_map (judged_at m) ps)
judged_places m n [] h = All-nil (IsJudgedOf n)
judged_places m n (p ∷ ps) h =
    All-append (IsJudgedOf n) (judged_at m p) (flat_map (judged_at m) ps)
    (at_pair n p (cell_at m p.0 p.1).0 (cell_at m p.0 p.1).1 (All-head (λ (pair : ℕ × ℕ). IsPair n pair.0 pair.1) p ps h))
    (judged_places m n ps (All-tail (λ (pair : ℕ × ℕ). IsPair n pair.0 pair.1) p ps h))

pub of_pairs : {E : Type 0} (m : Judgements) (n : ℕ) (ps : List (ℕ × ℕ)) (r : Result (List (ℕ × ℕ × Bounds)) E) → ArePairs n ps
    → IfOk r (λ judged. judged ≡ flat_map (judged_at m) ps) → IfOk r (λ judged. All (IsJudgedOf n) judged)
of_pairs m n ps (Ok judged) h e = subst (All (IsJudgedOf n)) (sym e) (judged_places m n ps h)
of_pairs m n ps (Err e) h is = tt

-- ---- rows

pair_places : (n p q : ℕ) → IsPair n p q → IsPlace n p × IsPlace n q
pair_places n p q h =
    let first = h.0 in
    let above = h.1 in
    let last = h.2 in
    ((first, omega arith), (omega arith, last))

tag_places : (n : ℕ) (tag : Tag) → IsTagAmong n tag → IsTagOf n tag
tag_places n (Lower p q) h = pair_places n p q h
tag_places n (Zero p q) h = pair_places n p q h
tag_places n (Cross p q x y) h = (pair_places n p q h.0, pair_places n x y h.1)
tag_places n (Order p) h = let least = h.0 in let most = h.1 in (least, omega arith)

bounded : (m : Judgements) (n : ℕ) (tags : List Tag) → AllByRecursion (IsTagAmong n) tags
    → All (λ (row : Tag × ℤ). IsTagOf n row.0) (map with_bound (map (λ tag. (tag, row_of m tag)) tags))
bounded m n [] h = All-nil (λ (row : Tag × ℤ). IsTagOf n row.0)
bounded m n (tag ∷ tags) h =
    All-cons (λ (row : Tag × ℤ). IsTagOf n row.0) (with_bound (tag, row_of m tag)) (map with_bound (map (λ t. (t, row_of m t)) tags))
    (tag_places n tag h.0) (bounded m n tags h.1)

pub of_rows : {E : Type 0} (m : Judgements) (tagged : List (Tag × Row)) (r : Result (List (Tag × ℤ)) E) → tagged ≡ tagged_rows m
    → IfOk r (λ bounds. bounds ≡ map with_bound tagged) → IfOk r (λ bounds. All (λ (row : Tag × ℤ). IsTagOf m.size row.0) bounds)
of_rows m tagged (Ok bounds) same is =
    subst (All (λ (row : Tag × ℤ). IsTagOf m.size row.0)) (sym is)
    (subst (λ t. All (λ (row : Tag × ℤ). IsTagOf m.size row.0) (map with_bound t)) (sym same) (bounded m m.size (rows m) (every-rows m)))
of_rows m tagged (Err e) same is = tt
