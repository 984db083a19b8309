use Rattle.std.proofs.Common.{◌≡◌, ◌++◌, ◌∙◌, ℕ, map, ap, length, subst, sym, All, arith}
use Rattle.frac128.specs.Problem.{IsRow}
use Rattle.frac128.specs.Range.{IsInRange}
use Rattle.integers.specs.Vector.{AreNonNegative}
use Rattle.judgement_matrix.specs.Matrix.{IsPair}
use Rattle.lp_macbeth.specs.Closed.{closed_row_of}
use Rattle.lp_macbeth.proofs.ClosedRowLemmas.{anchors_fit, reaches_fit, closed_problem_is}
use Rattle.lp_macbeth.proofs.closed.closed_problem_with.Goals as goal

pub make-requires-3 : goal.make-requires-3
make-requires-3 c =
    let a = c.args in
    let n : ℕ = c.size-n.result in
    let size : n ≡ a.matrix.now.size = c.size-n.ensures.value in
    let references : IsPair n a.good a.neutral = subst (λ s. IsPair s a.good a.neutral) (sym size) c.requires.references in
    let compared : All (IsRow n) c.push_compared.new.rows.items =
    subst (λ s. All (IsRow s) c.push_compared.new.rows.items) (sym size) c.in_ok-push_compared.ensures.fit in
    let anchored = subst (All (IsRow n)) (sym c.in_ok-push_anchors.ensures)
    (anchors_fit n a.good a.neutral c.push_compared.new.rows.items references compared) in
    let reached = subst (All (IsRow n)) (sym c.in_ok-push_reaches.ensures)
    (reaches_fit n a.reach c.push_anchors.new.rows.items (omega (arith, references.0, references.1, references.2)) c.requires.most anchored) in
    record {
      one_each = ap length c.make.ensures ∙ c.requires.one_each ∙ sym size;
      cost_nonneg = subst AreNonNegative (sym c.make.ensures) c.requires.nonneg;
      cost_in_range = subst (All IsInRange) (sym c.make.ensures) c.requires.in_range;
      rows_fit = subst (All (IsRow n)) (sym c.make-2.ensures) reached;
    }

pub returns : goal.returns
returns c =
    let a = c.args in
    let m = a.matrix.now in
    let pairs = c.in_ok-push_compared.ensures.rows ∙ ap (λ l. l ++ map (closed_row_of m) c.as_slice.result.now) c.new-rows.ensures.items
    ∙ ap (map (closed_row_of m)) (c.as_slice.ensures.value ∙ c.in_ok-tags.ensures.tags) in
    c.make-3.ensures
    ∙ closed_problem_is m a.good a.neutral a.reach c.size-n.result c.make.result a.cost.items c.push_compared.new.rows.items c.push_anchors.new.rows.items
    c.make-2.result c.size-n.ensures.value c.make.ensures pairs c.in_ok-push_anchors.ensures (c.make-2.ensures ∙ c.in_ok-push_reaches.ensures)
