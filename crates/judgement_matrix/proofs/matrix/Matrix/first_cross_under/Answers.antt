use Rattle.std.proofs.Common.{◌≡◌, ◌∙◌, refl, sym, ap}
use Rattle.judgement_matrix.specs.Matrix.{IsPair, pairs, cell_at, range_at}
use Rattle.judgement_matrix.proofs.EveryLemmas.{every-pairs}
use Rattle.judgement_matrix.proofs.SearchLemmas.{nothing_below}
use Rattle.judgement_matrix.proofs.matrix.Matrix.first_cross_under.Goals as goal

pub loop-x-init : goal.loop-x-init
loop-x-init c =
    let n = c.args.self.now.size in
    let all : c.into_iter-x-iterator.result ≡ pairs n = c.into_iter-x-iterator.ensures.into_iter_gives ∙ c.pairs-x-items.ensures in
    rw all (record { so_far = refl; pairs = every-pairs n (IsPair n) (λ p q in_n. in_n) })

pub returns-then-left-eq0 : goal.returns-then-left-eq0
returns-then-left-eq0 c =
    let m = c.args.self.now in
    let cell : c.get-left.result ≡ cell_at m c.args.p c.args.q = rw (c.from.ensures, c.from-2.ensures) at c.get-left.ensures.cell in
    let none : (range_at m c.args.p c.args.q).lo ≡ 0 = sym (ap (λ r. r.lo) (c.left.view_is ∙ ap (λ v. v.0) cell)) ∙ c.if-left-eq0.true in
    rw (nothing_below m c.args.p c.args.q (pairs m.size) none) refl
