use Rattle.std.proofs.Common.{◌≡◌, ◌-◌, ◌<◌, drop, length, ◌∙◌, refl, rules, sym, ap, arith, add-one}
use Rattle.judgement_matrix.specs.Matrix.{IsPair, pairs, place}
use Rattle.judgement_matrix.specs.Change.{left_cell, without_from}
use Rattle.judgement_matrix.proofs.EveryLemmas.{every-pairs}
use Rattle.judgement_matrix.proofs.ChangeLemmas.{drop-next, moved_in_bounds, moved_next, moved_all}
use Rattle.judgement_matrix.proofs.matrix.drop_element.Goals as goal

pub loop-x-init : goal.loop-x-init
loop-x-init c =
    let n = c.args.size - 1 in
    let all : c.into_iter-x-iterator.result ≡ pairs n = c.into_iter-x-iterator.ensures.into_iter_gives ∙ search rules in
    rw all (record { so_far = refl; rest = refl; within = omega arith; pairs = every-pairs n (IsPair n) (λ p q in_n. in_n) })

pub index_mut-requires : goal.index_mut-requires
index_mut-requires c =
    let next = sym c.loop-x.invariant.rest ∙ c.in-Some.ensures.steps in
    let in_n : IsPair (c.args.size - 1) c.in-Some.x c.in-Some.y = (rw c.in-Some.ensures.steps at c.loop-x.invariant.pairs).0 in
    let within : c.loop-x.place < length c.loop-x.cells.items =
    moved_in_bounds c.args.size c.args.p c.loop-x.place c.in-Some.x c.in-Some.y c.args.cells.now.items c.loop-x.cells.items c.next.new.self c.requires.least c.requires.each
    c.loop-x.invariant.so_far next in_n in
    search rules

pub loop-x-preserved : goal.loop-x-preserved
loop-x-preserved c =
    let next = sym c.loop-x.invariant.rest ∙ c.in-Some.ensures.steps in
    let in_n : IsPair (c.args.size - 1) c.in-Some.x c.in-Some.y = (rw c.in-Some.ensures.steps at c.loop-x.invariant.pairs).0 in
    let upper : c.without_from.result ≡ without_from c.args.p c.in-Some.x = c.without_from.ensures ∙ ap (without_from c.args.p) c.from-in-loop-x.ensures in
    let lower : c.without_from-in-loop-x.result ≡ without_from c.args.p c.in-Some.y = c.without_from-in-loop-x.ensures ∙ ap (without_from c.args.p) c.from-in-loop-x-2.ensures in
    let at : c.place_of-from.result ≡ place c.args.size (without_from c.args.p c.in-Some.x) (without_from c.args.p c.in-Some.y) = rw (c.from.ensures, upper, lower) at c.place_of-from.ensures.value in
    record {
      so_far = moved_next c.args.size c.args.p c.loop-x.place c.in-Some.x c.in-Some.y c.args.cells.now.items c.loop-x.cells.items c.next.new.self c.requires.least c.requires.each
          c.loop-x.invariant.so_far next in_n c.index.result.now (rw at at c.index.ensures);
      rest = sym (drop-next (pairs (c.args.size - 1)) c.next.new.self c.loop-x.place (c.in-Some.x, c.in-Some.y) next).2 ∙ ap (λ k. drop k (pairs (c.args.size - 1))) (sym (add-one c.loop-x.place));
      within = omega (arith, (drop-next (pairs (c.args.size - 1)) c.next.new.self c.loop-x.place (c.in-Some.x, c.in-Some.y) next).0);
      pairs = (rw c.in-Some.ensures.steps at c.loop-x.invariant.pairs).1;
    }

pub returns : goal.returns
returns c =
    c.truncate.ensures.items
    ∙ moved_all (left_cell (record { size = c.args.size; cells = c.args.cells.now.items }) c.args.p) (pairs (c.args.size - 1)) c.args.cells.now.items c.loop-x.cells.items c.loop-x.place
    c.loop-x.invariant.so_far (sym c.loop-x.invariant.rest ∙ c.in-None.ensures.steps.0) c.loop-x.invariant.within
