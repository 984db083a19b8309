use Rattle.std.proofs.Common.{◌≡◌, suc, ◌∷◌, drop, map, sym, ap, subst, ◌∙◌}
use Rattle.csv.specs.Records.{fields_of}
use Rattle.judgement_matrix.specs.Matrix.{IsPair, pairs}
use Rattle.judgement_matrix.proofs.Walks.{AllPairsOf}
use Rattle.judgement_matrix.proofs.EveryLemmas.{every-pairs}
use Rattle.judgement_matrix.proofs.ChangeLemmas.{drop-next}
use Rattle.table_csv.proofs.CellLemmas.{none_written, size_written, next_written, all_written}
use Rattle.table_csv.proofs.reading.matrix_in.Goals as goal

pub loop-p-init : goal.loop-p-init
loop-p-init c =
    let n = c.args.size in
    let all : c.into_iter-p-iterator.result ≡ pairs n =
    c.into_iter-p-iterator.ensures.into_iter_gives ∙ c.pairs-p-items.ensures ∙ ap (λ m. pairs m.size) c.in_ok-matrix.ensures in (
      0,
      all,
      c.in_ok-matrix.ensures ∙ none_written n (map fields_of c.args.records.now),
      subst (AllPairsOf n) (sym all) (every-pairs n (IsPair n) (λ p q in_n. in_n)),
    )

pub write_cell-requires : goal.write_cell-requires
write_cell-requires c =
    let inv = c.loop-p.invariant in
    let in_n : IsPair c.args.size c.in-Some.p c.in-Some.q = (rw c.in-Some.ensures.steps at inv.3).0 in
    rw (c.from.ensures, c.from-in-loop-p.ensures, size_written c.args.size (map fields_of c.args.records.now) inv.0 c.loop-p.matrix inv.2) in_n

pub loop-p-preserved : goal.loop-p-preserved
loop-p-preserved c =
    let n = c.args.size in
    let records = map fields_of c.args.records.now in
    let inv = c.loop-p.invariant in
    let next : drop inv.0 (pairs n) ≡ (c.in-Some.p, c.in-Some.q) ∷ c.next.new.self = sym inv.1 ∙ c.in-Some.ensures.steps in (
      suc inv.0,
      sym (drop-next (pairs n) c.next.new.self inv.0 (c.in-Some.p, c.in-Some.q) next).2,
      next_written n records inv.0 c.in-Some.p c.in-Some.q c.next.new.self c.loop-p.matrix c.write_cell.new.matrix next inv.2
          (rw (c.from.ensures, c.from-in-loop-p.ensures) at c.write_cell.ensures),
      (rw c.in-Some.ensures.steps at inv.3).1,
    )

pub returns : goal.returns
returns c =
    let inv = c.loop-p.invariant in
    all_written c.args.size (map fields_of c.args.records.now) inv.0 c.loop-p.matrix (sym inv.1 ∙ c.in-None.ensures.steps.0) inv.2
