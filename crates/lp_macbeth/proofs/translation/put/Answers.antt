use Rattle.std.proofs.Common.{◌≡◌, ◌<◌, ◌∙◌, pos, get_or, sym, subst, unsigned_abs, rules}
use Rattle.std.proofs.lemmas.List.{at_drop_all, length-set}
use Rattle.lp_macbeth.specs.Passing.{with_entries}
use Rattle.lp_macbeth.proofs.TranslationLoopLemmas.{put_next}
use Rattle.lp_macbeth.proofs.translation.put.Goals as goal

pub bounds-weights-position : goal.bounds-weights-position
bounds-weights-position c =
    let e = get_or c.args.on.now c.loop-position.position-index (0, pos 0) in
    subst (λ n. e.0 < n) (sym c.loop-position.invariant.size) (c.requires.positions_below c.loop-position.position-index (0, pos 0) c.loop-position-test.true)

pub loop-position-preserved : goal.loop-position-preserved
loop-position-preserved c =
    let on = c.args.on.now in
    let here = c.loop-position in
    let e = get_or on here.position-index (0, pos 0) in
    let is : c.make.result ≡ unsigned_abs e.1 = search rules in
    record {
      size = length-set here.weights e.0 c.make.result ∙ here.invariant.size;
      weights = put_next here.weights (with_entries c.args.weights.now on) on here.position-index c.make.result c.loop-position-test.true is
          here.invariant.weights;
    }

pub returns : goal.returns
returns c =
    sym (at_drop_all (with_entries c.loop-position.weights) c.args.on.now c.loop-position.position-index c.loop-position-test.false)
    ∙ c.loop-position.invariant.weights
