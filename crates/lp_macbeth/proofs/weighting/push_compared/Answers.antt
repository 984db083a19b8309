use Rattle.std.proofs.Common.{◌-◌, ◌++◌, map, refl}
use Rattle.frac128.specs.Problem.{IsRow}
use Rattle.judgement_matrix.specs.declared.tag.Tag.TheVariants.{Lower}
use Rattle.lp_macbeth.specs.ClosedWeighting.{weighting_row_of}
use Rattle.lp_macbeth.proofs.LoopLemmas.{map_next, all_done, All-more}
use Rattle.lp_macbeth.proofs.weighting.push_compared.Goals as goal

pub weighting_row-requires : goal.weighting_row-requires
weighting_row-requires c = c.requires.among c.loop-tag.tag-index (Lower 0 0) c.loop-tag-test.true

pub loop-tag-preserved : goal.loop-tag-preserved
loop-tag-preserved c =
    let m = c.args.matrix.now in
    let tags = c.args.tags.now in
    let here = c.loop-tag in
    record {
      rows = map_next (weighting_row_of m) tags here.tag-index (Lower 0 0) here.rows.items (c.args.rows.now.items ++ map (weighting_row_of m) tags) c.push.new.self.items c.in_ok-weighting_row.field-0
          c.loop-tag-test.true here.invariant.rows c.in_ok-weighting_row.ensures.row c.in_ok-push.ensures.items;
      fit = All-more (IsRow (m.size - 1)) here.rows.items c.push.new.self.items c.in_ok-weighting_row.field-0 here.invariant.fit c.in_ok-weighting_row.ensures.fits
          c.in_ok-push.ensures.items;
    }

pub returns-clause-rows : goal.returns-clause-rows
returns-clause-rows c =
    let m = c.args.matrix.now in
    all_done (map (weighting_row_of m)) c.args.tags.now c.loop-tag.tag-index c.loop-tag.rows.items (c.args.rows.now.items ++ map (weighting_row_of m) c.args.tags.now) refl
    c.loop-tag-test.false c.loop-tag.invariant.rows
