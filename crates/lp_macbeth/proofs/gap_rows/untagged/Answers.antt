use Rattle.std.proofs.Common.{◌-◌, ◌∙◌, map, refl}
use Rattle.frac128.specs.Problem.{IsRow}
use Rattle.judgement_matrix.specs.declared.tag.Tag.TheVariants.{Lower}
use Rattle.lp_macbeth.specs.Rows.{row_of}
use Rattle.lp_macbeth.proofs.LoopLemmas.{map_next, all_done, All-more}
use Rattle.lp_macbeth.proofs.gap_rows.untagged.Goals as goal

pub row-requires : goal.row-requires
row-requires c = c.requires c.loop-tag.tag-index (Lower 0 0) c.loop-tag-test.true

pub loop-tag-preserved : goal.loop-tag-preserved
loop-tag-preserved c =
    let m = c.args.matrix.now in
    let tags = c.args.tags.now in
    let here = c.loop-tag in
    record {
      rows = map_next (row_of m) tags here.tag-index (Lower 0 0) here.rows.items (map (row_of m) tags) c.push.new.self.items c.in_ok-row.field-0
          c.loop-tag-test.true here.invariant.rows c.in_ok-row.ensures.row c.in_ok-push.ensures.items;
      fit = All-more (IsRow (m.size - 1)) here.rows.items c.push.new.self.items c.in_ok-row.field-0 here.invariant.fit c.in_ok-row.ensures.fits
          c.in_ok-push.ensures.items;
    }

pub returns-clause-rows : goal.returns-clause-rows
returns-clause-rows c =
    let m = c.args.matrix.now in
    c.make.ensures ∙ all_done (map (row_of m)) c.args.tags.now c.loop-tag.tag-index c.loop-tag.rows.items (map (row_of m) c.args.tags.now) refl
    c.loop-tag-test.false c.loop-tag.invariant.rows
