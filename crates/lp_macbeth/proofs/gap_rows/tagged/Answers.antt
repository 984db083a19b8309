use Rattle.std.proofs.Common.{map, get_or, ap, refl}
use Rattle.judgement_matrix.specs.declared.tag.Tag.TheVariants.{Lower}
use Rattle.judgement_matrix.specs.declared.tag.Tag.{Tag}
use Rattle.frac128.specs.declared.problem.Row.{Row}
use Rattle.lp_macbeth.specs.Rows.{row_of}
use Rattle.lp_macbeth.proofs.LoopLemmas.{map_next, all_done}
use Rattle.lp_macbeth.proofs.gap_rows.tagged.Goals as goal

pub row-requires : goal.row-requires
row-requires c = c.requires c.loop-tag.tag-index (Lower 0 0) c.loop-tag-test.true

pub loop-tag-preserved : goal.loop-tag-preserved
loop-tag-preserved c =
    let m = c.args.matrix.now in
    let tags = c.args.tags.now in
    let tag = get_or tags c.loop-tag.tag-index (Lower 0 0) in
    let both : Tag → Tag × Row = λ tag. (tag, row_of m tag) in
    map_next both tags c.loop-tag.tag-index (Lower 0 0) c.loop-tag.rows.items (map both tags) c.push.new.self.items (tag, c.in_ok-row.field-0)
    c.loop-tag-test.true c.loop-tag.invariant (ap (λ r. (tag, r)) c.in_ok-row.ensures.row) c.in_ok-push.ensures.items

pub returns : goal.returns
returns c =
    let m = c.args.matrix.now in
    let tags = c.args.tags.now in
    let both : Tag → Tag × Row = λ tag. (tag, row_of m tag) in
    all_done (map both) tags c.loop-tag.tag-index c.loop-tag.rows.items (map both tags) refl c.loop-tag-test.false c.loop-tag.invariant
