use Rattle.std.proofs.Common.{map}
use Rattle.std.specs.Prelude.{Some, slice_get}
use Rattle.lp_macbeth.specs.Rows.{judged_rows}
use Rattle.lp_macbeth.proofs.LoopLemmas.{taken_all}
use Rattle.lp_macbeth.proofs.RowTagLemmas.{tags_next}
use Rattle.lp_macbeth.proofs.row_tags.tags_at.Goals as goal

pub tag_at-requires-clause-row : goal.tag_at-requires-clause-row
tag_at-requires-clause-row c = c.requires c.loop-position.position-index 0 c.loop-position-test.true

pub loop-position-preserved : goal.loop-position-preserved
loop-position-preserved c =
    tags_next (judged_rows c.args.matrix.now) c.args.positions.now c.loop-position.position-index c.tag_at.result c.loop-position.tags.items
    c.push.new.self.items c.loop-position-test.true c.tag_at.ensures c.loop-position.invariant c.in_ok-push.ensures.items

pub returns : goal.returns
returns c =
    taken_all (map (slice_get (judged_rows c.args.matrix.now))) c.args.positions.now c.loop-position.position-index (map Some c.loop-position.tags.items)
    c.loop-position-test.false c.loop-position.invariant
