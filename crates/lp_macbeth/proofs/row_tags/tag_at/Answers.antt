use Rattle.std.proofs.Common.{◌∙◌}
use Rattle.judgement_matrix.specs.declared.tag.Tag.TheVariants.{Lower}
use Rattle.lp_macbeth.proofs.RowTagLemmas.{single_at, cross_after, cross_within}
use Rattle.lp_macbeth.proofs.row_tags.tag_at.Goals as goal

pub returns-then-position-single : goal.returns-then-position-single
returns-then-position-single c =
    single_at c.args.matrix.now c.as_slice-single.result.now c.args.position (Lower 0 0) (c.as_slice-single.ensures ∙ c.requires.tables.single)
    c.if-position-single.true

pub cross_tag-requires-clause-row : goal.cross_tag-requires-clause-row
cross_tag-requires-clause-row c =
    cross_within c.args.matrix.now c.as_slice-single.result.now c.args.position (c.as_slice-single.ensures ∙ c.requires.tables.single)
    c.if-position-single.false c.requires.row

pub returns : goal.returns
returns c =
    cross_after c.args.matrix.now c.as_slice-single.result.now c.args.position (c.as_slice-single.ensures ∙ c.requires.tables.single)
    c.if-position-single.false c.requires.row
    ∙ c.cross_tag.ensures
