use Rattle.std.proofs.Common.{sym, subst, ◌∙◌}
use Rattle.cert_check.specs.Places.{Rise}
use Rattle.cert_check.proofs.PlaceLemmas.{Rise-judged_rows}
use Rattle.cert_check.proofs.refuting.cert_of_tags.Goals as goal

pub placed-requires : goal.placed-requires
placed-requires c =
    subst Rise (sym (c.as_slice.ensures.value ∙ c.in_ok-tags.ensures.tags)) (Rise-judged_rows c.args.matrix.now c.size.ensures.matrix)
