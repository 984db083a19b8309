use Rattle.std.proofs.Common.{◌≡◌, ◌∙◌, ap, subst, sym, rules, All}
use Rattle.judgement_matrix.specs.Matrix.{pairs}
use Rattle.judgement_matrix.specs.Rows.{IsTagAmong}
use Rattle.lp_macbeth.specs.Pairs.{ArePairs}
use Rattle.lp_macbeth.specs.Closed.{closed_tags}
use Rattle.lp_macbeth.proofs.PairLemmas.{ArePairs-pairs}
use Rattle.lp_macbeth.proofs.TagLemmas.{All-closed_tags}
use Rattle.lp_macbeth.proofs.tags.closed_tags.Goals as goal

pub push_zero-requires : goal.push_zero-requires
push_zero-requires c =
    let n = c.args.matrix.now.size in
    subst (ArePairs n) (sym (c.as_slice.ensures.value ∙ c.in_ok-pairs.ensures ∙ ap pairs c.size.ensures.value)) (ArePairs-pairs n)

pub push_cross-requires : goal.push_cross-requires
push_cross-requires c =
    let n = c.args.matrix.now.size in
    subst (ArePairs n) (sym (c.as_slice-2.ensures.value ∙ c.in_ok-pairs.ensures ∙ ap pairs c.size.ensures.value)) (ArePairs-pairs n)

pub returns-clause-among : goal.returns-clause-among
returns-clause-among c =
    let is : c.push_cross.new.tags.items ≡ closed_tags c.args.matrix.now = search rules in
    subst (All (IsTagAmong c.args.matrix.now.size)) (sym is) (All-closed_tags c.args.matrix.now)
