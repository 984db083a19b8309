use Rattle.value_scale.proofs.AnchorLemmas.{span_not_zero}
use Rattle.value_scale.proofs.anchored_scale.factor.Goals as goal

pub div-requires : goal.div-requires
div-requires c =
    let exact = c.in_ok-span.ensures.exact in
    span_not_zero c.args.top.now c.args.zero.now c.in_ok-span.span exact.1.0 exact.2 c.requires
