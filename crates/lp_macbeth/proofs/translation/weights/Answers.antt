use Rattle.std.proofs.Common.{ℕ, ◌∙◌, ap, sym, subst, length}
use Rattle.std.proofs.lemmas.List.{length-replicate}
use Rattle.frac128.specs.Problem.{AreRowMultipliers}
use Rattle.std.proofs.lemmas.List.{with_items_is}
use Rattle.lp_macbeth.specs.Passing.{with_entries}
use Rattle.lp_macbeth.proofs.translation.weights.Goals as goal

pub put-requires : goal.put-requires
put-requires c =
    let none : ℕ = 0 in
    let size = ap length (c.as_mut_slice.ensures.value ∙ c.in_ok-weights.ensures) ∙ length-replicate c.args.count none in
    subst (λ n. AreRowMultipliers n c.args.on.now) (sym size) c.requires

pub returns : goal.returns
returns c =
    with_items_is c.in_ok-weights.weights c.put.new.weights (c.put.auto.weights ∙ c.as_mut_slice.ensures.len)
    ∙ c.put.ensures
    ∙ ap (λ l. with_entries l c.args.on.now) (c.as_mut_slice.ensures.value ∙ c.in_ok-weights.ensures)
