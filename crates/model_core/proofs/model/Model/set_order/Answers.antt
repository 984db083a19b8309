use Rattle.std.proofs.Common.{◌≡◌, ◌<◌, true, length, All, rules}
use Rattle.model_core.specs.Edits.{is_permutation}
use Rattle.model_core.proofs.OrderLemmas.{IsOrder-tested}
use Rattle.model_core.proofs.model.Model.set_order.Goals as goal

pub set_order_to-requires-clause-order : goal.set_order_to-requires-clause-order
set_order_to-requires-clause-order c =
    let n = length c.args.self.now.criteria in
    let within : All (λ d. d < n) c.in-Some.order.items = search rules in
    let test : is_permutation n c.in-Some.order.items ≡ true = search rules in
    IsOrder-tested n c.in-Some.order.items within test
