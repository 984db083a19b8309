use Rattle.std.proofs.Common.{◌≡◌, ◌∙◌, ap, sym, length, rules}
use Rattle.lp_macbeth.proofs.PassLemmas.{length-passed, passed-none}
use Rattle.lp_macbeth.proofs.passing.take_off.Goals as goal

pub returns-then-eq-clause-left : goal.returns-then-eq-clause-left
returns-then-eq-clause-left c =
    let none : c.args.amount ≡ 0 = search rules in
    sym (passed-none c.args.category c.args.amount c.args.rests.now none)

pub push_lost-requires-2 : goal.push_lost-requires-2
push_lost-requires-2 c =
    ap length (c.as_slice-4.ensures ∙ ap (λ s. s.1) c.in_ok-left.ensures)
    ∙ length-passed c.args.category c.args.amount c.as_slice-2.result.now
    ∙ ap length (c.as_slice-2.ensures ∙ sym c.as_slice-3.ensures)
