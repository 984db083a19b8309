use Rattle.std.proofs.Common.{◌≡◌, ◌∙◌, ℕ, List, ◌++◌, ◌-◌, length, take, drop, sym, ap, arith, rules, ◌<◌, length-append, append_assoc, take-append-drop}
use Rattle.std.proofs.lemmas.List.{take_rest}
use Rattle.line_io.proofs.OutsideLemmas.{Put-append}
use Rattle.line_io.proofs.put.put_all.Goals as goal

-- what is left after a front
rest_split : (bytes written rest : List ℕ) (n : ℕ) → bytes ≡ written ++ rest
    → bytes ≡ (written ++ take n rest) ++ take (length rest - n) (drop n rest)
rest_split bytes written rest n is =
    is ∙ ap (λ l. written ++ l) (sym (take-append-drop n rest) ∙ ap (λ l. take n rest ++ l) (sym (take_rest rest n)))
    ∙ sym (append_assoc written (take n rest) (take (length rest - n) (drop n rest)))

pub loop-rest-preserved : goal.loop-rest-preserved
loop-rest-preserved g c =
    let i = c.loop-rest.invariant in
    let some = c.in-Ok.ensures.taken in
    let some_left : 0 < length c.loop-rest.rest.now = search rules in (
      (i.0.0 ++ take c.in-Ok.count c.loop-rest.rest.now, rest_split _ _ _ c.in-Ok.count i.0.1, Put-append _ _ _ _ _ i.0.2 some.2),
      omega (arith, c.in-Ok.ensures.count, i.1),
      λ none. absurd (omega (arith, some_left, ap length (sym i.0.1 ∙ none), length-append i.0.0 c.loop-rest.rest.now)),
    )
