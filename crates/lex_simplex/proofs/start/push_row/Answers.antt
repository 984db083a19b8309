use Rattle.std.proofs.Math.Seq.{drop-cons}
use Rattle.std.proofs.lemmas.Int.{to_z-of_z}
use Rattle.std.proofs.Common.{rules, ◌≡◌, ◌∙◌, ◌+◌, ◌++◌, ◌∷◌, ℤ, pos, drop, get_or, sym, ap₂, FitsSigned, add-one}
use Rattle.std.specs.Int.{w128}
use Rattle.frac128.specs.Range.{IsInRange}
use Rattle.integers.proofs.Loops.{push_next}
use Rattle.lex_simplex.proofs.start.push_row.Goals as goal

pub loop-coef-preserved : goal.loop-coef-preserved
loop-coef-preserved c =
    let z : ℤ = get_or c.args.coefs.now c.loop-coef.coef-index (pos 0) in
    let in_range : IsInRange z = c.requires c.loop-coef.coef-index (pos 0) c.loop-coef-test.true in
    let fits : FitsSigned w128 z = search rules in
    let is : c.known.result ≡ z = c.known.ensures ∙ to_z-of_z w128 z fits in
    let next = drop-cons c.args.coefs.now c.loop-coef.coef-index (pos 0) c.loop-coef-test.true
    ∙ ap₂ (λ x n. x ∷ drop n c.args.coefs.now) (sym is) (sym (add-one c.loop-coef.coef-index)) in
    push_next c.loop-coef.cells.items (c.args.cells.now.items ++ (pos 1 ∷ c.args.constant ∷ c.args.coefs.now))
    (drop c.loop-coef.coef-index c.args.coefs.now) (drop (c.loop-coef.coef-index + 1) c.args.coefs.now) c.push-in-loop-coef.new.self.items
    c.known.result c.loop-coef.invariant next c.in_ok-push-3.ensures.items
