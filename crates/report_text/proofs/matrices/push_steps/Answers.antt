use Rattle.std.proofs.Common.{◌≡◌, ◌∙◌, ◌∷◌, ◌++◌, ◌+◌, length, take, drop, map, sym, ap, append_assoc, arith, rules, length-drop}
use Rattle.std.specs.Prelude.{string_bytes}
use Rattle.std.specs.List.{zip, flat_map}
use Rattle.report_text.specs.Matrices.{pairs_of, step_words}
use Rattle.report_text.proofs.PairLemmas.{steps_next, pairs_left}
use Rattle.report_text.proofs.matrices.push_steps.Goals as goal

pub loop-upper-preserved : goal.loop-upper-preserved
loop-upper-preserved c =
    let names = c.loop-upper.names.now in
    let steps = c.loop-upper.steps.now in
    let upper = c.in-Some.upper.now in
    let lowers = c.in-Some.lowers.now in
    let first = c.split_at.result.0.now in
    let others = c.split_at.result.1.now in
    let out = string_bytes c.loop-upper.out in
    let is : names ≡ upper ∷ lowers = search rules in
    let front : first ≡ take (length lowers) steps = search rules in
    let back : others ≡ drop (length lowers) steps = search rules in
    let many : length (pairs_of names) ≡ length lowers + length (pairs_of lowers) = pairs_left names upper lowers is in
    let left : length others ≡ length (drop (length lowers) steps) = ap length back in
    let here = flat_map step_words (zip (map (λ lower. (upper, lower)) lowers) first) in
    let there = flat_map step_words (zip (pairs_of lowers) others) in
    record {
      each = omega (arith, left, many, c.loop-upper.invariant.each, length-drop (length lowers) steps);
      rest = ap (λ b. b ++ there) c.in_ok-push_steps_under.ensures ∙ append_assoc out here there
          ∙ ap (λ l. out ++ l) (sym (steps_next names upper lowers steps first others is c.loop-upper.invariant.each front back)) ∙ c.loop-upper.invariant.rest;
    }
