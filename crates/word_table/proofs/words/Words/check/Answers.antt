use Rattle.std.proofs.Common.{sym, ◌∙◌}
use Rattle.std.specs.List.{IsDistinct}
use Rattle.word_table.proofs.WordLemmas.{next_apart, next_twice}
use Rattle.word_table.proofs.words.Words.check.Goals as goal

pub loop-place-init : goal.loop-place-init
unfolding IsDistinct
loop-place-init g c = tt

pub returns-then-is_some : goal.returns-then-is_some
returns-then-is_some g c =
    next_twice (λ word. word.now) c.args.words.now c.loop-place.place _ c.loop-place-test.true _ c.as_bytes.ensures.value _ c.place_of.ensures.place
    (sym c.is_some.ensures ∙ c.if-is_some.true)

pub loop-place-preserved : goal.loop-place-preserved
loop-place-preserved g c =
    next_apart (λ word. word.now) c.args.words.now c.loop-place.place _ c.loop-place-test.true _ c.as_bytes.ensures.value _ c.place_of.ensures.place
    (sym c.is_some.ensures ∙ c.if-is_some.false) c.loop-place.invariant
