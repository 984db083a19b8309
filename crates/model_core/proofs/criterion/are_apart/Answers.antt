use Rattle.std.proofs.Common.{◌≡◌, ◌+◌, ◌++◌, ◌∷◌, [], true, false, get_or, map, take, sym, ap, subst, ◌∙◌, arith, rules}
use Rattle.std.specs.List.{IsDistinct, list_any}
use Rattle.std.specs.Str.{bytes_eq}
use Rattle.std.proofs.lemmas.Grind.{common_steps}
use Rattle.word_table.specs.Words.{AreApart}
use Rattle.word_table.proofs.WordLemmas.{apart_by_test, test_by_apart}
use Rattle.model_core.proofs.NameLemmas.{seen-push, apart-push, not_apart, not_true}
use Rattle.model_core.proofs.criterion.are_apart.Goals as goal

pub loop-name-init : goal.loop-name-init
unfolding IsDistinct
loop-name-init c = record { seen = ap (map (λ k. k.now)) c.new-seen.ensures.empty; apart = tt }

pub returns-then-not-is_new : goal.returns-then-not-is_new
returns-then-not-is_new c =
    let names = c.args.names.now in
    let i = c.loop-name.name-index in
    let d = c.name-item.result in
    let known : list_any (λ j. bytes_eq c.as_bytes.result.now j.now) c.loop-name.seen.keys ≡ true = search rules in
    let is : c.as_bytes.result.now ≡ get_or names i d = c.as_bytes.ensures.value ∙ c.name-item.is in
    sym (not_true _ (λ test.
    not_apart (λ k. k.now) c.loop-name.seen.keys names i d c.loop-name.invariant.seen (search rules) (subst (λ q. list_any (λ j. bytes_eq q j.now) c.loop-name.seen.keys ≡ true) is known)
    (apart_by_test names test)))

pub loop-name-preserved : goal.loop-name-preserved
loop-name-preserved c =
    let names = c.args.names.now in
    let i = c.loop-name.name-index in
    let keys = c.loop-name.seen.keys in
    let y = c.as_bytes.result in
    let new : list_any (λ j. bytes_eq y.now j.now) keys ≡ false = search rules in
    let is : y.now ≡ c.name-item.result = c.as_bytes.ensures.value in
    let more : take (i + 1) names ≡ take i names ++ y.now ∷ [] = grind (arith, common_steps) in
    record {
      seen = ap (map (λ k. k.now)) c.in_ok-is_new.ensures.keys ∙ seen-push (λ k. k.now) keys y (take i names) c.loop-name.invariant.seen new ∙ sym more;
      apart = subst AreApart (sym more) (apart-push (λ k. k.now) keys y (take i names) c.loop-name.invariant.seen new c.loop-name.invariant.apart);
    }

pub returns : goal.returns
returns c =
    let names = c.args.names.now in
    let all : take c.loop-name.name-index names ≡ names = grind (arith, common_steps) in
    sym (test_by_apart names (subst AreApart all c.loop-name.invariant.apart))
