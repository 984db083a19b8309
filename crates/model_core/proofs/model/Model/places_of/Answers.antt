use Rattle.std.proofs.Common.{◌≡◌, ◌<◌, ◌+◌, ◌++◌, ◌∷◌, [], None, Some, drop, length, sym, ap, subst, ◌∙◌, All, rules}
use Rattle.std.specs.Option.{option_map}
use Rattle.std.proofs.lemmas.List.{drop_more}
use Rattle.std.proofs.lemmas.List.Elements.{All-push}
use Rattle.model_core.specs.Finding.{find_criterion}
use Rattle.model_core.specs.Edits.{places_of}
use Rattle.model_core.proofs.EditLemmas.{places_none, places_more}
use Rattle.model_core.proofs.model.Model.places_of.Goals as goal

pub returns-in_default-clause-places : goal.returns-in_default-clause-places
returns-in_default-clause-places c =
    let m = c.args.self.now in
    let names = c.args.names.now in
    let i = c.loop-name.name-index in
    let before = c.loop-name.places.items in
    let name = c.name-item.result in
    let more : drop i names ≡ name ∷ drop (i + 1) names = drop_more names i name c.loop-name-test.true ∙ ap (λ x. x ∷ drop (i + 1) names) (sym c.name-item.is) in
    let none : find_criterion m name ≡ None = search rules in
    sym (places_none m name (drop (i + 1) names) before none) ∙ ap (λ ns. option_map (λ rest. before ++ rest) (places_of m ns)) (sym more) ∙ c.loop-name.invariant.so_far

pub loop-name-preserved : goal.loop-name-preserved
loop-name-preserved c =
    let m = c.args.self.now in
    let names = c.args.names.now in
    let i = c.loop-name.name-index in
    let before = c.loop-name.places.items in
    let name = c.name-item.result in
    let place = c.in-Some.place in
    let more : drop i names ≡ name ∷ drop (i + 1) names = drop_more names i name c.loop-name-test.true ∙ ap (λ x. x ∷ drop (i + 1) names) (sym c.name-item.is) in
    let found : find_criterion m name ≡ Some place = search rules in
    let low : place < length m.criteria = search rules in
    let pushed : c.push.new.self.items ≡ before ++ place ∷ [] = search rules in
    record {
      within = subst (All (λ d. d < length m.criteria)) (sym pushed) (All-push (λ d. d < length m.criteria) before place c.loop-name.invariant.within low);
      so_far =
          ap (λ items. option_map (λ rest. items ++ rest) (places_of m (drop (i + 1) names))) pushed ∙ sym (places_more m name (drop (i + 1) names) before place found)
          ∙ ap (λ ns. option_map (λ rest. before ++ rest) (places_of m ns)) (sym more) ∙ c.loop-name.invariant.so_far;
    }
