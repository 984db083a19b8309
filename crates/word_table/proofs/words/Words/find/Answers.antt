use Rattle.std.proofs.Common.{◌≡◌, ◌↔◌, Some, slice_get, sym, subst, ap, ◌∙◌}
use Rattle.std.specs.Str.{bytes_eq}
use Rattle.word_table.specs.Words.{find_word, AreApart}
use Rattle.word_table.proofs.WordLemmas.{position-map, exactly}
use Rattle.word_table.proofs.words.Words.find.Goals as goal

pub returns-clause-place : goal.returns-clause-place
returns-clause-place g c =
    c.place_of.ensures.place ∙ sym (position-map (λ word. word.now) (bytes_eq c.args.bytes.now) c.self.inside.words.now)
    ∙ ap (λ words. find_word words c.args.bytes.now) c.self.view_is

pub returns-clause-exact : goal.returns-clause-exact
returns-clause-exact g c place =
    subst (λ found. (found ≡ Some place) ↔ (slice_get c.args.self.now place ≡ Some c.args.bytes.now)) (sym (returns-clause-place g c))
    (exactly c.args.self.now c.args.bytes.now (subst AreApart c.self.view_is c.self.invariant.2) place)
