use Rattle.std.proofs.Common.{◌<◌, length, sym, subst, ap, ◌∙◌, arith, slice_get}
use Rattle.word_table.specs.Words.{AreApart}
use Rattle.word_table.proofs.WordLemmas.{word_at, finds}
use Rattle.word_table.proofs.words.Words.word.Goals as goal

pub returns-clause-word : goal.returns-clause-word
returns-clause-word g c =
    let within : c.args.place < length c.self.inside.words.now = omega (arith, c.requires, c.self.invariant.1) in
    ap (λ words. slice_get words c.args.place) (sym c.self.view_is) ∙ word_at (λ word. word.now) c.self.inside.words.now c.args.place _ within

pub returns-clause-found : goal.returns-clause-found
returns-clause-found g c =
    finds c.args.self.now _ c.args.place (subst AreApart c.self.view_is c.self.invariant.2) (returns-clause-word g c)
