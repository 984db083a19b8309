use Rattle.cert_check.proofs.WordLemmas.{more_than_two}
use Rattle.std.proofs.Common.{sym, ◌∙◌}
use Rattle.cert_check.proofs.words.two_words.Goals as goal

pub returns-then-is_some : goal.returns-then-is_some
returns-then-is_some c =
    more_than_two c.args.line.now c.in_ok-first.first.now c.in_ok-first.rest.now c.first_word-2.result c.in_ok-first.ensures c.first_word-2.ensures
    (sym c.is_some.ensures ∙ c.if-is_some.true)
