use Rattle.command_read.proofs.WordLemmas.{words_match}
use Rattle.command_read.proofs.word.split_word.Goals as goal

pub returns-clause-words : goal.returns-clause-words
returns-clause-words c = words_match (λ word. (word.0.now, word.1.now)) c.args.line.now c.first_word.result c.first_word.ensures.first
