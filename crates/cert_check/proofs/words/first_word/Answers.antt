use Rattle.cert_check.proofs.WordLemmas.{words-from_cut}
use Rattle.cert_check.proofs.words.first_word.Goals as goal

pub returns : goal.returns
returns c = words-from_cut c.args.line.now c.cut.result c.cut.ensures
