use Rattle.std.proofs.Common.{◌∙◌, sym}
use Rattle.judgement_matrix.proofs.PlaceLemmas.{pairs_before-all, length-pairs}
use Rattle.judgement_matrix.proofs.matrix.pair_count.Goals as goal

pub returns-clause-value : goal.returns-clause-value
returns-clause-value c = pairs_before-all c.args.size c.requires.0 ∙ sym (length-pairs c.args.size)

pub returns-clause-before : goal.returns-clause-before
returns-clause-before c = pairs_before-all c.args.size c.requires.0
