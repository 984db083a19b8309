use Rattle.frac128.proofs.ReadingLemmas.{bad_number_is, too_wide_is}
use Rattle.frac128.proofs.ReaderLemmas.{value_is}
use Rattle.frac128.proofs.reading.read_frac.Goals as goal

pub returns-clause-bad_number : goal.returns-clause-bad_number
returns-clause-bad_number c = bad_number_is c.args.bytes.now c.reduced.result c.reduced.ensures

pub returns-clause-too_wide : goal.returns-clause-too_wide
returns-clause-too_wide c = too_wide_is c.args.bytes.now c.reduced.result c.reduced.ensures

pub returns-clause-value : goal.returns-clause-value
returns-clause-value c = value_is c.args.bytes.now c.reduced.result c.reduced.ensures
