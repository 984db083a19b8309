use Rattle.integers.proofs.Writings.{common_writing}
use Rattle.integers.proofs.number_laws.fractions_have_a_writing.Goals as goal

pub returns : goal.returns
returns c = common_writing
