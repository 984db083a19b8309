use Rattle.integers.proofs.Writings.{IsWriting-sum, IsWriting-running}
use Rattle.integers.proofs.number_laws.writings_sum.Goals as goal

pub returns : goal.returns
returns c = record { sum = IsWriting-sum; running = IsWriting-running }
