use Rattle.integers.proofs.Writings.{IsWriting-same, IsWriting-cross}
use Rattle.integers.proofs.number_laws.writings_agree.Goals as goal

pub returns : goal.returns
returns c = record { same = IsWriting-same; cross = IsWriting-cross }
