use Rattle.integers.proofs.Counting.{choices-members, length-choices}
use Rattle.integers.proofs.number_laws.choices_are_counted.Goals as goal

pub returns : goal.returns
returns c = record { members = choices-members; count = length-choices }
