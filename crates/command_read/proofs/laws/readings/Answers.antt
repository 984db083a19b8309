use Rattle.command_read.proofs.LawLemmas.{nothing_is, refused_between}
use Rattle.command_read.proofs.laws.readings.Goals as goal

pub returns-clause-nothing : goal.returns-clause-nothing
returns-clause-nothing c = nothing_is

pub returns-clause-refused : goal.returns-clause-refused
returns-clause-refused c = refused_between
