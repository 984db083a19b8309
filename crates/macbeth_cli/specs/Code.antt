-- The exit status of each way to end.
use Rattle.std.specs.Prelude.{ℕ}
use Rattle.transcript.specs.declared.status.Status.{Status}
use Rattle.transcript.specs.declared.status.Status.TheVariants.{Done, BadWords, ReadFault, WriteFault, NoMemory, InputLimit}

-- 0 for a run that is done; 1 is left to the system
abbrev pub code_of : Status → ℕ
code_of Done = 0
code_of BadWords = 2
code_of ReadFault = 3
code_of WriteFault = 4
code_of NoMemory = 5
code_of InputLimit = 6
