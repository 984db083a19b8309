-- The commands that a session doesn't do yet.
use Rattle.std.specs.Prelude.{Bool, true, false}
use Rattle.command_read.specs.declared.command.Command.{Command}
use Rattle.command_read.specs.declared.command.Command.TheVariants.{Repairs, Wrepairs, Dominance, Dcert, Dominances}

-- the command is read, and refused as unknown by a session until it is built
abbrev pub is_done_later : Command → Bool
is_done_later (Repairs name) = true
is_done_later Wrepairs = true
is_done_later (Dominance a b) = true
is_done_later (Dcert a b) = true
is_done_later Dominances = true
is_done_later _ = false
