use Rattle.command_read.specs.Blocks.{held_of}
use Rattle.command_read.specs.Reading.{command_of}
use Rattle.macbeth_cli.proofs.ReadLemmas.{of_read}
use Rattle.macbeth_cli.proofs.session.read_line.Goals as goal

pub returns-clause-number : goal.returns-clause-number
returns-clause-number c =
    of_read c.read_command.result (command_of c.args.line.now (held_of c.args.block)) c.read_command.ensures
    (λ number is. c.readings.ensures.refused c.args.line.now (held_of c.args.block) number is)
