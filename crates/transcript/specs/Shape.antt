-- An entry as its service looks at it.
use Rattle.transcript.specs.Entry.{Entry, too_long, line, with_block, whole, cut, large}
use Rattle.transcript.specs.declared.entry.Shape.{Shape}
use Rattle.transcript.specs.declared.entry.Shape.TheVariants.{TooLong, Line, Whole, Cut, Large}

abbrev pub entry_of_shape : Shape → Entry
entry_of_shape TooLong = too_long
entry_of_shape (Line bytes) = line bytes.now
entry_of_shape (Whole bytes block) = with_block bytes.now (whole block.now)
entry_of_shape (Cut bytes) = with_block bytes.now cut
entry_of_shape (Large bytes) = with_block bytes.now large
