use Rattle.std.proofs.Common.{◌+◌, ◌-◌, ◌^◌, length}
use Rattle.transcript.proofs.BlockLemmas.{InBlock}
use Rattle.transcript.proofs.block.read_block.Given as goal

abbrev pub invariant-lines : goal.invariant-lines
invariant-lines g l = InBlock l.fn.lines l.lines (g.S.Source.left l.fn.source) (g.S.Source.left l.source) (g.S.Source.faults l.fn.source)
    (g.S.Source.faults l.source) l.fits l.block.items

abbrev pub decreases-lines : goal.decreases-lines
decreases-lines g l = (2 ^ 30 - l.lines.taken) + length l.lines.in_hand
