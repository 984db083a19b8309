use Rattle.std.proofs.Common.{ℕ, List, sym, ◌∙◌, ap, subst}
use Rattle.std.specs.Prelude.{codes}
use Rattle.std.specs.Str.{bytes_eq}
use Rattle.transcript.specs.Block.{CopiesLine}
use Rattle.transcript.proofs.BlockLemmas.{in_block_start, in_block_long, in_block_short, block_ends, block_cut, block_fails, block_memory, line_smaller, line_known}
use Rattle.transcript.proofs.block.read_block.Goals as goal

pub lines-init : goal.lines-init
lines-init g c = in_block_start _ _ _ _ c.requires.no_fault c.requires.within c.clear.ensures.items

pub take_line-requires : goal.take_line-requires
take_line-requires g c = c.lines.invariant.no_fault

pub returns-in-Err : goal.returns-in-Err
returns-in-Err g c =
    let t = c.take_line.ensures in
    block_fails _ _ _ _ _ _ _ _ _ _ _ c.lines.invariant t.bytes t.moves c.take_line.new.into.items c.take_line.result c.in-Err.fault t.says c.in-Err.is

pub returns-in-Ok-End : goal.returns-in-Ok-End
returns-in-Ok-End g c =
    let t = c.take_line.ensures in
    block_cut _ _ _ _ _ _ _ _ _ _ _ c.lines.invariant t.bytes t.moves (line_known _ _ _ _ _ _ _ _ _ _ t c.in-Ok-End.is c.in-Ok-End.field-0-is)

pub lines-smaller-in-Ok-TooLong : goal.lines-smaller-in-Ok-TooLong
lines-smaller-in-Ok-TooLong g c =
    let t = c.take_line.ensures in
    line_smaller _ _ _ _ _ _ t.bytes _ t.moves.takes (line_known _ _ _ _ _ _ _ _ _ _ t c.in-Ok-TooLong.is c.in-Ok-TooLong.field-0-is)

pub lines-preserved-in-Ok-TooLong : goal.lines-preserved-in-Ok-TooLong
lines-preserved-in-Ok-TooLong g c =
    let t = c.take_line.ensures in
    in_block_long _ _ _ _ _ _ _ _ _ _ _ c.lines.invariant t.bytes t.moves (line_known _ _ _ _ _ _ _ _ _ _ t c.in-Ok-TooLong.is c.in-Ok-TooLong.field-0-is)

pub returns-then-is_end : goal.returns-then-is_end
returns-then-is_end g c =
    let t = c.take_line.ensures in
    block_ends _ _ _ _ _ _ _ _ _ _ _ c.lines.invariant t.bytes t.moves c.take_line.new.into.items c.kind_of.result
    (line_known _ _ _ _ _ _ _ _ _ _ t c.in-Ok-Line.is c.in-Ok-Line.field-0-is)
    (sym (ap (λ (l : List ℕ). bytes_eq l (codes "end")) c.deref.ensures.value) ∙ sym c.is_end.ensures ∙ c.if-is_end.true) c.kind_of.ensures

pub returns-in-Err-copy_line : goal.returns-in-Err-copy_line
returns-in-Err-copy_line g c =
    let t = c.take_line.ensures in
    block_memory _ _ _ _ _ _ _ _ _ _ _ c.lines.invariant t.bytes t.moves _

pub lines-smaller : goal.lines-smaller
lines-smaller g c =
    let t = c.take_line.ensures in
    line_smaller _ _ _ _ _ _ t.bytes _ t.moves.takes (line_known _ _ _ _ _ _ _ _ _ _ t c.in-Ok-Line.is c.in-Ok-Line.field-0-is)

pub lines-preserved : goal.lines-preserved
lines-preserved g c =
    let t = c.take_line.ensures in
    in_block_short _ _ _ _ _ _ _ _ _ _ _ c.lines.invariant t.bytes t.moves c.take_line.new.into.items c.copy_line.new.block.items c.in-Ok.kept
    (line_known _ _ _ _ _ _ _ _ _ _ t c.in-Ok-Line.is c.in-Ok-Line.field-0-is)
    (sym (ap (λ (l : List ℕ). bytes_eq l (codes "end")) c.deref.ensures.value) ∙ sym c.is_end.ensures ∙ c.if-is_end.false)
    (subst (λ (l : List ℕ). CopiesLine c.lines.fits c.lines.block.items l c.copy_line.new.block.items c.in-Ok.kept) c.deref-in-Ok-Line.ensures.value
    c.in-Ok.ensures)
