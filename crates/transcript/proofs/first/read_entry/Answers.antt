use Rattle.std.proofs.Common.{sym, ◌∙◌, ap}
use Rattle.transcript.specs.Reading.{entry_of_kind}
use Rattle.transcript.proofs.BlockLemmas.{line_known}
use Rattle.transcript.proofs.FirstLemmas.{says_over, fails_first, gives_long, gives_line, gives_block, fails_inside}
use Rattle.transcript.proofs.first.read_entry.Goals as goal

pub returns-in-Err : goal.returns-in-Err
returns-in-Err g c =
    let t = c.take_line.ensures in
    fails_first _ _ _ _ _ _ _ c.take_line.new.into.items t.bytes t.moves (entry_of_kind c.args.kind.now c.take_line.new.into.items c.args.block.now.items)
    c.take_line.result c.in-Err.fault t.says c.in-Err.is

pub returns-in-Ok-End : goal.returns-in-Ok-End
returns-in-Ok-End g c =
    let t = c.take_line.ensures in
    says_over _ _ _ _ _ _ _ c.take_line.new.into.items t.bytes t.moves (entry_of_kind c.args.kind.now c.take_line.new.into.items c.args.block.now.items)
    (line_known _ _ _ _ _ _ _ _ _ _ t c.in-Ok-End.is c.in-Ok-End.field-0-is)

pub returns-in-Ok-TooLong : goal.returns-in-Ok-TooLong
returns-in-Ok-TooLong g c =
    let t = c.take_line.ensures in
    gives_long _ _ _ _ _ _ _ c.take_line.new.into.items t.bytes t.moves (line_known _ _ _ _ _ _ _ _ _ _ t c.in-Ok-TooLong.is c.in-Ok-TooLong.field-0-is)

pub returns-then-not-takes_block : goal.returns-then-not-takes_block
returns-then-not-takes_block g c =
    let t = c.take_line.ensures in
    gives_line _ _ _ _ _ _ _ _ t.bytes t.moves (line_known _ _ _ _ _ _ _ _ _ _ t c.in-Ok-Line.is c.in-Ok-Line.field-0-is)
    (sym (ap g.V.Service.rules.takes_block c.deref.ensures.value) ∙ sym c.takes_block.ensures ∙ c.if-not-takes_block.true)

pub returns-in-Err-read_block : goal.returns-in-Err-read_block
returns-in-Err-read_block g c =
    let t = c.take_line.ensures in
    fails_inside _ _ _ _ _ _ _ _ t.bytes t.moves (line_known _ _ _ _ _ _ _ _ _ _ t c.in-Ok-Line.is c.in-Ok-Line.field-0-is)
    (sym (ap g.V.Service.rules.takes_block c.deref.ensures.value) ∙ sym c.takes_block.ensures ∙ c.if-not-takes_block.false) _ _ _ _
    (entry_of_kind c.args.kind.now c.take_line.new.into.items c.read_block.new.block.items) c.in-Err-read_block.fault c.in-Err-read_block.ensures

pub returns-in-Ok : goal.returns-in-Ok
returns-in-Ok g c =
    let t = c.take_line.ensures in
    gives_block _ _ _ _ _ _ _ _ t.bytes t.moves (line_known _ _ _ _ _ _ _ _ _ _ t c.in-Ok-Line.is c.in-Ok-Line.field-0-is)
    (sym (ap g.V.Service.rules.takes_block c.deref.ensures.value) ∙ sym c.takes_block.ensures ∙ c.if-not-takes_block.false) _ _ _ _ c.in-Ok.found
    c.in-Ok.ensures
