use Rattle.std.proofs.Common.{◌≢◌, ◌∙◌}
use Rattle.csv.specs.declared.writer.QuoteStyle.TheVariants as style
use Rattle.table_csv.proofs.lines.row_bytes.Goals as goal

pub returns-in-Ok : goal.returns-in-Ok
returns-in-Ok c =
    let made = c.from_writer-writer.ensures in
    let plain : c.from_writer-writer.result.cfg.style ≢ style.NonNumeric = rw (made.cfg, c.defaults.ensures) (λ e. cc e) in
    let bytes = c.in_ok-write_byte_record.ensures.bytes made.fields made.wrote plain in
    let text = rw (made.cfg, c.defaults.ensures, made.wtr, c.new.ensures.items, made.empty) at bytes in
    c.in-Ok.ensures.ok ∙ text
