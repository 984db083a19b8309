use Rattle.std.proofs.Common.{◌≡◌, ◌∙◌, ap, sym, subst₂, length, arith}
use Rattle.std.proofs.lemmas.List.{with_items_is}
use Rattle.frac128.specs.Entries.{entries_from}
use Rattle.lex_simplex.specs.Cells.{AreListed}
use Rattle.lex_simplex.proofs.pivot_row.PivotRow.prepare.Goals as goal

pub invariant_of-self : goal.invariant_of-self
invariant_of-self c =
    let cells = with_items_is c.self.inside.cells c.prepare_cells.new.cells (c.prepare_cells.auto.cells ∙ c.as_mut_slice.ensures.len) in
    let entries = with_items_is c.self.inside.entries c.list_entries-self-inside.new.entries (c.list_entries-self-inside.auto.entries
    ∙ c.as_mut_slice-2.ensures.len) in
    let read = c.as_slice.ensures.value ∙ cells in
    let long : length c.list_entries-self-inside.new.entries ≡ length c.prepare_cells.new.cells =
    omega (
      arith,
      c.prepare_cells.auto.cells,
      ap length c.as_mut_slice.ensures.value,
      c.self.invariant.room,
      ap length c.as_mut_slice-2.ensures.value,
      c.list_entries-self-inside.auto.entries,
    ) in
    subst₂ (λ xs es. AreListed xs es c.list_entries-self-inside.result) (sym cells) (sym entries)
    (record {
      room = long;
      few = omega (arith, c.list_entries-self-inside.ensures.few, ap length read, long);
      listed =
          c.list_entries-self-inside.ensures.listed ∙ ap (entries_from 0) read;
    })
