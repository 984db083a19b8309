use Rattle.std.proofs.Common.{Bor, List, ℕ, ◌∙◌, sym, refl, inl, inr, map, Some, ◌∷◌, []}
use Rattle.std.proofs.lemmas.List.{map-append}
use Rattle.csv.specs.Reading.{Reached, default_config, strip_bom}
use Rattle.csv.specs.Records.{fields_of}
use Rattle.csv.specs.declared.parser.State.TheVariants as state
use Rattle.csv.proofs.ReadFacts.{rows-more}
use Rattle.table_csv.proofs.reading.all_records.Goals as goal

pub loop-row-init : goal.loop-row-init
unfolding Reached
loop-row-init c =
    let made = c.from_reader-reader.ensures in
    let headers = c.has_headers.ensures in
    let flexible = c.flexible.ensures in
    let start = c.into_iter-row-iterator.ensures.into_iter_gives ∙ refl in
    let reader = c.into_byte_records-row-items.ensures.rdr in
    let left = c.into_byte_records-row-items.ensures.left in
    rw (start, reader, c.new-records.ensures.items) (
      rw (flexible, headers) at made.trim ∙ c.new.ensures.trim,
      inr (inr (rw (flexible, headers) at made.has_headers, made.headers)),
      left,
      rw (flexible, headers) at made.config ∙ c.new.ensures.config,
      rw flexible at made.flexible,
      strip_bom c.args.text.now,
      made.source,
      (sym made.state, refl),
    )

pub loop-row-preserved : goal.loop-row-preserved
loop-row-preserved c =
    let inv = c.loop-row.invariant in
    let steps = rw (c.in-Some.is, c.in-Ok.is) at (c.next.ensures.steps inv.2 inv.0) in
    let s = steps.0 inv.1 in
    let items = c.in_ok-push-in-Ok.ensures.items in
    let m =
    rows-more (λ (s : Bor (List ℕ)). Some s.now) c.loop-row.row-iterator.rdr c.next.new.self.rdr (fields_of c.in-Ok.row) default_config
    state.StartRecord (strip_bom c.args.text.now) inv.5 (map fields_of c.loop-row.records.items) inv.3 inv.6 inv.7 s.0 in
    (s.0.3 ∙ inv.0, inl s.1, s.2, s.0.2 ∙ inv.3, steps.3 ∙ inv.4, m.0, m.1, rw (items, map-append fields_of c.loop-row.records.items (c.in-Ok.row ∷ [])) m.2)
