use Rattle.std.proofs.Common.{◌≡◌, ◌++◌, [], ◌∷◌, subst, sym, arith, rules}
use Rattle.cert_check.specs.Reading.{words, IsPrintedEntry, HasEntries}
use Rattle.cert_check.proofs.EntryTexts.{HasEntries-next, other_entry_line}
use Rattle.cert_check.proofs.WordLemmas.{Found-some, Found-none}
use Rattle.cert_check.proofs.reading.read_entries.Goals as goal

pub returns-in_default-2 : goal.returns-in_default-2
returns-in_default-2 c = record {
  on = c.loop-alloc.on.items;
  rest = c.loop-alloc.rest.now;
  has = c.loop-alloc.invariant;
  number = omega arith;
  missing = λ less. other_entry_line c.loop-alloc.rest.now c.in-Some.line.now c.in-Some.after.now c.in-Some.ensures.0 c.in-Some.ensures.1
      (Found-none (IsPrintedEntry (words c.in-Some.line.now)) c.in_ok-entry.field-0 c.in_ok-entry.ensures c.in_default-2.is);
  too_many = λ enough. absurd (omega arith);
}

pub loop-alloc-preserved : goal.loop-alloc-preserved
loop-alloc-preserved c =
    let items : c.push.new.self.items ≡ c.loop-alloc.on.items ++ c.in-Some-2.entry ∷ [] = search rules in
    subst (λ on. HasEntries c.args.text.now c.args.count on c.in-Some.after.now) (sym items)
    (HasEntries-next c.args.text.now c.args.count c.loop-alloc.on.items c.loop-alloc.rest.now c.in-Some.line.now
    c.in-Some.after.now c.in-Some-2.entry c.loop-alloc.invariant (omega arith) c.in-Some.ensures.0
    (Found-some (IsPrintedEntry (words c.in-Some.line.now)) c.in_ok-entry.field-0 c.in-Some-2.entry c.in_ok-entry.ensures c.in-Some-2.is))
