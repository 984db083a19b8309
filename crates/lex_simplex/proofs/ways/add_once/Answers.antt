use Rattle.std.proofs.Common.{◌≡◌, ◌<◌, length, get_or, subst, ap, ◌∙◌, ℕ, ℤ, ◌+ℤ◌, arith}
use Rattle.std.proofs.lemmas.List.{get_or_default}
use Rattle.frac128.specs.Range.{IsInRange}
use Rattle.lex_simplex.proofs.CellLists.Less.{IsLessSoFar-add}
use Rattle.lex_simplex.proofs.ways.add_once.Goals as goal

pub loop-k-preserved : goal.loop-k-preserved
loop-k-preserved c =
    let entries = c.args.entries.now in
    let k = c.loop-k.k in
    let below : k < length entries = c.loop-k-test.true in
    let x : ℤ = c.index-row-place.result in
    let e : ℕ × ℤ = get_or entries k c.index-entries-k.result in
    let read : e ≡ get_or entries k e = get_or_default entries k c.index-entries-k.result e below in
    let other : get_or entries k c.index-entries-k-in-loop-k.result ≡ e =
    get_or_default entries k c.index-entries-k-in-loop-k.result c.index-entries-k.result below in
    let within : e.0 < length c.loop-k.row = omega (arith, c.requires k c.index-entries-k.result below, c.loop-k.invariant.long) in
    let number = subst (λ (f : ℕ × ℤ). IsInRange f.1) other c.get.ensures.in_range in
    let done = c.in_ok-row.ensures in
    let fits = subst (λ (f : ℕ × ℤ). IsInRange (x +ℤ f.1)) other done.0 in
    IsLessSoFar-add entries k c.args.row.now c.loop-k.row e x c.in_ok-row.field-0 c.loop-k.invariant below read within c.index-row-place.is number fits
    (done.1 ∙ ap (λ (f : ℕ × ℤ). x +ℤ f.1) other)
