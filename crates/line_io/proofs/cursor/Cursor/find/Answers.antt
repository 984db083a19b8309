use Rattle.std.proofs.Common.{◌≡◌, ◌∙◌, ap, sym, subst, ℕ, List, Option, ◌+◌, length, length-drop, arith}
use Rattle.line_io.specs.Lines.{Progress}
use Rattle.line_io.proofs.CursorLemmas.{Seeking, Seeking-start, Seeking-bound, Seeking-no_line, Seeking-whole, Seeking-last, Seeking-limit, Seeking-read, Seeking-shed, Seeking-take, Sheds-same, search_falls}
use Rattle.line_io.proofs.cursor.Cursor.find.Goals as goal

-- the same at a length that was read
shed_at : (old new : Progress) (a b : Option (List ℕ)) (m n dropped len : ℕ) → len ≡ length new.in_hand
    → Seeking old new a b m n dropped (length new.in_hand) (length new.in_hand) → Seeking old new a b m n dropped len len
shed_at old new a b m n dropped len is h = subst (λ k. Seeking old new a b m n dropped k k) (sym is) h

pub loop-at-init : goal.loop-at-init
loop-at-init g c = Seeking-start _ _ _ c.len-held.result c.args.self.now.within c.requires c.len-held.ensures.value c.len-held.ensures.bound

pub newline_from-requires : goal.newline_from-requires
newline_from-requires g c = omega (arith, c.loop-at.invariant.held_is, c.loop-at.invariant.searched_in)

pub overflow_add-len : goal.overflow_add-len
overflow_add-len g c =
    omega (
      arith,
      c.in-Some.ensures.0,
      length-drop c.loop-at.searched c.loop-at.self.window.in_hand,
      c.loop-at.invariant.held_is,
      c.loop-at.invariant.searched_in,
      c.loop-at.invariant.room,
    )

pub returns-in-Some : goal.returns-in-Some
returns-in-Some g c = Seeking-whole _ _ _ _ _ _ _ _ _ _ c.loop-at.invariant c.in-Some.ensures

pub returns-then-self : goal.returns-then-self
returns-then-self g c =
    let i = c.loop-at.invariant in
    Seeking-last _ _ _ _ _ _ _ _ _ i (Seeking-no_line _ _ _ _ _ _ _ _ _ i c.in_default.ensures) c.if-self.true

pub returns-then-self-eq-INPUT_LIMIT : goal.returns-then-self-eq-INPUT_LIMIT
returns-then-self-eq-INPUT_LIMIT g c =
    let i = c.loop-at.invariant in
    Seeking-limit _ _ _ _ _ _ _ _ _ i (Seeking-no_line _ _ _ _ _ _ _ _ _ i c.in_default.ensures) c.if-self.false c.if-self-eq-INPUT_LIMIT.true

pub overflow_add-dropped : goal.overflow_add-dropped
overflow_add-dropped g c =
    let i = c.loop-at.invariant in
    let shed = Seeking-shed _ _ _ _ _ _ _ _ _ _ _ i (Seeking-no_line _ _ _ _ _ _ _ _ _ i c.in_default.ensures) c.shed-dropped.ensures in
    omega (arith, Seeking-bound _ _ _ _ _ _ _ _ _ shed.0)

pub loop-at-smaller : goal.loop-at-smaller
loop-at-smaller g c =
    let same = Sheds-same _ _ _ c.shed-dropped.ensures in
    let taken = c.in-Ok.ensures.taken in
    search_falls _ _ c.in-Ok.count _ _ c.if-self.false (taken.1 ∙ ap (λ n. n + c.in-Ok.count) same.0) c.more.new.self.within c.in-Ok.ensures.ended

pub loop-at-preserved : goal.loop-at-preserved
loop-at-preserved g c =
    let i = c.loop-at.invariant in
    let shed = Seeking-shed _ _ _ _ _ _ _ _ _ _ _ i (Seeking-no_line _ _ _ _ _ _ _ _ _ i c.in_default.ensures) c.shed-dropped.ensures in
    let same = Sheds-same _ _ _ c.shed-dropped.ensures in
    let taken = c.in-Ok.ensures.taken in
    Seeking-take _ _ _ _ _ _ _ _ _ _ _ c.in-Ok.count (shed_at _ _ _ _ _ _ _ _ c.len-searched.ensures.value shed.0) shed.1
    (omega (arith, c.len-searched.ensures.value, shed.2)) (same.1 ∙ c.if-self.false) (omega (arith, same.0)) taken.0 taken.1 taken.2
    c.more.new.self.within c.in-Ok.ensures.ended c.in-Ok.ensures.at_end c.in-Ok.ensures.count c.in-Ok.ensures.fault

pub returns-in_default-more : goal.returns-in_default-more
returns-in_default-more g c =
    let i = c.loop-at.invariant in
    let shed = Seeking-shed _ _ _ _ _ _ _ _ _ _ _ i (Seeking-no_line _ _ _ _ _ _ _ _ _ i c.in_default.ensures) c.shed-dropped.ensures in
    let same = Sheds-same _ _ _ c.shed-dropped.ensures in
    let failed = c.in_default-more.ensures.failed in
    Seeking-read _ _ _ _ _ _ _ _ _ _ _ _ shed.0 shed.1 (same.1 ∙ c.if-self.false) (omega (arith, same.0)) failed.1 failed.0.1
    c.in_default-more.ensures.count failed.0.0
