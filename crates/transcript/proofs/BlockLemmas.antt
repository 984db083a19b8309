-- The lines of a block, one after another.
use Rattle.std.proofs.Common.{◌≡◌, ◌⊎◌, ℕ, ◌+◌, ◌-◌, ◌^◌, ◌<◌, ◌≤◌, Bool, true, false, not, cond, ◌&&◌, List, [], ◌∷◌, ◌++◌, length, Option, None, Result, Ok, Err, refl, sym, ap, ◌∙◌, subst, inl, inr, append_assoc, length-append, arith}
use Rattle.std.specs.Prelude.{nat_le, codes}
use Rattle.std.specs.Str.{bytes_eq}
use Rattle.std.specs.List.{flat_map, list_all}
use Rattle.std.proofs.lemmas.Bool.{true≢false, lt-ltb, le-ltb, leb-true, le-leb, and_parts}
use Rattle.std.specs.Cmp.Derive.{both_true}
use Rattle.std.proofs.lemmas.List.{append-nil}
use Rattle.std.proofs.lemmas.List.Elements.{All-cons, All-nil, All-append}
use Rattle.std.proofs.lemmas.List.Folds.{list_any-append, list_all-append}
use Rattle.std.proofs.lemmas.Grind.{flat_map-append}
use Rattle.line_io.specs.Outside.{Took, IsAtEnd}
use Rattle.line_io.specs.Lines.{IsUnbroken, Progress, Splits, Gives, IsOver, without_return}
use Rattle.line_io.proofs.OutsideLemmas.{Took-nil, Took-append, Took-same, Rose-earlier}
use Rattle.line_io.proofs.LinesLemmas.{Splits-shorter}
use Rattle.transcript.specs.Entries.{closed, is_long, is_end, is_kept, lines_text, block_of}
use Rattle.line_io.specs.Lines.{Takes, Moves}
use Rattle.transcript.proofs.EntriesLemmas.{unbroken_or}
use Rattle.line_io.specs.Outside.{change}
use Rattle.transcript.specs.Entry.{whole, large}
use Rattle.transcript.specs.Line.{IsCopied, SaysLine, TakesLine}
use Rattle.transcript.specs.Block.{AreFirst, HaveNoEnd, LeavesOpen, IsBlock, block_of_kind, ReadsBlock, CopiesLine}
use Rattle.transcript.specs.declared.entry.Kind.{Kind}
use Rattle.transcript.specs.declared.entry.Kind.TheVariants.{Whole, Cut, Large}
use Rattle.transcript.specs.declared.piece.Piece.{Piece}
use Rattle.transcript.specs.declared.piece.EntryFault.{EntryFault}
use Rattle.transcript.specs.declared.piece.EntryFault.TheVariants.{Read, Limit, Memory}

-- calls that took nothing, and calls one after another
pub Takes-same : (p : Progress) (a : Option (List ℕ)) (m : ℕ) → p.taken ≤ 2 ^ 30 → Takes p p (change a a m m) []
Takes-same p a m within = record {
  took = Took-nil a;
  counted = omega arith;
  within = within;
  faults = omega arith;
  none_after_end = λ e. refl;
  stays_ended = λ e. e;
  end_seen = λ e f. absurd (true≢false (sym f ∙ e));
}

pub both_none : (xs ys : List ℕ) → xs ≡ [] → ys ≡ [] → xs ++ ys ≡ []
both_none xs ys a b = ap (λ (t : List ℕ). t ++ ys) a ∙ b

end_later : (p q r : Progress) (b c : Option (List ℕ)) (n o : ℕ) (ys : List ℕ) → (p.ended ≡ false → q.ended ≡ true → IsAtEnd b × (q.taken < 2 ^ 30))
    → Takes q r (change b c n o) ys
    → p.ended ≡ false → r.ended ≡ true → IsAtEnd c × (r.taken < 2 ^ 30)
end_later p q r b c n o ys first next unseen seen = by_middle q.ended refl
  where
    by_middle : (ended : Bool) → q.ended ≡ ended → IsAtEnd c × (r.taken < 2 ^ 30)
    by_middle true e =
        let none = next.none_after_end e in
        let was = first unseen e in
        (subst IsAtEnd (sym (Took-same b c (subst (Took b c) none next.took))) was.0, omega (arith, next.counted, ap length none, was.1))
    by_middle false e = next.end_seen e seen

pub Takes-append : (p q r : Progress) (a b c : Option (List ℕ)) (m n o : ℕ) (xs ys : List ℕ) → Takes p q (change a b m n) xs → Takes q r (change b c n o) ys
    → Takes p r (change a c m o) (xs ++ ys)
Takes-append p q r a b c m n o xs ys first next = record {
  took = Took-append a b c xs ys first.took next.took;
  counted = omega (arith, first.counted, next.counted, length-append xs ys);
  within = next.within;
  faults = omega (arith, first.faults, next.faults);
  none_after_end = λ e. both_none xs ys (first.none_after_end e) (next.none_after_end (first.stays_ended e));
  stays_ended = λ e. next.stays_ended (first.stays_ended e);
  end_seen = end_later p q r b c n o ys first.end_seen next;
}

-- the first pieces of a stream, and those behind them
no_first : (ended : Bool) (stream : List ℕ) (pieces : List (List ℕ)) (rest : List ℕ) → stream ≡ [] → AreFirst ended stream pieces rest
    → (pieces ≡ []) × (rest ≡ [])
no_first ended stream [] rest none (inl (is, each)) = (refl, sym is ∙ none)
no_first ended stream (p ∷ ps) rest none (inl (is, each)) =
    absurd (omega (
      arith,
      ap length (sym none ∙ is),
      length-append (closed p ++ flat_map closed ps) rest,
      length-append (closed p) (flat_map closed ps),
      length-append p (10 ∷ []),
    ))
no_first ended stream pieces rest none (inr (seen, over, o)) =
    absurd (o.some (no_tail (flat_map closed o.front) o.last (sym o.joined ∙ none)))
  where
    no_tail : (xs ys : List ℕ) → xs ++ ys ≡ [] → ys ≡ []
    no_tail [] ys h = h
    no_tail (x ∷ xs) ys h = absurd (cc)

regroup : (ps qs : List (List ℕ)) (mid taken rest : List ℕ) (stream : List ℕ) → stream ≡ flat_map closed ps ++ mid → mid ++ taken ≡ flat_map closed qs ++ rest
    → stream ++ taken ≡ flat_map closed (ps ++ qs) ++ rest
regroup ps qs mid taken rest stream is next =
    ap (λ (t : List ℕ). t ++ taken) is ∙ append_assoc (flat_map closed ps) mid taken ∙ ap (λ (t : List ℕ). flat_map closed ps ++ t) next
    ∙ sym (append_assoc (flat_map closed ps) (flat_map closed qs) rest) ∙ ap (λ (t : List ℕ). t ++ rest) (sym (flat_map-append closed ps qs))

pub AreFirst-append : (before now : Bool) (stream taken : List ℕ) (ps qs : List (List ℕ)) (mid rest : List ℕ) → AreFirst before stream ps mid
    → (before ≡ true → taken ≡ []) → (before ≡ true → now ≡ true)
    → AreFirst now (mid ++ taken) qs rest → AreFirst now (stream ++ taken) (ps ++ qs) rest
AreFirst-append before now stream taken ps qs mid rest (inl (is, each)) none stays (inl (next, others)) =
    inl (regroup ps qs mid taken rest stream is next, All-append IsUnbroken ps qs each others)
AreFirst-append before now stream taken ps qs mid rest (inl (is, each)) none stays (inr (seen, over, o)) =
    inr (
      seen,
      over,
      record {
        front = ps ++ o.front;
        last = o.last;
        are = ap (λ (t : List (List ℕ)). ps ++ t) o.are ∙ sym (append_assoc ps o.front (o.last ∷ []));
        joined = regroup ps o.front mid taken o.last stream is o.joined;
        each = All-append IsUnbroken ps o.front each o.each;
        unbroken = o.unbroken;
        some = o.some;
      },
    )
AreFirst-append before now stream taken ps qs mid rest (inr (seen, over, o)) none stays next =
    let h = no_first now (mid ++ taken) qs rest (both_none mid taken over (none seen)) next in
    inr (
      stays seen,
      h.1,
      record {
        front = o.front;
        last = o.last;
        are = ap (λ (t : List (List ℕ)). ps ++ t) h.0 ∙ append-nil ps ∙ o.are;
        joined = ap (λ (t : List ℕ). stream ++ t) (none seen) ∙ append-nil stream ∙ o.joined;
        each = o.each;
        unbroken = o.unbroken;
        some = o.some;
      },
    )

pub AreFirst-nil : (ended : Bool) (stream : List ℕ) → AreFirst ended stream [] stream
AreFirst-nil ended stream = inl (refl, All-nil IsUnbroken)

pub AreFirst-one : (ended : Bool) (stream piece rest : List ℕ) → Splits ended stream piece rest → AreFirst ended stream (piece ∷ []) rest
AreFirst-one ended stream piece rest (unbroken, inl is) =
    inl (is ∙ sym (append_assoc (closed piece) [] rest ∙ append_assoc piece (10 ∷ []) rest), All-cons IsUnbroken piece [] unbroken (All-nil IsUnbroken))
AreFirst-one ended stream piece rest (unbroken, inr (seen, is, some, over)) =
    inr (seen, over, record { front = []; last = piece; are = refl; joined = is; each = All-nil IsUnbroken; unbroken = unbroken; some = some })

-- none of the pieces and the next one ends a block
pub HaveNoEnd-append : (ps : List (List ℕ)) (piece : List ℕ) → HaveNoEnd ps → is_end piece ≡ false → HaveNoEnd (ps ++ piece ∷ [])
HaveNoEnd-append ps piece none other = list_any-append is_end ps (piece ∷ []) ∙ rw (none, other) refl

-- a line as it was copied
pub long_is : (piece : List ℕ) → 65536 < length piece → is_long piece ≡ true
long_is piece h = lt-ltb 65536 (length piece) h

pub short_is : (piece : List ℕ) → length piece ≤ 65536 → is_long piece ≡ false
short_is piece h = le-ltb _ _ h

pub long_no_end : (piece : List ℕ) → is_long piece ≡ true → is_end piece ≡ false
long_no_end piece h = rw h refl

pub short_end : (piece line : List ℕ) → is_long piece ≡ false → line ≡ without_return piece → is_end piece ≡ bytes_eq line (codes "end")
short_end piece line h is = rw (h, is) refl

-- the text of a block, with one line more
text_more : (ps : List (List ℕ)) (piece : List ℕ) → lines_text (ps ++ piece ∷ []) ≡ lines_text ps ++ closed (without_return piece)
text_more ps piece =
    flat_map-append (λ (p : List ℕ). closed (without_return p)) ps (piece ∷ [])
    ∙ ap (λ (t : List ℕ). lines_text ps ++ t) (append-nil (closed (without_return piece)))

all_more : (ps : List (List ℕ)) (piece : List ℕ)
    → list_all (λ (p : List ℕ). not (is_long p)) (ps ++ piece ∷ []) ≡ (list_all (λ (p : List ℕ). not (is_long p)) ps && (not (is_long piece) && true))
all_more ps piece = list_all-append (λ (p : List ℕ). not (is_long p)) ps (piece ∷ [])

not_true : (b : Bool) → (b ≡ true → ⊥) → b ≡ false
not_true true h = absurd (h refl)
not_true false h = refl

pub kept_long : (ps : List (List ℕ)) (piece : List ℕ) → is_long piece ≡ true → false ≡ is_kept (ps ++ piece ∷ [])
kept_long ps piece long = sym (not_true _ (λ e.
    let all = (and_parts _ _ e).0 in
    let last = (and_parts _ _ (sym (all_more ps piece) ∙ all)).1 in
    true≢false (sym (and_parts _ _ last).0 ∙ ap not long)))

kept_before : (ps : List (List ℕ)) (piece : List ℕ) → is_kept (ps ++ piece ∷ []) ≡ true → is_kept ps ≡ true
kept_before ps piece e =
    let parts = and_parts (list_all (λ (p : List ℕ). not (is_long p)) (ps ++ piece ∷ [])) (nat_le (length (lines_text (ps ++ piece ∷ []))) 1048576) e in
    let len : length (lines_text (ps ++ piece ∷ [])) ≤ 1048576 = leb-true _ _ parts.1 in
    let low : length (lines_text ps) ≤ 1048576 = omega
    (arith, len, ap length (text_more ps piece), length-append (lines_text ps) (closed (without_return piece))) in
    both_true (and_parts _ _ (sym (all_more ps piece) ∙ parts.0)).0 (le-leb _ _ low)

pub kept_short : (ps : List (List ℕ)) (piece line old : List ℕ) (fits kept : Bool) → is_long piece ≡ false → line ≡ without_return piece → fits ≡ is_kept ps
    → (fits ≡ true → old ≡ lines_text ps)
    → kept ≡ (fits && nat_le (length (old ++ closed line)) 1048576) → kept ≡ is_kept (ps ++ piece ∷ [])
kept_short ps piece line old true kept short is fits_is old_is kept_is =
    let first : list_all (λ (p : List ℕ). not (is_long p)) ps ≡
    true = (and_parts (list_all (λ (p : List ℕ). not (is_long p)) ps) (nat_le (length (lines_text ps)) 1048576) (sym fits_is)).0 in
    let all : list_all (λ (p : List ℕ). not (is_long p)) (ps ++ piece ∷ []) ≡ true = all_more ps piece ∙ rw (short, first) refl in
    let text : old ++ closed line ≡ lines_text (ps ++ piece ∷ []) = ap (λ (t : List ℕ). t ++ closed line) (old_is refl)
    ∙ ap (λ (t : List ℕ). lines_text ps ++ closed t) is ∙ sym (text_more ps piece) in
    kept_is ∙ ap (λ (t : List ℕ). nat_le (length t) 1048576) text ∙ sym (ap (λ (b : Bool). b && nat_le (length (lines_text (ps ++ piece ∷ []))) 1048576) all)
kept_short ps piece line old false kept short is fits_is old_is kept_is =
    kept_is ∙ sym (not_true _ (λ e. true≢false (sym (kept_before ps piece e) ∙ sym fits_is)))

-- behind some lines of a block
pub record InBlock (old now : Progress) (a b : Option (List ℕ)) (m n : ℕ) (fits : Bool) (copied : List ℕ) : Type 0 where
  pub inner : List (List ℕ)
  pub bytes : List ℕ
  pub goes : Takes old now (change a b m n) bytes
  pub are : AreFirst now.ended (old.in_hand ++ bytes) inner now.in_hand
  pub no_fault : now.fault ≡ None
  pub no_end : HaveNoEnd inner
  pub fits_is : fits ≡ is_kept inner
  pub copied_is : fits ≡ true → copied ≡ lines_text inner
  pub none_with_end : (bytes ≡ []) ⊎ LeavesOpen old.in_hand

pub in_block_start : (p : Progress) (a : Option (List ℕ)) (m : ℕ) (copied : List ℕ) → p.fault ≡ None → p.taken ≤ 2 ^ 30 → copied ≡ []
    → InBlock p p a a m m true copied
in_block_start p a m copied no_fault within none = record {
  inner = [];
  bytes = [];
  goes = Takes-same p a m within;
  are = subst (λ (s : List ℕ). AreFirst p.ended s [] p.in_hand) (sym (append-nil p.in_hand)) (AreFirst-nil p.ended p.in_hand);
  no_fault = no_fault;
  no_end = refl;
  fits_is = refl;
  copied_is = λ e. none;
  none_with_end = inl refl;
}

module _ (old p q : Progress) (a b c : Option (List ℕ)) (m n o : ℕ) (fits : Bool) (copied : List ℕ) (h : InBlock old p a b m n fits copied) (taken : List ℕ)
    (moves : Moves p q (change b c n o) taken) where
  goes : Takes p q (change b c n o) taken
  goes = moves.takes

  grouped : (old.in_hand ++ h.bytes) ++ taken ≡ old.in_hand ++ (h.bytes ++ taken)
  grouped = append_assoc old.in_hand h.bytes taken

  all_goes : Takes old q (change a c m o) (h.bytes ++ taken)
  all_goes = Takes-append old p q a b c m n o h.bytes taken h.goes goes

  one_more : (piece : List ℕ) → Splits q.ended (p.in_hand ++ taken) piece q.in_hand
      → AreFirst q.ended (old.in_hand ++ (h.bytes ++ taken)) (h.inner ++ piece ∷ []) q.in_hand
  one_more piece splits =
      subst (λ (s : List ℕ). AreFirst q.ended s (h.inner ++ piece ∷ []) q.in_hand) grouped
      (AreFirst-append p.ended q.ended (old.in_hand ++ h.bytes) taken h.inner (piece ∷ []) p.in_hand q.in_hand h.are goes.none_after_end goes.stays_ended
      (AreFirst-one q.ended (p.in_hand ++ taken) piece q.in_hand splits))

  -- nothing was taken while the block's end was in hand
  none_now : h.bytes ≡ [] → AreFirst p.ended (old.in_hand ++ h.bytes) h.inner p.in_hand → (h.bytes ++ taken ≡ []) ⊎ LeavesOpen old.in_hand
  none_now none (inr (seen, over, o)) = inl (both_none h.bytes taken none (goes.none_after_end seen))
  none_now none (inl (is, each)) = by_hand (unbroken_or p.in_hand)
    where
      by_hand : IsUnbroken p.in_hand ⊎ (¬ IsUnbroken p.in_hand) → (h.bytes ++ taken ≡ []) ⊎ LeavesOpen old.in_hand
      by_hand (inl unbroken) = inr (record {
        inner = h.inner;
        rest = p.in_hand;
        is = sym (append-nil old.in_hand) ∙ ap (λ (t : List ℕ). old.in_hand ++ t) (sym none) ∙ is;
        each = each;
        unbroken = unbroken;
        none = h.no_end;
      })
      by_hand (inr broken) = inl (both_none h.bytes taken none (moves.none_with_line broken))

  still_none : (h.bytes ++ taken ≡ []) ⊎ LeavesOpen old.in_hand
  still_none = by_before h.none_with_end
    where
      by_before : (h.bytes ≡ []) ⊎ LeavesOpen old.in_hand → (h.bytes ++ taken ≡ []) ⊎ LeavesOpen old.in_hand
      by_before (inl none) = none_now none h.are
      by_before (inr is_open) = inr is_open

  pub in_block_more : (P : List ℕ → Type 0) (g : Gives p q (p.in_hand ++ taken) P) (kept : Bool) (now : List ℕ) → is_end g.piece ≡ false
      → kept ≡ is_kept (h.inner ++ g.piece ∷ [])
      → (kept ≡ true → now ≡ lines_text (h.inner ++ g.piece ∷ [])) → InBlock old q a c m o kept now
  in_block_more P g kept now other kept_is now_is = record {
    inner = h.inner ++ g.piece ∷ [];
    bytes = h.bytes ++ taken;
    goes = all_goes;
    are = one_more g.piece g.splits;
    no_fault = g.no_fault;
    no_end = HaveNoEnd-append h.inner g.piece h.no_end other;
    fits_is = kept_is;
    copied_is = now_is;
    none_with_end = still_none;
  }

  pub in_block_long : Gives p q (p.in_hand ++ taken) (λ piece. 65536 < length piece) → InBlock old q a c m o false copied
  in_block_long g =
      let long = long_is g.piece g.is in
      in_block_more _ g false copied (long_no_end g.piece long) (kept_long h.inner g.piece long) (λ e. absurd (true≢false (sym e)))

  pub in_block_short : (line now : List ℕ) (kept : Bool) → Gives p q (p.in_hand ++ taken) (IsCopied line) → bytes_eq line (codes "end") ≡ false
      → CopiesLine fits copied line now kept → InBlock old q a c m o kept now
  in_block_short line now kept g other keeps =
      let short = short_is g.piece g.is.0 in
      let kept_is = kept_short h.inner g.piece line copied fits kept short g.is.1 h.fits_is h.copied_is keeps.is in
      in_block_more _ g kept now (short_end g.piece line short g.is.1 ∙ other) kept_is
      (λ e. keeps.copied e ∙ ap (λ (t : List ℕ). t ++ closed line) (h.copied_is (and_parts _ _ (sym keeps.is ∙ e)).0) ∙ ap
      (λ (t : List ℕ). lines_text h.inner ++ closed t) g.is.1
      ∙ sym (text_more h.inner g.piece))

  -- the block that was read, by its kind
  kind_is : (keeps : Bool) → keeps ≡ fits → IsBlock (cond keeps Whole Large) × (block_of_kind (cond keeps Whole Large) copied ≡ block_of h.inner)
  kind_is true e = (tt, ap whole (h.copied_is (sym e)) ∙ sym (ap (λ (t : Bool). cond t (whole (lines_text h.inner)) large) (sym h.fits_is ∙ sym e)))
  kind_is false e = (tt, sym (ap (λ (t : Bool). cond t (whole (lines_text h.inner)) large) (sym h.fits_is ∙ sym e)))

  pub block_ends : (line : List ℕ) (kind : Kind) → Gives p q (p.in_hand ++ taken) (IsCopied line) → bytes_eq line (codes "end") ≡ true
      → kind ≡ cond fits Whole Large → ReadsBlock old q (change a c m o) copied (Ok kind)
  block_ends line kind g ends is =
      let short = short_is g.piece g.is.0 in
      let k = kind_is fits refl in
      record {
        bytes = h.bytes ++ taken;
        goes = all_goes;
        none_with_end = still_none;
        says = (
          g.no_fault,
          subst IsBlock (sym is) k.0,
          inl (record {
            inner = h.inner;
            last = g.piece;
            are = one_more g.piece g.splits;
            none = h.no_end;
            end = short_end g.piece line short g.is.1 ∙ ends;
            is = ap (λ (x : Kind). block_of_kind x copied) is ∙ k.1;
          }),
        );
      }

  -- nothing more was taken into a piece
  none_more : (rest : List ℕ) → p.in_hand ++ taken ≡ rest → AreFirst q.ended (old.in_hand ++ (h.bytes ++ taken)) h.inner rest
  none_more rest is =
      subst (λ (s : List ℕ). AreFirst q.ended s h.inner rest) grouped
      (subst (λ (ps : List (List ℕ)). AreFirst q.ended ((old.in_hand ++ h.bytes) ++ taken) ps rest) (append-nil h.inner)
      (AreFirst-append p.ended q.ended (old.in_hand ++ h.bytes) taken h.inner [] p.in_hand rest h.are goes.none_after_end goes.stays_ended
      (subst (λ (s : List ℕ). AreFirst q.ended s [] rest) (sym is) (AreFirst-nil q.ended rest))))

  pub block_cut : IsOver p q (p.in_hand ++ taken) → ReadsBlock old q (change a c m o) copied (Ok Cut)
  block_cut over = record {
    bytes = h.bytes ++ taken;
    goes = all_goes;
    none_with_end = still_none;
    says = (
      over.no_fault,
      tt,
      inr (record {
        inner = h.inner;
        are = none_more [] over.nothing_left;
        seen = over.ended;
        over = over.nothing_in_hand;
        none = h.no_end;
        is = refl;
      }),
    );
  }

  still_open : IsUnbroken (p.in_hand ++ taken) → q.ended ≡ false → LeavesOpen (old.in_hand ++ (h.bytes ++ taken))
  still_open unbroken unseen = by_are (none_more (p.in_hand ++ taken) refl)
    where
      by_are : AreFirst q.ended (old.in_hand ++ (h.bytes ++ taken)) h.inner (p.in_hand ++ taken) → LeavesOpen (old.in_hand ++ (h.bytes ++ taken))
      by_are (inl (is, each)) = record { inner = h.inner; rest = p.in_hand ++ taken; is = is; each = each; unbroken = unbroken; none = h.no_end }
      by_are (inr (seen, over, o)) = absurd (true≢false (sym seen ∙ unseen))

  block_fails_by : (line : List ℕ) (fault : EntryFault) → SaysLine p q (change b c n o) (p.in_hand ++ taken) line (Err fault)
      → ReadsBlock old q (change a c m o) copied (Err fault)
  block_fails_by line Read f = record {
    bytes = h.bytes ++ taken;
    goes = all_goes;
    none_with_end = still_none;
    says = (Rose-earlier m n o h.goes.faults f.rose, f.not_ended, f.below_limit, still_open f.no_line f.not_ended);
  }
  block_fails_by line Limit f = record {
    bytes = h.bytes ++ taken;
    goes = all_goes;
    none_with_end = still_none;
    says = (f.at_limit, f.not_ended, still_open f.no_line f.not_ended);
  }
  block_fails_by line Memory f = record { bytes = h.bytes ++ taken; goes = all_goes; none_with_end = still_none; says = tt }

  pub block_fails : (line : List ℕ) (answer : Result Piece EntryFault) (fault : EntryFault) → SaysLine p q (change b c n o) (p.in_hand ++ taken) line answer
      → answer ≡ Err fault → ReadsBlock old q (change a c m o) copied (Err fault)
  block_fails line answer fault says is = block_fails_by line fault (subst (SaysLine p q (change b c n o) (p.in_hand ++ taken) line) is says)

  pub block_memory : (now : List ℕ) → ReadsBlock old q (change a c m o) now (Err Memory)
  block_memory now = record { bytes = h.bytes ++ taken; goes = all_goes; none_with_end = still_none; says = tt }

-- the measure of the loop
pub line_smaller : (p q : Progress) (b c : Option (List ℕ)) (n o : ℕ) (taken : List ℕ) (P : List ℕ → Type 0) → Takes p q (change b c n o) taken
    → Gives p q (p.in_hand ++ taken) P
    → (2 ^ 30 - q.taken) + length q.in_hand < (2 ^ 30 - p.taken) + length p.in_hand
line_smaller p q b c n o taken P goes g = omega (arith, goes.counted, goes.within, Splits-shorter q.ended _ _ _ g.splits, length-append p.in_hand taken)

-- what was taken, once it is known
pub line_known : (p q : Progress) (b c : Option (List ℕ)) (n o : ℕ) (line : List ℕ) (answer : Result Piece EntryFault) (piece known : Piece)
    (t : TakesLine p q (change b c n o) line answer) → answer ≡ Ok piece → piece ≡ known
    → SaysLine p q (change b c n o) (p.in_hand ++ t.bytes) line (Ok known)
line_known p q b c n o line answer piece known t is piece_is = subst (SaysLine p q (change b c n o) (p.in_hand ++ t.bytes) line)
    (is ∙ ap (λ (x : Piece). Ok x) piece_is) t.says
