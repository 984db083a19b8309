-- The first entry of a stream, by its pieces.
use Rattle.std.proofs.Common.{◌≡◌, ◌≢◌, ◌⊎◌, ℕ, ◌<◌, ◌≤◌, Bool, true, false, not, cond, ◌&&◌, ◌||◌, List, [], ◌∷◌, ◌++◌, length, Option, None, Result, Ok, Err, refl, sym, ap, ◌∙◌, subst, inl, inr, append_assoc, length-append, arith}
use Rattle.std.specs.Prelude.{nat_lt}
use Rattle.std.specs.List.{flat_map, list_any}
use Rattle.std.proofs.lemmas.Bool.{true≢false, lt-ltb}
use Rattle.std.proofs.lemmas.List.{append-nil}
use Rattle.std.proofs.lemmas.List.Elements.{All-nil, All-append}
use Rattle.line_io.specs.Lines.{IsUnbroken, Progress, Splits, Gives, IsOver, without_return}
use Rattle.line_io.proofs.OutsideLemmas.{Rose-earlier}
use Rattle.line_io.proofs.LinesLemmas.{Splits-shorter}
use Rattle.transcript.specs.Entry.{Entry, Block, too_long, line, with_block, whole, large, cut}
use Rattle.line_io.specs.Lines.{Takes, Moves}
use Rattle.line_io.specs.Outside.{change}
use Rattle.transcript.specs.Line.{IsCopied, SaysLine}
use Rattle.transcript.specs.Entries.{closed, is_end, entry_of, Place, between, inside, opens, cut_entry, entries_from, place_after, block_of, AreEntries, IsFirst}
use Rattle.transcript.specs.Block.{AreFirst, HaveNoEnd, LeavesOpen, EndsByEnd, EndsWithInput, IsBlock, block_of_kind, ReadsBlock}
use Rattle.transcript.specs.Reading.{ReadsEntry, entry_of_kind}
use Rattle.transcript.specs.declared.entry.Kind.{Kind}
use Rattle.transcript.specs.declared.entry.Kind.TheVariants.{TooLong, Line, Whole, Cut, Large}
use Rattle.transcript.specs.declared.reader.Next.TheVariants.{Found, End}
use Rattle.transcript.specs.declared.piece.EntryFault.{EntryFault}
use Rattle.transcript.specs.declared.piece.EntryFault.TheVariants.{Read, Limit, Memory}
use Rattle.transcript.specs.declared.piece.Piece.{Piece}
use Rattle.transcript.proofs.EntriesLemmas.{entries_from-append, place_after-append}
use Rattle.transcript.proofs.BlockLemmas.{both_none, Takes-append, AreFirst-append, AreFirst-one, long_is, short_is}

no_parts : (a b : Bool) → (a || b) ≡ false → (a ≡ false) × (b ≡ false)
no_parts true b h = absurd (true≢false h)
no_parts false b h = (refl, h)

filled : (xs : List ℕ) → xs ≢ [] → nat_lt 0 (length xs) ≡ true
filled [] some = absurd (some refl)
filled (x ∷ xs) some = lt-ltb 0 (length (x ∷ xs)) (omega arith)

-- what follows the first pieces is no longer than the stream
AreFirst-length : (ended : Bool) (stream : List ℕ) (pieces : List (List ℕ)) (rest : List ℕ) → AreFirst ended stream pieces rest → length rest ≤ length stream
AreFirst-length ended stream pieces rest (inl (is, each)) = omega (arith, ap length is, length-append (flat_map closed pieces) rest)
AreFirst-length ended stream pieces rest (inr (seen, over, o)) = omega (arith, ap length over)

module _ (takes : List ℕ → Bool) where
  -- pieces behind a line that takes a block, none of which ends it
  place_inside : (opening : List ℕ) (ps inner : List (List ℕ)) → HaveNoEnd inner → place_after takes (inside opening ps) inner ≡ inside opening (ps ++ inner)
  place_inside opening ps [] none = ap (inside opening) (sym (append-nil ps))
  place_inside opening ps (p ∷ inner) none =
      let h = no_parts (is_end p) (list_any is_end inner) none in
      ap (λ (b : Bool). place_after takes (cond b between (inside opening (ps ++ p ∷ []))) inner) h.0
      ∙ place_inside opening (ps ++ p ∷ []) inner h.1 ∙ ap (inside opening) (append_assoc ps (p ∷ []) inner)

  none_inside : (opening : List ℕ) (ps inner : List (List ℕ)) → HaveNoEnd inner → entries_from takes false (inside opening ps) inner ≡ []
  none_inside opening ps [] none = refl
  none_inside opening ps (p ∷ inner) none =
      let h = no_parts (is_end p) (list_any is_end inner) none in
      ap (λ (b : Bool). cond b (with_block opening (block_of ps) ∷ []) [] ++ entries_from takes false (cond b between (inside opening (ps ++ p ∷ []))) inner)
      h.0
      ∙ none_inside opening (ps ++ p ∷ []) inner h.1

  -- behind the opening line
  opened : (ended : Bool) (opening : List ℕ) (pieces : List (List ℕ)) → opens takes opening ≡ true
      → entries_from takes ended between (opening ∷ pieces) ≡ entries_from takes ended (inside (without_return opening) []) pieces
  opened ended opening pieces opens_is =
      ap (λ (b : Bool). cond b [] (entry_of opening ∷ []) ++ entries_from takes ended (cond b (inside (without_return opening) []) between) pieces) opens_is

  opened_place : (opening : List ℕ) (pieces : List (List ℕ)) → opens takes opening ≡ true
      → place_after takes between (opening ∷ pieces) ≡ place_after takes (inside (without_return opening) []) pieces
  opened_place opening pieces opens_is = ap (λ (b : Bool). place_after takes (cond b (inside (without_return opening) []) between) pieces) opens_is

  -- all pieces of a stream whose end was seen
  all_of : (stream : List ℕ) (pieces : List (List ℕ)) (ended : Bool) → AreFirst ended stream pieces []
      → AreEntries takes true stream (entries_from takes true between pieces)
  all_of stream pieces ended (inl (is, each)) =
      record {
        pieces = pieces;
        rest = [];
        lines = record { joined = is; each = each; open_rest = All-nil (λ b. b ≢ 10) };
        is = ap
            (entries_from takes true between) (sym (append-nil pieces));
      }
  all_of stream pieces ended (inr (seen, over, o)) =
      record {
        pieces = o.front;
        rest = o.last;
        lines = record { joined = o.joined; each = o.each; open_rest = o.unbroken };
        is = ap (entries_from takes true between) (o.are ∙ sym (ap (λ (b : Bool). o.front ++ cond b (o.last ∷ []) []) (filled o.last o.some)));
      }

  -- pieces that make one entry
  first_of : (ended : Bool) (stream : List ℕ) (pieces : List (List ℕ)) (entry : Entry) (rest : List ℕ) → AreFirst ended stream pieces rest
      → entries_from takes false between pieces ≡ entry ∷ []
      → place_after takes between pieces ≡ between → IsFirst takes ended stream entry rest
  first_of ended stream pieces entry rest (inl (is, each)) e place = inl (pieces, is, record { each = each; is = sym e; leaves_none_open = place })
  first_of ended stream pieces entry rest (inr (seen, over, o)) e place =
      let all : entries_from takes true between pieces ≡ entry ∷ [] =
      ap (entries_from takes true between) (sym (append-nil pieces)) ∙ entries_from-append takes true between pieces []
      ∙ ap (λ (t : List Entry). t ++ cut_entry true (place_after takes between pieces)) e ∙ ap (λ (q : Place). entry ∷ [] ++ cut_entry true q) place in
      inr (seen, over, subst (AreEntries takes true stream) all (all_of stream pieces ended (inr (seen, refl, o))))

  -- a piece that is an entry by itself
  first_plain : (ended : Bool) (stream piece rest : List ℕ) → Splits ended stream piece rest → opens takes piece ≡ false
      → IsFirst takes ended stream (entry_of piece) rest
  first_plain ended stream piece rest splits plain =
      first_of ended stream (piece ∷ []) (entry_of piece) rest (AreFirst-one ended stream piece rest splits)
      (ap (λ (b : Bool). cond b [] (entry_of piece ∷ []) ++ entries_from takes false (cond b (inside (without_return piece) []) between) []) plain)
      (ap (λ (b : Bool). cond b (inside (without_return piece) []) between) plain)

  -- a line and its block up to `end`
  first_block : (ended : Bool) (stream opening : List ℕ) (inner : List (List ℕ)) (last rest : List ℕ)
      → AreFirst ended stream (opening ∷ (inner ++ last ∷ [])) rest → opens takes opening ≡ true → HaveNoEnd inner
      → is_end last ≡ true → IsFirst takes ended stream (with_block (without_return opening) (block_of inner)) rest
  first_block ended stream opening inner last rest are opens_is none end =
      let o = without_return opening in
      first_of ended stream (opening ∷ (inner ++ last ∷ [])) (with_block o (block_of inner)) rest are
      (opened false opening (inner ++ last ∷ []) opens_is ∙ entries_from-append takes false (inside o []) inner (last ∷ [])
      ∙ ap (λ (t : List Entry). t ++ entries_from takes false (place_after takes (inside o []) inner) (last ∷ [])) (none_inside o [] inner none)
      ∙ ap (λ (q : Place). entries_from takes false q (last ∷ [])) (place_inside o [] inner none)
      ∙ ap (λ (b : Bool). cond b (with_block o (block_of inner) ∷ []) [] ++ entries_from takes false (cond b between (inside o (inner ++ last ∷ []))) []) end)
      (opened_place opening (inner ++ last ∷ []) opens_is ∙ place_after-append takes (inside o []) inner (last ∷ [])
      ∙ ap (λ (q : Place). place_after takes q (last ∷ [])) (place_inside o [] inner none)
      ∙ ap (λ (b : Bool). cond b between (inside o (inner ++ last ∷ []))) end)

  -- a line and its block, which the end of the input cuts off
  first_cut : (stream opening : List ℕ) (inner : List (List ℕ)) (ended : Bool) → AreFirst ended stream (opening ∷ inner) [] → opens takes opening ≡ true
      → HaveNoEnd inner
      → AreEntries takes true stream (with_block (without_return opening) cut ∷ [])
  first_cut stream opening inner ended are opens_is none =
      let o = without_return opening in
      subst (AreEntries takes true stream)
      (opened true opening inner opens_is ∙ ap (entries_from takes true (inside o [])) (sym (append-nil inner)) ∙ entries_from-append takes true (inside o [])
      inner []
      ∙ ap (λ (t : List Entry). t ++ cut_entry true (place_after takes (inside o []) inner)) (none_inside o [] inner none)
      ∙ ap (cut_entry true) (place_inside o [] inner none))
      (all_of stream (opening ∷ inner) ended are)

  -- no whole line
  none_plain : (stream : List ℕ) → IsUnbroken stream → AreEntries takes false stream []
  none_plain stream unbroken = record {
    pieces = [];
    rest = stream;
    lines = record { joined = refl; each = All-nil IsUnbroken; open_rest = unbroken };
    is = refl;
  }

  -- a line and a part of its block
  none_open : (ended : Bool) (stream opening mid taken : List ℕ) → AreFirst ended stream (opening ∷ []) mid → ended ≡ false → opens takes opening ≡ true
      → LeavesOpen (mid ++ taken) → AreEntries takes false (stream ++ taken) []
  none_open ended stream opening mid taken (inl (is, each)) unseen opens_is l =
      record {
        pieces = opening ∷ l.inner;
        rest = l.rest;
        lines = record {
          joined = ap (λ (t : List ℕ). t ++ taken) (is ∙ ap (λ (t : List ℕ). t ++ mid) (append-nil (closed opening)))
              ∙ append_assoc (closed opening) mid taken ∙ ap (λ (t : List ℕ). closed opening ++ t) l.is
              ∙ sym (append_assoc (closed opening) (flat_map closed l.inner) l.rest);
          each = All-append IsUnbroken (opening ∷ []) l.inner each l.each;
          open_rest = l.unbroken;
        };
        is = sym (opened false opening (l.inner ++ []) opens_is ∙ ap (entries_from takes false (inside (without_return opening) [])) (append-nil l.inner)
            ∙ none_inside (without_return opening) [] l.inner l.none);
      }
  none_open ended stream opening mid taken (inr (seen, over, o)) unseen opens_is is_open = absurd (true≢false (sym seen ∙ unseen))

  -- a line that was copied
  opens_is : (piece bytes : List ℕ) (test : Bool) → length piece ≤ 65536 → bytes ≡ without_return piece → takes bytes ≡ test → opens takes piece ≡ test
  opens_is piece bytes test short is e = ap (λ (b : Bool). not b && takes (without_return piece)) (short_is piece short) ∙ ap takes (sym is) ∙ e

  no_opens : (piece : List ℕ) → 65536 < length piece → opens takes piece ≡ false
  no_opens piece long = ap (λ (b : Bool). not b && takes (without_return piece)) (long_is piece long)

  module _ (p q : Progress) (b c : Option (List ℕ)) (n o : ℕ) (copied : List ℕ) (taken : List ℕ) (moves : Moves p q (change b c n o) taken) where
    goes : Takes p q (change b c n o) taken
    goes = moves.takes

    -- nothing is taken where a whole line is in hand
    none_now : ¬ AreEntries takes false p.in_hand [] → taken ≡ []
    none_now some = moves.none_with_line (λ unbroken. some (none_plain p.in_hand unbroken))

    -- a piece that is an entry by itself is the next entry
    gives_plain : (piece : List ℕ) (entry : Entry) → q.fault ≡ None → Splits q.ended (p.in_hand ++ taken) piece q.in_hand → opens takes piece ≡ false
        → entry_of piece ≡ entry
        → ReadsEntry takes p q (change b c n o) entry (Ok Found)
    gives_plain piece entry no_fault splits plain is = record {
      bytes = taken;
      goes = goes;
      none_with_entry = none_now;
      says = record {
        no_fault = no_fault;
        first = subst (λ (e : Entry). IsFirst takes q.ended (p.in_hand ++ taken) e q.in_hand) is
            (first_plain q.ended (p.in_hand ++ taken) piece q.in_hand splits plain);
        shorter = Splits-shorter q.ended (p.in_hand ++ taken) piece q.in_hand splits;
      };
    }

    pub gives_long : Gives p q (p.in_hand ++ taken) (λ piece. 65536 < length piece) → ReadsEntry takes p q (change b c n o) too_long (Ok Found)
    gives_long g =
        gives_plain g.piece too_long g.no_fault g.splits (no_opens g.piece g.is)
        (ap (λ (t : Bool). cond t too_long (line (without_return g.piece))) (long_is g.piece g.is))

    pub gives_line : Gives p q (p.in_hand ++ taken) (IsCopied copied) → takes copied ≡ false → ReadsEntry takes p q (change b c n o) (line copied) (Ok Found)
    gives_line g plain =
        gives_plain g.piece (line copied) g.no_fault g.splits (opens_is g.piece copied false g.is.0 g.is.1 plain)
        (ap (λ (t : Bool). cond t too_long (line (without_return g.piece))) (short_is g.piece g.is.0) ∙ ap line (sym g.is.1))

    pub says_over : (entry : Entry) → IsOver p q (p.in_hand ++ taken) → ReadsEntry takes p q (change b c n o) entry (Ok End)
    says_over entry over = record { bytes = taken; goes = goes; none_with_entry = none_now; says = over }

    fails_by : (entry : Entry) (fault : EntryFault) → SaysLine p q (change b c n o) (p.in_hand ++ taken) copied (Err fault)
        → ReadsEntry takes p q (change b c n o) entry (Err fault)
    fails_by entry Read f = record {
      bytes = taken;
      goes = goes;
      none_with_entry = none_now;
      says = record { rose = f.rose; no_entry = none_plain (p.in_hand ++ taken) f.no_line; not_ended = f.not_ended; below_limit = f.below_limit };
    }
    fails_by entry Limit f = record {
      bytes = taken;
      goes = goes;
      none_with_entry = none_now;
      says = record
          { at_limit = f.at_limit; no_entry = none_plain (p.in_hand ++ taken) f.no_line; not_ended = f.not_ended };
    }
    fails_by entry Memory f = record { bytes = taken; goes = goes; none_with_entry = none_now; says = tt }

    pub fails_first : (entry : Entry) (answer : Result Piece EntryFault) (fault : EntryFault)
        → SaysLine p q (change b c n o) (p.in_hand ++ taken) copied answer → answer ≡ Err fault
        → ReadsEntry takes p q (change b c n o) entry (Err fault)
    fails_first entry answer fault says is = fails_by entry fault (subst (SaysLine p q (change b c n o) (p.in_hand ++ taken) copied) is says)

    module _ (g : Gives p q (p.in_hand ++ taken) (IsCopied copied)) (takes_one : takes copied ≡ true) (r : Progress) (d : Option (List ℕ)) (l : ℕ)
        (block : List ℕ) where
      opening_takes : opens takes g.piece ≡ true
      opening_takes = opens_is g.piece copied true g.is.0 g.is.1 takes_one

      grouped : (more : List ℕ) → (p.in_hand ++ taken) ++ more ≡ p.in_hand ++ (taken ++ more)
      grouped more = append_assoc p.in_hand taken more

      all_goes : (more : List ℕ) → Takes q r (change c d o l) more → Takes p r (change b d n l) (taken ++ more)
      all_goes more next = Takes-append p q r b c d n o l taken more goes next

      -- the opening line and what was read behind it
      whole_first : (more : List ℕ) (pieces : List (List ℕ)) (rest : List ℕ) → Takes q r (change c d o l) more
          → AreFirst r.ended (q.in_hand ++ more) pieces rest
          → AreFirst r.ended (p.in_hand ++ (taken ++ more)) (g.piece ∷ pieces) rest
      whole_first more pieces rest next are =
          subst (λ (s : List ℕ). AreFirst r.ended s (g.piece ∷ pieces) rest) (grouped more)
          (AreFirst-append q.ended r.ended (p.in_hand ++ taken) more (g.piece ∷ []) pieces q.in_hand rest
          (AreFirst-one q.ended (p.in_hand ++ taken) g.piece q.in_hand g.splits) next.none_after_end next.stays_ended are)

      with_kind : (kind : Kind) → IsBlock kind → with_block (without_return g.piece) (block_of_kind kind block) ≡ entry_of_kind kind copied block
      with_kind Whole is = ap (λ (t : List ℕ). with_block t (whole block)) (sym g.is.1)
      with_kind Cut is = ap (λ (t : List ℕ). with_block t cut) (sym g.is.1)
      with_kind Large is = ap (λ (t : List ℕ). with_block t large) (sym g.is.1)
      with_kind TooLong is = absurd is
      with_kind Line is = absurd is

      first_ends : (more : List ℕ) → Takes q r (change c d o l) more → (b : Block) → EndsByEnd r (q.in_hand ++ more) b ⊎ EndsWithInput r (q.in_hand ++ more) b
          → IsFirst takes r.ended (p.in_hand ++ (taken ++ more)) (with_block (without_return g.piece) b) r.in_hand
      first_ends more next b (inl e) =
          subst (λ (x : Block). IsFirst takes r.ended (p.in_hand ++ (taken ++ more)) (with_block (without_return g.piece) x) r.in_hand) (sym e.is)
          (first_block r.ended (p.in_hand ++ (taken ++ more)) g.piece e.inner e.last r.in_hand (whole_first more (e.inner ++ e.last ∷ []) r.in_hand next e.are)
          opening_takes e.none e.end)
      first_ends more next b (inr e) =
          subst (λ (x : Block). IsFirst takes r.ended (p.in_hand ++ (taken ++ more)) (with_block (without_return g.piece) x) r.in_hand) (sym e.is)
          (inr (e.seen, e.over, first_cut (p.in_hand ++ (taken ++ more)) g.piece e.inner r.ended (whole_first more e.inner [] next e.are) opening_takes e.none))

      ends_length : (stream : List ℕ) (b : Block) → EndsByEnd r stream b ⊎ EndsWithInput r stream b → length r.in_hand ≤ length stream
      ends_length stream b (inl e) = AreFirst-length r.ended stream (e.inner ++ e.last ∷ []) r.in_hand e.are
      ends_length stream b (inr e) = omega (arith, ap length e.over)

      -- nothing is taken where a line with its whole block is in hand
      none_in_block : (more : List ℕ) → Takes q r (change c d o l) more → (more ≡ []) ⊎ LeavesOpen q.in_hand → ¬ AreEntries takes false p.in_hand []
          → taken ++ more ≡ []
      none_in_block more next (inl none) some = both_none taken more (none_now some) none
      none_in_block more next (inr is_open) some = by_ended q.ended refl
        where
          nothing : (p.in_hand ++ taken) ++ [] ≡ p.in_hand
          nothing = append-nil (p.in_hand ++ taken) ∙ ap (λ (t : List ℕ). p.in_hand ++ t) (none_now some) ∙ append-nil p.in_hand

          no_entry : q.ended ≡ false → AreEntries takes false ((p.in_hand ++ taken) ++ []) []
          no_entry e =
              none_open q.ended (p.in_hand ++ taken) g.piece q.in_hand [] (AreFirst-one q.ended (p.in_hand ++ taken) g.piece q.in_hand g.splits) e opening_takes
              (subst LeavesOpen (sym (append-nil q.in_hand)) is_open)

          by_ended : (ended : Bool) → q.ended ≡ ended → taken ++ more ≡ []
          by_ended true e = both_none taken more (none_now some) (next.none_after_end e)
          by_ended false e = absurd (some (subst (λ (s : List ℕ). AreEntries takes false s []) nothing (no_entry e)))

      pub gives_block : (kind : Kind) → ReadsBlock q r (change c d o l) block (Ok kind)
          → ReadsEntry takes p r (change b d n l) (entry_of_kind kind copied block) (Ok Found)
      gives_block kind h = record {
        bytes = taken ++ h.bytes;
        goes = all_goes h.bytes h.goes;
        none_with_entry = none_in_block h.bytes h.goes h.none_with_end;
        says = record {
          no_fault = h.says.0;
          first = subst (λ (e : Entry). IsFirst takes r.ended (p.in_hand ++ (taken ++ h.bytes)) e r.in_hand) (with_kind kind h.says.1)
              (first_ends h.bytes h.goes (block_of_kind kind block) h.says.2);
          shorter = omega (
            arith,
            Splits-shorter q.ended (p.in_hand ++ taken) g.piece q.in_hand g.splits,
            ends_length (q.in_hand ++ h.bytes) (block_of_kind kind block) h.says.2,
            length-append q.in_hand h.bytes,
            length-append p.in_hand taken,
            length-append p.in_hand (taken ++ h.bytes),
            length-append taken h.bytes,
          );
        };
      }

      unseen_before : (more : List ℕ) → Takes q r (change c d o l) more → r.ended ≡ false → q.ended ≡ false
      unseen_before more next unseen = by_ended q.ended refl
        where
          by_ended : (ended : Bool) → q.ended ≡ ended → q.ended ≡ false
          by_ended true e = absurd (true≢false (sym (next.stays_ended e) ∙ unseen))
          by_ended false e = e

      open_none : (more : List ℕ) → Takes q r (change c d o l) more → r.ended ≡ false → LeavesOpen (q.in_hand ++ more)
          → AreEntries takes false (p.in_hand ++ (taken ++ more)) []
      open_none more next unseen is_open =
          subst (λ (s : List ℕ). AreEntries takes false s []) (grouped more)
          (none_open q.ended (p.in_hand ++ taken) g.piece q.in_hand more (AreFirst-one q.ended (p.in_hand ++ taken) g.piece q.in_hand g.splits)
          (unseen_before more next unseen) opening_takes is_open)

      pub fails_inside : (entry : Entry) (fault : EntryFault) → ReadsBlock q r (change c d o l) block (Err fault)
          → ReadsEntry takes p r (change b d n l) entry (Err fault)
      fails_inside entry Read h = record {
        bytes = taken ++ h.bytes;
        goes = all_goes h.bytes h.goes;
        none_with_entry = none_in_block h.bytes h.goes h.none_with_end;
        says = record {
          rose = Rose-earlier n o l goes.faults h.says.0;
          no_entry = open_none h.bytes h.goes h.says.1 h.says.3;
          not_ended = h.says.1;
          below_limit = h.says.2;
        };
      }
      fails_inside entry Limit h = record {
        bytes = taken ++ h.bytes;
        goes = all_goes h.bytes h.goes;
        none_with_entry = none_in_block h.bytes h.goes h.none_with_end;
        says = record { at_limit = h.says.0; no_entry = open_none h.bytes h.goes h.says.1 h.says.2; not_ended = h.says.1 };
      }
      fails_inside entry Memory h = record {
        bytes = taken ++ h.bytes;
        goes = all_goes h.bytes h.goes;
        none_with_entry = none_in_block h.bytes h.goes
            h.none_with_end;
        says = tt;
      }
