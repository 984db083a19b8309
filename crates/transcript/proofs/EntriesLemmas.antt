-- The entries of bytes that are read one after another.
use Rattle.std.proofs.Common.{◌≡◌, ◌≢◌, ◌⊎◌, ℕ, suc, ◌<◌, Bool, true, false, List, [], ◌∷◌, ◌++◌, length, get_or, drop, All, refl, sym, ap, ◌∙◌, subst, inl, inr, append_assoc, arith}
use Rattle.std.specs.List.{flat_map}
use Rattle.std.proofs.lemmas.Bool.{cases_eq, true≢false}
use Rattle.std.proofs.lemmas.List.{append-nil}
use Rattle.std.proofs.lemmas.List.Elements.{All-cons, All-nil, All-append}
use Rattle.std.proofs.lemmas.Grind.{flat_map-append}
use Rattle.line_io.specs.Lines.{IsUnbroken}
use Rattle.transcript.specs.Entry.{Entry}
use Rattle.transcript.specs.Entries.{closed, AreLines, Place, between, inside, after, completed, cut_entry, entries_from, place_after, last_piece, AreEntries, Make, IsFirst}

-- bytes cut at their newlines
pub record Cut (bytes : List ℕ) : Type 0 where
  pub pieces : List (List ℕ)
  pub rest : List ℕ
  pub lines : AreLines bytes pieces rest

IsUnbroken-cons : (b : ℕ) (bytes : List ℕ) → b ≢ 10 → IsUnbroken bytes → IsUnbroken (b ∷ bytes)
IsUnbroken-cons b bytes other h = All-cons (λ b. b ≢ 10) b bytes other h

-- a list is unbroken or not
pub unbroken_or : (bytes : List ℕ) → IsUnbroken bytes ⊎ (¬ IsUnbroken bytes)
unbroken_or [] = inl (All-nil (λ b. b ≢ 10))
unbroken_or (b ∷ bytes) = by_first (cases_eq b 10) (unbroken_or bytes)
  where
    by_first : (b ≡ 10) ⊎ (b ≢ 10) → IsUnbroken bytes ⊎ (¬ IsUnbroken bytes) → IsUnbroken (b ∷ bytes) ⊎ (¬ IsUnbroken (b ∷ bytes))
    by_first (inl newline) rest = inr (λ h. h 0 0 (omega arith) newline)
    by_first (inr other) (inl unbroken) = inl (IsUnbroken-cons b bytes other unbroken)
    by_first (inr other) (inr broken) = inr (λ h. broken (λ k d lt. h (suc k) d (omega arith)))

-- one byte more in front
cut_cons : (b : ℕ) (bytes : List ℕ) → b ≢ 10 → (pieces : List (List ℕ)) (rest : List ℕ) → AreLines bytes pieces rest → Cut (b ∷ bytes)
cut_cons b bytes other [] rest h =
    record {
      pieces = [];
      rest = b ∷ rest;
      lines = record
          { joined = ap (λ (t : List ℕ). b ∷ t) h.joined; each = h.each; open_rest = IsUnbroken-cons b rest other h.open_rest };
    }
cut_cons b bytes other (piece ∷ pieces) rest h =
    record {
      pieces = (b ∷ piece) ∷ pieces;
      rest = rest;
      lines = record {
        joined = ap (λ (t : List ℕ). b ∷ t) h.joined;
        each = All-cons IsUnbroken (b ∷ piece) pieces (IsUnbroken-cons b piece other (h.each 0 piece (omega arith))) (λ k d lt. h.each (suc k) d (omega arith));
        open_rest = h.open_rest;
      };
    }

-- every list of bytes can be cut
pub cut_lines : (bytes : List ℕ) → Cut bytes
cut_lines [] = record { pieces = []; rest = []; lines = record { joined = refl; each = All-nil IsUnbroken; open_rest = All-nil (λ b. b ≢ 10) } }
cut_lines (b ∷ bytes) =
    let h = cut_lines bytes in
    elim (cases_eq b 10) [
      | inl e ↦ record {
        pieces = [] ∷ h.pieces;
        rest = h.rest;
        lines = record {
          joined = rw e (ap (λ (t : List ℕ). 10 ∷ t) h.lines.joined);
          each = All-cons IsUnbroken [] h.pieces (All-nil (λ b. b ≢ 10)) h.lines.each;
          open_rest = h.lines.open_rest;
        };
      }
      | inr other ↦ cut_cons b bytes other h.pieces h.rest h.lines
    ]

-- no newline stands in an unbroken list
unbroken_not : (xs ys : List ℕ) → IsUnbroken (xs ++ 10 ∷ ys) → ⊥
unbroken_not [] ys h = h 0 0 (omega arith) refl
unbroken_not (x ∷ xs) ys h = unbroken_not xs ys (λ k d lt. h (suc k) d (omega arith))

-- bytes have one first line
one_first : (p q xs ys : List ℕ) → IsUnbroken p → IsUnbroken q → p ++ 10 ∷ xs ≡ q ++ 10 ∷ ys → (p ≡ q) × (xs ≡ ys)
one_first [] [] xs ys a b e = (refl, ap (drop 1) e)
one_first [] (y ∷ q) xs ys a b e = absurd (b 0 0 (omega arith) (sym (ap (λ (l : List ℕ). get_or l 0 0) e)))
one_first (x ∷ p) [] xs ys a b e = absurd (a 0 0 (omega arith) (ap (λ (l : List ℕ). get_or l 0 0) e))
one_first (x ∷ p) (y ∷ q) xs ys a b e =
    let h = one_first p q xs ys (λ k d lt. a (suc k) d (omega arith)) (λ k d lt. b (suc k) d (omega arith)) (ap (drop 1) e) in
    (ap (λ (n : ℕ). n ∷ p) (ap (λ (l : List ℕ). get_or l 0 0) e) ∙ ap (λ (t : List ℕ). y ∷ t) h.0, h.1)

-- the first of some pieces, and what follows it
first_closed : (p : List ℕ) (ps : List (List ℕ)) (r : List ℕ) → flat_map closed (p ∷ ps) ++ r ≡ p ++ 10 ∷ (flat_map closed ps ++ r)
first_closed p ps r = append_assoc (closed p) (flat_map closed ps) r ∙ append_assoc p (10 ∷ []) (flat_map closed ps ++ r)

-- bytes are cut at their newlines in one way
one_cut : (ps qs : List (List ℕ)) (r s : List ℕ) → All IsUnbroken ps → All IsUnbroken qs → IsUnbroken r → IsUnbroken s
    → flat_map closed ps ++ r ≡ flat_map closed qs ++ s
    → (ps ≡ qs) × (r ≡ s)
one_cut [] [] r s a b c d e = (refl, e)
one_cut [] (q ∷ qs) r s a b c d e = absurd (unbroken_not q (flat_map closed qs ++ s) (subst IsUnbroken (e ∙ first_closed q qs s) c))
one_cut (p ∷ ps) [] r s a b c d e = absurd (unbroken_not p (flat_map closed ps ++ r) (subst IsUnbroken (sym e ∙ first_closed p ps r) d))
one_cut (p ∷ ps) (q ∷ qs) r s a b c d e =
    let f = one_first p q (flat_map closed ps ++ r) (flat_map closed qs ++ s) (a 0 p (omega arith)) (b 0 q (omega arith))
    (sym (first_closed p ps r) ∙ e ∙ first_closed q qs s) in
    let h = one_cut ps qs r s (λ k t lt. a (suc k) t (omega arith)) (λ k t lt. b (suc k) t (omega arith)) c d f.1 in
    (ap (λ (x : List ℕ). x ∷ ps) f.0 ∙ ap (λ (t : List (List ℕ)). q ∷ t) h.0, h.1)

-- where the end wasn't seen, an open block is no entry
no_cut : (place : Place) → cut_entry false place ≡ []
no_cut between = refl
no_cut (inside opening pieces) = refl

module _ (takes : List ℕ → Bool) where
  -- the entries of pieces, and of those behind them
  pub entries_from-append : (ended : Bool) (place : Place) (ps qs : List (List ℕ))
      → entries_from takes ended place (ps ++ qs) ≡ entries_from takes false place ps ++ entries_from takes ended (place_after takes place ps) qs
  entries_from-append ended place [] qs = ap (λ (t : List Entry). t ++ entries_from takes ended place qs) (sym (no_cut place))
  entries_from-append ended place (p ∷ ps) qs =
      ap (λ (t : List Entry). completed takes place p ++ t) (entries_from-append ended (after takes place p) ps qs)
      ∙ sym (append_assoc (completed takes place p) (entries_from takes false (after takes place p) ps)
      (entries_from takes ended (place_after takes (after takes place p) ps) qs))

  pub place_after-append : (place : Place) (ps qs : List (List ℕ)) → place_after takes place (ps ++ qs) ≡ place_after takes (place_after takes place ps) qs
  place_after-append place [] qs = refl
  place_after-append place (p ∷ ps) qs = place_after-append (after takes place p) ps qs

  -- pieces that make entries, and what follows them
  made : (ended : Bool) (ps qs : List (List ℕ)) (entries : List Entry) → Make takes ps entries
      → entries ++ entries_from takes ended between qs ≡ entries_from takes ended between (ps ++ qs)
  made ended ps qs entries make =
      ap (λ (t : List Entry). t ++ entries_from takes ended between qs) make.is
      ∙ ap (λ (place : Place). entries_from takes false between ps ++ entries_from takes ended place qs) (sym make.leaves_none_open)
      ∙ sym (entries_from-append ended between ps qs)

  pub Make-nil : Make takes [] []
  Make-nil = record { each = All-nil IsUnbroken; is = refl; leaves_none_open = refl }

  pub Make-append : (ps qs : List (List ℕ)) (xs ys : List Entry) → Make takes ps xs → Make takes qs ys → Make takes (ps ++ qs) (xs ++ ys)
  Make-append ps qs xs ys p q = record {
    each = All-append IsUnbroken ps qs p.each q.each;
    is = ap (λ (t : List Entry). xs ++ t) q.is ∙ made false ps qs xs p;
    leaves_none_open = place_after-append between ps qs ∙ ap (λ (place : Place). place_after takes place qs) p.leaves_none_open ∙ q.leaves_none_open;
  }

  -- what follows entries that were made
  pub follows : (ended : Bool) (pieces : List (List ℕ)) (stream : List ℕ) (entries more : List Entry) → Make takes pieces entries
      → AreEntries takes ended stream more
      → AreEntries takes ended (flat_map closed pieces ++ stream) (entries ++ more)
  follows ended pieces stream entries more make are = record {
    pieces = pieces ++ are.pieces;
    rest = are.rest;
    lines = record {
      joined = ap (λ (t : List ℕ). flat_map closed pieces ++ t) are.lines.joined
          ∙ sym (append_assoc (flat_map closed pieces) (flat_map closed are.pieces) are.rest)
          ∙ ap (λ (t : List ℕ). t ++ are.rest) (sym (flat_map-append closed pieces are.pieces));
      each = All-append IsUnbroken pieces are.pieces make.each are.lines.each;
      open_rest = are.lines.open_rest;
    };
    is = ap (λ (t : List Entry). entries ++ t) are.is ∙ made ended pieces (are.pieces ++ last_piece ended are.rest) entries make
        ∙ ap (entries_from takes ended between) (sym (append_assoc pieces are.pieces (last_piece ended are.rest)));
  }

  -- every list of bytes has entries
  pub entries_exist : (ended : Bool) (bytes : List ℕ) → (entries : List Entry) × AreEntries takes ended bytes entries
  entries_exist ended bytes =
      let h = cut_lines bytes in (
        entries_from takes ended between (h.pieces ++ last_piece ended h.rest),
        record { pieces = h.pieces; rest = h.rest; lines = h.lines; is = refl },
      )

  -- and one list of them only
  pub one_list : (ended : Bool) (bytes : List ℕ) (xs ys : List Entry) → AreEntries takes ended bytes xs → AreEntries takes ended bytes ys → xs ≡ ys
  one_list ended bytes xs ys a b =
      let h = one_cut a.pieces b.pieces a.rest b.rest a.lines.each b.lines.each a.lines.open_rest b.lines.open_rest (sym a.lines.joined ∙ b.lines.joined) in
      a.is ∙ ap (λ (ps : List (List ℕ)). entries_from takes ended between (ps ++ last_piece ended a.rest)) h.0
      ∙ ap (λ (r : List ℕ). entries_from takes ended between (b.pieces ++ last_piece ended r)) h.1 ∙ sym b.is

  -- no bytes, no entries
  pub no_entries : (ended : Bool) → AreEntries takes ended [] []
  no_entries ended = record {
    pieces = [];
    rest = [];
    lines = record { joined = refl; each = All-nil IsUnbroken; open_rest = All-nil (λ b. b ≢ 10) };
    is = elim ended as (λ (e : Bool). [] ≡ entries_from takes e between ([] ++ last_piece e [])) [ true ↦ refl | false ↦ refl ];
  }

  -- pieces that make entries were read, and the rest is in hand
  pub record ReadsOn (bytes : List ℕ) (entries : List Entry) (hand : List ℕ) : Type 0 where
    pub pieces : List (List ℕ)
    pub joined : bytes ≡ flat_map closed pieces ++ hand
    pub make : Make takes pieces entries

  -- so far the bytes were read as these entries; all of them, where the last lacks what closes it
  abbrev pub IsRead : Bool → List ℕ → List Entry → List ℕ → Type 0
  IsRead ended bytes entries hand = ReadsOn bytes entries hand ⊎ ((ended ≡ true) × (hand ≡ []) × AreEntries takes true bytes entries)

  pub reads_none : IsRead false [] [] []
  reads_none = inl (record { pieces = []; joined = refl; make = Make-nil })

  -- more bytes were taken
  joined_more : (pieces : List (List ℕ)) (hand taken stream bytes : List ℕ) → bytes ≡ flat_map closed pieces ++ hand → hand ++ taken ≡ stream
      → bytes ++ taken ≡ flat_map closed pieces ++ stream
  joined_more pieces hand taken stream bytes joined is =
      ap (λ (t : List ℕ). t ++ taken) joined ∙ append_assoc (flat_map closed pieces) hand taken ∙ ap (λ (t : List ℕ). flat_map closed pieces ++ t) is

  -- where all was read and nothing was taken, the stream is empty
  stream_none : (hand taken : List ℕ) → hand ≡ [] → taken ≡ [] → hand ++ taken ≡ []
  stream_none hand taken a b = ap (λ (t : List ℕ). t ++ taken) a ∙ b

  -- bytes were taken, and no entry was given
  pub reads_taken : (before now : Bool) (bytes taken : List ℕ) (entries : List Entry) (hand : List ℕ) → IsRead before bytes entries hand
      → (before ≡ true → taken ≡ []) → (before ≡ true → now ≡ true)
      → IsRead now (bytes ++ taken) entries (hand ++ taken)
  reads_taken before now bytes taken entries hand (inl r) none stays =
      inl (record { pieces = r.pieces; joined = joined_more r.pieces hand taken (hand ++ taken) bytes r.joined refl; make = r.make })
  reads_taken before now bytes taken entries hand (inr (seen, over, are)) none stays =
      let same : bytes ++ taken ≡ bytes = ap (λ (t : List ℕ). bytes ++ t) (none seen) ∙ append-nil bytes in
      inr (stays seen, stream_none hand taken over (none seen), subst (λ (b : List ℕ). AreEntries takes true b entries) (sym same) are)

  -- what follows what was read
  behind_read : (ended : Bool) (bytes : List ℕ) (entries more : List Entry) (hand : List ℕ) → (r : ReadsOn bytes entries hand)
      → AreEntries takes ended hand more → AreEntries takes ended bytes (entries ++ more)
  behind_read ended bytes entries more hand r are =
      subst (λ (b : List ℕ). AreEntries takes ended b (entries ++ more)) (sym r.joined) (follows ended r.pieces hand entries more r.make are)

  no_more : (ended : Bool) (bytes : List ℕ) (entries : List Entry) (hand : List ℕ) → (r : ReadsOn bytes entries hand) → AreEntries takes ended hand []
      → AreEntries takes ended bytes entries
  no_more ended bytes entries hand r are = subst (AreEntries takes ended bytes) (append-nil entries) (behind_read ended bytes entries [] hand r are)

  -- one entry more is read
  reads_first : (ended : Bool) (bytes : List ℕ) (entries : List Entry) (stream : List ℕ) (entry : Entry) (rest : List ℕ) → IsRead ended bytes entries stream
      → length rest < length stream
      → IsFirst takes ended stream entry rest → IsRead ended bytes (entries ++ entry ∷ []) rest
  reads_first ended bytes entries stream entry rest (inl r) shorter (inl (pieces, is, make)) =
      inl (record {
        pieces = r.pieces ++ pieces;
        joined = r.joined ∙ ap (λ (t : List ℕ). flat_map closed r.pieces ++ t) is ∙ sym (append_assoc (flat_map closed r.pieces) (flat_map closed pieces) rest)
            ∙ ap (λ (t : List ℕ). t ++ rest) (sym (flat_map-append closed r.pieces pieces));
        make = Make-append r.pieces pieces entries (entry ∷ []) r.make make;
      })
  reads_first ended bytes entries stream entry rest (inl r) shorter (inr (seen, none, are)) = inr
      (seen, none, behind_read true bytes entries (entry ∷ []) stream r are)
  reads_first ended bytes entries stream entry rest (inr (seen, over, are)) shorter first = absurd (omega (arith, shorter, ap length over))

  pub reads_more : (before now : Bool) (bytes taken : List ℕ) (entries : List Entry) (hand : List ℕ) (entry : Entry) (rest : List ℕ)
      → IsRead before bytes entries hand → (before ≡ true → taken ≡ [])
      → (before ≡ true → now ≡ true) → length rest < length (hand ++ taken) → IsFirst takes now (hand ++ taken) entry rest
      → IsRead now (bytes ++ taken) (entries ++ entry ∷ []) rest
  reads_more before now bytes taken entries hand entry rest read none stays shorter first =
      reads_first now (bytes ++ taken) entries (hand ++ taken) entry rest (reads_taken before now bytes taken entries hand read none stays) shorter first

  -- nothing is in hand and the end was seen: these are all entries
  pub reads_over : (ended : Bool) (bytes : List ℕ) (entries : List Entry) (hand : List ℕ) → IsRead ended bytes entries hand → hand ≡ []
      → AreEntries takes true bytes entries
  reads_over ended bytes entries hand (inl r) none = no_more true bytes entries hand r
      (subst (λ (h : List ℕ). AreEntries takes true h []) (sym none) (no_entries true))
  reads_over ended bytes entries hand (inr (seen, over, are)) none = are

  -- no whole entry is in hand and the end wasn't seen: these are all whole entries
  pub reads_open : (ended : Bool) (bytes : List ℕ) (entries : List Entry) (hand : List ℕ) → IsRead ended bytes entries hand → ended ≡ false
      → AreEntries takes false hand [] → AreEntries takes false bytes entries
  reads_open ended bytes entries hand (inl r) unseen are = no_more false bytes entries hand r are
  reads_open ended bytes entries hand (inr (seen, over, all)) unseen are = absurd (true≢false (sym seen ∙ unseen))

  -- the entries that were read, and those that follow them
  pub record GoesOn (ended : Bool) (bytes : List ℕ) (entries : List Entry) : Type 0 where
    pub seen : Bool
    pub if_seen : seen ≡ true → ended ≡ true
    pub more : List Entry
    pub are : AreEntries takes seen bytes (entries ++ more)

  pub goes_on : (ended : Bool) (bytes : List ℕ) (entries : List Entry) (hand : List ℕ) → IsRead ended bytes entries hand → GoesOn ended bytes entries
  goes_on ended bytes entries hand (inl r) =
      let h = entries_exist false hand in
      record { seen = false; if_seen = λ e. absurd (true≢false (sym e)); more = h.0; are = behind_read false bytes entries h.0 hand r h.1 }
  goes_on ended bytes entries hand (inr (seen, over, are)) =
      record { seen = true; if_seen = λ e. seen; more = []; are = subst (AreEntries takes true bytes) (sym (append-nil entries)) are }
