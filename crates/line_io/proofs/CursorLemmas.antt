-- The search for a piece: what its loop keeps, and what it comes to.
use Rattle.std.proofs.Common.{◌≡◌, ◌≢◌, ◌⊎◌, ℕ, ◌+◌, ◌-◌, ◌^◌, ◌<◌, ◌≤◌, ◌↔◌, Bool, true, false, List, [], ◌∷◌, ◌++◌, Option, None, Some, IsTrue, Ok, Err, length, take, drop, get_or, refl, sym, ap, subst, ◌∙◌, inl, inr, append_assoc, arith, length-append, length-take, length-drop, take-append-drop, take_all, rules, cond, get_or-drop}
use Rattle.std.proofs.lemmas.List.{append-nil, drop_more, take-append-le, nil_from_length}
use Rattle.std.proofs.lemmas.List.Elements.{All-nil, All-append, All-take, All-same}
use Rattle.line_io.specs.Outside.{change, Rose, IsAtEnd}
use Rattle.line_io.specs.Lines.{Progress, IsUnbroken, Splits, without_return, Moves}
use Rattle.line_io.specs.Window.{IsFirstNewline, Gains}
use Rattle.line_io.specs.Cursor.{rest_after, IsGiven, Finds, Sought, Reaches, Sheds}
use Rattle.line_io.specs.declared.cursor.Piece.{Piece}
use Rattle.line_io.specs.declared.cursor.Found.{Found}
use Rattle.line_io.specs.declared.cursor.Found.TheVariants.{Line, TooLong, End}
use Rattle.line_io.specs.declared.lines.LineFault.TheVariants.{Read, Limit}
use Rattle.line_io.proofs.OutsideLemmas.{Took-nil, Took-append, Rose-earlier}
use Rattle.line_io.proofs.WindowLemmas.{range_front, range-append}

-- the front of an unbroken list is unbroken
pub IsUnbroken-left : (xs ys : List ℕ) → IsUnbroken (xs ++ ys) → IsUnbroken xs
IsUnbroken-left xs ys h =
    All-same (λ b. b ≢ 10) xs (take (length xs) (xs ++ ys)) (sym (take-append-le (length xs) xs ys (omega arith) ∙ take_all (length xs) xs (omega arith)))
    (All-take (λ b. b ≢ 10) (length xs) (xs ++ ys) h)

-- two unbroken lists make one
pub IsUnbroken-append : (xs ys : List ℕ) → IsUnbroken xs → IsUnbroken ys → IsUnbroken (xs ++ ys)
IsUnbroken-append xs ys = All-append (λ b. b ≢ 10) xs ys

-- an equal list
pub IsUnbroken-same : (xs ys : List ℕ) → xs ≡ ys → IsUnbroken ys → IsUnbroken xs
IsUnbroken-same xs ys = All-same (λ b. b ≢ 10) xs ys

-- before anything was taken
pub Moves-start : (p : Progress) (a : Option (List ℕ)) (m : ℕ) → p.taken ≤ 2 ^ 30 → Moves p p (change a a m m) []
Moves-start p a m within = record {
  takes = record {
    took = Took-nil a;
    counted = omega arith;
    within = within;
    faults = omega arith;
    none_after_end = λ _. refl;
    stays_ended = λ h. h;
    end_seen = λ no yes. absurd (cc);
  };
  none_after_fault = λ _. refl;
  none_with_line = λ _. refl;
}

-- what is in hand, or the fault, may change in between
pub Moves-same : (old mid new : Progress) (a b : Option (List ℕ)) (m n : ℕ) (bytes : List ℕ)
    → new.taken ≡ mid.taken → new.ended ≡ mid.ended → Moves old mid (change a b m n) bytes → Moves old new (change a b m n) bytes
Moves-same old mid new a b m n bytes taken ended h = record {
  takes = record {
    took = h.takes.took;
    counted = taken ∙ h.takes.counted;
    within = omega (arith, taken, h.takes.within);
    faults = h.takes.faults;
    none_after_end = h.takes.none_after_end;
    stays_ended = λ was. ended ∙ h.takes.stays_ended was;
    end_seen = λ no yes. let seen = h.takes.end_seen no (sym ended ∙ yes) in (seen.0, omega (arith, taken, seen.1));
  };
  none_after_fault = h.none_after_fault;
  none_with_line = h.none_with_line;
}

-- what the loop of the search keeps
pub record Seeking (old new : Progress) (a b : Option (List ℕ)) (m n dropped searched held : ℕ) : Type 0 where
  pub bytes : List ℕ
  pub moves : Moves old new (change a b m n) bytes
  pub sought : Sought (old.in_hand ++ bytes) new.in_hand dropped
  pub no_fault_before : old.fault ≡ None
  pub no_fault : new.fault ≡ None
  pub held_is : held ≡ length new.in_hand
  pub searched_in : searched ≤ held
  pub no_line : IsUnbroken (take searched new.in_hand)
  pub room_before : length old.in_hand ≤ 69632
  pub room : held ≤ 69632

-- at the start
pub Seeking-start : (p : Progress) (a : Option (List ℕ)) (m held : ℕ) → p.taken ≤ 2 ^ 30 → p.fault ≡ None
    → held ≡ length p.in_hand → held ≤ 69632 → Seeking p p a a m m 0 0 held
Seeking-start p a m held within no_fault is room = record {
  bytes = [];
  moves = Moves-start p a m within;
  sought = record { gone = []; split = append-nil p.in_hand; no_line = All-nil (λ b. b ≢ 10); count = refl; too_long = inl refl };
  no_fault_before = no_fault;
  no_fault = no_fault;
  held_is = is;
  searched_in = omega arith;
  no_line = All-nil (λ b. b ≢ 10);
  room_before = omega arith;
  room = room;
}

-- how much was dropped and is held
pub Seeking-bound : (old new : Progress) (a b : Option (List ℕ)) (m n dropped searched held : ℕ)
    → Seeking old new a b m n dropped searched held → dropped + held < 2 ^ 31
Seeking-bound old new a b m n dropped searched held h =
    omega (
      arith,
      ap length h.sought.split,
      length-append old.in_hand h.bytes,
      length-append h.sought.gone new.in_hand,
      h.sought.count,
      h.held_is,
      h.moves.takes.counted,
      h.moves.takes.within,
      h.room_before,
    )

-- with no newline behind what was searched there is none in hand
pub Seeking-no_line : (old new : Progress) (a b : Option (List ℕ)) (m n dropped searched held : ℕ)
    → Seeking old new a b m n dropped searched held → IsFirstNewline (drop searched new.in_hand) None → IsUnbroken new.in_hand
Seeking-no_line old new a b m n dropped searched held h none =
    IsUnbroken-same new.in_hand (take searched new.in_hand ++ drop searched new.in_hand) (sym (take-append-drop searched new.in_hand))
    (IsUnbroken-append (take searched new.in_hand) (drop searched new.in_hand) h.no_line none)

-- then there is none in the stream
pub Seeking-unbroken : (old new : Progress) (a b : Option (List ℕ)) (m n dropped searched held : ℕ)
    → (h : Seeking old new a b m n dropped searched held) → IsUnbroken new.in_hand → IsUnbroken (old.in_hand ++ h.bytes)
Seeking-unbroken old new a b m n dropped searched held h none =
    IsUnbroken-same (old.in_hand ++ h.bytes) (h.sought.gone ++ new.in_hand) h.sought.split
    (IsUnbroken-append h.sought.gone new.in_hand h.sought.no_line none)

-- so many elements in two parts
take-add : (xs : List ℕ) (n k : ℕ) → take (n + k) xs ≡ take n xs ++ take k (drop n xs)
take-add xs n k =
    let rest : n + k - n ≡ k = omega arith in
    sym (range_front xs (n + k)) ∙ range-append xs 0 n (n + k) (omega arith) (omega arith)
    ∙ ap (λ l. l ++ take (n + k - n) (drop n xs)) (range_front xs n) ∙ ap (λ j. take n xs ++ take j (drop n xs)) rest

-- a list at a place where an element is known
split_at : (xs : List ℕ) (n b : ℕ) → n < length xs → get_or xs n 0 ≡ b → xs ≡ take n xs ++ b ∷ drop (n + 1) xs
split_at xs n b within is =
    sym (take-append-drop n xs) ∙ ap (λ l. take n xs ++ l) (drop_more xs n 0 within ∙ ap (λ c. c ∷ drop (n + 1) xs) is)

-- a newline was found: the piece before it is reached
pub Seeking-whole : (old new : Progress) (a b : Option (List ℕ)) (m n dropped searched held at : ℕ)
    → Seeking old new a b m n dropped searched held → IsFirstNewline (drop searched new.in_hand) (Some at)
    → Reaches old new (change a b m n) (Ok (record { dropped = dropped; len = searched + at; whole = true }))
Seeking-whole old new a b m n dropped searched held at h (within, before, newline) =
    let inside : searched + at < length new.in_hand = omega (arith, within, length-drop searched new.in_hand, h.held_is, h.searched_in) in
    let bound = Seeking-bound old new a b m n dropped searched held h in record {
      bytes = h.bytes;
      moves = h.moves;
      reached = (
        h.no_fault,
        record {
          no_line = IsUnbroken-same _ (take searched new.in_hand ++ take at (drop searched new.in_hand)) (take-add new.in_hand searched at)
              (IsUnbroken-append (take searched new.in_hand) (take at (drop searched new.in_hand)) h.no_line before);
          too_long = h.sought.too_long;
          fits = omega (arith, bound, h.held_is);
          in_hand = omega arith;
          newline = λ _. split_at new.in_hand (searched + at) 10 inside (sym (get_or-drop searched new.in_hand at 0) ∙ newline);
          last = λ is. absurd (cc);
        },
        h.sought,
      );
    }

-- the end was seen: what is in hand is the last piece
pub Seeking-last : (old new : Progress) (a b : Option (List ℕ)) (m n dropped searched held : ℕ)
    → Seeking old new a b m n dropped searched held → IsUnbroken new.in_hand → new.ended ≡ true
    → Reaches old new (change a b m n) (Ok (record { dropped = dropped; len = held; whole = false }))
Seeking-last old new a b m n dropped searched held h none ended =
    let bound = Seeking-bound old new a b m n dropped searched held h in record {
      bytes = h.bytes;
      moves = h.moves;
      reached = (
        h.no_fault,
        record {
          no_line = IsUnbroken-same _ new.in_hand (take_all held new.in_hand (omega (arith, h.held_is))) none;
          too_long = h.sought.too_long;
          fits = bound;
          in_hand = omega (arith, h.held_is);
          newline = λ is. absurd (cc);
          last = λ _. (ended, h.held_is);
        },
        h.sought,
      );
    }

-- all that may be taken was taken
pub Seeking-limit : (old new : Progress) (a b : Option (List ℕ)) (m n dropped searched held : ℕ)
    → Seeking old new a b m n dropped searched held → IsUnbroken new.in_hand → new.ended ≡ false → new.taken ≡ 2 ^ 30
    → Reaches old new (change a b m n) (Err Limit)
Seeking-limit old new a b m n dropped searched held h none going at = record {
  bytes = h.bytes;
  moves = h.moves;
  reached = record {
    no_fault_before = h.no_fault_before;
    at_limit = at;
    not_ended = going;
    no_line = Seeking-unbroken old new a b m n dropped searched held h none;
  };
}

-- a take failed
pub Seeking-read : (old mid new : Progress) (a b c : Option (List ℕ)) (m n k dropped searched held : ℕ)
    → Seeking old mid a b m n dropped searched held → IsUnbroken mid.in_hand → mid.ended ≡ false → mid.taken < 2 ^ 30
    → new ≡ mid → c ≡ b → n ≤ k → Rose n k → Reaches old new (change a c m k) (Err Read)
Seeking-read old mid new a b c m n k dropped searched held h none going below same left later rose =
    subst (λ p. Reaches old p (change a c m k) (Err Read)) (sym same) (subst (λ o. Reaches old mid (change a o m k) (Err Read)) (sym left) record {
      bytes = h.bytes;
      moves = record {
        takes = record {
          took = h.moves.takes.took;
          counted = h.moves.takes.counted;
          within = h.moves.takes.within;
          faults = omega (arith, h.moves.takes.faults);
          none_after_end = h.moves.takes.none_after_end;
          stays_ended = h.moves.takes.stays_ended;
          end_seen = h.moves.takes.end_seen;
        };
        none_after_fault = h.moves.none_after_fault;
        none_with_line = h.moves.none_with_line;
      };
      reached = record {
        no_fault_before = h.no_fault_before;
        rose = Rose-earlier m n k h.moves.takes.faults rose;
        no_line = Seeking-unbroken old mid a b m n dropped searched held h none;
        not_ended = going;
        below_limit = below;
      };
    })

-- what is in hand is dropped where it is too long for a line
pub Seeking-shed : (old mid new : Progress) (a b : Option (List ℕ)) (m n dropped searched held count : ℕ)
    → Seeking old mid a b m n dropped searched held → IsUnbroken mid.in_hand → Sheds mid new count
    → Seeking old new a b m n (dropped + count) (length new.in_hand) (length new.in_hand) × IsUnbroken new.in_hand
    × (length new.in_hand ≤ 65536)
Seeking-shed old mid new a b m n dropped searched held count h none (inl (short, zero_count, same)) =
    subst (λ p. Seeking old p a b m n (dropped + count) (length p.in_hand) (length p.in_hand) × IsUnbroken p.in_hand × (length p.in_hand ≤ 65536))
    (sym same) (
      record {
        bytes = h.bytes;
        moves = h.moves;
        sought = subst (λ d. Sought (old.in_hand ++ h.bytes) mid.in_hand d) {y = dropped + count} (omega arith) h.sought;
        no_fault_before = h.no_fault_before;
        no_fault = h.no_fault;
        held_is = refl;
        searched_in = omega arith;
        no_line = IsUnbroken-same _ mid.in_hand (take_all (length mid.in_hand) mid.in_hand (omega arith)) none;
        room_before = h.room_before;
        room = omega (arith, h.held_is, h.room);
      },
      none,
      short,
    )
Seeking-shed old mid new a b m n dropped searched held count h none (inr (long, all, same)) =
    subst (λ p. Seeking old p a b m n (dropped + count) (length p.in_hand) (length p.in_hand) × IsUnbroken p.in_hand × (length p.in_hand ≤ 65536))
    (sym same) (
      record {
        bytes = h.bytes;
        moves = Moves-same old mid _ a b m n h.bytes refl refl h.moves;
        sought = record {
          gone = h.sought.gone ++ mid.in_hand;
          split = h.sought.split ∙ sym (append-nil (h.sought.gone ++ mid.in_hand));
          no_line = IsUnbroken-append h.sought.gone mid.in_hand h.sought.no_line none;
          count = omega (arith, length-append h.sought.gone mid.in_hand, h.sought.count);
          too_long = inr (omega arith);
        };
        no_fault_before = h.no_fault_before;
        no_fault = h.no_fault;
        held_is = refl;
        searched_in = omega arith;
        no_line = All-nil (λ b. b ≢ 10);
        room_before = h.room_before;
        room = omega arith;
      },
      All-nil (λ b. b ≢ 10),
      omega arith,
    )

-- so many bytes were taken
pub Seeking-take : (old mid new : Progress) (a b c : Option (List ℕ)) (m n k dropped held count : ℕ)
    → Seeking old mid a b m n dropped held held → IsUnbroken mid.in_hand → held ≤ 65536 → mid.ended ≡ false → mid.taken < 2 ^ 30
    → Gains (change b c n k) mid.in_hand new.in_hand count → new.taken ≡ mid.taken + count → count ≤ 4096 → new.taken ≤ 2 ^ 30
    → (IsTrue new.ended ↔ (count ≡ 0)) → (count ≡ 0 → IsAtEnd c) → n ≤ k → new.fault ≡ mid.fault
    → Seeking old new a c m k dropped held (held + count)
Seeking-take old mid new a b c m n k dropped held count h none short going below gains counted most within ended at_end later fault =
    let started : old.ended ≡ true → ⊥ = λ was. let is = h.moves.takes.stays_ended was in cc in
    let unbroken = IsUnbroken-left old.in_hand h.bytes (Seeking-unbroken old mid a b m n dropped held held h none) in
    let front : take held new.in_hand ≡ mid.in_hand = ap (take held) gains.behind ∙ take-append-le held mid.in_hand gains.bytes (omega (arith, h.held_is))
    ∙ take_all held mid.in_hand (omega (arith, h.held_is)) in record {
      bytes = h.bytes ++ gains.bytes;
      moves = record {
        takes = record {
          took = Took-append a b c h.bytes gains.bytes h.moves.takes.took gains.took;
          counted = omega (arith, length-append h.bytes gains.bytes, gains.count_is, h.moves.takes.counted);
          within = within;
          faults = omega (arith, h.moves.takes.faults);
          none_after_end = λ was. absurd (started was);
          stays_ended = λ was. absurd (started was);
          end_seen = λ no yes. let none_taken = ended.0 yes in (at_end none_taken, omega arith);
        };
        none_after_fault = λ some. let is : old.fault ≡ None = h.no_fault_before in absurd (search rules);
        none_with_line = λ line. absurd (line unbroken);
      };
      sought = record {
        gone = h.sought.gone;
        split = sym (append_assoc old.in_hand h.bytes gains.bytes) ∙ ap (λ l. l ++ gains.bytes) h.sought.split
            ∙ append_assoc h.sought.gone mid.in_hand gains.bytes ∙ ap (λ l. h.sought.gone ++ l) (sym gains.behind);
        no_line = h.sought.no_line;
        count = h.sought.count;
        too_long = h.sought.too_long;
      };
      no_fault_before = h.no_fault_before;
      no_fault = fault ∙ h.no_fault;
      held_is = omega (arith, ap length gains.behind, length-append mid.in_hand gains.bytes, gains.count_is, h.held_is);
      searched_in = omega arith;
      no_line = IsUnbroken-same _ mid.in_hand front none;
      room_before = h.room_before;
      room = omega arith;
    }

-- a drop changes what is in hand alone
pub Sheds-same : (old new : Progress) (count : ℕ) → Sheds old new count
    → (new.taken ≡ old.taken) × (new.ended ≡ old.ended) × (new.fault ≡ old.fault)
Sheds-same old new count (inl h) = (ap (λ p. p.taken) h.2, ap (λ p. p.ended) h.2, ap (λ p. p.fault) h.2)
Sheds-same old new count (inr h) = (ap (λ p. p.taken) h.2, ap (λ p. p.ended) h.2, ap (λ p. p.fault) h.2)

-- the measure of the search falls: bytes are taken, or the end is seen
pub search_falls : (t after count : ℕ) (e seen : Bool) → e ≡ false → after ≡ t + count → after ≤ 2 ^ 30
    → (IsTrue seen ↔ (count ≡ 0)) → (2 ^ 30 - after) + cond seen 0 1 < (2 ^ 30 - t) + cond e 0 1
search_falls t after count true seen going is within ended = absurd (cc)
search_falls t after count false true going is within ended = let none = ended.0 refl in omega arith
search_falls t after count false false going is within ended =
    let some : count ≡ 0 → ⊥ = λ none. let yes = ended.1 none in cc in omega (arith, some)

-- the piece that was found splits the stream
Splits-reached : (ended whole : Bool) (stream gone in_hand rest : List ℕ) (len : ℕ) → IsUnbroken gone → stream ≡ gone ++ in_hand
    → IsUnbroken (take len in_hand) → (whole ≡ true → in_hand ≡ take len in_hand ++ 10 ∷ drop (len + 1) in_hand)
    → (whole ≡ false → (ended ≡ true) × (len ≡ length in_hand)) → rest ≡ cond whole (drop (len + 1) in_hand) []
    → (whole ≡ false → 0 < length gone + len) → Splits ended stream (gone ++ take len in_hand) rest
Splits-reached ended true stream gone in_hand rest len before split none newline last is some = (
  IsUnbroken-append gone (take len in_hand) before none,
  inl (split ∙ ap (λ l. gone ++ l) (newline refl) ∙ sym (append_assoc gone (take len in_hand) (10 ∷ drop (len + 1) in_hand))
      ∙ ap (λ l. (gone ++ take len in_hand) ++ 10 ∷ l) (sym is)),
)
Splits-reached ended false stream gone in_hand rest len before split none newline last is some =
    let seen = last refl in
    let all : take len in_hand ≡ in_hand = take_all len in_hand (omega (arith, seen.1)) in (
      IsUnbroken-append gone (take len in_hand) before none,
      inr (
        seen.0,
        split ∙ ap (λ l. gone ++ l) (sym all),
        λ empty. absurd (omega (arith, some refl, seen.1, ap length empty, length-append gone (take len in_hand), ap length all)),
        is,
      ),
    )

-- a piece's length
piece_len : (gone in_hand : List ℕ) (dropped len : ℕ) → length gone ≡ dropped → len ≤ length in_hand
    → length (gone ++ take len in_hand) ≡ dropped + len
piece_len gone in_hand dropped len is within = omega (arith, length-append gone (take len in_hand), length-take len in_hand)

-- a piece that was found and given is the first of the stream
pub Reaches-gives : (old mid new : Progress) (a b : Option (List ℕ)) (m n : ℕ) (piece : Piece) (line : List ℕ) (found : Found)
    → old.fault ≡ None → Reaches old mid (change a b m n) (Ok piece) → new.in_hand ≡ rest_after piece mid.in_hand
    → new.taken ≡ mid.taken → new.ended ≡ mid.ended → new.fault ≡ mid.fault → IsGiven mid.in_hand piece line found
    → Finds old new (change a b m n) line (Ok found)
Reaches-gives old mid new a b m n piece line Line no_fault h rest taken ended fault (short, is, some) =
    let r = h.reached.1 in
    let s = h.reached.2 in
    let none_gone : s.gone ≡ [] = nil_from_length s.gone (omega (arith, s.count, too_long_or s.too_long short)) in record {
      bytes = h.bytes;
      moves = Moves-same old mid new a b m n h.bytes taken ended h.moves;
      says = record {
        no_fault_before = no_fault;
        no_fault = fault ∙ h.reached.0;
        piece = s.gone ++ take piece.len mid.in_hand;
        splits = Splits-reached new.ended piece.whole (old.in_hand ++ h.bytes) s.gone mid.in_hand new.in_hand piece.len s.no_line s.split r.no_line r.newline
            (λ last. (ended ∙ (r.last last).0, (r.last last).1)) rest (λ last. omega (arith, some last, s.count));
        is = (
          omega (arith, piece_len s.gone mid.in_hand piece.dropped piece.len s.count r.in_hand, short),
          is ∙ ap (λ l. without_return (l ++ take piece.len mid.in_hand)) (sym none_gone),
        );
      };
    }
  where
    too_long_or : (piece.dropped ≡ 0) ⊎ (65536 < piece.dropped) → piece.dropped + piece.len ≤ 65536 → piece.dropped ≡ 0
    too_long_or (inl zero_dropped) low = zero_dropped
    too_long_or (inr more) low = absurd (omega arith)
Reaches-gives old mid new a b m n piece line (TooLong count) no_fault h rest taken ended fault (is, long) =
    let r = h.reached.1 in
    let s = h.reached.2 in
    let len = piece_len s.gone mid.in_hand piece.dropped piece.len s.count r.in_hand in record {
      bytes = h.bytes;
      moves = Moves-same old mid new a b m n h.bytes taken ended h.moves;
      says = record {
        no_fault_before = no_fault;
        no_fault = fault ∙ h.reached.0;
        piece = s.gone ++ take piece.len mid.in_hand;
        splits = Splits-reached new.ended piece.whole (old.in_hand ++ h.bytes) s.gone mid.in_hand new.in_hand piece.len s.no_line s.split r.no_line r.newline
            (λ last. (ended ∙ (r.last last).0, (r.last last).1)) rest (λ last. omega (arith, s.count));
        is = (is ∙ sym len, long);
      };
    }
Reaches-gives old mid new a b m n piece line End no_fault h rest taken ended fault (last, none) =
    let r = h.reached.1 in
    let s = h.reached.2 in
    let seen = r.last last in
    let none_gone : s.gone ≡ [] = nil_from_length s.gone (omega (arith, s.count)) in
    let none_left : mid.in_hand ≡ [] = nil_from_length mid.in_hand (omega (arith, seen.1)) in record {
      bytes = h.bytes;
      moves = Moves-same old mid new a b m n h.bytes taken ended h.moves;
      says = record {
        no_fault_before = no_fault;
        no_fault = fault ∙ h.reached.0;
        ended = ended ∙ seen.0;
        nothing_left = s.split ∙ ap (λ l. l ++ mid.in_hand) none_gone ∙ none_left;
        nothing_in_hand = rest ∙ ap (λ w. cond w (drop (piece.len + 1) mid.in_hand) []) last;
      };
    }
