-- Which entry and which first line the words of a line are, where they are one.
use Rattle.std.proofs.Common.{◌≡◌, ◌≢◌, inl, inr, ℕ, ◌<◌, ◌^◌, List, [], ◌∷◌, ℤ, pos, refl, sym, arith}
use Rattle.std.specs.Fmt.{decimal, signed_decimal}
use Rattle.judgement_matrix.specs.declared.tag.Tag.{Tag}
use Rattle.judgement_matrix.specs.declared.tag.Tag.TheVariants.{Lower, Zero, Cross, Order}
use Rattle.integers.specs.Fraction.{Fraction}
use Rattle.frac128.specs.Range.{IsInRange}
use Rattle.frac128.specs.Text.{frac_text}
use Rattle.cert_check.specs.declared.text.Claim.{Claim}
use Rattle.cert_check.specs.declared.text.Claim.TheVariants.{Least, Nothing}
use Rattle.cert_check.specs.declared.text.Head.{Head}
use Rattle.cert_check.specs.declared.text.TheConstants.{LEAST, DEN, ROWS, NOTHING, LOWER, ZERO, CROSS}
use Rattle.cert_check.specs.Text.{IsValue}
use Rattle.cert_check.specs.Reading.{IsPrintedValue, IsPrintedWhole, IsPrintedCount, ArePrintedPlaces, IsPrintedPair, IsPrintedCross, IsPrintedEntry, IsPrintedHead}
use Rattle.cert_check.proofs.DecidedLemmas.{Decided, OneOrNone, decided_text}
use Rattle.cert_check.proofs.EntryTexts.{first_differs, no_lower, no_zero, no_cross, entry_filled}
use Rattle.cert_check.proofs.FoundNumbers.{found_value, found_whole, found_count, found_places}
use Rattle.cert_check.proofs.HeadTexts.{head_filled}

-- ---- entries

-- behind `lower` and `zero`
found_pair : (line : List (List ℕ)) → OneOrNone (IsPrintedPair line)
found_pair (p ∷ q ∷ y ∷ []) = by_words (found_places p q) (found_whole y)
  where
    by_words : OneOrNone (ArePrintedPlaces p q) → OneOrNone (IsPrintedWhole y) → OneOrNone (IsPrintedPair (p ∷ q ∷ y ∷ []))
    by_words (inl (pair, h)) (inl (number, k)) = inl ((pair, number), (h.0, k.0, let first = h.1 in let second = h.2 in let third = k.1 in cc))
    by_words (inr none) number = inr (λ e h. let same = h.2 in none e.0 (h.0, cc, cc))
    by_words (inl pair) (inr none) = inr (λ e h. let same = h.2 in none e.1 (h.1, cc))
found_pair line = inr (λ e h. let same = h.2 in absurd (cc))

-- behind `cross`
found_cross : (line : List (List ℕ)) → OneOrNone (IsPrintedCross line)
found_cross (p ∷ q ∷ r ∷ s ∷ y ∷ []) = by_words (found_places p q) (found_places r s) (found_whole y)
  where
    by_words : OneOrNone (ArePrintedPlaces p q) → OneOrNone (ArePrintedPlaces r s) → OneOrNone (IsPrintedWhole y)
        → OneOrNone (IsPrintedCross (p ∷ q ∷ r ∷ s ∷ y ∷ []))
    by_words (inl (left, h)) (inl (right, j)) (inl (number, k)) = inl (
      ((left, right), number),
      (
        h.0,
        j.0,
        k.0,
        let first = h.1 in let second = h.2 in let third = j.1 in let fourth = j.2 in let fifth = k.1 in cc,
      ),
    )
    by_words (inr none) right number = inr (λ e h. let same = h.3 in none e.0.0 (h.0, cc, cc))
    by_words (inl left) (inr none) number = inr (λ e h. let same = h.3 in none e.0.1 (h.1, cc, cc))
    by_words (inl left) (inl right) (inr none) = inr (λ e h. let same = h.3 in none e.1 (h.2, cc))
found_cross line = inr (λ e h. let same = h.3 in absurd (cc))

-- a line that begins with no kind of a row
no_kind : (kind : List ℕ) (rest : List (List ℕ)) → kind ≢ LOWER.now → kind ≢ ZERO.now → kind ≢ CROSS.now → (x : Tag × ℤ) → ¬ IsPrintedEntry (kind ∷ rest) x
no_kind kind rest lower zero cross x = by_tag x.0 x.1
  where
    by_tag : (tag : Tag) (y : ℤ) → ¬ IsPrintedEntry (kind ∷ rest) (tag, y)
    by_tag (Lower p q) y h = let same = h.1 in lower (cc)
    by_tag (Zero p q) y h = let same = h.1 in zero (cc)
    by_tag (Cross p q a b) y h = let same = h.1 in cross (cc)
    by_tag (Order p) y h = h.0.0

pub found_entry : (line : List (List ℕ)) → OneOrNone (IsPrintedEntry line)
found_entry [] = inr (λ x h. entry_filled x (sym h.1))
found_entry (kind ∷ rest) =
    by_kind (decided_text kind LOWER.now) (decided_text kind ZERO.now) (decided_text kind CROSS.now) (found_pair rest) (found_cross rest)
  where
    by_kind : Decided (kind ≡ LOWER.now) → Decided (kind ≡ ZERO.now) → Decided (kind ≡ CROSS.now) → OneOrNone (IsPrintedPair rest)
        → OneOrNone (IsPrintedCross rest) → OneOrNone (IsPrintedEntry (kind ∷ rest))
    by_kind (inl lower) zero cross (inl (e, h)) two = inl ((Lower e.0.0 e.0.1, e.1), ((h.0, h.1), let same = h.2 in cc))
    by_kind (inl lower) zero cross (inr none) two = inr (no_lower (kind ∷ rest) kind rest refl lower none)
    by_kind (inr not) (inl zero) cross (inl (e, h)) two = inl ((Zero e.0.0 e.0.1, e.1), ((h.0, h.1), let same = h.2 in cc))
    by_kind (inr not) (inl zero) cross (inr none) two = inr (no_zero (kind ∷ rest) kind rest refl zero none)
    by_kind (inr not) (inr nor) (inl cross) one (inl (e, h)) =
        inl ((Cross e.0.0.0 e.0.0.1 e.0.1.0 e.0.1.1, e.1), (((h.0, h.1), h.2), let same = h.3 in cc))
    by_kind (inr not) (inr nor) (inl cross) one (inr none) = inr (no_cross (kind ∷ rest) kind rest refl cross none)
    by_kind (inr not) (inr nor) (inr neither) one two = inr (no_kind kind rest not nor neither)

-- ---- first lines

-- what stands behind `least` in a first line
record LeastWords (rest : List (List ℕ)) (head : Head) : Type 0 where
  value : Fraction
  is_value : IsValue value
  den_fits : IsInRange head.den
  count_fits : head.count < 2 ^ 127
  words : rest ≡ frac_text value ∷ DEN.now ∷ signed_decimal head.den ∷ ROWS.now ∷ decimal head.count ∷ []

least_words : (kind : List ℕ) (rest : List (List ℕ)) → kind ≡ LEAST.now → (head : Head) → IsPrintedHead (kind ∷ rest) head → LeastWords rest head
least_words kind rest is head = by_claim head.claim head.den
  where
    by_claim : (claim : Claim) (den : ℤ) → IsPrintedHead (kind ∷ rest) (record { claim = claim; den = den; count = head.count })
        → LeastWords rest (record { claim = claim; den = den; count = head.count })
    by_claim (Least value) den h = record {
      value = value;
      is_value = h.0.claim.0;
      den_fits = h.0.claim.1;
      count_fits = h.0.count_fits;
      words = let same = h.1 in cc;
    }
    by_claim Nothing den h = let same = h.1 in absurd (first_differs LEAST.now NOTHING.now (λ e. omega arith) (cc))

found_least : (kind : List ℕ) (rest : List (List ℕ)) → kind ≡ LEAST.now → OneOrNone (IsPrintedHead (kind ∷ rest))
found_least kind (v ∷ w ∷ d ∷ r ∷ c ∷ []) is = by_words (found_value v) (decided_text w DEN.now) (found_whole d) (decided_text r ROWS.now) (found_count c)
  where
    by_words : OneOrNone (IsPrintedValue v) → Decided (w ≡ DEN.now) → OneOrNone (IsPrintedWhole d) → Decided (r ≡ ROWS.now) → OneOrNone (IsPrintedCount c)
        → OneOrNone (IsPrintedHead (kind ∷ v ∷ w ∷ d ∷ r ∷ c ∷ []))
    by_words (inl (value, h)) (inl den_word) (inl (den, k)) (inl rows_word) (inl (count, j)) =
        inl (
          record { claim = Least value; den = den; count = count },
          (record { claim = (h.0, k.0); count_fits = j.0 }, let first = h.1 in let third = k.1 in let fifth = j.1 in cc),
        )
    by_words (inr none) w_is den r_is count = inr (λ head h.
        let l = least_words kind (v ∷ w ∷ d ∷ r ∷ c ∷ []) is head h in let same = l.words in none l.value (l.is_value, cc))
    by_words (inl value) (inr other) den r_is count = inr (λ head h.
        let l = least_words kind (v ∷ w ∷ d ∷ r ∷ c ∷ []) is head h in let same = l.words in other (cc))
    by_words (inl value) (inl w_is) (inr none) r_is count = inr (λ head h.
        let l = least_words kind (v ∷ w ∷ d ∷ r ∷ c ∷ []) is head h in let same = l.words in none head.den (l.den_fits, cc))
    by_words (inl value) (inl w_is) (inl den) (inr other) count = inr (λ head h.
        let l = least_words kind (v ∷ w ∷ d ∷ r ∷ c ∷ []) is head h in let same = l.words in other (cc))
    by_words (inl value) (inl w_is) (inl den) (inl r_is) (inr none) = inr (λ head h.
        let l = least_words kind (v ∷ w ∷ d ∷ r ∷ c ∷ []) is head h in let same = l.words in none head.count (l.count_fits, cc))
found_least kind rest is = inr (λ head h. let l = least_words kind rest is head h in let same = l.words in absurd (cc))

-- what stands behind `nothing`
record NothingWords (rest : List (List ℕ)) (head : Head) : Type 0 where
  count_fits : head.count < 2 ^ 127
  words : rest ≡ ROWS.now ∷ decimal head.count ∷ []

nothing_words : (kind : List ℕ) (rest : List (List ℕ)) → kind ≡ NOTHING.now → (head : Head) → IsPrintedHead (kind ∷ rest) head → NothingWords rest head
nothing_words kind rest is head = by_claim head.claim head.den
  where
    by_claim : (claim : Claim) (den : ℤ) → IsPrintedHead (kind ∷ rest) (record { claim = claim; den = den; count = head.count })
        → NothingWords rest (record { claim = claim; den = den; count = head.count })
    by_claim (Least value) den h = let same = h.1 in absurd (first_differs LEAST.now NOTHING.now (λ e. omega arith) (cc))
    by_claim Nothing den h = record { count_fits = h.0.count_fits; words = let same = h.1 in cc }

found_nothing : (kind : List ℕ) (rest : List (List ℕ)) → kind ≡ NOTHING.now → OneOrNone (IsPrintedHead (kind ∷ rest))
found_nothing kind (r ∷ c ∷ []) is = by_words (decided_text r ROWS.now) (found_count c)
  where
    by_words : Decided (r ≡ ROWS.now) → OneOrNone (IsPrintedCount c) → OneOrNone (IsPrintedHead (kind ∷ r ∷ c ∷ []))
    by_words (inl rows_word) (inl (count, j)) =
        inl (record { claim = Nothing; den = pos 1; count = count }, (record { claim = refl; count_fits = j.0 }, let second = j.1 in cc))
    by_words (inr other) count = inr (λ head h. let l = nothing_words kind (r ∷ c ∷ []) is head h in let same = l.words in other (cc))
    by_words (inl r_is) (inr none) = inr (λ head h.
        let l = nothing_words kind (r ∷ c ∷ []) is head h in let same = l.words in none head.count (l.count_fits, cc))
found_nothing kind rest is = inr (λ head h. let l = nothing_words kind rest is head h in let same = l.words in absurd (cc))

-- a line that begins with neither
no_claim : (kind : List ℕ) (rest : List (List ℕ)) → kind ≢ LEAST.now → kind ≢ NOTHING.now → (head : Head) → ¬ IsPrintedHead (kind ∷ rest) head
no_claim kind rest least nothing head = by_claim head.claim head.den
  where
    by_claim : (claim : Claim) (den : ℤ) → ¬ IsPrintedHead (kind ∷ rest) (record { claim = claim; den = den; count = head.count })
    by_claim (Least value) den h = let same = h.1 in least (cc)
    by_claim Nothing den h = let same = h.1 in nothing (cc)

pub found_head : (line : List (List ℕ)) → OneOrNone (IsPrintedHead line)
found_head [] = inr (λ head h. head_filled head (sym h.1))
found_head (kind ∷ rest) = by_kind (decided_text kind LEAST.now) (decided_text kind NOTHING.now)
  where
    by_kind : Decided (kind ≡ LEAST.now) → Decided (kind ≡ NOTHING.now) → OneOrNone (IsPrintedHead (kind ∷ rest))
    by_kind (inl least) nothing = found_least kind rest least
    by_kind (inr not) (inl nothing) = found_nothing kind rest nothing
    by_kind (inr not) (inr nor) = inr (no_claim kind rest not nor)
