-- Entries of a text, by the kind that their first word tells.
use Rattle.std.proofs.Common.{◌≡◌, ◌≢◌, ℕ, ◌<◌, length, List, [], ◌∷◌, ◌++◌, ℤ, sym, ap, ◌∙◌, arith, append_assoc, append-nil, get_or}
use Rattle.std.specs.Prelude.{All}
use Rattle.std.specs.Fmt.{signed_decimal}
use Rattle.std.proofs.lemmas.Grind.{flat_map-append}
use Rattle.std.proofs.lemmas.List.{length-append}
use Rattle.std.proofs.lemmas.List.Elements.{All-nil, All-cons, All-append}
use Rattle.judgement_matrix.specs.declared.tag.Tag.{Tag}
use Rattle.judgement_matrix.specs.declared.tag.Tag.TheVariants.{Lower, Zero, Cross, Order}
use Rattle.cert_check.specs.Reading.{words, IsPrintedPair, IsPrintedCross, IsPrintedEntry, HasEntries}
use Rattle.cert_check.specs.Text.{IsEntryText, tag_words, entry_words, entries_text, line_of, BeginWithNo}
use Rattle.cert_check.specs.declared.text.TheConstants.{LOWER, ZERO, CROSS}
use Rattle.cert_check.proofs.LineLemmas.{other_line, this_line}
use Rattle.cert_check.proofs.PrintedWords.{entry_is_words}

-- the kinds differ by their first bytes
pub first_differs : (a b : List ℕ) → get_or a 0 0 ≢ get_or b 0 0 → a ≢ b
first_differs a b other e = other (ap (λ l. get_or l 0 0) e)

-- where the words behind `lower` are no pair's, there is no entry
pub no_lower : (line : List (List ℕ)) (kind : List ℕ) (rest : List (List ℕ)) → line ≡ kind ∷ rest
    → kind ≡ LOWER.now → ((e : (ℕ × ℕ) × ℤ) → ¬ IsPrintedPair rest e) → (x : Tag × ℤ) → ¬ IsPrintedEntry line x
no_lower line kind rest cut is none x = step x.0 x.1
  where
    step : (tag : Tag) (y : ℤ) → ¬ IsPrintedEntry line (tag, y)
    step (Lower p q) y h = let same = h.1 in none ((p, q), y) (h.0.0, h.0.1, cc)
    step (Zero p q) y h = let same = h.1 in first_differs LOWER.now ZERO.now (λ e. omega arith) (cc)
    step (Cross p q a b) y h = let same = h.1 in first_differs LOWER.now CROSS.now (λ e. omega arith) (cc)
    step (Order p) y h = h.0.0

-- where the words behind `zero` are no pair's, there is no entry
pub no_zero : (line : List (List ℕ)) (kind : List ℕ) (rest : List (List ℕ)) → line ≡ kind ∷ rest
    → kind ≡ ZERO.now → ((e : (ℕ × ℕ) × ℤ) → ¬ IsPrintedPair rest e) → (x : Tag × ℤ) → ¬ IsPrintedEntry line x
no_zero line kind rest cut is none x = step x.0 x.1
  where
    step : (tag : Tag) (y : ℤ) → ¬ IsPrintedEntry line (tag, y)
    step (Zero p q) y h = let same = h.1 in none ((p, q), y) (h.0.0, h.0.1, cc)
    step (Lower p q) y h = let same = h.1 in first_differs ZERO.now LOWER.now (λ e. omega arith) (cc)
    step (Cross p q a b) y h = let same = h.1 in first_differs ZERO.now CROSS.now (λ e. omega arith) (cc)
    step (Order p) y h = h.0.0

-- where the words behind `cross` are not those of two pairs, there is no entry
pub no_cross : (line : List (List ℕ)) (kind : List ℕ) (rest : List (List ℕ)) → line ≡ kind ∷ rest
    → kind ≡ CROSS.now → ((e : ((ℕ × ℕ) × (ℕ × ℕ)) × ℤ) → ¬ IsPrintedCross rest e) → (x : Tag × ℤ) → ¬ IsPrintedEntry line x
no_cross line kind rest cut is none x = step x.0 x.1
  where
    step : (tag : Tag) (y : ℤ) → ¬ IsPrintedEntry line (tag, y)
    step (Cross p q a b) y h = let same = h.1 in none (((p, q), (a, b)), y) (h.0.0.0, h.0.0.1, h.0.1, cc)
    step (Lower p q) y h = let same = h.1 in first_differs CROSS.now LOWER.now (λ e. omega arith) (cc)
    step (Zero p q) y h = let same = h.1 in first_differs CROSS.now ZERO.now (λ e. omega arith) (cc)
    step (Order p) y h = h.0.0

-- an entry has words
pub entry_filled : (entry : Tag × ℤ) → entry_words entry ≢ []
entry_filled entry none = omega (arith, ap length none, length-append (tag_words entry.0) (signed_decimal entry.1 ∷ []))

-- ---- entry by entry

-- one more
pub HasEntries-next : (text : List ℕ) (count : ℕ) (on : List (Tag × ℤ)) (rest line after : List ℕ) (entry : Tag × ℤ) → HasEntries text count on rest
    → length on < count → rest ≡ line ++ 10 ∷ after → IsPrintedEntry (words line) entry → HasEntries text count (on ++ entry ∷ []) after
HasEntries-next text count on rest line after entry h room parts printed = record {
  are_entries = All-append IsEntryText on (entry ∷ []) h.are_entries (All-cons IsEntryText entry [] printed.0 (All-nil IsEntryText));
  no_more = omega (arith, length-append on (entry ∷ []));
  parts = h.parts ∙ ap (λ l. entries_text on ++ l) (this_line rest line after (entry_words entry) parts printed.1)
      ∙ sym (append_assoc (entries_text on) (line_of (entry_words entry)) after)
      ∙ ap (λ l. (entries_text on ++ l) ++ after) (sym (append-nil (line_of (entry_words entry))))
      ∙ ap (λ l. l ++ after) (sym (flat_map-append (λ (e : Tag × ℤ). line_of (entry_words e)) on (entry ∷ [])));
}

-- the line is no entry
pub other_entry_line : (rest line after : List ℕ) → rest ≡ line ++ 10 ∷ after → All (λ b. b ≢ 10) line → ((x : Tag × ℤ) → ¬ IsPrintedEntry (words line) x)
    → BeginWithNo IsEntryText entry_words rest
other_entry_line rest line after parts free none =
    other_line IsEntryText entry_words rest line after entry_is_words (λ x is. entry_filled x) parts free (λ x is same. none x (is, same))
