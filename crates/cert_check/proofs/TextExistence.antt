-- Bytes are the text of a certificate, or a line of them is the first that doesn't fit.
use Rattle.std.proofs.Common.{◌≡◌, ◌≢◌, ◌⊎◌, inl, inr, ℕ, zero, suc, ◌+◌, length, List, [], ◌∷◌, ◌++◌, ℤ, refl, ap, arith}
use Rattle.std.specs.Prelude.{All}
use Rattle.std.proofs.lemmas.Bool.{cases_eq}
use Rattle.std.proofs.lemmas.List.{length-append}
use Rattle.std.proofs.lemmas.List.Elements.{All-nil, All-cons}
use Rattle.judgement_matrix.specs.declared.tag.Tag.{Tag}
use Rattle.cert_check.specs.declared.text.CertFault.TheVariants.{Bad}
use Rattle.cert_check.specs.declared.text.CertText.{CertText}
use Rattle.cert_check.specs.declared.text.Head.{Head}
use Rattle.cert_check.specs.Reading.{words, IsPrintedHead, IsPrintedEntry, HasEntries, AreEntries, IsBadAfter}
use Rattle.cert_check.specs.Text.{IsEntryText, IsHead, entry_words, head_words, BeginWithNo, IsTextOf, IsFirstBad}
use Rattle.cert_check.proofs.DecidedLemmas.{OneOrNone}
use Rattle.cert_check.proofs.EntryTexts.{HasEntries-next, other_entry_line}
use Rattle.cert_check.proofs.FoundLines.{found_entry, found_head}
use Rattle.cert_check.proofs.HeadTexts.{other_head_line, IsFault-from_entries, IsTextOf-from_entries}
use Rattle.cert_check.proofs.LineLemmas.{no_line}

-- ---- the first line of a text

-- what stands before the first newline, and what stands behind it
record FirstLine (text : List ℕ) : Type 0 where
  line : List ℕ
  after : List ℕ
  parts : text ≡ line ++ 10 ∷ after
  free : All (λ b. b ≢ 10) line

-- there is a newline, or there is none
first_line : (text : List ℕ) → FirstLine text ⊎ All (λ b. b ≢ 10) text
first_line [] = inr (All-nil (λ b. b ≢ 10))
first_line (b ∷ text) = by_first (cases_eq b 10) (first_line text)
  where
    by_first : (b ≡ 10) ⊎ (b ≢ 10) → FirstLine text ⊎ All (λ b. b ≢ 10) text → FirstLine (b ∷ text) ⊎ All (λ b. b ≢ 10) (b ∷ text)
    by_first (inl newline) rest = inl (record { line = []; after = text; parts = ap (λ n. n ∷ text) newline; free = All-nil (λ b. b ≢ 10) })
    by_first (inr other) (inl cut) = inl (record {
      line = b ∷ cut.line;
      after = cut.after;
      parts = ap (λ l. b ∷ l) cut.parts;
      free = All-cons (λ b. b ≢ 10) b cut.line other cut.free;
    })
    by_first (inr other) (inr none) = inr (All-cons (λ b. b ≢ 10) b text other none)

-- ---- the entries

-- the text is so many entries, or a line of it is the first that doesn't fit
abbrev EntriesOrBad : List ℕ → ℕ → Type 0
EntriesOrBad text count = ((on : List (Tag × ℤ)) × AreEntries text count on) ⊎ ((k : ℕ) × IsBadAfter text count k)

-- as many as there should be
entries_end : (text : List ℕ) (count : ℕ) (on : List (Tag × ℤ)) (rest : List ℕ) → length on ≡ count → HasEntries text count on rest → EntriesOrBad text count
entries_end text count on [] enough has = inl (on, record { has = has; number = enough })
entries_end text count on (b ∷ rest) enough has = inr (
  length on + 2,
  record {
    on = on;
    rest = b ∷ rest;
    has = has;
    number = refl;
    missing = λ less. absurd (omega arith);
    too_many = λ same none. absurd (cc);
  },
)

-- so many are still to come
entries_from : (text : List ℕ) (count more : ℕ) (on : List (Tag × ℤ)) (rest : List ℕ) → length on + more ≡ count → HasEntries text count on rest
    → EntriesOrBad text count
entries_from text count zero on rest sum has = entries_end text count on rest (omega arith) has
entries_from text count (suc more) on rest sum has = by_line (first_line rest)
    (λ line after parts entry printed. entries_from text count more (on ++ entry ∷ []) after (omega (arith, length-append on (entry ∷ [])))
    (HasEntries-next text count on rest line after entry has (omega arith) parts printed))
  where
    bad : BeginWithNo IsEntryText entry_words rest → EntriesOrBad text count
    bad none = inr
        (length on + 2, record { on = on; rest = rest; has = has; number = refl; missing = λ less. none; too_many = λ same. absurd (omega arith) })

    by_entry : (cut : FirstLine rest) → OneOrNone (IsPrintedEntry (words cut.line))
        → ((entry : Tag × ℤ) → IsPrintedEntry (words cut.line) entry → EntriesOrBad text count) → EntriesOrBad text count
    by_entry cut (inl (entry, printed)) next = next entry printed
    by_entry cut (inr none) next = bad (other_entry_line rest cut.line cut.after cut.parts cut.free none)

    by_line : FirstLine rest ⊎ All (λ b. b ≢ 10) rest
        → ((line after : List ℕ) → rest ≡ line ++ 10 ∷ after → (entry : Tag × ℤ) → IsPrintedEntry (words line) entry → EntriesOrBad text count)
        → EntriesOrBad text count
    by_line (inl cut) next = by_entry cut (found_entry (words cut.line)) (next cut.line cut.after cut.parts)
    by_line (inr none) next = bad (no_line IsEntryText entry_words rest none)

-- ---- the whole text

-- the text behind a first line
from_entries : (bytes : List ℕ) (cut : FirstLine bytes) (head : Head) → IsPrintedHead (words cut.line) head → EntriesOrBad cut.after head.count
    → ((cert : CertText) × IsTextOf bytes cert) ⊎ ((k : ℕ) × IsFirstBad bytes k)
from_entries bytes cut head printed (inl (on, are)) =
    let cert : CertText = record { claim = head.claim; den = head.den; on = on } in
    inl (cert, IsTextOf-from_entries bytes cut.line cut.after head cert cut.parts printed are refl refl)
from_entries bytes cut head printed (inr (k, bad)) = inr (k, IsFault-from_entries bytes cut.line cut.after head cut.parts printed (Bad k) bad)

-- the bytes, which may be any numbers, are the text of a certificate, or a line of them is the first that doesn't fit
pub every_text_reads_or_is_bad : (bytes : List ℕ) → ((cert : CertText) × IsTextOf bytes cert) ⊎ ((k : ℕ) × IsFirstBad bytes k)
every_text_reads_or_is_bad bytes = by_line (first_line bytes)
  where
    by_head : (cut : FirstLine bytes) → OneOrNone (IsPrintedHead (words cut.line)) → ((cert : CertText) × IsTextOf bytes cert) ⊎ ((k : ℕ) × IsFirstBad bytes k)
    by_head cut (inl (head, printed)) =
        let none : HasEntries cut.after head.count [] cut.after =
        record { are_entries = All-nil IsEntryText; no_more = omega arith; parts = refl } in
        from_entries bytes cut head printed (entries_from cut.after head.count head.count [] cut.after (omega arith) none)
    by_head cut (inr none) = inr (1, other_head_line bytes cut.line cut.after cut.parts cut.free none)

    by_line : FirstLine bytes ⊎ All (λ b. b ≢ 10) bytes → ((cert : CertText) × IsTextOf bytes cert) ⊎ ((k : ℕ) × IsFirstBad bytes k)
    by_line (inl cut) = by_head cut (found_head (words cut.line))
    by_line (inr none) = inr (1, inl (refl, no_line IsHead head_words bytes none))
