-- The first line of a text, and what follows it.
use Rattle.std.proofs.Common.{◌≡◌, ◌≢◌, inl, inr, ℕ, length, List, [], ◌∷◌, ◌++◌, ℤ, refl, sym, ap, subst, ◌∙◌, arith, append-nil}
use Rattle.std.specs.Prelude.{All}
use Rattle.std.specs.Fmt.{decimal}
use Rattle.std.proofs.lemmas.List.{length-append}
use Rattle.judgement_matrix.specs.declared.tag.Tag.{Tag}
use Rattle.cert_check.specs.declared.text.CertFault.{CertFault}
use Rattle.cert_check.specs.declared.text.CertFault.TheVariants.{Bad, NoMemory}
use Rattle.cert_check.specs.declared.text.CertText.{CertText}
use Rattle.cert_check.specs.declared.text.Head.{Head}
use Rattle.cert_check.specs.declared.text.TheConstants.{ROWS}
use Rattle.cert_check.specs.Reading.{words, IsPrintedHead, HasEntries, AreEntries, IsEntriesFault}
use Rattle.cert_check.specs.Text.{IsHead, claim_words, head_words, head_of, line_of, entries_text, HasRead, IsFirstBad, IsFault, IsTextOf}
use Rattle.cert_check.proofs.LineLemmas.{other_line, this_line}
use Rattle.cert_check.proofs.PrintedWords.{head_is_words}

-- a first line has words
pub head_filled : (head : Head) → head_words head ≢ []
head_filled head none = omega (arith, ap length none, length-append (claim_words head.claim head.den) (ROWS.now ∷ decimal head.count ∷ []))

-- the line is no first line
pub other_head_line : (bytes line rest : List ℕ) → bytes ≡ line ++ 10 ∷ rest → All (λ b. b ≢ 10) line → ((x : Head) → ¬ IsPrintedHead (words line) x)
    → IsFirstBad bytes 1
other_head_line bytes line rest parts free none =
    inl (refl, other_line IsHead head_words bytes line rest head_is_words (λ x is. head_filled x) parts free (λ x is same. none x (is, same)))

-- the first line and entries
has_read : (bytes line text : List ℕ) (head : Head) (on : List (Tag × ℤ)) (rest : List ℕ) → bytes ≡ line ++ 10 ∷ text → IsPrintedHead (words line) head
    → HasEntries text head.count on rest → HasRead bytes head on rest
has_read bytes line text head on rest parts printed has = record {
  is_head = printed.0;
  are_entries = has.are_entries;
  no_more = has.no_more;
  parts = this_line bytes line text (head_words head) parts printed.1 ∙ ap (λ l. line_of (head_words head) ++ l) has.parts;
}

-- what is wrong with the entries is wrong with the text
pub IsFault-from_entries : (bytes line text : List ℕ) (head : Head) → bytes ≡ line ++ 10 ∷ text → IsPrintedHead (words line) head
    → (fault : CertFault) → IsEntriesFault text head.count fault → IsFault bytes fault
IsFault-from_entries bytes line text head parts printed (Bad k) bad = inr (record {
  head = head;
  on = bad.on;
  rest = bad.rest;
  read = has_read bytes line text head bad.on bad.rest parts printed bad.has;
  number = bad.number;
  missing = bad.missing;
  too_many = bad.too_many;
})
IsFault-from_entries bytes line text head parts printed NoMemory bad = tt

-- the whole text
pub IsTextOf-from_entries : (bytes line text : List ℕ) (head : Head) (cert : CertText) → bytes ≡ line ++ 10 ∷ text → IsPrintedHead (words line) head
    → AreEntries text head.count cert.on → cert.claim ≡ head.claim → cert.den ≡ head.den → IsTextOf bytes cert
IsTextOf-from_entries bytes line text head cert parts printed are claim den =
    let same : head ≡ head_of cert = λ i. record { claim = sym claim i; den = sym den i; count = sym are.number i } in
    record {
      head = subst IsHead same printed.0;
      entries = are.has.are_entries;
      text = this_line bytes line text (head_words head) parts printed.1
          ∙ ap (λ h. line_of (head_words h) ++ text) same
          ∙ ap (λ l. line_of (head_words (head_of cert)) ++ l) (are.has.parts ∙ append-nil (entries_text cert.on));
    }
