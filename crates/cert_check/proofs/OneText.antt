-- Bytes are the text of one certificate at most, and then no line of them is bad.
use Rattle.std.proofs.Common.{◌≡◌, inl, inr, ℕ, ◌+◌, ◌<◌, ◌^◌, length, List, [], ◌∷◌, ◌++◌, ℤ, pos, refl, sym, ap, subst, ◌∙◌, arith, append_assoc, append-nil}
use Rattle.std.specs.Prelude.{All, get_or, Result, Ok, Err, MatchResult, IfOk}
use Rattle.cert_check.specs.declared.text.CertFault.{CertFault}
use Rattle.cert_check.specs.declared.text.CertFault.TheVariants.{Bad, NoMemory}
use Rattle.std.specs.Fmt.{decimal, signed_decimal}
use Rattle.std.specs.List.{join_with_byte}
use Rattle.std.proofs.lemmas.Int.{ints}
use Rattle.std.proofs.lemmas.List.{length-append}
use Rattle.std.proofs.lemmas.List.Elements.{All-head, All-tail}
use Rattle.frac128.specs.Text.{frac_text}
use Rattle.judgement_matrix.specs.declared.tag.Tag.{Tag}
use Rattle.judgement_matrix.specs.declared.tag.Tag.TheVariants.{Lower, Zero, Cross, Order}
use Rattle.cert_check.specs.declared.text.CertText.{CertText}
use Rattle.cert_check.specs.declared.text.Head.{Head}
use Rattle.cert_check.specs.declared.text.Claim.{Claim}
use Rattle.cert_check.specs.declared.text.Claim.TheVariants.{Least, Nothing}
use Rattle.cert_check.specs.declared.text.TheConstants.{LOWER, ZERO, CROSS, LEAST, NOTHING}
use Rattle.cert_check.specs.Text.{ArePositions, IsTagText, IsEntryText, IsClaim, IsHead, tag_words, entry_words, head_words, head_of, line_of, entries_text, IsTextOf, HasTagText, IsReadable, IsPrintable, IsFault, cert_text, IsFirstBad}
use Rattle.cert_check.proofs.EntryTexts.{first_differs, entry_filled}
use Rattle.cert_check.proofs.HeadTexts.{head_filled}
use Rattle.cert_check.proofs.LineLemmas.{same_words}
use Rattle.cert_check.proofs.NumberLemmas.{one_value, one_whole, one_position}
use Rattle.cert_check.proofs.PrintedWords.{entry_is_words, head_is_words}

-- ---- one entry and one first line have the same words

-- two pairs of positions of one text
same_pair : (p q r s : ℕ) → ArePositions p q → ArePositions r s → decimal p ≡ decimal r → decimal q ≡ decimal s → (p ≡ r) × (q ≡ s)
same_pair p q r s h k e d =
    (one_position (decimal p) p r (omega arith) (omega arith) refl e, one_position (decimal q) q s (omega arith) (omega arith) refl d)

-- entries of the same words
pub one_entry : (x y : Tag × ℤ) → IsEntryText x → IsEntryText y → entry_words x ≡ entry_words y → x ≡ y
one_entry x y hx hy e = step x.0 y.0 hx.0 hy.0 e
  where
    numbers : signed_decimal x.1 ≡ signed_decimal y.1 → x.1 ≡ y.1
    numbers same = one_whole (signed_decimal x.1) x.1 y.1 hx.1 hy.1 refl same

    step : (a b : Tag) → IsTagText a → IsTagText b → tag_words a ++ signed_decimal x.1 ∷ [] ≡ tag_words b ++ signed_decimal y.1 ∷ []
        → ◌≡◌ {A = Tag × ℤ} (a, x.1) (b, y.1)
    step (Lower p q) (Lower r s) h k d =
        let pair = same_pair p q r s h k (cc) (cc) in
        let number = numbers (cc) in
        λ i. (Lower (pair.0 i) (pair.1 i), number i)
    step (Zero p q) (Zero r s) h k d =
        let pair = same_pair p q r s h k (cc) (cc) in
        let number = numbers (cc) in
        λ i. (Zero (pair.0 i) (pair.1 i), number i)
    step (Cross p q a b) (Cross r s c d') h k d =
        let left = same_pair p q r s h.0 k.0 (cc) (cc) in
        let right = same_pair a b c d' h.1 k.1 (cc) (cc) in
        let number = numbers (cc) in
        λ i. (Cross (left.0 i) (left.1 i) (right.0 i) (right.1 i), number i)
    step (Lower p q) (Zero r s) h k d = absurd (first_differs LOWER.now ZERO.now (λ e. omega arith) (cc))
    step (Lower p q) (Cross r s a b) h k d = absurd (first_differs LOWER.now CROSS.now (λ e. omega arith) (cc))
    step (Zero p q) (Lower r s) h k d = absurd (first_differs ZERO.now LOWER.now (λ e. omega arith) (cc))
    step (Zero p q) (Cross r s a b) h k d = absurd (first_differs ZERO.now CROSS.now (λ e. omega arith) (cc))
    step (Cross p q a b) (Lower r s) h k d = absurd (first_differs CROSS.now LOWER.now (λ e. omega arith) (cc))
    step (Cross p q a b) (Zero r s) h k d = absurd (first_differs CROSS.now ZERO.now (λ e. omega arith) (cc))
    step (Order p) b h k d = absurd h
    step (Lower p q) (Order r) h k d = absurd k
    step (Zero p q) (Order r) h k d = absurd k
    step (Cross p q a b) (Order r) h k d = absurd k

-- first lines of the same words
pub one_head : (x y : Head) → IsHead x → IsHead y → head_words x ≡ head_words y → x ≡ y
one_head x y hx hy e = step x.claim y.claim x.den y.den hx.claim hy.claim e
  where
    counts : decimal x.count ≡ decimal y.count → x.count ≡ y.count
    counts same = let z = one_whole (decimal x.count) (pos x.count) (pos y.count) hx.count_fits hy.count_fits refl same in omega (arith, ints)

    step : (a b : Claim) (m n : ℤ) → IsClaim a m → IsClaim b n
        → head_words (record { claim = a; den = m; count = x.count }) ≡ head_words (record { claim = b; den = n; count = y.count })
        → ◌≡◌ {A = Head} (record { claim = a; den = m; count = x.count }) (record { claim = b; den = n; count = y.count })
    step (Least v) (Least w) m n h k d =
        let value = one_value (frac_text v) v w h.0 k.0 refl (cc) in
        let den = one_whole (signed_decimal m) m n h.1 k.1 refl (cc) in
        let count = counts (cc) in
        λ i. record { claim = Least (value i); den = den i; count = count i }
    step Nothing Nothing m n h k d =
        let den = h ∙ sym k in
        let count = counts (cc) in
        λ i. record { claim = Nothing; den = den i; count = count i }
    step (Least v) Nothing m n h k d = absurd (first_differs LEAST.now NOTHING.now (λ e. omega arith) (cc))
    step Nothing (Least w) m n h k d = absurd (first_differs NOTHING.now LEAST.now (λ e. omega arith) (cc))

-- ---- a text

-- entries, and what follows, from a text
entries_of : (on all : List (Tag × ℤ)) (rest : List ℕ) → All IsEntryText on → All IsEntryText all → entries_text on ++ rest ≡ entries_text all
    → (more : List (Tag × ℤ)) × (all ≡ on ++ more) × (rest ≡ entries_text more) × All IsEntryText more
entries_of [] all rest h k e = (all, refl, e, k)
entries_of (x ∷ on) [] rest h k e =
    absurd (omega (
      arith,
      ap length (sym (append_assoc (line_of (entry_words x)) (entries_text on) rest) ∙ e),
      length-append (line_of (entry_words x))
          (entries_text on ++ rest),
      length-append (join_with_byte 32 (entry_words x)) (10 ∷ []),
    ))
entries_of (x ∷ on) (y ∷ all) rest h k e =
    let is_x = All-head IsEntryText x on h in
    let is_y = All-head IsEntryText y all k in
    let cut = same_words (entry_words x) (entry_words y) (entries_text on ++ rest) (entries_text all) (entry_is_words x is_x) (entry_is_words y is_y)
    (entry_filled x) (entry_filled y)
    (sym (append_assoc (line_of (entry_words x)) (entries_text on) rest) ∙ e) in
    let same = one_entry x y is_x is_y cut.0 in
    let left = entries_of on all rest (All-tail IsEntryText x on h) (All-tail IsEntryText y all k) cut.1 in
    (left.0, ap (λ l. y ∷ l) left.1 ∙ ap (λ z. z ∷ (on ++ left.0)) (sym same), left.2, left.3)

-- no entries make no text
no_entries : (more : List (Tag × ℤ)) → [] ≡ entries_text more → more ≡ []
no_entries [] e = refl
no_entries (x ∷ more) e =
    absurd (omega (
      arith,
      ap length e,
      length-append (line_of (entry_words x)) (entries_text more),
      length-append (join_with_byte 32 (entry_words x))
          (10 ∷ []),
    ))

-- the first line and the entries of a text, as far as they were read
record Beginning (cert : CertText) (head : Head) (on : List (Tag × ℤ)) (rest : List ℕ) : Type 0 where
  pub same_head : head ≡ head_of cert
  pub more : List (Tag × ℤ)
  pub all : cert.on ≡ on ++ more
  pub left : rest ≡ entries_text more
  pub are_entries : All IsEntryText more

beginning : (bytes : List ℕ) (cert : CertText) (head : Head) (on : List (Tag × ℤ)) (rest : List ℕ) → IsTextOf bytes cert → IsHead head → All IsEntryText on
    → bytes ≡ line_of (head_words head) ++ (entries_text on ++ rest) → Beginning cert head on rest
beginning bytes cert head on rest t is entries parts =
    let cut = same_words (head_words head) (head_words (head_of cert)) (entries_text on ++ rest) (entries_text cert.on) (head_is_words head is)
    (head_is_words (head_of cert) t.head)
    (head_filled head) (head_filled (head_of cert)) (sym parts ∙ t.text) in
    let left = entries_of on cert.on rest entries t.entries cut.1 in
    record { same_head = one_head head (head_of cert) is t.head cut.0; more = left.0; all = left.1; left = left.2; are_entries = left.3 }

-- two certificates of one text are one
pub one_text : (bytes : List ℕ) (a b : CertText) → IsTextOf bytes a → IsTextOf bytes b → a ≡ b
one_text bytes a b h k =
    let start = beginning bytes b (head_of a) a.on [] k h.head h.entries
    (h.text ∙ ap (λ l. line_of (head_words (head_of a)) ++ l) (sym (append-nil (entries_text a.on)))) in
    let on : a.on ≡ b.on = sym (start.all ∙ ap (λ l. a.on ++ l) (no_entries start.more start.left) ∙ append-nil a.on) in
    λ i. record { claim = (start.same_head i).claim; den = (start.same_head i).den; on = on i }

-- the text of a certificate has no bad line
pub no_bad_line : (bytes : List ℕ) (cert : CertText) (k : ℕ) → IsTextOf bytes cert → ¬ IsFirstBad bytes k
no_bad_line bytes cert k t (inl h) = h.1 (head_of cert) (entries_text cert.on) t.head t.text
no_bad_line bytes cert k t (inr bad) =
    let start = beginning bytes cert bad.head bad.on bad.rest t bad.read.is_head bad.read.are_entries bad.read.parts in
    step start.more start.left start.are_entries (ap (λ (h : Head). h.count) start.same_head ∙ ap length start.all ∙ length-append bad.on start.more)
  where
    step : (more : List (Tag × ℤ)) → bad.rest ≡ entries_text more → All IsEntryText more → bad.head.count ≡ length bad.on + length more → ⊥
    step [] left are count = bad.too_many (omega arith) left
    step (x ∷ more) left are count = bad.missing (omega arith) x (entries_text more) (All-head IsEntryText x more are) left

-- ---- printed and read

-- a row whose positions a text may hold has a text
has_text : (tag : Tag) → IsTagText tag → HasTagText tag
has_text (Lower p q) h = tt
has_text (Zero p q) h = tt
has_text (Cross p q x y) h = tt
has_text (Order p) h = absurd h

-- what reads back can be printed
pub printable : (cert : CertText) → IsReadable cert → IsPrintable cert
printable cert h = record {
  den_one = λ nothing. subst (λ claim. IsClaim claim cert.den) nothing h.claim;
  tags = λ k d below. has_text (get_or cert.on k d).0 (h.entries k d below).0;
}

-- and its text is one
pub text_of : (bytes : List ℕ) (cert : CertText) → IsReadable cert → length cert.on < 2 ^ 127 → bytes ≡ cert_text cert → IsTextOf bytes cert
text_of bytes cert h fits e = record { head = record { claim = h.claim; count_fits = fits }; entries = h.entries; text = e }

-- what is read of it
pub read_again : (bytes : List ℕ) (cert : CertText) (r : Result CertText CertFault) → IsTextOf bytes cert
    → MatchResult r (λ again. IsTextOf bytes again) (λ fault. IsFault bytes fault)
    → MatchResult r (λ again. again ≡ cert) (λ fault. fault ≡ NoMemory)
read_again bytes cert (Ok again) t h = one_text bytes again cert h t
read_again bytes cert (Err (Bad k)) t h = absurd (no_bad_line bytes cert k t h)
read_again bytes cert (Err NoMemory) t h = refl

-- what was read can be printed
pub printable_read : (bytes : List ℕ) (r : Result CertText CertFault) → MatchResult r (λ cert. IsTextOf bytes cert) (λ fault. IsFault bytes fault)
    → IfOk r IsPrintable
printable_read bytes (Ok cert) t = printable cert (record { claim = t.head.claim; entries = t.entries })
printable_read bytes (Err fault) t = tt
