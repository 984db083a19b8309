-- Certificates as text: lines of words. The first line says what the certificate shows, and each line after it is an
-- entry.
use Rattle.std.specs.Prelude.{◌≡◌, ◌≢◌, ◌⊎◌, ℕ, ◌+◌, ◌<◌, ◌≤◌, ◌^◌, ◌++◌, List, [], ◌∷◌, length, ℤ, pos, All, ⊤}
use Rattle.std.specs.Fmt.{decimal, signed_decimal}
use Rattle.std.specs.List.{flat_map, join_with_byte}
use Rattle.integers.specs.Fraction.{Fraction}
use Rattle.frac128.specs.Frac.{IsReduced}
use Rattle.frac128.specs.Range.{IsInRange}
use Rattle.frac128.specs.Text.{frac_text}
use Rattle.judgement_matrix.specs.declared.tag.Tag.{Tag}
use Rattle.judgement_matrix.specs.declared.tag.Tag.TheVariants.{Lower, Zero, Cross, Order}
use Rattle.cert_check.specs.declared.text.CertText.{CertText}
use Rattle.cert_check.specs.declared.text.Claim.{Claim}
use Rattle.cert_check.specs.declared.text.Claim.TheVariants.{Least, Nothing}
use Rattle.cert_check.specs.declared.text.CertFault.{CertFault}
use Rattle.cert_check.specs.declared.text.CertFault.TheVariants.{Bad, NoMemory}
use Rattle.cert_check.specs.declared.text.Head.{Head}
use Rattle.cert_check.specs.declared.text.TheConstants.{LEAST, DEN, ROWS, NOTHING, LOWER, ZERO, CROSS}

-- words with one space between two of them, and a newline
abbrev pub line_of : List (List ℕ) → List ℕ
line_of words = join_with_byte 32 words ++ 10 ∷ []

-- ---- entries

-- positions of two elements, of which the first stands above the second
abbrev pub ArePositions : ℕ → ℕ → Type 0
ArePositions p q = (1 ≤ p) × (p < q) × (q ≤ 255)

-- a row that has a text: not the order of two neighbours
abbrev pub HasTagText : Tag → Type 0
HasTagText (Order p) = ⊥
HasTagText tag = ⊤

-- the positions of the tag are those of a text
abbrev pub IsTagText : Tag → Type 0
IsTagText (Lower p q) = ArePositions p q
IsTagText (Zero p q) = ArePositions p q
IsTagText (Cross p q x y) = ArePositions p q × ArePositions x y
IsTagText (Order p) = ⊥

-- the kind of a row and its positions
abbrev pub tag_words : Tag → List (List ℕ)
tag_words (Lower p q) = LOWER.now ∷ decimal p ∷ decimal q ∷ []
tag_words (Zero p q) = ZERO.now ∷ decimal p ∷ decimal q ∷ []
tag_words (Cross p q x y) = CROSS.now ∷ decimal p ∷ decimal q ∷ decimal x ∷ decimal y ∷ []
tag_words (Order p) = []

-- and its multiplier
abbrev pub entry_words : Tag × ℤ → List (List ℕ)
entry_words entry = tag_words entry.0 ++ signed_decimal entry.1 ∷ []

-- an entry that a text may hold
abbrev pub IsEntryText : Tag × ℤ → Type 0
IsEntryText entry = IsTagText entry.0 × IsInRange entry.1

-- entries, a line for each
abbrev pub entries_text : List (Tag × ℤ) → List ℕ
entries_text on = flat_map (λ entry. line_of (entry_words entry)) on

-- ---- the first line

-- a fraction in lowest terms, with numbers in range
abbrev pub IsValue : Fraction → Type 0
IsValue value = IsReduced value × IsInRange value.num × IsInRange value.den

-- what a text may claim, with its denominator, which for `nothing` is 1
abbrev pub IsClaim : Claim → ℤ → Type 0
IsClaim (Least value) den = IsValue value × IsInRange den
IsClaim Nothing den = den ≡ pos 1

-- the claim and the denominator
abbrev pub claim_words : Claim → ℤ → List (List ℕ)
claim_words (Least value) den = LEAST.now ∷ frac_text value ∷ DEN.now ∷ signed_decimal den ∷ []
claim_words Nothing den = NOTHING.now ∷ []

-- and the number of entries
abbrev pub head_words : Head → List (List ℕ)
head_words head = claim_words head.claim head.den ++ ROWS.now ∷ decimal head.count ∷ []

-- a first line that a text may have
pub record IsHead (head : Head) : Type 0 where
  pub claim : IsClaim head.claim head.den
  pub count_fits : head.count < 2 ^ 127

-- ---- the whole

-- the first line of a certificate
abbrev pub head_of : CertText → Head
head_of cert = record { claim = cert.claim; den = cert.den; count = length cert.on }

-- the first line and the entries
abbrev pub cert_text : CertText → List ℕ
cert_text cert = line_of (head_words (head_of cert)) ++ entries_text cert.on

-- no row is the order of two neighbours, and nothing over 1
pub record IsPrintable (cert : CertText) : Type 0 where
  pub den_one : cert.claim ≡ Nothing → cert.den ≡ pos 1
  pub tags : All (λ (entry : Tag × ℤ). HasTagText entry.0) cert.on

-- besides, positions and numbers are those that a text may hold
pub record IsReadable (cert : CertText) : Type 0 where
  pub claim : IsClaim cert.claim cert.den
  pub entries : All IsEntryText cert.on

-- the bytes are the text of the certificate
pub record IsTextOf (bytes : List ℕ) (cert : CertText) : Type 0 where
  pub head : IsHead (head_of cert)
  pub entries : All IsEntryText cert.on
  pub text : bytes ≡ cert_text cert

-- ---- the first line that doesn't fit

-- the bytes begin with no line of these words
abbrev pub BeginWithNo : {A : Type 0} → (A → Type 0) → (A → List (List ℕ)) → List ℕ → Type 0
BeginWithNo {A} Is words_of bytes = (x : A) (rest : List ℕ) → Is x → bytes ≢ line_of (words_of x) ++ rest

-- the bytes begin with a first line and with entries, no more than it says
pub record HasRead (bytes : List ℕ) (head : Head) (on : List (Tag × ℤ)) (rest : List ℕ) : Type 0 where
  pub is_head : IsHead head
  pub are_entries : All IsEntryText on
  pub no_more : length on ≤ head.count
  pub parts : bytes ≡ line_of (head_words head) ++ (entries_text on ++ rest)

-- after the lines before line k there is no entry, where one is missing, or there is something, where there are enough
pub record IsBadEntry (bytes : List ℕ) (k : ℕ) : Type 0 where
  pub head : Head
  pub on : List (Tag × ℤ)
  pub rest : List ℕ
  pub read : HasRead bytes head on rest
  pub number : k ≡ length on + 2
  pub missing : length on < head.count → BeginWithNo IsEntryText entry_words rest
  pub too_many : length on ≡ head.count → rest ≢ []

-- line k is the first that doesn't fit
abbrev pub IsFirstBad : List ℕ → ℕ → Type 0
IsFirstBad bytes k = ((k ≡ 1) × BeginWithNo IsHead head_words bytes) ⊎ IsBadEntry bytes k

-- why bytes are the text of no certificate
abbrev pub IsFault : List ℕ → CertFault → Type 0
IsFault bytes (Bad k) = IsFirstBad bytes k
IsFault bytes NoMemory = ⊤
