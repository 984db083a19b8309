-- Fields and lines are texts: UTF-8 without a newline.
use Rattle.std.proofs.Common.{◌≡◌, ℕ, zero, suc, ◌+◌, ◌<◌, ◌≤◌, ◌/◌, ◌%◌, ◌^◌, ◌-◌, ◌==◌, ◌&&◌, not, Bool, true, false, nat_lt, List, [], ◌∷◌, ◌++◌, length, get_or, replicate, ℤ, pos, negsuc, int_lt, unsigned_abs, IsUtf8, inl, inr, refl, sym, ap, subst, ◌∙◌, arith, append_assoc, append-nil}
use Rattle.std.specs.Prelude.{if◌then◌else◌, codes}
use Rattle.std.specs.List.{list_all}
use Rattle.std.specs.Str.{is_utf8}
use Rattle.std.specs.Fmt.{decimal, signed_decimal, digits, digits_onto, digit_glyph}
use Rattle.std.proofs.lemmas.Bool.{and_parts, and_from, cases_lt, cases_eq}
use Rattle.std.proofs.lemmas.Bool.Decides.{nat_tests}
use Rattle.std.proofs.lemmas.List.Folds.{list_all-append}
use Rattle.std.proofs.lemmas.Str.{IsUtf8-append, IsUtf8-nil, IsUtf8-encode, encode_ascii, IsUtf8-from_is_utf8, is_utf8-from_IsUtf8, inside_one}
use lib.Utf8.{scalar, scalars, encode, encodes, low_scalar}
use Rattle.csv.specs.Writing.{default_writer, escaped, quoted, field_text, fields_text, row_body, row_text, is_blank, needs_quotes}
use Rattle.csv.proofs.WriteFacts.{escaped-append}
use Rattle.integers.specs.Fraction.{Fraction}
use Rattle.frac128.specs.Text.{frac_text}
use Rattle.frac128.specs.Decimal.{decimal_text, rounded_size}
use Rattle.judgement_matrix.specs.Range.{Bounds, IsRange, bounds}
use Rattle.model_core.specs.Names.{is_name, is_name_byte, is_text}
use Rattle.model_core.specs.Categories.{range_text}
use Rattle.table_csv.specs.Lines.{is_line}
use Rattle.model_core.proofs.CategoryLemmas.{below_seven}

abbrev IsText : List ℕ → Type 0
IsText bytes = is_text bytes ≡ true

pub text_from : (bytes : List ℕ) → IsUtf8 bytes → is_line bytes ≡ true → IsText bytes
text_from bytes u h = and_from (is_utf8 bytes) (is_line bytes) (is_utf8-from_IsUtf8 bytes u) h

utf8_of : (bytes : List ℕ) → IsText bytes → IsUtf8 bytes
utf8_of bytes h = IsUtf8-from_is_utf8 bytes (and_parts (is_utf8 bytes) (is_line bytes) h).0

line_of : (bytes : List ℕ) → IsText bytes → is_line bytes ≡ true
line_of bytes h = (and_parts (is_utf8 bytes) (is_line bytes) h).1

line-append : (a b : List ℕ) → is_line a ≡ true → is_line b ≡ true → is_line (a ++ b) ≡ true
line-append a b h k = list_all-append (λ byte. not (byte == 10)) a b ∙ and_from (is_line a) (is_line b) h k

-- texts one behind the other
text-append : (a b : List ℕ) → IsText a → IsText b → IsText (a ++ b)
text-append a b h k =
    text_from (a ++ b) (IsUtf8-append a b (utf8_of a h) (utf8_of b k)) (line-append a b (line_of a h) (line_of b k))

-- an ASCII byte
text-ascii : (x : ℕ) → x < 128 → not (x == 10) ≡ true → IsText (x ∷ [])
text-ascii x small h =
    text_from (x ∷ []) (subst IsUtf8 (encode_ascii x small) (IsUtf8-encode x (low_scalar x (omega arith)))) (and_from (not (x == 10)) true h refl)

text-nil : IsText []
text-nil = text_from [] IsUtf8-nil refl

text-cond : (b : Bool) (x y : List ℕ) → IsText x → IsText y → IsText (if b then x else y)
text-cond true x y h k = h
text-cond false x y h k = k

-- ---- a name

name_byte : (byte : ℕ) → is_name_byte byte ≡ true → not (byte == 10) ≡ true
name_byte byte h = grind (arith, nat_tests)

name_bytes : (bytes : List ℕ) → list_all is_name_byte bytes ≡ true → is_line bytes ≡ true
name_bytes [] h = refl
name_bytes (byte ∷ bytes) h =
    let parts = and_parts (is_name_byte byte) (list_all is_name_byte bytes) h in
    and_from (not (byte == 10)) (is_line bytes) (name_byte byte parts.0) (name_bytes bytes parts.1)

pub name_is_text : (name : List ℕ) → is_name name ≡ true → is_text name ≡ true
name_is_text name h =
    let parts = and_parts _ _ h in
    and_from (is_utf8 name) (is_line name) parts.0 (name_bytes name (and_parts _ _ parts.1).1)

-- ---- a range

range_lines : (lo hi : ℕ) → lo ≤ 6 → hi ≤ 6 → is_line (range_text (bounds lo hi)) ≡ true
range_lines lo hi low high = below_seven (λ l. is_line (range_text (bounds l hi)) ≡ true)
    (below_seven (λ h. is_line (range_text (bounds 0 h)) ≡ true) refl refl refl refl refl refl refl hi high)
    (below_seven (λ h. is_line (range_text (bounds 1 h)) ≡ true) refl refl refl refl refl refl refl hi high)
    (below_seven (λ h. is_line (range_text (bounds 2 h)) ≡ true) refl refl refl refl refl refl refl hi high)
    (below_seven (λ h. is_line (range_text (bounds 3 h)) ≡ true) refl refl refl refl refl refl refl hi high)
    (below_seven (λ h. is_line (range_text (bounds 4 h)) ≡ true) refl refl refl refl refl refl refl hi high)
    (below_seven (λ h. is_line (range_text (bounds 5 h)) ≡ true) refl refl refl refl refl refl refl hi high)
    (below_seven (λ h. is_line (range_text (bounds 6 h)) ≡ true) refl refl refl refl refl refl refl hi high)
    lo low

pub range_line : (range : Bounds) → IsRange range → is_line (range_text range) ≡ true
range_line range is = let low : range.lo ≤ range.hi = is.0 in range_lines range.lo range.hi (omega (arith, is.1)) is.1

-- ---- numbers

line-cond : (b : Bool) (x y : List ℕ) → is_line x ≡ true → is_line y ≡ true → is_line (if b then x else y) ≡ true
line-cond true x y h k = h
line-cond false x y h k = k

glyph_is : (b : Bool) (d : ℕ) → not ((if b then 48 + d else 87 + d) == 10) ≡ true
glyph_is true d = grind (arith, nat_tests)
glyph_is false d = grind (arith, nat_tests)

onto_line : (k n : ℕ) (acc : List ℕ) → is_line acc ≡ true → is_line (digits_onto k 10 false n acc) ≡ true
onto_line zero n acc h = h
onto_line (suc k) n acc h =
    let more : is_line (digit_glyph false (n % 10) ∷ acc) ≡ true =
    and_from (not (digit_glyph false (n % 10) == 10)) (is_line acc) (glyph_is (nat_lt (n % 10) 10) (n % 10)) h in
    line-cond (n / 10 == 0) (digit_glyph false (n % 10) ∷ acc) (digits_onto k 10 false (n / 10) (digit_glyph false (n % 10) ∷ acc))
    more (onto_line k (n / 10) (digit_glyph false (n % 10) ∷ acc) more)

decimal_line : (n : ℕ) → is_line (decimal n) ≡ true
unfolding digits
decimal_line n = onto_line 64 n [] refl

signed_line : (z : ℤ) → is_line (signed_decimal z) ≡ true
signed_line (pos n) = decimal_line n
signed_line (negsuc n) = decimal_line (suc n)

zeros_line : (k : ℕ) → is_line (replicate k 48) ≡ true
zeros_line zero = refl
zeros_line (suc k) = zeros_line k

pub fraction_line : (f : Fraction) → is_line (frac_text f) ≡ true
fraction_line f =
    line-append (signed_decimal f.num) (if unsigned_abs f.den == 1 then [] else codes "/" ++ decimal (unsigned_abs f.den)) (signed_line f.num)
    (line-cond (unsigned_abs f.den == 1) [] (codes "/" ++ decimal (unsigned_abs f.den)) refl (decimal_line (unsigned_abs f.den)))

pub rounded_line : (f : Fraction) (places : ℕ) → is_line (decimal_text f places) ≡ true
rounded_line f places =
    let size = rounded_size f places in
    let part = size % 10 ^ places in
    let minus = int_lt f.num (pos 0) && nat_lt 0 size in
    let zeros = replicate (places - length (decimal part)) 48 in
    line-append (if minus then codes "-" else []) (decimal (size / 10 ^ places) ++ (codes "." ++ (zeros ++ decimal part)))
    (line-cond minus (codes "-") [] refl refl)
    (line-append (decimal (size / 10 ^ places)) (codes "." ++ (zeros ++ decimal part)) (decimal_line (size / 10 ^ places))
    (line-append zeros (decimal part) (zeros_line (places - length (decimal part))) (decimal_line part)))

-- ---- the writer's line

escaped_none : escaped default_writer [] ≡ []
unfolding escaped
escaped_none = refl

escaped_quote : escaped default_writer (34 ∷ []) ≡ 34 ∷ 34 ∷ []
unfolding escaped
escaped_quote = refl

escaped_one : (b : ℕ) (rest : List ℕ) → (b == 34) ≡ false → escaped default_writer (b ∷ rest) ≡ b ∷ escaped default_writer rest
unfolding escaped
escaped_one b rest e = rw e refl

-- bytes above ASCII are written as they are
escaped_high : (xs : List ℕ) → ((k : ℕ) → k < length xs → 128 ≤ get_or xs k 0) → escaped default_writer xs ≡ xs
escaped_high [] h = escaped_none
escaped_high (b ∷ xs) h =
    let above : 128 ≤ b = h 0 (omega arith) in
    let plain : (b == 34) ≡ false = grind (arith, nat_tests) in
    escaped_one b xs plain ∙ ap (λ l. b ∷ l) (escaped_high xs (λ k below. h (suc k) (omega arith)))

two_quotes : IsUtf8 (34 ∷ 34 ∷ [])
two_quotes = utf8_of (34 ∷ 34 ∷ []) (text-append (34 ∷ []) (34 ∷ []) (text-ascii 34 (omega arith) refl) (text-ascii 34 (omega arith) refl))

-- a character between quotes
escaped_char : (c : ℕ) → scalar c ≡ true → IsUtf8 (escaped default_writer (encode c))
escaped_char c ok = elim (cases_lt c 128) [
  | inl small ↦ elim (cases_eq c 34) [
    | inl same ↦ subst IsUtf8 (sym (ap (escaped default_writer) (encode_ascii c small ∙ ap (λ b. b ∷ []) same) ∙ escaped_quote)) two_quotes
    | inr other ↦
        let plain : (c == 34) ≡ false = grind (arith, nat_tests) in
        let as_is : escaped default_writer (encode c) ≡ encode c =
        ap (escaped default_writer) (encode_ascii c small) ∙ escaped_one c [] plain ∙ ap (λ l. c ∷ l) escaped_none ∙ sym (encode_ascii c small) in
        subst IsUtf8 (sym as_is) (IsUtf8-encode c ok)
  ]
  | inr big ↦
      let above : (k : ℕ) → k < length (encode c) → 128 ≤ get_or (encode c) k 0 = λ k below. elim (cases_lt (get_or (encode c) k 0) 128) [
        | inl low ↦ absurd (omega (arith, inside_one c [] (encode c) k (sym (append-nil _)) below low))
        | inr h ↦ h
      ] in
      subst IsUtf8 (sym (escaped_high (encode c) above)) (IsUtf8-encode c ok)
]

escaped_chars : (cs : List ℕ) → scalars cs ≡ true → IsUtf8 (escaped default_writer (encodes cs))
escaped_chars [] h = subst IsUtf8 (sym escaped_none) IsUtf8-nil
escaped_chars (c ∷ cs) h =
    let parts = and_parts (scalar c) (scalars cs) h in
    subst IsUtf8 (sym (escaped-append default_writer (encode c) (encodes cs)))
    (IsUtf8-append _ _ (escaped_char c parts.0) (escaped_chars cs parts.1))

escaped_line : (bytes : List ℕ) → is_line bytes ≡ true → is_line (escaped default_writer bytes) ≡ true
escaped_line [] h = ap is_line escaped_none
escaped_line (b ∷ bytes) h =
    let parts = and_parts (not (b == 10)) (is_line bytes) h in
    elim (cases_eq b 34) [
      | inl same ↦
          let doubled : escaped default_writer (34 ∷ bytes) ≡ 34 ∷ 34 ∷ escaped default_writer bytes =
          escaped-append default_writer (34 ∷ []) bytes ∙ ap (λ l. l ++ escaped default_writer bytes) escaped_quote in
          rw same (ap is_line doubled ∙ escaped_line bytes parts.1)
      | inr other ↦
          let plain : (b == 34) ≡ false = grind (arith, nat_tests) in
          ap is_line (escaped_one b bytes plain) ∙ and_from (not (b == 10)) (is_line (escaped default_writer bytes)) parts.0 (escaped_line bytes parts.1)
    ]

escaped_text : (field : List ℕ) → IsText field → IsText (escaped default_writer field)
escaped_text field h =
    let u = utf8_of field h in
    text_from (escaped default_writer field) (subst (λ l. IsUtf8 (escaped default_writer l)) u.1.1 (escaped_chars u.0 u.1.0))
    (escaped_line field (line_of field h))

quote_text : IsText (34 ∷ [])
quote_text = text-ascii 34 (omega arith) refl

-- a field
field_is : (field : List ℕ) → IsText field → IsText (field_text default_writer field)
field_is field h =
    text-cond (needs_quotes default_writer field) (quoted default_writer field) field
    (text-append (34 ∷ []) (escaped default_writer field ++ (34 ∷ [])) quote_text
    (text-append (escaped default_writer field) (34 ∷ []) (escaped_text field h) quote_text)) h

abbrev AreTexts : List (List ℕ) → Type 0
AreTexts fields = list_all is_text fields ≡ true

fields_are : (fields : List (List ℕ)) → AreTexts fields → IsText (fields_text default_writer fields)
unfolding fields_text
fields_are [] h = text-nil
fields_are (field ∷ fields) h =
    let parts = and_parts (is_text field) (list_all is_text fields) h in
    text-append (44 ∷ []) (field_text default_writer field ++ fields_text default_writer fields) (text-ascii 44 (omega arith) refl)
    (text-append (field_text default_writer field) (fields_text default_writer fields) (field_is field parts.0) (fields_are fields parts.1))

body_is : (fields : List (List ℕ)) → AreTexts fields → IsText (row_body default_writer fields)
body_is [] h = text-nil
body_is (field ∷ fields) h =
    let parts = and_parts (is_text field) (list_all is_text fields) h in
    text-append (field_text default_writer field) (fields_text default_writer fields) (field_is field parts.0) (fields_are fields parts.1)

-- a record's text without its newline
pub row_line : List (List ℕ) → List ℕ
row_line fields = row_body default_writer fields ++ (if is_blank default_writer fields then 34 ∷ 34 ∷ [] else [])

pub row_line-ended : (fields : List (List ℕ)) → row_text default_writer fields ≡ row_line fields ++ 10 ∷ []
unfolding row_line
row_line-ended fields = sym (append_assoc (row_body default_writer fields) _ (10 ∷ []))

pub row_is_text : (fields : List (List ℕ)) → AreTexts fields → IsText (row_line fields)
unfolding row_line
row_is_text fields h =
    text-append (row_body default_writer fields) _ (body_is fields h)
    (text-cond (is_blank default_writer fields) (34 ∷ 34 ∷ []) [] (text-append (34 ∷ []) (34 ∷ []) quote_text quote_text) text-nil)
