-- A text writes at most one pair of numbers.
use Rattle.frac128.specs.Text.{WritesQuotient, WritesUnsigned, Writes}
use Rattle.frac128.proofs.DigitLemmas.{no_other_digit}
use Rattle.std.proofs.Common.{◌≡◌, ◌≢◌, ℕ, ◌+◌, ◌<◌, inl, inr, List, ◌∷◌, length, get_or, take, drop, ap, subst, sym, ◌∙◌, arith, length-append, ℤ, pos, neg_ℤ}
use Rattle.std.proofs.Math.ListN.{get_or-append}
use Rattle.std.proofs.Math.Seq.{get_or-append_seam, take-append_seam, drop-append-add}
use Rattle.std.specs.Str.Parse.{IsNumeral, digits_value}

-- the byte `/` stands after the digits of the top
slash_at : (text : List ℕ) (n d : ℕ) (q : WritesQuotient text n d) → (length q.top < length text) × (get_or text (length q.top) 0 ≡ 47)
slash_at text n d q = (
  omega (arith, ap length q.parts, length-append q.top (47 ∷ q.bottom)),
  ap (λ t. get_or t (length q.top) 0) q.parts ∙ get_or-append_seam q.top 47 q.bottom 0,
)

-- with no `/`, the text is digits
pub digits_without_slash : (text : List ℕ) (n d : ℕ) → ((k : ℕ) → k < length text → get_or text k 0 ≢ 47) → WritesUnsigned text n d → IsNumeral 10 text
    × (n ≡ digits_value 10 text) × (d ≡ 1)
digits_without_slash text n d none (inl h) = h
digits_without_slash text n d none (inr q) = let s = slash_at text n d q in absurd (none (length q.top) s.0 s.1)

-- with a first `/`, it is a quotient of what stands before and behind
pub record QuotientAt (text : List ℕ) (i n d : ℕ) : Type 0 where
  pub top_digits : IsNumeral 10 (take i text)
  pub bottom_digits : IsNumeral 10 (drop (i + 1) text)
  pub num_is : n ≡ digits_value 10 (take i text)
  pub den_is : d ≡ digits_value 10 (drop (i + 1) text)
  pub den_positive : 0 < d

-- the top ends at the first `/`
same_end : (text : List ℕ) (i n d : ℕ) → i < length text → get_or text i 0 ≡ 47 → ((k : ℕ) → k < i → get_or text k 0 ≢ 47) → (q : WritesQuotient text n d)
    → length q.top ≡ i
same_end text i n d inside here before q =
    let s = slash_at text n d q in
    let not_before : ¬ (length q.top < i) = λ l. before (length q.top) l s.1 in
    let not_behind : ¬ (i < length q.top) =
    λ l. no_other_digit q.top i 47 q.top_digits.1 l (omega arith)
    (sym (ap (λ t. get_or t i 0) q.parts ∙ get_or-append q.top (47 ∷ q.bottom) 0 i l) ∙ here) in
    omega arith

pub quotient_at_slash : (text : List ℕ) (i n d : ℕ) → i < length text → get_or text i 0 ≡ 47 → ((k : ℕ) → k < i → get_or text k 0 ≢ 47)
    → WritesUnsigned text n d → QuotientAt text i n d
quotient_at_slash text i n d inside here before (inl h) = absurd (no_other_digit text i 47 h.0.1 inside (omega arith) here)
quotient_at_slash text i n d inside here before (inr q) =
    let end = same_end text i n d inside here before q in
    let front : take i text ≡ q.top = ap (λ k. take k text) (sym end) ∙ ap (take (length q.top)) q.parts ∙ take-append_seam q.top (47 ∷ q.bottom) in
    let back : drop (i + 1) text ≡ q.bottom =
    ap (λ k. drop (k + 1) text) (sym end) ∙ ap (drop (length q.top + 1)) q.parts ∙ drop-append-add q.top (47 ∷ q.bottom) 1 in
    record {
      top_digits = subst (IsNumeral 10) (sym front) q.top_digits;
      bottom_digits = subst (IsNumeral 10) (sym back) q.bottom_digits;
      num_is = q.num_is ∙ ap (digits_value 10) (sym front);
      den_is = q.den_is ∙ ap (digits_value 10) (sym back);
      den_positive = q.den_positive;
    }

-- the two numbers of a text without a sign
pub one_unsigned : (text : List ℕ) (n d m e : ℕ) → WritesUnsigned text n d → WritesUnsigned text m e → (n ≡ m) × (d ≡ e)
one_unsigned text n d m e (inl h) w =
    let k = digits_without_slash text m e (λ i l. no_other_digit text i 47 h.0.1 l (omega arith)) w in
    (h.1 ∙ sym k.1, h.2 ∙ sym k.2)
one_unsigned text n d m e (inr q) w =
    let s = slash_at text n d q in
    let clean : (k : ℕ) → k < length q.top → get_or text k 0 ≢ 47 =
    λ k l at. no_other_digit q.top k 47 q.top_digits.1 l (omega arith)
    (sym (ap (λ t. get_or t k 0) q.parts ∙ get_or-append q.top (47 ∷ q.bottom) 0 k l) ∙ at) in
    let a = quotient_at_slash text (length q.top) n d s.0 s.1 clean (inr q) in
    let b = quotient_at_slash text (length q.top) m e s.0 s.1 clean w in
    (a.num_is ∙ sym b.num_is, a.den_is ∙ sym b.den_is)

-- a text without a sign begins with a digit
pub first_digit : (text : List ℕ) (n d : ℕ) → WritesUnsigned text n d → (0 < length text) × (get_or text 0 0 ≢ 45)
first_digit text n d (inl h) = (h.0.0, no_other_digit text 0 45 h.0.1 h.0.0 (omega arith))
first_digit text n d (inr q) =
    let s = slash_at text n d q in (
      omega (arith, s.0),
      λ e. no_other_digit q.top 0 45 q.top_digits.1 q.top_digits.0 (omega arith)
          (sym (ap (λ t. get_or t 0 0) q.parts ∙ get_or-append q.top (47 ∷ q.bottom) 0 0 q.top_digits.0) ∙ e),
    )

-- the two numbers of a text
pub one_reading : (bytes : List ℕ) (n m : ℤ) (d e : ℕ) → Writes bytes n d → Writes bytes m e → (n ≡ m) × (d ≡ e)
one_reading bytes n m d e (inl a) (inl b) = let k = one_unsigned bytes a.size d b.size e a.unsigned b.unsigned in (a.num_is ∙ ap pos k.0 ∙ sym b.num_is, k.1)
one_reading bytes n m d e (inl a) (inr b) = absurd ((first_digit bytes a.size d a.unsigned).1 (ap (λ t. get_or t 0 0) b.parts))
one_reading bytes n m d e (inr a) (inl b) = absurd ((first_digit bytes b.size e b.unsigned).1 (ap (λ t. get_or t 0 0) a.parts))
one_reading bytes n m d e (inr a) (inr b) =
    let same : a.rest ≡ b.rest = ap (drop 1) (sym a.parts ∙ b.parts) in
    let k = one_unsigned b.rest a.size d b.size e (subst (λ t. WritesUnsigned t a.size d) same a.unsigned) b.unsigned in
    (a.num_is ∙ ap (λ s. neg_ℤ (pos s)) k.0 ∙ sym b.num_is, k.1)
