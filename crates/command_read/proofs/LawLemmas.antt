-- What readings amount to.
use Rattle.std.proofs.Common.{◌≡◌, ℕ, ◌≤◌, Bool, true, false, ◌&&◌, ◌||◌, List, [], ◌∷◌, Option, Some, None, Result, Ok, Err, inl, inr, ◌↔◌, refl, sym, ap, ◌∙◌, arith, cond}
use Rattle.std.specs.Prelude.{◌⊎◌, codes, MatchOption}
use Rattle.std.specs.Option.{option_map_or}
use Rattle.std.specs.Str.{bytes_eq, is_utf8}
use Rattle.std.proofs.lemmas.Slice.Eq.{bytes_eq-Decides}
use Rattle.command_read.proofs.NumberLemmas.{both}
use Rattle.command_read.proofs.WordLemmas.{words_from_first}
use Rattle.command_read.specs.Words.{first_word, words}
use Rattle.command_read.specs.Refusals.{number_of}
use Rattle.command_read.specs.Reading.{is_comment, command_of, command_in, parsed_as, is_block_word, IsBlockWord, has_block_word, takes_block}
use Rattle.command_read.specs.declared.block.Held.{Held}
use Rattle.command_read.specs.declared.refusal.Refusal.{Refusal}
use Rattle.command_read.specs.declared.refusal.Refusal.TheVariants.{NotUtf8, UnknownCommand, WrongCount, BadName, BadNumber, BadCategory}
use Rattle.command_read.specs.declared.command.Command.{Command}
use Rattle.command_read.specs.declared.command.Parsed.{Parsed}
use Rattle.command_read.specs.declared.command.Parsed.TheVariants.{Nothing, Do, Refused}

pub not_true : (b : Bool) → (b ≡ true → ⊥) → b ≡ false
not_true true h = absurd (h refl)
not_true false h = refl

-- ---- lines with blocks

either : (a b : Bool) → (a || b) ≡ true → (a ≡ true) ⊎ (b ≡ true)
either true b h = inl refl
either false b h = inr h

block_word_to : (word : List ℕ) → is_block_word word ≡ true → IsBlockWord word
block_word_to word h =
    elim (either (bytes_eq word (codes "load")) (bytes_eq word (codes "import") || bytes_eq word (codes "verify")) h) [
      | inl a ↦ inl ((bytes_eq-Decides word (codes "load")).0 a)
      | inr b ↦ inr (elim (either (bytes_eq word (codes "import")) (bytes_eq word (codes "verify")) b) [
        | inl c ↦ inl ((bytes_eq-Decides word (codes "import")).0 c)
        | inr d ↦ inr ((bytes_eq-Decides word (codes "verify")).0 d)
      ])
    ]

block_word_from : (word : List ℕ) → IsBlockWord word → is_block_word word ≡ true
block_word_from word (inl a) = rw a refl
block_word_from word (inr (inl b)) = rw b refl
block_word_from word (inr (inr c)) = rw c refl

block_first : (o : Option (List ℕ × List ℕ)) → (option_map_or (λ word. is_block_word word.0) o false ≡ true) ↔ MatchOption o ⊥ (λ word. IsBlockWord word.0)
block_first None = (λ e. cc, λ e. absurd e)
block_first (Some word) = (block_word_to word.0, block_word_from word.0)

and_true : (a b : Bool) → a ≡ true → b ≡ true → (a && b) ≡ true
and_true true true h k = refl
and_true true false h k = k
and_true false b h k = h

pub blocks_are : (line : List ℕ) → (takes_block line ≡ true) ↔ ((is_utf8 line ≡ true) × MatchOption (first_word line) ⊥ (λ word. IsBlockWord word.0))
blocks_are line = (
  λ h. let p = both (is_utf8 line) (has_block_word line) h in (p.0, (block_first (first_word line)).0 p.1),
  λ h. and_true (is_utf8 line) (has_block_word line) h.0 ((block_first (first_word line)).1 h.1),
)

-- ---- nothing, and refusals

parsed_something : (r : Result Command Refusal) → parsed_as r ≡ Nothing → ⊥
parsed_something (Ok command) h = cc
parsed_something (Err refusal) h = cc

words_none : (line : List ℕ) → first_word line ≡ None → words line ≡ []
words_none line e = words_from_first line ∙ rw e refl

words_some : (line : List ℕ) (word : List ℕ × List ℕ) → first_word line ≡ Some word → words line ≡ [] → ⊥
words_some line word e h = let k : words line ≡ word.0 ∷ words word.1 = words_from_first line ∙ rw e refl in cc

-- what a line that is no comment asks for, by its first word
abbrev parsed_at : List ℕ → Held → Option (List ℕ × List ℕ) → Parsed
parsed_at line held o = option_map_or (λ word. parsed_as (command_in line word.0 word.1 held)) o Nothing

pub nothing_is : (line : List ℕ) (held : Held) → (command_of line held ≡ Nothing) ↔ ((is_comment line ≡ true) ⊎ (words line ≡ []))
nothing_is line held = (to (is_comment line) refl (first_word line) refl, from)
  where
    to : (b : Bool) → is_comment line ≡ b → (o : Option (List ℕ × List ℕ)) → first_word line ≡ o
        → cond b Nothing (parsed_at line held o) ≡ Nothing → (is_comment line ≡ true) ⊎ (words line ≡ [])
    to true e o k h = inl e
    to false e None k h = inr (words_none line k)
    to false e (Some word) k h = absurd (parsed_something (command_in line word.0 word.1 held) h)

    wordless : (o : Option (List ℕ × List ℕ)) → first_word line ≡ o → words line ≡ [] → parsed_at line held o ≡ Nothing
    wordless None e h = refl
    wordless (Some word) e h = absurd (words_some line word e h)

    either_way : (b : Bool) (p : Parsed) → p ≡ Nothing → cond b Nothing p ≡ Nothing
    either_way true p h = refl
    either_way false p h = h

    from : (is_comment line ≡ true) ⊎ (words line ≡ []) → command_of line held ≡ Nothing
    from (inl e) = rw e refl
    from (inr e) = either_way (is_comment line) _ (wordless (first_word line) refl e)

number_within : (refusal : Refusal) → (2 ≤ number_of refusal) × (number_of refusal ≤ 7)
number_within NotUtf8 = (omega arith, omega arith)
number_within UnknownCommand = (omega arith, omega arith)
number_within WrongCount = (omega arith, omega arith)
number_within BadName = (omega arith, omega arith)
number_within BadNumber = (omega arith, omega arith)
number_within BadCategory = (omega arith, omega arith)

parsed_number : (r : Result Command Refusal) (number : ℕ) → parsed_as r ≡ Refused number → (2 ≤ number) × (number ≤ 7)
parsed_number (Ok command) number h = absurd (cc)
parsed_number (Err refusal) number h = let e : number_of refusal ≡ number = cc in rw (sym e) (number_within refusal)

pub refused_between : (line : List ℕ) (held : Held) (number : ℕ) → command_of line held ≡ Refused number → (2 ≤ number) × (number ≤ 7)
refused_between line held number h = by_cases (is_comment line) (first_word line) h
  where
    by_cases : (b : Bool) (o : Option (List ℕ × List ℕ)) → cond b Nothing (parsed_at line held o) ≡ Refused number → (2 ≤ number) × (number ≤ 7)
    by_cases true o k = absurd (cc)
    by_cases false None k = absurd (cc)
    by_cases false (Some word) k = parsed_number (command_in line word.0 word.1 held) number k
