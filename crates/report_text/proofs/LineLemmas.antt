-- Lines under a heading.
use Rattle.std.proofs.Common.{◌≡◌, ℕ, List, [], ◌∷◌, ◌++◌, length, refl, sym, ap, ◌∙◌, append_assoc}
use Rattle.std.specs.Prelude.{codes}
use Rattle.std.specs.Fmt.{decimal}
use Rattle.report_text.specs.Lines.{lines_text, counted}

-- a heading with a number, and then so many lines
pub under_heading : (old middle heading : List ℕ) (count : ℕ) (lines : List (List ℕ)) → length lines ≡ count
    → middle ≡ old ++ ((heading ++ codes " " ++ decimal count) ++ 10 ∷ []) → middle ++ lines_text lines ≡ old ++ lines_text (counted heading lines)
under_heading old middle heading count lines each is =
    ap (λ b. b ++ lines_text lines) (is ∙ ap (λ n. old ++ ((heading ++ codes " " ++ decimal n) ++ 10 ∷ [])) (sym each))
    ∙ append_assoc old ((heading ++ codes " " ++ decimal (length lines)) ++ 10 ∷ []) (lines_text lines)

-- a heading and a number behind it
pub numbered : (old middle new heading : List ℕ) (count : ℕ) → middle ≡ old ++ heading → new ≡ middle ++ ((codes " " ++ decimal count) ++ 10 ∷ [])
    → new ≡ old ++ ((heading ++ codes " " ++ decimal count) ++ 10 ∷ [])
numbered old middle new heading count first second =
    second ∙ ap (λ b. b ++ ((codes " " ++ decimal count) ++ 10 ∷ [])) first ∙ append_assoc old heading ((codes " " ++ decimal count) ++ 10 ∷ [])
    ∙ ap (λ b. old ++ b) (sym (append_assoc (heading ++ codes " ") (decimal count) (10 ∷ []) ∙ append_assoc heading (codes " ") (decimal count ++ 10 ∷ [])))

-- what stands before a heading
before : (subject heading space number newline rest : List ℕ)
    → subject ++ ((((heading ++ space) ++ number) ++ newline) ++ rest) ≡ ((((subject ++ heading) ++ space) ++ number) ++ newline) ++ rest
before subject heading space number newline rest = simp append_assoc refl

-- a heading behind a text
pub behind : (old middle subject heading : List ℕ) (lines : List (List ℕ)) → middle ≡ old ++ subject
    → middle ++ lines_text (counted heading lines) ≡ old ++ lines_text (counted (subject ++ heading) lines)
behind old middle subject heading lines is =
    ap (λ b. b ++ lines_text (counted heading lines)) is ∙ append_assoc old subject (lines_text (counted heading lines))
    ∙ ap (λ b. old ++ b) (before subject heading (codes " ") (decimal (length lines)) (10 ∷ []) (lines_text lines))
