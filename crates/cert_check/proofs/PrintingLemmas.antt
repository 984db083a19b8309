-- Lines made of words, each with a space behind it, and a last word.
use Rattle.std.proofs.Common.{◌≡◌, ℕ, ◌+◌, ◌<◌, length, get_or, take, ℤ, List, [], ◌∷◌, ◌++◌, refl, sym, ap, ◌∙◌, append_assoc, append-nil}
use Rattle.std.specs.List.{join_with_byte}
use Rattle.std.proofs.lemmas.Grind.{flat_map-append}
use Rattle.cert_check.specs.Printing.{spaced}
use Rattle.std.proofs.lemmas.List.{take_more, flat_map_more}
use Rattle.judgement_matrix.specs.declared.tag.Tag.{Tag}
use Rattle.cert_check.specs.Text.{line_of, entry_words, entries_text}

-- the words of a line but for the last, and the last
pub join-last : (ws : List (List ℕ)) (last : List ℕ) → join_with_byte 32 (ws ++ last ∷ []) ≡ spaced ws ++ last
join-last [] last = refl
join-last (word ∷ []) last = sym (append_assoc word (32 ∷ []) last) ∙ ap (λ l. l ++ last) (sym (append-nil (word ++ 32 ∷ [])))
join-last (word ∷ next ∷ ws) last =
    ap (λ l. word ++ 32 ∷ l) (join-last (next ∷ ws) last)
    ∙ sym (append_assoc word (32 ∷ []) (spaced (next ∷ ws) ++ last))
    ∙ sym (append_assoc (word ++ 32 ∷ []) (spaced (next ∷ ws)) last)

-- a line that ends with a word
pub line-last : (old : List ℕ) (ws : List (List ℕ)) (last : List ℕ) → (old ++ spaced ws) ++ (last ++ 10 ∷ []) ≡ old ++ line_of (ws ++ last ∷ [])
line-last old ws last =
    append_assoc old (spaced ws) (last ++ 10 ∷ [])
    ∙ ap (λ l. old ++ l) (sym (append_assoc (spaced ws) last (10 ∷ [])) ∙ ap (λ l. l ++ 10 ∷ []) (sym (join-last ws last)))

-- one word more before it
pub line-two_last : (old : List ℕ) (ws : List (List ℕ)) (word last : List ℕ)
    → ((old ++ spaced ws) ++ (word ++ 32 ∷ [])) ++ (last ++ 10 ∷ []) ≡ old ++ line_of (ws ++ word ∷ last ∷ [])
line-two_last old ws word last =
    ap (λ l. l ++ (last ++ 10 ∷ [])) (append_assoc old (spaced ws) (word ++ 32 ∷ []) ∙ ap (λ l. old ++ (spaced ws ++ l)) (sym (append-nil (word ++ 32 ∷ [])))
    ∙ ap (λ l. old ++ l) (sym (flat_map-append (λ word. word ++ 32 ∷ []) ws (word ∷ []))))
    ∙ line-last old (ws ++ word ∷ []) last
    ∙ ap (λ l. old ++ line_of l) (append_assoc ws (word ∷ []) (last ∷ []))

-- the entries, with the line of one more
pub entries-next : (old now next : List ℕ) (on : List (Tag × ℤ)) (i : ℕ) (d : Tag × ℤ) → i < length on → now ≡ old ++ entries_text (take i on)
    → next ≡ now ++ line_of (entry_words (get_or on i d))
    → next ≡ old ++ entries_text (take (i + 1) on)
entries-next old now next on i d below so_far added =
    added ∙ ap (λ l. l ++ line_of (entry_words (get_or on i d))) so_far
    ∙ flat_map_more (λ (entry : Tag × ℤ). line_of (entry_words entry)) old (take i on) (get_or on i d)
    ∙ ap (λ l. old ++ entries_text l) (sym (take_more on i d below))
