-- The lines of a table read back.
use Rattle.std.proofs.Common.{◌≡◌, ℕ, ◌-◌, ◌≤◌, List, [], ◌∷◌, ◌++◌, length, take, map, Bool, true, false, ◌==◌, ◌&&◌, None, refl, sym, ap, ◌∙◌, subst, inl, inr, arith, append_assoc}
use Rattle.std.specs.Prelude.{flat_map}
use Rattle.std.specs.List.{list_any, AllByRecursion}
use Rattle.std.proofs.Math.Seq.{take-append_seam}
use Rattle.std.proofs.lemmas.Bool.{cases_Bool}
use Rattle.std.proofs.lemmas.List.{length-append}
use Rattle.std.proofs.lemmas.List.Concat.{flat_map-cons}
use Rattle.csv.specs.Machine.{next_record}
use Rattle.csv.specs.Reading.{Reached, default_config, is_bom, strip_bom}
use Rattle.csv.specs.Writing.{default_writer, field_text, fields_text, needs_byte, row_text}
use Rattle.csv.specs.declared.parser.State.TheVariants as state
use Rattle.csv.proofs.RoundTrip.{rows_text, read-write-many}
use Rattle.table_csv.specs.Table.{AreRecordsOf}
use Rattle.table_csv.specs.Lines.{ended, IsTable}
use Rattle.table_csv.proofs.TextLemmas.{row_line, row_line-ended}

-- all but the last byte of a record's text is its line
pub line_taken : (fields : List (List ℕ)) (text : List ℕ) (n : ℕ) → text ≡ row_text default_writer fields → n ≡ length text - 1 → take n text ≡ row_line fields
line_taken fields text n e is =
    let whole : text ≡ row_line fields ++ 10 ∷ [] = e ∙ row_line-ended fields in
    let len : n ≡ length (row_line fields) = omega (arith, ap length whole, length-append (row_line fields) (10 ∷ []), is) in
    rw (len, whole) (take-append_seam (row_line fields) (10 ∷ []))

pub same_texts : (lines : List (List ℕ)) (table : List (List (List ℕ))) → map ended lines ≡ map (row_text default_writer) table
    → flat_map ended lines ≡ rows_text table
unfolding rows_text
same_texts [] [] e = refl
same_texts [] (row ∷ table) e = absurd (cc e)
same_texts (line ∷ lines) [] e = absurd (cc e)
same_texts (line ∷ lines) (row ∷ table) e =
    let first : ended line ≡ row_text default_writer row = cc e in
    let others : map ended lines ≡ map (row_text default_writer) table = cc e in
    flat_map-cons ended line lines ∙ rw (first, same_texts lines table others) refl

abbrev HaveFields : List (List (List ℕ)) → Type 0
HaveFields table = AllByRecursion (λ row. 2 ≤ length row) table

reached : (table : List (List (List ℕ))) → HaveFields table → Reached default_config state.StartRecord (rows_text table) table state.StartRecord []
unfolding Reached rows_text
reached [] h = (refl, refl)
reached ([] ∷ table) h = absurd (omega (arith, h.0))
reached ((x ∷ []) ∷ table) h = absurd (omega (arith, h.0))
reached ((x ∷ y ∷ fields) ∷ table) h =
    ((x ∷ y ∷ fields, state.StartRecord, rows_text table), read-write-many x y fields (rows_text table), refl, reached table h.1)

over : next_record default_config state.StartRecord [] [] [] ≡ None
unfolding next_record
over = refl

-- ---- the mark at the start

strip_first : (a : ℕ) (xs : List ℕ) → (a == 239) ≡ false → strip_bom (a ∷ xs) ≡ a ∷ xs
unfolding strip_bom
strip_first a [] e = refl
strip_first a (b ∷ []) e = refl
strip_first a (b ∷ c ∷ xs) e = rw e refl

neither : (p q : Bool) → (p && false && q) ≡ false
neither true q = refl
neither false q = refl

not_third : (p q : Bool) → (p && q && false) ≡ false
not_third true true = refl
not_third true false = refl
not_third false q = refl

longer : (a b c : ℕ) (x : List ℕ) → x ≡ a ∷ b ∷ c ∷ x → ⊥
longer a b c x e = let n = ap length e in absurd (omega (arith, n))

no_mark_at : (a b c : ℕ) (x : List ℕ) → strip_bom (a ∷ b ∷ c ∷ x) ≡ a ∷ b ∷ c ∷ x → is_bom a b c ≡ false
unfolding strip_bom
no_mark_at a b c x h = elim (cases_Bool (is_bom a b c)) [
  | inl is ↦ absurd (longer a b c x (rw is at h))
  | inr other ↦ other
]

strip_plain : (x rest : List ℕ) → strip_bom x ≡ x → strip_bom (x ++ 44 ∷ rest) ≡ x ++ 44 ∷ rest
unfolding strip_bom
strip_plain [] rest h = strip_first 44 rest refl
strip_plain (a ∷ []) [] h = refl
strip_plain (a ∷ []) (c ∷ rest) h = rw (neither (a == 239) (c == 191)) refl
strip_plain (a ∷ b ∷ []) rest h = rw (not_third (a == 239) (b == 187)) refl
strip_plain (a ∷ b ∷ c ∷ x) rest h = rw (no_mark_at a b c x h) refl

stripped : (x rest : List ℕ) → strip_bom x ≡ x → strip_bom (field_text default_writer x ++ 44 ∷ rest) ≡ field_text default_writer x ++ 44 ∷ rest
stripped x rest h = elim (cases_Bool (list_any (needs_byte default_writer) x)) [
  | inl needs ↦ rw needs (strip_first 34 _ refl)
  | inr plain ↦ rw plain (strip_plain x rest h)
]

regrouped : (f u v w : List ℕ) → ((f ++ 44 ∷ u) ++ v) ++ w ≡ f ++ 44 ∷ ((u ++ v) ++ w)
regrouped f u v w = append_assoc (f ++ 44 ∷ u) v w ∙ append_assoc f (44 ∷ u) (v ++ w) ∙ ap (λ t. f ++ 44 ∷ t) (sym (append_assoc u v w))

no_mark : (table : List (List (List ℕ))) → IsTable table → strip_bom (rows_text table) ≡ rows_text table
unfolding rows_text fields_text strip_bom
no_mark [] h = refl
no_mark ([] ∷ table) h = absurd (omega (arith, h.each.0))
no_mark ((x ∷ []) ∷ table) h = absurd (omega (arith, h.each.0))
no_mark ((x ∷ y ∷ fields) ∷ table) h =
    let e = regrouped (field_text default_writer x) (field_text default_writer y ++ fields_text default_writer fields) _ (rows_text table) in
    ap strip_bom e ∙ stripped x _ h.plain ∙ sym e

pub read_again : (lines : List (List ℕ)) (table : List (List (List ℕ))) → map ended lines ≡ map (row_text default_writer) table → IsTable table
    → AreRecordsOf (flat_map ended lines) table
read_again lines table e h =
    let same : strip_bom (flat_map ended lines) ≡ rows_text table = ap strip_bom (same_texts lines table e) ∙ no_mark table h in
    (state.StartRecord, [], subst (λ t. Reached default_config state.StartRecord t table state.StartRecord []) (sym same) (reached table h.each), over)
