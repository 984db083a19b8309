-- The fields of records, and that a text has one list of records.
use Rattle.std.proofs.Common.{◌≡◌, ℕ, zero, suc, ◌+◌, ◌<◌, List, [], ◌∷◌, length, drop, get_or, map, Option, Some, None, option_map, Bor, refl, sym, ap, subst, ◌∙◌, arith}
use Rattle.std.specs.Prelude.{IsSome}
use Rattle.std.proofs.lemmas.List.{get_or-map}
use native.Mathlib.Numerals.{unary_clauses}
use Rattle.csv.specs.Machine.{Read, next_record}
use Rattle.csv.specs.Records.{Row, field_at, fields_of}
use Rattle.csv.specs.Reading.{Reached, default_config, strip_bom}
use Rattle.csv.specs.declared.parser.Config.{Config}
use Rattle.csv.specs.declared.parser.State.{State}
use Rattle.csv.specs.declared.parser.State.TheVariants as state
use Rattle.table_csv.specs.Table.{AreRecordsOf, field_of}

-- ---- the field at a place

pub is_there : (fields : List (List ℕ)) (k : ℕ) (found : Option (Bor (List ℕ))) → k < length fields
    → option_map (λ s. s.now) found ≡ field_at fields k → IsSome found
unfolding field_at
is_there [] k found lt e = absurd (omega arith)
is_there (f ∷ fs) zero (Some s) lt e = refl
is_there (f ∷ fs) zero None lt e = absurd (cc e)
is_there (f ∷ fs) (suc k) found lt e = is_there fs k found (omega arith) e

pub field_here : (fields : List (List ℕ)) (k : ℕ) (f : List ℕ) → field_at fields k ≡ Some f → drop k fields ≡ f ∷ drop (k + 1) fields
unfolding field_at
field_here [] k f e = absurd (cc e)
field_here (g ∷ gs) zero f e = ap (λ x. x ∷ gs) (cc e)
field_here (g ∷ gs) (suc k) f e = simp unary_clauses (simp unary_clauses at (field_here gs k f e))

field_is : (fields : List (List ℕ)) (k : ℕ) (f : List ℕ) → field_at fields k ≡ Some f → get_or fields k [] ≡ f
unfolding field_at
field_is [] k f e = absurd (cc e)
field_is (g ∷ gs) zero f e = cc e
field_is (g ∷ gs) (suc k) f e = field_is gs k f e

no_field : (fields : List (List ℕ)) (k : ℕ) → field_at fields k ≡ None → get_or fields k [] ≡ []
unfolding field_at
no_field [] k e = refl
no_field (g ∷ gs) zero e = absurd (cc e)
no_field (g ∷ gs) (suc k) e = no_field gs k e

pub record_here : (records : List Row) (k : ℕ) (r : Row) → k < length records → r ≡ get_or records k r
    → drop k (map fields_of records) ≡ fields_of r ∷ drop (k + 1) (map fields_of records)
record_here [] k r lt e = absurd (omega arith)
record_here (x ∷ xs) zero r lt e = ap (λ y. fields_of y ∷ map fields_of xs) (sym e)
record_here (x ∷ xs) (suc k) r lt e = simp unary_clauses (simp unary_clauses at (record_here xs k r (omega arith) e))

-- the field of a row and a column
row_is : (records : List Row) (row : ℕ) (r : Row) → row < length records → r ≡ get_or records row r → get_or (map fields_of records) row [] ≡ fields_of r
row_is records row r within is = get_or-map fields_of records row r [] within ∙ ap fields_of (sym is)

pub field_found : (records : List Row) (row column : ℕ) (r : Row) (f : List ℕ) → row < length records → r ≡ get_or records row r
    → field_at (fields_of r) column ≡ Some f → f ≡ field_of (map fields_of records) row column
field_found records row column r f within is found =
    sym (ap (λ fields. get_or fields column []) (row_is records row r within is) ∙ field_is (fields_of r) column f found)

pub field_wanting : (records : List Row) (row column : ℕ) (r : Row) → row < length records → r ≡ get_or records row r → field_at (fields_of r) column ≡ None
    → [] ≡ field_of (map fields_of records) row column
field_wanting records row column r within is none =
    sym (ap (λ fields. get_or fields column []) (row_is records row r within is) ∙ no_field (fields_of r) column none)

-- ---- a text has one list of records

reached_one : (cfg : Config) (s a b : State) (xs ys zs : List ℕ) (us vs : List (List (List ℕ))) → Reached cfg s xs us a ys → next_record cfg a [] [] ys ≡ None
    → Reached cfg s xs vs b zs → next_record cfg b [] [] zs ≡ None → us ≡ vs
unfolding Reached
reached_one cfg s a b xs ys zs [] [] p none q over = refl
reached_one cfg s a b xs ys zs [] (v ∷ vs) p none q over =
    let here : next_record cfg s [] [] xs ≡ None = rw (p.0, p.1) none in
    absurd (cc (here, q.1))
reached_one cfg s a b xs ys zs (u ∷ us) [] p none q over =
    let here : next_record cfg s [] [] xs ≡ None = rw (q.0, q.1) over in
    absurd (cc (here, p.1))
reached_one cfg s a b xs ys zs (u ∷ us) (v ∷ vs) p none q over =
    let same : q.0 ≡ p.0 = cc (p.1, q.1) in
    let later = subst (λ (r : Read). Reached cfg r.1 r.2 vs b zs) same q.3 in
    let first : u ≡ v = p.2 ∙ ap (λ (r : Read). r.0) (sym same) ∙ sym q.2 in
    rw (first, reached_one cfg p.0.1 a b p.0.2 ys zs us vs p.3 none later over) refl

pub one_reading : (text : List ℕ) (us vs : List (List (List ℕ))) → AreRecordsOf text us → AreRecordsOf text vs → us ≡ vs
one_reading text us vs p q = reached_one default_config state.StartRecord p.0 q.0 (strip_bom text) p.1 q.1 us vs p.2 p.3 q.2 q.3
