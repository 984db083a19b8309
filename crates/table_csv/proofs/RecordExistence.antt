-- Every text has a list of records.
use Rattle.std.proofs.Common.{◌≡◌, ℕ, zero, suc, ◌-◌, ◌≤◌, Bool, true, false, cond, List, [], ◌∷◌, ◌++◌, length, Option, Some, None, refl, subst, arith}
use Rattle.csv.specs.Machine.{Read, next_record, ends_at_end, is_end, step, fields_after, field_after}
use Rattle.csv.specs.Reading.{AreRecords, Reached, default_config, strip_bom}
use Rattle.csv.specs.declared.parser.Config.{Config}
use Rattle.csv.specs.declared.parser.State.{State}
use Rattle.csv.specs.declared.parser.State.TheVariants as state
use Rattle.table_csv.specs.Table.{AreRecordsOf}

abbrev behind : Read → List ℕ
behind p = p.2

-- a choice that gave something
chosen : (b : Bool) (x p : Read) (other : Option Read) (bound : ℕ) → (length (behind x) ≤ bound)
    → (other ≡ Some p → length (behind p) ≤ bound) → cond b (Some x) other ≡ Some p → length (behind p) ≤ bound
chosen true x p other bound le h e = let same : x ≡ p = cc in subst (λ (y : Read). length (behind y) ≤ bound) same le
chosen false x p other bound le h e = h e

-- behind a record there is less than there was
less_behind : (cfg : Config) (s : State) (fields : List (List ℕ)) (field : List ℕ) (xs : List ℕ) (p : Read)
    → next_record cfg s fields field xs ≡ Some p → length (behind p) ≤ length xs - 1
unfolding next_record
less_behind cfg s fields field [] p e =
    chosen (ends_at_end s) (fields ++ (field ∷ []), state.StartRecord, []) p None 0 (omega arith) (λ no. absurd (cc)) e
less_behind cfg s fields field (x ∷ xs) p e =
    let left : State = (step cfg s x).0 in
    let fields_now = fields_after (step cfg s x).1 fields field in
    let field_now = field_after (step cfg s x).1 x field in
    let le : length (behind p) ≤ length xs =
    chosen (is_end (step cfg s x).1) (fields_now, left, xs) p (next_record cfg left fields_now field_now xs) (length xs) (omega arith)
    (λ more. let less = less_behind cfg left fields_now field_now xs p more in omega (arith, less)) e in
    omega (arith, le)

-- the records of a text, from a state on
abbrev Readable : Config → State → List ℕ → Type 0
Readable cfg s xs = (rows : List (List (List ℕ))) × AreRecords cfg s xs rows

none_left : (cfg : Config) (s : State) (xs : List ℕ) → next_record cfg s [] [] xs ≡ None → Readable cfg s xs
unfolding Reached
none_left cfg s xs e = ([], (s, xs, (refl, refl), e))

one_more : (cfg : Config) (s : State) (xs : List ℕ) (p : Read) → next_record cfg s [] [] xs ≡ Some p → Readable cfg p.1 p.2 → Readable cfg s xs
unfolding Reached
one_more cfg s xs p e (rows, (t, ys, reached, end)) = (p.0 ∷ rows, (t, ys, (p, e, refl, reached), end))

-- a start of a record, with nothing left
at_end : (cfg : Config) → Readable cfg state.StartRecord []
unfolding next_record
at_end cfg = none_left cfg state.StartRecord [] refl

-- nothing left, in any state
nothing_left : (cfg : Config) (s : State) → Readable cfg s []
unfolding next_record
nothing_left cfg s = by_end (ends_at_end s) refl
  where
    by_end : (b : Bool) → ends_at_end s ≡ b → Readable cfg s []
    by_end true e = one_more cfg s [] ([] ++ ([] ∷ []), state.StartRecord, []) (rw e refl) (at_end cfg)
    by_end false e = none_left cfg s [] (rw e refl)

by_next : (cfg : Config) (s : State) (xs : List ℕ) (o : Option Read) → next_record cfg s [] [] xs ≡ o
    → ((p : Read) → next_record cfg s [] [] xs ≡ Some p → Readable cfg p.1 p.2) → Readable cfg s xs
by_next cfg s xs None e rest = none_left cfg s xs e
by_next cfg s xs (Some p) e rest = one_more cfg s xs p e (rest p e)

-- a text of no more bytes than this
readable : (n : ℕ) (cfg : Config) (s : State) (xs : List ℕ) → length xs ≤ n → Readable cfg s xs
readable n cfg s [] le = nothing_left cfg s
readable zero cfg s (x ∷ xs) le = absurd (omega arith)
readable (suc n) cfg s (x ∷ xs) le =
    by_next cfg s (x ∷ xs) (next_record cfg s [] [] (x ∷ xs)) refl
    (λ p e. let less = less_behind cfg s [] [] (x ∷ xs) p e in readable n cfg p.1 p.2 (omega (arith, le, less)))

pub every_text_has_records : (bytes : List ℕ) → (records : List (List (List ℕ))) × AreRecordsOf bytes records
every_text_has_records bytes = readable (length (strip_bom bytes)) default_config state.StartRecord (strip_bom bytes) (omega arith)
