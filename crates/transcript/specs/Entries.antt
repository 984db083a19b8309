-- The entries of the bytes of an input.
use Rattle.std.specs.Prelude.{◌≡◌, ◌⊎◌, ℕ, Bool, true, false, ◌&&◌, not, List, [], ◌∷◌, ◌++◌, length, nat_lt, nat_le, if◌then◌else◌, codes}
use Rattle.std.specs.List.{flat_map, list_all, All}
use Rattle.std.specs.Str.{bytes_eq}
use Rattle.line_io.specs.Lines.{IsUnbroken, without_return}
use Rattle.line_io.specs.declared.lines.TheConstants.{LINE_LIMIT}
use Rattle.transcript.specs.declared.block.TheConstants.{BLOCK_LIMIT}
use Rattle.transcript.specs.Entry.{Entry, too_long, line, with_block, Block, whole, cut, large}

-- a piece and the newline that closes it
abbrev pub closed : List ℕ → List ℕ
closed piece = piece ++ 10 ∷ []

-- the bytes are these pieces, each closed by a newline, and then the rest
pub record AreLines (bytes : List ℕ) (pieces : List (List ℕ)) (rest : List ℕ) : Type 0 where
  pub joined : bytes ≡ flat_map closed pieces ++ rest
  pub each : All IsUnbroken pieces
  pub open_rest : IsUnbroken rest

abbrev pub is_long : List ℕ → Bool
is_long piece = nat_lt LINE_LIMIT (length piece)

-- a piece that is an entry by itself
abbrev pub entry_of : List ℕ → Entry
entry_of piece = if is_long piece then too_long else line (without_return piece)

-- the line that ends a block
abbrev pub is_end : List ℕ → Bool
is_end piece = not (is_long piece) && bytes_eq (without_return piece) (codes "end")

-- the bytes of pieces as lines: without a carriage return at their ends, and with a newline
abbrev pub lines_text : List (List ℕ) → List ℕ
lines_text pieces = flat_map (λ piece. closed (without_return piece)) pieces

-- whether a block of these pieces is kept
abbrev pub is_kept : List (List ℕ) → Bool
is_kept pieces = list_all (λ piece. not (is_long piece)) pieces && nat_le (length (lines_text pieces)) BLOCK_LIMIT

-- the pieces between a line and the `end` of its block
abbrev pub block_of : List (List ℕ) → Block
block_of pieces = if is_kept pieces then whole (lines_text pieces) else large

-- between two entries, or behind a line that takes a block and these pieces of it
pub data Place : Type 0 where
  between : Place
  inside : List ℕ → List (List ℕ) → Place

-- whether a piece is a line that takes a block
abbrev pub opens : (List ℕ → Bool) → List ℕ → Bool
opens takes piece = not (is_long piece) && takes (without_return piece)

-- where a piece leads to
abbrev pub after : (List ℕ → Bool) → Place → List ℕ → Place
after takes between piece = if opens takes piece then inside (without_return piece) [] else between
after takes (inside opening pieces) piece = if is_end piece then between else inside opening (pieces ++ piece ∷ [])

-- the entry that a piece completes, if it does
abbrev pub completed : (List ℕ → Bool) → Place → List ℕ → List Entry
completed takes between piece = if opens takes piece then [] else entry_of piece ∷ []
completed takes (inside opening pieces) piece =
    if is_end piece then with_block opening (block_of pieces) ∷ [] else []

-- the entry that the end of the input completes, if it does: a block that is cut, however large
abbrev pub cut_entry : Bool → Place → List Entry
cut_entry ended between = []
cut_entry ended (inside opening pieces) = if ended then with_block opening cut ∷ [] else []

-- the whole entries of pieces, from a place on
abbrev pub entries_from : (List ℕ → Bool) → Bool → Place → List (List ℕ) → List Entry
entries_from takes ended place [] = cut_entry ended place
entries_from takes ended place (piece ∷ pieces) =
    completed takes place piece ++ entries_from takes ended (after takes place piece) pieces

-- where pieces lead to
abbrev pub place_after : (List ℕ → Bool) → Place → List (List ℕ) → Place
place_after takes place [] = place
place_after takes place (piece ∷ pieces) = place_after takes (after takes place piece) pieces

-- the rest is a piece where the end was seen, unless it is empty
abbrev pub last_piece : Bool → List ℕ → List (List ℕ)
last_piece ended rest = if ended && nat_lt 0 (length rest) then rest ∷ [] else []

-- the whole entries of the bytes, whose end was seen or not
pub record AreEntries (takes : List ℕ → Bool) (ended : Bool) (bytes : List ℕ) (entries : List Entry) : Type 0 where
  pub pieces : List (List ℕ)
  pub rest : List ℕ
  pub lines : AreLines bytes pieces rest
  pub is : entries ≡ entries_from takes ended between (pieces ++ last_piece ended rest)

-- these pieces make these entries, and leave no block open
pub record Make (takes : List ℕ → Bool) (pieces : List (List ℕ)) (entries : List Entry) : Type 0 where
  pub each : All IsUnbroken pieces
  pub is : entries ≡ entries_from takes false between pieces
  pub leaves_none_open : place_after takes between pieces ≡ between

-- the entry is the first of the stream, and `rest` follows it; where the end was seen it may lack what closes it
abbrev pub IsFirst : (List ℕ → Bool) → Bool → List ℕ → Entry → List ℕ → Type 0
IsFirst takes ended stream entry rest =
    ((pieces : List (List ℕ)) × (stream ≡ flat_map closed pieces ++ rest) × Make takes pieces (entry ∷ []))
    ⊎ ((ended ≡ true) × (rest ≡ []) × AreEntries takes true stream (entry ∷ []))
