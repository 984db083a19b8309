-- What a source and a sink in memory do at each call.
use Rattle.std.specs.Prelude.{◌≡◌, ◌⊎◌, ℕ, ◌+◌, ◌-◌, ◌<◌, min, List, ◌++◌, length, take, drop, Contains, Result, Ok, Err}
use Rattle.line_io.specs.declared.outside.Failed.{Failed}

-- one more, up to the type's end
abbrev pub counted : ℕ → ℕ
counted n = min (n + 1) 18446744073709551615

-- a source in memory
pub record Feed : Type 0 where
  -- what is left
  pub rest : List ℕ
  -- the most bytes that a call gives
  pub piece : ℕ
  -- the numbers of the calls that fail, counted from 1
  pub fails : List ℕ
  -- how many calls there were
  pub calls : ℕ
  -- how many of them failed
  pub faults : ℕ

-- a call at a piece of this length
abbrev pub Feeds : Feed → Feed → ℕ → Result ℕ Failed → Type 0
Feeds old new len (Ok count) =
    (¬ Contains old.fails (counted old.calls)) × (count ≡ min (min old.piece len) (length old.rest))
    × (new ≡ record old { rest = drop count old.rest; calls = counted old.calls })
Feeds old new len (Err failed) =
    Contains old.fails (counted old.calls)
    × (new ≡ record old { calls = counted old.calls; faults = counted old.faults })

-- a sink in memory
pub record Store : Type 0 where
  -- what it holds
  pub held : List ℕ
  -- the most bytes that it may hold
  pub room : ℕ
  -- the most bytes that a call takes
  pub piece : ℕ
  -- the numbers of the calls that fail, counted from 1
  pub fails : List ℕ
  -- how many calls there were
  pub calls : ℕ
  -- how many of them failed
  pub faults : ℕ

-- a call with these bytes
abbrev pub Stores : Store → Store → List ℕ → Result ℕ Failed → Type 0
Stores old new bytes (Ok count) =
    (¬ Contains old.fails (counted old.calls))
    × (count ≡ min (min old.piece (length bytes)) (old.room - length old.held))
    × (new ≡ record old { held = old.held ++ take count bytes; calls = counted old.calls })
Stores old new bytes (Err failed) =
    (Contains old.fails (counted old.calls) ⊎ ((length old.held ≡ old.room) × (0 < length bytes)))
    × (new ≡ record old { calls = counted old.calls; faults = counted old.faults })
