-- What a service is for its caller.
use Rattle.std.specs.Prelude.{ℕ, Bool, List}
use Rattle.transcript.specs.Entry.{Entry}

pub record Rules (S : Type 0) : Type 1 where
  -- what its states hold
  pub holds : S → Type 0
  -- a state, an entry, the bytes of the reply and the next state
  pub answers : S → Entry → List ℕ → S → Type 0
  -- whether a line takes a block
  pub takes_block : List ℕ → Bool
  -- whether an entry is an accepted `quit`
  pub quits : Entry → Bool

-- an entry is answered from a state that holds to one that holds
pub record IsAnswer {S : Type 0} (rules : Rules S) (state : S) (entry : Entry) (text : List ℕ) (next : S) : Type 0 where
  pub before : rules.holds state
  pub answer : rules.answers state entry text next
  pub after : rules.holds next

-- each answer in a state that holds leaves a state that holds
abbrev pub IsKept : {S : Type 0} → Rules S → Type 0
IsKept {S} rules = (state next : S) (entry : Entry) (text : List ℕ)
    → rules.holds state → rules.answers state entry text next → rules.holds next

-- every entry has an answer in every state that holds
abbrev pub IsTotal : {S : Type 0} → Rules S → Type 0
IsTotal {S} rules = (state : S) (entry : Entry)
    → rules.holds state → (text : List ℕ) × (next : S) × rules.answers state entry text next
