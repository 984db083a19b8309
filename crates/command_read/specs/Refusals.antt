-- Reading from left to right, with the first refusal that is met.
use Rattle.std.specs.Prelude.{◌≡◌, ℕ, Result, Ok, Err}
use Rattle.command_read.specs.declared.refusal.Refusal.{Refusal}
use Rattle.command_read.specs.declared.refusal.Refusal.TheVariants.{NotUtf8, UnknownCommand, WrongCount, BadName, BadNumber, BadCategory}
use Rattle.command_read.specs.declared.refusal.Fault.{Fault}
use Rattle.command_read.specs.declared.refusal.Fault.TheVariants as fault

-- the number of a refusal
abbrev pub number_of : Refusal → ℕ
number_of NotUtf8 = 2
number_of UnknownCommand = 3
number_of WrongCount = 4
number_of BadName = 5
number_of BadNumber = 6
number_of BadCategory = 7

-- a fault is want of memory, or the refusal that reading gives
abbrev pub Fails : {A : Type 0} → Fault → Result A Refusal → Type 0
Fails fault.NoMemory read = Unit {0}
Fails (fault.Refused refusal) read = read ≡ Err refusal

-- what was returned, as it is seen, is what reading gives, unless memory ran out
abbrev pub Sees : {A B : Type 0} → (A → B) → Result A Fault → Result B Refusal → Type 0
Sees view (Ok x) read = read ≡ Ok (view x)
Sees view (Err fault) read = Fails fault read

-- the same of a value that is seen as it is
abbrev pub Gives : {A : Type 0} → Result A Fault → Result A Refusal → Type 0
Gives result read = Sees (λ x. x) result read
