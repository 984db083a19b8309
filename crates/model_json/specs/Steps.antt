-- Checks in a row: what each of them gives, or the first place that is not as it has to be.
use Rattle.std.specs.Prelude.{◌≡◌, ℕ, ◌+◌, ◌&&◌, Bool, true, List, Option, None, Some, Result, Ok, Err}
use Rattle.std.specs.Option.{option_and_then}
use Rattle.std.specs.List.{list_any}
use Rattle.std.specs.Str.{bytes_eq}
use Rattle.serde_json.specs.Data.{Data, Items, no_items, item, Members, no_members, member}
use Rattle.serde_json.specs.Find.{as_number, as_u64, as_str, as_array, as_object}
use Rattle.frac128.specs.Chain.{◌>>=◌, found_or, holds_or, Returns}
use Rattle.model_core.specs.Names.{is_name}
use Rattle.model_json.specs.declared.place.Place.{Place}
use Rattle.model_json.specs.declared.fault.Stop.{Stop}
use Rattle.model_json.specs.declared.fault.Stop.TheVariants as stop

-- what is read, written in another way
abbrev pub read_as : {A B : Type 0} → (A → B) → Result A Place → Result B Place
read_as way (Ok x) = Ok (way x)
read_as way (Err place) = Err place

-- ---- values

-- a whole number without sign, point or exponent
abbrev pub whole : Option Data → Option ℕ
whole value = option_and_then as_u64 (option_and_then as_number value)

-- the bytes of a string
abbrev pub string_at : Place → Option Data → Result (List ℕ) Place
string_at place value = found_or place (option_and_then as_str value)

-- a string that is a name
unfoldable pub name_at : Place → Option Data → Result (List ℕ) Place
name_at place value = do
  name ← string_at place value
  valid ← holds_or place (is_name name)
  Ok name

-- the values of an array
abbrev pub array_at : Place → Option Data → Result Items Place
array_at place value = found_or place (option_and_then as_array value)

-- the values of an array, none where there is no such key
abbrev pub array_or_none : Place → Option Data → Result Items Place
array_or_none place None = Ok no_items
array_or_none place (Some value) = array_at place (Some value)

-- an object has no keys but these
abbrev pub has_only : List (List ℕ) → Members → Bool
has_only keys no_members = true
has_only keys (member key value members) = list_any (λ k. bytes_eq k key) keys && has_only keys members

abbrev pub members_at : Place → List (List ℕ) → Option Members → Result (Unit {0}) Place
members_at place keys None = Err place
members_at place keys (Some members) = holds_or place (has_only keys members)

-- an object without other keys
abbrev pub object_at : Place → List (List ℕ) → Data → Result (Unit {0}) Place
object_at place keys value = members_at place keys (as_object value)

-- the values of an array one after the other, each by its index and with what those before it gave
unfoldable pub each_into : {S : Type 0} → (ℕ → S → Data → Result S Place) → ℕ → S → Items → Result S Place
each_into step i so_far no_items = Ok so_far
each_into step i so_far (item value values) = do
  next ← step i so_far value
  each_into step (i + 1) next values

-- ---- calls

-- a call stopped for want of memory, or at this place
abbrev pub Fails : {Y : Type 0} → Stop → Result Y Place → Type 0
Fails stop.NoMemory read = Unit {0}
Fails (stop.At place) read = read ≡ Err place

-- a call gave what is read, seen in this way, or failed where reading fails
abbrev pub Gives : {X Y : Type 0} → (X → Y) → Result X Stop → Result Y Place → Type 0
Gives view result read = Returns Fails view read result

-- a call took what was read so far to what is read, or failed where reading fails
abbrev pub Reads : {S : Type 0} → Result (Unit {0}) Stop → Result S Place → S → Type 0
Reads (Ok done) read new = read ≡ Ok new
Reads (Err stop) read new = Fails stop read
