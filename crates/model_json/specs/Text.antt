-- The model that a text is.
use Rattle.std.specs.Prelude.{◌≡◌, ℕ, List, Option, Some, None, Result, Ok, Err, if◌then◌else◌}
use Rattle.std.specs.Str.{is_utf8}
use Rattle.serde_json.specs.Data.{Data}
use Rattle.serde_json.specs.Read.{read}
use Rattle.serde_json.specs.View.{view}
use Rattle.serde_json.specs.declared.value.Value.{Value}
use Rattle.model_core.specs.State.{ModelState}
use Rattle.model_json.specs.declared.place.Place.{Place}
use Rattle.model_json.specs.declared.fault.LoadFault.{LoadFault}
use Rattle.model_json.specs.declared.fault.LoadFault.TheVariants.{BadJson, BadModel, NoMemory}
use Rattle.model_json.specs.Pointers.{pointer_text}
use Rattle.model_json.specs.Reading.{model_of}

-- the value that these bytes are, if they are one
unfoldable pub json_of : List ℕ → Option Data
json_of bytes = if is_utf8 bytes then read bytes else None

-- what a text gives, or the pointer of the first place that is not as it has to be
abbrev pub or_bad : Result ModelState Place → Result ModelState LoadFault
or_bad (Ok m) = Ok m
or_bad (Err place) = Err (BadModel (pointer_text place))

abbrev pub model_or_bad : Option Data → Result ModelState LoadFault
model_or_bad None = Err BadJson
model_or_bad (Some value) = or_bad (model_of value)

-- the model that a text is, or why it is none
unfoldable pub load_of : List ℕ → Result ModelState LoadFault
load_of bytes = model_or_bad (json_of bytes)

-- a call gave what the text gives, or found no memory
abbrev pub Loads : List ℕ → Result ModelState LoadFault → Type 0
Loads bytes (Err NoMemory) = Unit {0}
Loads bytes other = load_of bytes ≡ other

-- a call gave the value that a text is, or found that it is none, or found no memory
abbrev pub Parses : List ℕ → Result Value LoadFault → Type 0
Parses bytes (Ok value) = json_of bytes ≡ Some (view value)
Parses bytes (Err BadJson) = json_of bytes ≡ None
Parses bytes (Err (BadModel pointer)) = ⊥
Parses bytes (Err NoMemory) = Unit {0}
