-- What a text gives is never want of memory.
use Rattle.std.proofs.Common.{◌≡◌, ℕ, List, Option, Some, None, Result, Ok, Err}
use Rattle.serde_json.specs.Data.{Data}
use Rattle.model_core.specs.State.{ModelState}
use Rattle.model_json.specs.Reading.{model_of}
use Rattle.model_json.specs.Text.{json_of, or_bad, model_or_bad, load_of}
use Rattle.model_json.specs.declared.place.Place.{Place}
use Rattle.model_json.specs.declared.fault.LoadFault.TheVariants.{NoMemory}

of_model : (read : Result ModelState Place) → or_bad read ≡ Err NoMemory → ⊥
of_model (Ok m) e = absurd (cc)
of_model (Err place) e = absurd (cc)

of_value : (value : Option Data) → model_or_bad value ≡ Err NoMemory → ⊥
of_value None e = absurd (cc)
of_value (Some value) e = of_model (model_of value) e

pub load_never_wants_memory : (bytes : List ℕ) → load_of bytes ≡ Err NoMemory → ⊥
unfolding load_of
load_never_wants_memory bytes e = of_value (json_of bytes) e
