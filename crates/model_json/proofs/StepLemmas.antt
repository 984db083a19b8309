-- Checks in a row, taken apart.
use Rattle.std.proofs.Common.{◌≡◌, Bool, true, false, Result, Ok, Err, refl, ap}
use Rattle.model_json.specs.declared.place.Place.{Place}
use Rattle.model_json.specs.declared.fault.Stop.{Stop}
use Rattle.model_json.specs.declared.fault.Stop.TheVariants as stop
use Rattle.frac128.specs.Chain.{◌>>=◌, holds_or}
use Rattle.model_json.specs.Steps.{read_as, Fails}

abbrev pub done : {A : Type 0} → A → Result A Place
done x = Ok x

-- what is read is one thing
pub same_ok : {A : Type 0} (x y : A) → done x ≡ done y → x ≡ y
same_ok x y h = cc

-- a check that gave something leaves the rest to the next one
pub after_check : {A B : Type 0} (r : Result A Place) (next : A → Result B Place) (y : B) → (r >>= next) ≡ Ok y
    → (x : A) × (r ≡ Ok x) × (next x ≡ Ok y)
after_check (Ok x) next y h = (x, refl, h)
after_check (Err place) next y h = absurd cc

-- a condition that held
pub held : (place : Place) (b : Bool) (x : Unit {0}) → holds_or place b ≡ Ok x → b ≡ true
held place true x h = refl
held place false x h = absurd cc

-- what fails, fails in another writing too
pub fails_as : {A B : Type 0} (way : A → B) (s : Stop) (r : Result A Place) → Fails s r → Fails s (read_as way r)
fails_as way stop.NoMemory r h = tt
fails_as way (stop.At place) r h = ap (read_as way) h
