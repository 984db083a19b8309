-- A text that is no value.
use Rattle.std.proofs.Common.{◌≡◌, ℕ, List, None, inl, inr, refl}
use Rattle.std.specs.Prelude.{IsUtf8}
use Rattle.std.specs.Str.{is_utf8}
use Rattle.std.proofs.lemmas.Bool.{cases_Bool}
use Rattle.std.proofs.lemmas.Str.{IsUtf8-from_is_utf8}
use Rattle.serde_json.specs.Read.{read}
use Rattle.model_json.specs.Text.{json_of}

pub json_none : (bytes : List ℕ) → (IsUtf8 bytes → read bytes ≡ None) → json_of bytes ≡ None
unfolding json_of
json_none bytes none = elim (cases_Bool (is_utf8 bytes)) [
  | inl is_text ↦ rw is_text (none (IsUtf8-from_is_utf8 bytes is_text))
  | inr no_text ↦ rw no_text refl
]
