-- Names and texts, by their bytes.
use Rattle.std.specs.Prelude.{ℕ, Bool, ◌&&◌, not, ◌==◌, List, length, nat_lt, nat_le}
use Rattle.std.specs.List.{list_all}
use Rattle.std.specs.Str.{is_utf8}
use Rattle.model_core.specs.declared.limits.TheConstants.{NAME_BYTES}

-- neither a control character nor a quotation mark
abbrev pub is_name_byte : ℕ → Bool
is_name_byte byte = nat_le 32 byte && (not (byte == 127) && not (byte == 34))

-- 1 to 64 bytes of UTF-8, each of which a name may have
abbrev pub is_name : List ℕ → Bool
is_name bytes = is_utf8 bytes && ((nat_lt 0 (length bytes) && nat_le (length bytes) NAME_BYTES) && list_all is_name_byte bytes)

-- UTF-8 without a newline
abbrev pub is_text : List ℕ → Bool
is_text bytes = is_utf8 bytes && list_all (λ byte. not (byte == 10)) bytes
