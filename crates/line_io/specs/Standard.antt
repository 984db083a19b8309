-- What a source over a reader and a sink over a writer show.
use Rattle.std.specs.Prelude.{ℕ}

-- what lies beneath, and how many of its calls failed
pub record Over (A : Type 0) : Type 0 where
  pub beneath : A
  pub faults : ℕ
