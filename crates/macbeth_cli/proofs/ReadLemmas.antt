-- A refusal of a line has words.
use Rattle.std.proofs.Common.{◌≡◌, ◌≤◌, ℕ, Result, Ok, Err, refl, sym, ◌∙◌, arith}
use Rattle.std.specs.Result.{IfOk}
use Rattle.command_read.specs.declared.command.Parsed.{Parsed}
use Rattle.command_read.specs.declared.command.Parsed.TheVariants.{Nothing, Do, Refused}
use Rattle.macbeth_cli.specs.Session.{HasRefusal}

numbered : (p : Parsed) → ((number : ℕ) → p ≡ Refused number → (2 ≤ number) × (number ≤ 7)) → HasRefusal p
numbered Nothing h = tt
numbered (Do command) h = tt
numbered (Refused number) h =
    let k = h number refl in
    let least = k.0 in
    let most = k.1 in
    let few : number ≤ 33 = omega (arith, most) in
    (omega (arith, least), few)

pub of_read : {E : Type 0} (r : Result Parsed E) (want : Parsed) → IfOk r (λ p. p ≡ want)
    → ((number : ℕ) → want ≡ Refused number → (2 ≤ number) × (number ≤ 7)) → IfOk r HasRefusal
of_read (Ok p) want e h = numbered p (λ number is. h number (sym e ∙ is))
of_read (Err e) want is h = tt
