-- From a formula to what is answered for it.
use Rattle.std.specs.Result.{IfOk}
use Rattle.std.proofs.Common.{Result, Ok, Err, subst}
use Rattle.frac128.specs.Checked.{Gives}
use Rattle.frac128.specs.declared.number.TooWide.{TooWide}

-- what holds of what a formula gives holds of the answer
pub answered : {V X E : Type 0} (Says : E → Type 0 → Type 0) (items : V → X) (worked : Result X TooWide) (result : Result V E) (P : X → Type 0) → IfOk worked P
    → Gives Says items worked result → IfOk result (λ v. P (items v))
answered Says items worked (Ok v) P h g = subst (λ r. IfOk r P) g h
answered Says items worked (Err fault) P h g = tt
