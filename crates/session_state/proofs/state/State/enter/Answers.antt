use Rattle.std.proofs.Common.{◌≡◌, IfSome, sym, subst}
use Rattle.session_state.specs.State.{AreResults}
use Rattle.session_state.proofs.state.State.enter.Goals as goal

pub invariant_of-self : goal.invariant_of-self
invariant_of-self c =
    let put = sym c.replace-3.ensures.after in
    let kept = subst (λ m. AreResults m c.args.kept) put c.requires in
    let spare = subst (λ m. IfSome c.spare_of.result (λ spare. spare ≡ m)) put c.spare_of.ensures in (
      record { few = c.self.invariant.0.few; results_are = subst (λ r. AreResults c.replace-3.new.dest r) (sym c.replace-2.ensures.after) kept },
      subst (λ s. IfSome s (λ spare. spare ≡ c.replace-3.new.dest)) (sym c.replace.ensures.after) spare,
    )
