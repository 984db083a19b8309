use Rattle.std.proofs.Common.{◌≡◌, true, false, not, nat_lt, length, is_some, refl, ap, ◌∙◌, inl, arith, rules}
use Rattle.std.proofs.lemmas.Bool.Decides.{nat_tests}
use Rattle.model_core.specs.Finding.{find_option}
use Rattle.model_core.specs.declared.edit.EditFault.TheVariants.{NameTaken, LimitReached}
use Rattle.model_core.specs.declared.limits.TheConstants.{OPTIONS}
use Rattle.model_core.proofs.EditLemmas.{refused, passed}
use Rattle.model_core.proofs.model.Model.add_option.Goals as goal

pub returns-then-is_some : goal.returns-then-is_some
returns-then-is_some c =
    let taken : is_some (find_option c.args.self.now c.args.name) ≡ true = search rules in
    (refl, inl (refused NameTaken _ _ (ap not taken)))

pub returns-then-options-ge-OPTIONS : goal.returns-then-options-ge-OPTIONS
returns-then-options-ge-OPTIONS c =
    let free : is_some (find_option c.args.self.now c.args.name) ≡ false = search rules in
    let full : nat_lt (length c.args.self.now.options) OPTIONS ≡ false = grind (arith, nat_tests) in
    (refl, inl (passed NameTaken _ _ (ap not free) ∙ refused LimitReached _ _ full))
