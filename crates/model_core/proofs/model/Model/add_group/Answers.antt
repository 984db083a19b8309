use Rattle.std.proofs.Common.{◌≡◌, true, false, not, nat_lt, length, is_some, Ok, refl, sym, ap, ◌∙◌, inl, arith, rules}
use Rattle.std.proofs.lemmas.Bool.Decides.{nat_tests}
use Rattle.model_core.specs.Finding.{find_group}
use Rattle.model_core.specs.Edits.{group_named, with_group}
use Rattle.model_core.specs.declared.edit.EditFault.TheVariants.{NameTaken, LimitReached}
use Rattle.model_core.specs.declared.limits.TheConstants.{GROUPS}
use Rattle.model_core.proofs.EditLemmas.{refused, passed, after_ok, ok_holds}
use Rattle.model_core.proofs.model.Model.add_group.Goals as goal

pub returns-then-is_some : goal.returns-then-is_some
returns-then-is_some c =
    let known : group_named c.args.self.now c.args.parent ≡ Ok c.in_ok-parent.parent = search rules in
    let taken : is_some (find_group c.args.self.now c.args.name) ≡ true = search rules in
    (refl, inl (after_ok _ _ _ known ∙ refused NameTaken _ _ (ap not taken)))

pub returns-then-groups-ge-GROUPS : goal.returns-then-groups-ge-GROUPS
returns-then-groups-ge-GROUPS c =
    let known : group_named c.args.self.now c.args.parent ≡ Ok c.in_ok-parent.parent = search rules in
    let free : is_some (find_group c.args.self.now c.args.name) ≡ false = search rules in
    let full : nat_lt (length c.args.self.now.groups) GROUPS ≡ false = grind (arith, nat_tests) in
    (refl, inl (after_ok _ _ _ known ∙ passed NameTaken _ _ (ap not free) ∙ refused LimitReached _ _ full))

pub returns : goal.returns
returns c =
    let m = c.args.self.now in
    let known : group_named m c.args.parent ≡ Ok c.in_ok-parent.parent = search rules in
    let free : is_some (find_group m c.args.name) ≡ false =
    ap is_some (ap (find_group m) (sym c.as_bytes.ensures.value) ∙ sym c.find_group.ensures.place) ∙ sym c.is_some.ensures ∙ c.if-is_some.false in
    let room : nat_lt (length m.groups) GROUPS ≡ true = grind (arith, nat_tests) in
    let made : c.push_group.new.self ≡ with_group m c.new.result = ok_holds _ (sym c.is_err.ensures.value ∙ c.if-is_err.false) c.push_group.ensures.ok in
    after_ok _ _ _ known ∙ passed NameTaken _ _ (ap not free) ∙ passed LimitReached _ _ room ∙ ap Ok (sym (made ∙ ap (with_group m) c.new.ensures))
