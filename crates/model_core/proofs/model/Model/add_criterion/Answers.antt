use Rattle.std.proofs.Common.{◌≡◌, true, false, not, nat_lt, nat_le, length, is_some, refl, ap, ◌∙◌, inl, arith, rules}
use Rattle.std.proofs.lemmas.Bool.Decides.{nat_tests}
use Rattle.word_table.specs.Words.{are_apart, AreApart}
use Rattle.word_table.proofs.WordLemmas.{apart_by_test}
use Rattle.judgement_matrix.specs.declared.matrix.TheConstants.{LIMIT}
use Rattle.model_core.specs.Finding.{find_criterion}
use Rattle.model_core.specs.declared.edit.EditFault.TheVariants.{NameTaken, LimitReached}
use Rattle.model_core.specs.declared.limits.TheConstants.{CRITERIA}
use Rattle.model_core.proofs.EditLemmas.{refused, passed}
use Rattle.model_core.proofs.model.Model.add_criterion.Goals as goal

pub returns-then-is_some : goal.returns-then-is_some
returns-then-is_some c =
    let taken : is_some (find_criterion c.args.self.now c.args.name) ≡ true = search rules in
    (refl, inl (refused NameTaken _ _ (ap not taken)))

pub returns-then-criteria-ge-CRITERIA : goal.returns-then-criteria-ge-CRITERIA
returns-then-criteria-ge-CRITERIA c =
    let free : is_some (find_criterion c.args.self.now c.args.name) ≡ false = search rules in
    let apart : are_apart c.args.elements.items ≡ true = search rules in
    let full : nat_lt (length c.args.self.now.criteria) CRITERIA ≡ false = grind (arith, nat_tests) in
    (refl, inl (passed NameTaken _ _ (ap not free) ∙ passed NameTaken _ _ apart ∙ refused LimitReached _ _ full))

pub returns-then-len-gt-LIMIT : goal.returns-then-len-gt-LIMIT
returns-then-len-gt-LIMIT c =
    let free : is_some (find_criterion c.args.self.now c.args.name) ≡ false = search rules in
    let apart : are_apart c.args.elements.items ≡ true = search rules in
    let room : nat_lt (length c.args.self.now.criteria) CRITERIA ≡ true = grind (arith, nat_tests) in
    let many : nat_le (length c.args.elements.items) LIMIT ≡ false = grind (arith, nat_tests) in
    (refl, inl (passed NameTaken _ _ (ap not free) ∙ passed NameTaken _ _ apart ∙ passed LimitReached _ _ room ∙ refused LimitReached _ _ many))

pub new-requires-clause-apart : goal.new-requires-clause-apart
new-requires-clause-apart c =
    let apart : are_apart c.args.elements.items ≡ true = search rules in
    let fine : AreApart c.args.elements.items = apart_by_test c.args.elements.items apart in
    search rules
