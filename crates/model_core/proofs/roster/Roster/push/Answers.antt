use Rattle.std.proofs.Common.{◌≡◌, None, ◌++◌, ◌∷◌, [], sym, ap, subst, ◌∙◌}
use Rattle.std.specs.Map.{values_of}
use Rattle.model_core.specs.Lists.{find, AreKeyed}
use Rattle.model_core.proofs.RosterLemmas.{entries-push, keyed-push, values-push}
use Rattle.model_core.proofs.roster.Roster.push.Goals as goal

pub invariant_of-self-2 : goal.invariant_of-self-2
invariant_of-self-2 g c =
    let name = g.T.Named.name in
    let m = c.self.inside.entries in
    let e : c.in_ok-key.key.items ≡ name c.args.item = c.in_ok-key.ensures.items ∙ c.as_bytes.ensures.value ∙ c.found_by.ensures in
    let none : find name (values_of m.entries) (name c.args.item) ≡ None = ap (λ xs. find name xs (name c.args.item)) c.self.view_is ∙ c.requires in
    subst (AreKeyed (λ k. k.items) name)
    (sym (c.in_ok-insert.ensures.entries ∙ entries-push (λ k. k.items) name m c.in_ok-key.key c.args.item c.self.invariant e none))
    (keyed-push (λ k. k.items) name m.entries c.in_ok-key.key c.args.item c.self.invariant e)

pub returns-clause-ok : goal.returns-clause-ok
returns-clause-ok g c =
    let name = g.T.Named.name in
    let m = c.self.inside.entries in
    let e : c.in_ok-key.key.items ≡ name c.args.item = c.in_ok-key.ensures.items ∙ c.as_bytes.ensures.value ∙ c.found_by.ensures in
    let none : find name (values_of m.entries) (name c.args.item) ≡ None = ap (λ xs. find name xs (name c.args.item)) c.self.view_is ∙ c.requires in
    ap values_of (c.in_ok-insert.ensures.entries ∙ entries-push (λ k. k.items) name m c.in_ok-key.key c.args.item c.self.invariant e none)
    ∙ values-push m.entries c.in_ok-key.key c.args.item ∙ ap (λ xs. xs ++ c.args.item ∷ []) c.self.view_is
