use Rattle.std.proofs.Common.{◌≡◌, ◌++◌, ℤ, drop, map}
use Rattle.judgement_matrix.specs.declared.tag.Tag.{Tag}
use Rattle.cert_check.proofs.refuting.tags_of.Given as goal

abbrev pub invariant-loop-entry : goal.invariant-loop-entry
invariant-loop-entry l =
    l.tags.items ++ map (λ (e : Tag × ℤ). e.0) (drop l.entry-index l.entries) ≡ map (λ (e : Tag × ℤ). e.0) l.entries
