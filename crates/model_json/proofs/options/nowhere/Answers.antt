use Rattle.std.proofs.Common.{None, ◌++◌, ◌∷◌, [], replicate, Ok, sym, ap, ◌∙◌, arith}
use Rattle.std.proofs.lemmas.List.{replicate-append-replicate}
use Rattle.model_json.proofs.options.nowhere.Goals as goal

pub criteria-preserved : goal.criteria-preserved
criteria-preserved c =
    c.in_ok-push.ensures.items ∙ ap (λ row. row ++ None ∷ []) c.criteria.invariant ∙ replicate-append-replicate c.criteria.counter 1 None

pub returns : goal.returns
returns c = ap Ok (sym (c.criteria.invariant ∙ ap (λ n. replicate n None) (omega arith)))
