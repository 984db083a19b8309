use Rattle.std.proofs.Common.{◌≡◌, ◌∙◌, ◌++◌, ◌∷◌, [], refl, sym, ap, subst, append-nil}
use Rattle.std.specs.Prelude.{OnOk, string_bytes, codes}
use Rattle.std.specs.Fmt.{decimal}
use Rattle.report_text.specs.Lists.{pivots_words}
use Rattle.report_text.proofs.LineLemmas.{numbered}
use Rattle.report_text.proofs.lists.push_stats.Goals as goal

pub returns : goal.returns
returns c =
    let old = string_bytes c.args.out.now in
    let middle = string_bytes c.push_pivots.new.out in
    let heading = pivots_words c.args.pivots in
    let kept = c.args.kept in
    subst (λ bytes. OnOk c.push_count.result (string_bytes c.push_count.new.out ≡ bytes))
    (numbered old middle (middle ++ ((codes " " ++ decimal kept) ++ 10 ∷ [])) heading kept c.in_ok-push_pivots.ensures refl
    ∙ ap (λ b. old ++ b) (sym (append-nil ((heading ++ codes " " ++ decimal kept) ++ 10 ∷ []))))
    c.push_count.ensures
