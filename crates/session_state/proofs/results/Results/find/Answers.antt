use Rattle.session_state.proofs.ResultLemmas.{finds, finds-too_wide}
use Rattle.session_state.proofs.results.Results.find.Goals as goal

pub returns-in-Ok : goal.returns-in-Ok
returns-in-Ok c =
    finds c.args.matrix.now c.args.subject c.self.inside.kept.items c.self.inside.kept_weighting c.self.inside.pivots c.copied-pivots.result
    c.basic_scale.new.pivots c.args.self.now c.keep.new.self c.in-Ok.basic c.in_ok-basic-in-Ok.basic c.in_ok-kept-in-Ok.kept c.self.view_is c.copied-pivots.ensures c.in-Ok.ensures
    c.in_ok-basic-in-Ok.ensures c.in_ok-kept-in-Ok.ensures c.keep.ensures

pub returns-in-Err-TooWide : goal.returns-in-Err-TooWide
returns-in-Err-TooWide c =
    finds-too_wide c.args.matrix.now c.args.subject c.self.inside.kept.items c.self.inside.kept_weighting c.self.inside.pivots c.copied-pivots.result
    c.basic_scale.new.pivots c.args.self.now c.in-Err-TooWide.field-0 c.self.view_is c.copied-pivots.ensures
    c.in-Err-TooWide.field-0-is c.in-Err-TooWide.ensures
