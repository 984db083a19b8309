use Rattle.judgement_matrix.proofs.PlaceLemmas.{slice_get-place}
use Rattle.judgement_matrix.proofs.laws.pair_at_its_place.Goals as goal

pub returns : goal.returns
returns c = slice_get-place c.args.size c.args.p c.args.q c.requires
