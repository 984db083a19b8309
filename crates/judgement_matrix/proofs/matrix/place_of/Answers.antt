use Rattle.std.proofs.Common.{◌≡◌, ◌+◌, ◌-◌, ◌*◌, ◌/◌, ap, arith}
use Rattle.judgement_matrix.specs.Matrix.{place}
use Rattle.judgement_matrix.proofs.PlaceLemmas.{pairs_before-row, place-below}
use Rattle.judgement_matrix.proofs.matrix.place_of.Goals as goal

-- the closed form is the place
closed : (c : goal.Start) → (c.args.p - 1) * c.args.size - (c.args.p - 1) * c.args.p / 2 + (c.args.q - c.args.p - 1) ≡ place c.args.size c.args.p c.args.q
closed c = ap (λ k. k + (c.args.q - c.args.p - 1)) (pairs_before-row c.args.size c.args.p (omega arith) (omega arith))

pub returns-clause-value : goal.returns-clause-value
returns-clause-value c = closed c

pub returns-clause-within : goal.returns-clause-within
returns-clause-within c = rw (closed c) (place-below c.args.size c.args.p c.args.q c.requires.pair)
