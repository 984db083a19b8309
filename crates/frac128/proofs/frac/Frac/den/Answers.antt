use Rattle.frac128.proofs.frac.Frac.den.Goals as goal

-- a part of the invariant
pub returns-clause-lowest : goal.returns-clause-lowest
returns-clause-lowest c = rw (← c.self.view_is) c.self.invariant.1
