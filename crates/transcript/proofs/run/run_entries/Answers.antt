use Rattle.transcript.proofs.EndLemmas.{never_runs}
use Rattle.transcript.proofs.run.run_entries.Goals as goal

pub returns-in_default : goal.returns-in_default
returns-in_default g c = never_runs g.V.Service.rules g.V.Service.first g.met.V.Service.begins _ _ _ _
