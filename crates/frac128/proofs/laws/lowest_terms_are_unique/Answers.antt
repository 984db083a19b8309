use Rattle.frac128.proofs.Checked.{lowest_terms-is, lowest_terms-unique}
use Rattle.frac128.proofs.laws.lowest_terms_are_unique.Goals as goal

pub returns : goal.returns
returns c = record {
  reduced = λ f p. (lowest_terms-is f p).0;
  same = λ f p. (lowest_terms-is f p).1;
  unique = lowest_terms-unique;
}
