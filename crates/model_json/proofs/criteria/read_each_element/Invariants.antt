use Rattle.std.proofs.Common.{◌≡◌, ◌≤◌, [], length}
use Rattle.word_table.specs.Words.{AreApart}
use Rattle.judgement_matrix.specs.declared.matrix.TheConstants.{LIMIT}
use Rattle.model_json.specs.Reading.{element_of}
use Rattle.model_json.proofs.Loops.{Left}
use Rattle.model_json.proofs.criteria.read_each_element.Given as goal

abbrev pub invariant-values : goal.invariant-values
invariant-values l = record {
  left : Left (element_of l.i) [] l.values l.j l.elements.items;
  each : length l.elements.items ≡ l.j;
  few : l.j ≤ LIMIT;
  apart : AreApart l.elements.items;
}
