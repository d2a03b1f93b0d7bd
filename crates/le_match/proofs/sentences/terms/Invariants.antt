use Rattle.std.proofs.Common.{◌≡◌, ◌+◌, ◌≤◌, length, map, take, drop}
use Rattle.le_match.specs.Terms.{terms_of}
use Rattle.le_match.specs.Walks.{IsLongerScope, share_of, total_size}
use Rattle.le_match.proofs.ReadLemmas.{onto_all}
use Rattle.le_match.proofs.sentences.terms.Given as goal

abbrev pub invariant-loop-place : goal.invariant-loop-place
invariant-loop-place l = record {
  few : length l.names + total_size (drop l.place-index l.places) ≤ length l.fn.names + total_size l.places;
  front : take (length l.fn.names) l.names ≡ l.fn.names;
  scope : IsLongerScope l.fn.scope l.scope;
  terms : onto_all l.found.items (terms_of l.templates l.names l.scope l.query l.layout (map (share_of l.layout) (drop l.place-index l.places)))
      ≡ terms_of l.templates l.fn.names l.fn.scope l.query l.layout (map (share_of l.layout) l.places);
}
