use Rattle.std.proofs.Common.{◌≡◌, ◌+◌, ◌≤◌, length, map, take, drop}
use Rattle.le_match.specs.Terms.{member, onto_symbols, symbols_of}
use Rattle.le_match.specs.Walks.{IsLongerScope, AreSpelled}
use Rattle.le_match.proofs.lists.symbols.Given as goal

abbrev pub invariant-loop-part : goal.invariant-loop-part
invariant-loop-part l = record {
  few : length l.names ≤ length l.fn.names + l.part-index;
  front : take (length l.fn.names) l.names ≡ l.fn.names;
  scope : IsLongerScope l.fn.scope l.scope;
  spelled : AreSpelled (take l.part-index l.parts) l.found.items;
  symbols : onto_symbols l.found.items (symbols_of l.templates l.names l.scope l.query l.layout (map (member l.layout.tokens) (drop l.part-index l.parts)))
      ≡ symbols_of l.templates l.fn.names l.fn.scope l.query l.layout (map (member l.layout.tokens) l.parts);
}
