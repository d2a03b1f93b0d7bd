use Rattle.std.proofs.Common.{◌≡◌, ◌+◌, ◌<◌, ◌≤◌, drop}
use Rattle.std.specs.Option.{option_map}
use Rattle.le_terms.proofs.Spans.{span}
use Rattle.le_terms.proofs.term.first_term_len.Given as goal

-- the symbols so far, with the first wanted trees after them, are those of one tree
abbrev pub invariant-loop-place : goal.invariant-loop-place
invariant-loop-place l = record {
  all : span 1 l.syms ≡ option_map (λ n. l.place + n) (span l.wanted (drop l.place l.syms));
  some : 0 < l.wanted;
  few : l.wanted ≤ l.place + 1;
}
