use Rattle.std.proofs.Common.{◌≡◌, ◌++◌, map, reverse, vec_len}
use Rattle.std.specs.List.{flat_map}
use Rattle.le_clauses.specs.declared.draft.Done.{Done}
use Rattle.le_clauses.specs.Groups.{body}
use Rattle.le_clauses.specs.Walks.{clauses_in, kinds_in}
use Rattle.le_clauses.proofs.drafting.branched.Given as goal

-- what is there so far with what is left is all
abbrev pub invariant-loop-done : goal.invariant-loop-done
invariant-loop-done l = record {
  vars : l.vars.items ++ flat_map (λ (d : Done). d.vars) (reverse l.rest.items) ≡ flat_map (λ (d : Done). d.vars) l.fn.taken.items;
  bodies : l.bodies.items ++ map (λ (d : Done). body d.line d.literals) (reverse l.rest.items) ≡ map (λ (d : Done). body d.line d.literals) l.fn.taken.items;
  clauses : l.clauses.items ++ clauses_in (reverse l.rest.items) ≡ clauses_in l.fn.taken.items;
  kinds : l.kinds.items ++ kinds_in (reverse l.rest.items) ≡ kinds_in l.fn.taken.items;
}

abbrev pub decreases-loop-done : goal.decreases-loop-done
decreases-loop-done l = vec_len l.rest
