-- Small goals in cells, worked out.
use Rattle.std.proofs.Common.{◌≡◌, true, pos, List, [], ◌∷◌, refl}
use Rattle.le_base.specs.declared.stop.FoldKind.TheVariants.{Sum}
use Rattle.le_terms.specs.Tree.{Tree, variable, number, nil}
use Rattle.le_terms.specs.Program.{form_atom}
use Rattle.le_terms.specs.declared.program.Form.TheVariants.{Pos, Gather}
use Rattle.le_terms.specs.declared.program.Literal.{Literal}
use Rattle.le_terms.specs.declared.program.Program.{Program}
use Rattle.le_index.specs.Keys.{key_of}
use Rattle.le_store.specs.Shown as store
use Rattle.le_proofs.specs.Goals.{root_of}
use Rattle.le_goals.specs.declared.frames.Source.TheVariants.{Query}
use Rattle.le_goals.specs.declared.frames.Answers.TheVariants.{Value}
use Rattle.le_goals.specs.declared.frames.Frame.TheVariants.{Empty, Before}
use Rattle.le_goals.specs.Frames.{goals_of}
use Rattle.le_goals.specs.Shown.{goal_at, literal_of, argument_at, result_of}
use Rattle.le_goals.specs.State.{snapshot_of, query_frames}

-- the literal of predicate 20 with this argument
abbrev atom : Tree → Literal
atom tree = record { line = 7; form = Pos (record { pred = 20; args = tree ∷ [] }) }

-- the sum of the values of a variable at the cases of that literal
abbrev gather : Literal
gather = record { line = 8; form = Gather Sum (variable 1) (variable 0) (record { pred = 20; args = variable 0 ∷ [] }) }

abbrev small : List Literal → Program
small query = record { clauses = []; query = query; asked = []; vars = 2; users = 0; groups = []; version = 1 }

abbrev free : store.Snapshot
free = record { terms = variable 0 ∷ variable 1 ∷ []; variables = 0 ∷ 1 ∷ [] }

abbrev five : store.Snapshot
five = record { terms = number (pos 5) ∷ variable 1 ∷ []; variables = 0 ∷ 1 ∷ [] }

-- in new cells the second goal is the query's
query : goals_of (small (atom (variable 0) ∷ [])) free (query_frames 1) ≡ record { next = 2; literals = []; terms = [] } ∷ root_of (small (atom (variable 0) ∷ [])) ∷ []
query = refl

-- a variable that is bound shows its term
bound : goal_at (snapshot_of (small (atom (variable 0) ∷ [])) five (query_frames 1)) 1 ≡ record { next = 2; literals = atom (number (pos 5)) ∷ []; terms = [] }
bound = refl

-- a gather's atom alone, with its value for the answer
alone_goal : goal_at (snapshot_of (small (gather ∷ [])) five (Empty (Value Query 0 0) ∷ Before (record { source = Query; base = 0; from = 0; to = 1; alone = true }) 0 ∷ [])) 1
    ≡ record { next = 2; literals = record { line = 8; form = Pos (record { pred = 20; args = number (pos 5) ∷ [] }) } ∷ []; terms = number (pos 5) ∷ [] }
alone_goal = refl

-- an argument that isn't there is the empty list
missing : argument_at (snapshot_of (small (atom (variable 0) ∷ [])) five (query_frames 1)) 1 0 1 ≡ nil
missing = refl

-- the result of a gather as the cells show it
gathered : result_of (literal_of (goal_at (snapshot_of (small (gather ∷ [])) five (query_frames 1)) 1) 0).form ≡ variable 1
gathered = refl

-- the key of an atom whose first argument is a bound variable
bound_key : key_of (form_atom (literal_of (goal_at (snapshot_of (small (atom (variable 0) ∷ [])) five (query_frames 1)) 1) 0).form) ≡ 19
bound_key = refl
