-- What is made of a part and of what is done below it, with the line and the variables. Callers don't need it.
use Rattle.std.specs.Prelude.{◌≡◌, ℕ, Bool, List, [], ◌∷◌, ◌++◌, map, flat_map}
use Rattle.le_base.specs.declared.stop.FoldKind.{FoldKind}
use Rattle.le_terms.specs.Tree.{Tree, variable}
use Rattle.le_terms.specs.Variables.{occurrences}
use Rattle.le_terms.specs.declared.program.Atom.{Atom}
use Rattle.le_terms.specs.declared.program.Literal.{Literal}
use Rattle.le_terms.specs.declared.program.Clause.{Clause}
use Rattle.le_terms.specs.declared.program.ClauseKind.TheVariants.{Written}
use Rattle.le_terms.specs.declared.program.Form.TheVariants.{Pos, Neg, Gather}
use Rattle.le_terms.specs.declared.program.GroupKind.TheVariants as groups
use Rattle.le_clauses.specs.declared.part.Part.{Part}
use Rattle.le_clauses.specs.declared.draft.Draft.{Draft}
use Rattle.le_clauses.specs.declared.draft.Done.{Done}
use Rattle.le_clauses.specs.declared.draft.Made.{Made}
use Rattle.le_clauses.specs.Groups.{literals_of, body, literal, one_body, branch_clause, group_clauses}
use Rattle.le_clauses.specs.Walks.{first_done, vars_by, line_by, head_by, draft_by, clauses_in, kinds_in}

-- what is made of a part
abbrev pub made_by : List ℕ → Bool → ℕ → Part → List Done → Made
made_by rule whole pred p ds = record { line = line_by p ds; vars = vars_by p ds; draft = draft_by rule whole pred p ds }

-- the branches of a disjunction
abbrev pub branch_made : List Done → Made
branch_made ds = record {
  line = (first_done ds).line;
  vars = flat_map (λ (d : Done). d.vars) ds;
  draft = record { bodies = map (λ (x : Done). body x.line x.literals) ds; clauses = clauses_in ds; kinds = kinds_in ds };
}

-- the members of a conjunction
abbrev pub joint_made : List Done → Made
joint_made ds = record {
  line = (first_done ds).line;
  vars = flat_map (λ (d : Done). d.vars) ds;
  draft = one_body (first_done ds).line (flat_map (λ (d : Done). d.literals) ds) (clauses_in ds) (kinds_in ds);
}

-- a disjunction that isn't the whole of a group
abbrev pub or_made : List ℕ → ℕ → Made → Made
or_made rule pred m =
    let head = head_by rule pred m.vars in
    record { line = m.line; vars = m.vars; draft = one_body m.line (literal m.line (Pos head) ∷ []) (group_clauses head m.draft ++ m.draft.clauses) (groups.Or ∷ m.draft.kinds) }

-- a negation
abbrev pub not_made : ℕ → Done → Made
not_made line g = record { line = line; vars = g.vars; draft = one_body line (literal line (Neg g.atom) ∷ []) g.clauses g.kinds }

-- a gather
abbrev pub gather_made : ℕ → FoldKind → Tree → ℕ → Done → Made
gather_made line fold total value g =
    record { line = line; vars = occurrences total ++ value ∷ g.vars; draft = one_body line (literal line (Gather fold total (variable value) g.atom) ∷ []) g.clauses g.kinds }

-- a `for all` with its two blocks
abbrev pub case_made : List ℕ → ℕ → ℕ → Done → Done → Made
case_made rule pred line first second =
    let vars = first.vars ++ second.vars in
    let head = head_by rule pred vars in
    record {
      line = line;
      vars = vars;
      draft = one_body line (literal line (Neg head) ∷ [])
          (branch_clause head (body first.line (first.literals ++ literal second.line (Neg second.atom) ∷ [])) ∷ (first.clauses ++ second.clauses))
          (groups.Case ∷ (first.kinds ++ second.kinds));
    }

-- what is done has the literals, the clauses and the kinds of a draft
pub record IsDone (d : Draft) (x : Done) : Type 0 where
  pub literals : x.literals ≡ literals_of d
  pub clauses : x.clauses ≡ d.clauses
  pub kinds : x.kinds ≡ d.kinds

-- the written clause with this head and this body
abbrev pub written : ℕ → Atom → List Literal → Clause
written line head literals = record { head = head; body = literals; vars = 0; line = line; kind = Written }
