-- How the conclusions and conditions of rules, facts and queries are read: this project's profile.
use Rattle.std.specs.Prelude.{ℕ, ◌-◌, ◌==◌, ◌&&◌, Bool, false, nat_lt, if◌then◌else◌, Option, Some, None, Result, Ok, Err, List, [], ◌∷◌}
use Rattle.le_base.specs.declared.code.Code.{Code}
use Rattle.le_base.specs.declared.code.Code.TheVariants.{NoReading, Again, TooMany, PredefinedHead}
use Rattle.le_base.specs.declared.stop.FoldKind.{FoldKind}
use Rattle.le_layout.specs.declared.span.Span.{Span}
use Rattle.le_base.specs.declared.stop.Refusal.{Refusal}
use Rattle.le_base.specs.Code.{code_number}
use Rattle.le_layout.specs.declared.token.Token.{Token}
use Rattle.le_layout.specs.declared.layout.Layout.{Layout}
use Rattle.le_layout.specs.Words.{tokens_of, token_of}
use Rattle.le_templates.specs.declared.part.Template.{Template}
use Rattle.le_terms.specs.declared.program.Atom.{Atom}
use Rattle.le_terms.specs.Tree.{Tree}
use Rattle.le_scope.specs.declared.scope.Intro.{Intro}
use Rattle.le_scope.specs.declared.scope.Intro.TheVariants as intro
use Rattle.le_scope.specs.Phrases.{is_phrase, is_name, phrase_name}
use Rattle.le_scope.specs.Scopes.{ScopeState, empty_scope, introduction, introduced}
use Rattle.le_match.specs.declared.readings.BestReading.{BestReading}
use Rattle.le_match.specs.declared.readings.BestReading.TheVariants as best
use Rattle.le_match.specs.Readings.{best_of}
use Rattle.le_match.specs.Terms.{Found, refused, term_of, atom_of}
use Rattle.le_conds.specs.declared.cond.CondKind.{CondKind}
use Rattle.le_conds.specs.declared.cond.CondKind.TheVariants as conds
use Rattle.le_conds.specs.declared.cond.Cond.{Cond}
use Rattle.le_conds.specs.declared.cond.Conds.{Conds}
use Rattle.le_clauses.specs.declared.part.Part.{Part}
use Rattle.le_clauses.specs.declared.part.Part.TheVariants as parts

-- the scope in which a rule, a fact or a query begins: none of its at most 64 variables is introduced
abbrev pub new_scope : ScopeState
new_scope = empty_scope 64

-- the best reading is by a predefined template
abbrev pub is_predefined : BestReading → Bool
is_predefined best.None = false
is_predefined (best.One r) = nat_lt r.pred 20
is_predefined (best.Two r s) = false

-- whether a refusal goes before one of this code at a token: it stands there and has the lesser number
abbrev pub goes_before : Refusal → Code → Token → Bool
goes_before r code t = (r.line == t.line) && ((r.column == t.column) && nat_lt (code_number r.code) (code_number code))

-- A conclusion by a predefined template is refused at its first token, unless a refusal of its phrases goes before.
abbrev pub not_predefined : Token → Result (Found Atom) Refusal → Result (Found Atom) Refusal
not_predefined first (Ok f) = refused PredefinedHead first
not_predefined first (Err r) = if goes_before r PredefinedHead first then Err r else refused PredefinedHead first

-- The atom of a conclusion in a new scope, with the names and the scope after it.
unfoldable pub head_of : List Template → List (List ℕ) → Layout → Span → Result (Found Atom) Refusal
head_of users names layout span =
    let found = atom_of users names new_scope false layout (tokens_of layout span) in
    if is_predefined (best_of users layout (tokens_of layout span)) then not_predefined (token_of layout span.from) found else found

-- a part that was read, with the names and the scope after it
abbrev pub part_found : List (List ℕ) → ScopeState → Part → Result (Found Part) Refusal
part_found names scope part = Ok (record { value = part; names = names; scope = scope })

-- the part of a sentence on a line, with its atom
abbrev pub sentence_part : ℕ → Result (Found Atom) Refusal → Result (Found Part) Refusal
sentence_part line (Ok f) = part_found f.names f.scope (parts.Sentence line f.value)
sentence_part line (Err r) = Err r

-- a gather whose value's name was introduced with this answer, refused at the word `each` where it is there or where the scope is full
abbrev pub value_part : ℕ → FoldKind → Tree → List (List ℕ) → ScopeState → Token → Intro → Result (Found Part) Refusal
value_part line fold total names scope each (intro.New n) = part_found names scope (parts.Gather line fold total n)
value_part line fold total names scope each intro.Again = refused Again each
value_part line fold total names scope each intro.Full = refused TooMany each

-- a gather whose result was read: `each` and a name introduce a variable as `a` and a name do
abbrev pub named_part : ℕ → FoldKind → Token → List ℕ → Result (Found Tree) Refusal → Result (Found Part) Refusal
named_part line fold each name (Ok f) = value_part line fold f.value f.names (introduced f.scope name) each (introduction f.scope name)
named_part line fold each name (Err r) = Err r

-- a gather's result is a phrase, and its value has a name
abbrev pub is_gather : Layout → Span → Span → Bool
is_gather layout total name = is_phrase layout (tokens_of layout total) && is_name layout (tokens_of layout name)

-- The part of a gather whose first token is this one: it is refused there where its result is no phrase or its value has no name. The result is read, and then the value's name is introduced.
abbrev pub gather_part : List Template → List (List ℕ) → ScopeState → Bool → Layout → ℕ → FoldKind → Span → Span → Result (Found Part) Refusal
gather_part users names scope query layout at fold total name =
    if is_gather layout total name
    then named_part (token_of layout at).line fold (token_of layout (name.from - 1)) (phrase_name layout (tokens_of layout name)) (term_of users names scope query layout (tokens_of layout total))
    else refused NoReading (token_of layout at)

-- the part of a condition of this kind, whose first token is this one
abbrev pub kind_part : List Template → List (List ℕ) → ScopeState → Bool → Layout → ℕ → CondKind → Result (Found Part) Refusal
kind_part users names scope query layout at (conds.Sentence span) = sentence_part (token_of layout span.from).line (atom_of users names scope query layout (tokens_of layout span))
kind_part users names scope query layout at (conds.And n) = part_found names scope (parts.And n)
kind_part users names scope query layout at (conds.Or n) = part_found names scope (parts.Or n)
kind_part users names scope query layout at conds.Not = part_found names scope (parts.Not (token_of layout at).line)
kind_part users names scope query layout at conds.ForAll = part_found names scope (parts.ForAll (token_of layout at).line)
kind_part users names scope query layout at (conds.Gather fold total name) = gather_part users names scope query layout at fold total name

-- a part before those of the conditions after it
abbrev pub onto_parts : Part → Result (Found (List Part)) Refusal → Result (Found (List Part)) Refusal
onto_parts part (Ok f) = Ok (record { value = part ∷ f.value; names = f.names; scope = f.scope })
onto_parts part (Err r) = Err r

-- The parts of conditions from left to right, or the first refusal.
abbrev pub parts_of : List Template → List (List ℕ) → ScopeState → Bool → Layout → List Cond → Result (Found (List Part)) Refusal
parts_of users names scope query layout [] = Ok (record { value = []; names = names; scope = scope })
parts_of users names scope query layout (c ∷ cs) =
    elim (kind_part users names scope query layout c.at c.kind) [
      | Ok f ↦ onto_parts f.value (parts_of users f.names f.scope query layout cs)
      | Err r ↦ Err r
    ]

-- the conditions of a rule; a fact has none
abbrev pub body_nodes : Option Conds → List Cond
body_nodes None = []
body_nodes (Some conds) = conds.nodes
