-- Literals whose atoms have their templates and whose constants have names stay so under substitutions.
use Rattle.std.proofs.Common.{◌≡◌, ℕ, ◌+◌, ◌<◌, true, List, [], ◌∷◌, ◌++◌, length, sym, subst}
use Rattle.std.specs.List.{AllByRecursion}
use Rattle.le_templates.specs.declared.part.Part.{Part}
use Rattle.le_templates.specs.declared.part.Part.TheVariants.{Word, Slot}
use Rattle.le_templates.specs.declared.part.Template.{Template}
use Rattle.le_templates.specs.Table.{in_use}
use Rattle.le_terms.specs.Tree.{Tree}
use Rattle.le_terms.specs.Program.{form_atom, form_terms, literals_terms}
use Rattle.le_terms.specs.declared.program.Atom.{Atom}
use Rattle.le_terms.specs.declared.program.Clause.{Clause}
use Rattle.le_terms.specs.declared.program.Form.{Form}
use Rattle.le_terms.specs.declared.program.Form.TheVariants.{Pos, Neg, Calc, Gather}
use Rattle.le_terms.specs.declared.program.Literal.{Literal}
use Rattle.le_match.specs.Readings.{parts_at}
use Rattle.le_match.specs.Sayable.{HasTerms, HasTemplate, IsLiteralToSay, IsClauseToSay}
use Rattle.le_proofs.specs.Goals.{Goal, Picked, terms_under, atom_under, form_under, literals_under, raised, put_in_place, rest_of, sub_goal, rest_by, rest_goal, resolvent_by}
use Rattle.le_subst.specs.Unifiers.{Bindings, value_at}
use Rattle.le_proofs.proofs.Alls.{all-left, all-right, all-both}
use Rattle.le_english.proofs.NamedTerms.{IsNamed, AreNamed, MapsNamed, terms-named, replaced-named, under-named}

terms-under : (by : ℕ → Tree) (parts : List Part) (trees : List Tree) → HasTerms parts trees → HasTerms parts (terms_under by trees)
terms-under by [] [] h = tt
terms-under by [] (tree ∷ trees) h = absurd h
terms-under by (Word w ∷ parts) trees h = terms-under by parts trees h
terms-under by (Slot s ∷ parts) [] h = absurd h
terms-under by (Slot s ∷ parts) (tree ∷ trees) h = terms-under by parts trees h

module _ (users : List Template) (names : List (List ℕ)) where
  -- an atom has its template, and its constants have names
  abbrev pub AtomFits : Atom → Type 0
  AtomFits atom = HasTemplate users atom × AreNamed names atom.args

  abbrev pub FormFits : Form → Type 0
  FormFits form = HasTemplate users (form_atom form) × AreNamed names (form_terms form)

  abbrev pub LiteralFits : Literal → Type 0
  LiteralFits literal = FormFits literal.form

  abbrev pub AllFit : List Literal → Type 0
  AllFit literals = AllByRecursion LiteralFits literals

  pub record GoalFits (goal : Goal) : Type 0 where
    pub literals : AllFit goal.literals
    pub terms : AreNamed names goal.terms

  template-under : (by : ℕ → Tree) (atom : Atom) → HasTemplate users atom → HasTemplate users (atom_under by atom)
  template-under by atom has low = ((has low).0, terms-under by (parts_at users atom.pred) atom.args (has low).1)

  pub atom-under : (by : ℕ → Tree) → MapsNamed names by → (atom : Atom) → AtomFits atom → AtomFits (atom_under by atom)
  atom-under by maps atom h = (template-under by atom h.0, under-named names by maps atom.args h.1)

  form-under : (by : ℕ → Tree) → MapsNamed names by → (form : Form) → FormFits form → FormFits (form_under by form)
  form-under by maps (Pos atom) h = atom-under by maps atom h
  form-under by maps (Neg atom) h = atom-under by maps atom h
  form-under by maps (Calc atom) h = atom-under by maps atom h
  form-under by maps (Gather fold result value atom) h =
      (template-under by atom h.0, (replaced-named names by maps result h.1.0, (replaced-named names by maps value h.1.1.0, under-named names by maps atom.args h.1.1.1)))

  pub literals-under : (by : ℕ → Tree) → MapsNamed names by → (literals : List Literal) → AllFit literals → AllFit (literals_under by literals)
  literals-under by maps [] h = tt
  literals-under by maps (literal ∷ literals) h = (form-under by maps literal.form h.0, literals-under by maps literals h.1)

  -- the literals around a selected one, and others in its place
  pub record AroundFits (picked : Picked Literal) : Type 0 where
    pub before : AllFit picked.before
    pub chosen : LiteralFits picked.chosen
    pub behind : AllFit picked.behind

  pub around : (picked : Picked Literal) → AllFit (picked.before ++ picked.chosen ∷ picked.behind) → AroundFits picked
  around picked h =
      let rest : AllFit (picked.chosen ∷ picked.behind) = all-right LiteralFits picked.before (picked.chosen ∷ picked.behind) h in
      record { before = all-left LiteralFits picked.before (picked.chosen ∷ picked.behind) h; chosen = rest.0; behind = rest.1 }

  put-fits : (picked : Picked Literal) (new : List Literal) → AroundFits picked → AllFit new → AllFit (put_in_place picked new)
  put-fits picked new h fits = all-both LiteralFits picked.before (new ++ picked.behind) h.before (all-both LiteralFits new picked.behind fits h.behind)

  pub resolvent-fits : (goal : Goal) (picked : Picked Literal) (clause : Clause) (bindings : Bindings) → AroundFits picked → AreNamed names goal.terms → AllFit clause.body → MapsNamed names (value_at bindings) → GoalFits (resolvent_by goal picked clause bindings)
  resolvent-fits goal picked clause bindings h terms body maps = record {
    literals = literals-under (value_at bindings) maps (put_in_place picked (literals_under (raised goal.next) clause.body)) (put-fits picked (literals_under (raised goal.next) clause.body) h (literals-under (raised goal.next) (λ v. tt) clause.body body));
    terms = under-named names (value_at bindings) maps goal.terms terms;
  }

  pub rest-fits : (goal : Goal) (picked : Picked Literal) (bindings : Bindings) → AroundFits picked → AreNamed names goal.terms → MapsNamed names (value_at bindings) → GoalFits (rest_by goal picked bindings)
  rest-fits goal picked bindings h terms maps = record {
    literals = literals-under (value_at bindings) maps (rest_of picked) (put-fits picked [] h tt);
    terms = under-named names (value_at bindings) maps goal.terms terms;
  }

  pub rest_goal-fits : (goal : Goal) (picked : Picked Literal) → AroundFits picked → AreNamed names goal.terms → GoalFits (rest_goal goal picked)
  rest_goal-fits goal picked h terms = record { literals = put-fits picked [] h tt; terms = terms }

  pub sub-fits : (goal : Goal) (line : ℕ) (atom : Atom) (terms : List Tree) → AtomFits atom → AreNamed names terms → GoalFits (sub_goal goal line atom terms)
  sub-fits goal line atom terms h named = record { literals = (h, tt); terms = named }

  -- ---- what a program has

  pub literal-fits : (literal : Literal) → IsLiteralToSay users names literal → LiteralFits literal
  literal-fits literal is = (is.template, terms-named names (form_terms literal.form) is.terms)

  pub query-fits : (literals : List Literal) → AllByRecursion (IsLiteralToSay users names) literals → AllFit literals
  query-fits [] h = tt
  query-fits (literal ∷ literals) h = (literal-fits literal h.0, query-fits literals h.1)

  literals-fit : (literals : List Literal) → AllByRecursion (λ literal. HasTemplate users (form_atom literal.form)) literals → AreNamed names (literals_terms literals) → AllFit literals
  literals-fit [] h named = tt
  literals-fit (literal ∷ literals) h named =
      ((h.0, all-left (IsNamed names) (form_terms literal.form) (literals_terms literals) named), literals-fit literals h.1 (all-right (IsNamed names) (form_terms literal.form) (literals_terms literals) named))

  clause-terms : (clause : Clause) → IsClauseToSay users names clause → AreNamed names (clause.head.args ++ literals_terms clause.body)
  clause-terms clause is = terms-named names (clause.head.args ++ literals_terms clause.body) is.terms

  pub head-fits : (clause : Clause) → IsClauseToSay users names clause → AreNamed names clause.head.args
  head-fits clause is = all-left (IsNamed names) clause.head.args (literals_terms clause.body) (clause-terms clause is)

  -- the body of a clause for an atom that has its template
  pub body-fits : (clause : Clause) (atom : Atom) → IsClauseToSay users names clause → clause.head.pred ≡ atom.pred → HasTemplate users atom → AllFit clause.body
  body-fits clause atom is same has =
      literals-fit clause.body
      (is.body (λ low. subst (λ p. in_use users p ≡ true) (sym same) (has (subst (λ p. p < 20 + length users) same low)).0))
      (all-right (IsNamed names) clause.head.args (literals_terms clause.body) (clause-terms clause is))
