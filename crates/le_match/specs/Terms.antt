-- The term of a phrase and the atom of a sentence: this project's profile.
use Rattle.std.specs.Prelude.{ℕ, ◌-◌, Bool, false, if◌then◌else◌, Option, Some, None, Result, Ok, Err, List, [], ◌∷◌, ◌++◌, length, map, drop, slice_index_or, slice_range, codes}
use Rattle.le_base.specs.declared.code.Code.{Code}
use Rattle.le_base.specs.declared.code.Code.TheVariants.{NoReading, Ambiguous, Dangling, Again, WhichHere, TooMany}
use Rattle.le_base.specs.declared.stop.Refusal.{Refusal}
use Rattle.le_base.specs.Stop.{refusal_at}
use Rattle.le_layout.specs.declared.token.Token.{Token}
use Rattle.le_layout.specs.declared.layout.Layout.{Layout}
use Rattle.le_layout.specs.Layout.{no_token}
use Rattle.le_layout.specs.Words.{text_of}
use Rattle.le_templates.specs.declared.part.Template.{Template}
use Rattle.le_templates.specs.Table.{ends_slot}
use Rattle.le_terms.specs.Tree.{Tree, constant, number, date, variable, flat, tree_of}
use Rattle.le_terms.specs.declared.term.Sym.{Sym}
use Rattle.le_terms.specs.declared.term.Sym.TheVariants.{Nil, Cons}
use Rattle.le_terms.specs.Names.{number_of_name, entered}
use Rattle.le_terms.specs.declared.program.Atom.{Atom}
use Rattle.le_scope.specs.declared.phrase.PhraseForm.{PhraseForm}
use Rattle.le_scope.specs.declared.phrase.PhraseForm.TheVariants.{Number, Day, Quote, List as ListForm, A, The, Which, Constant}
use Rattle.le_scope.specs.declared.parts.ListPart.{ListPart}
use Rattle.le_scope.specs.declared.parts.ListPart.TheVariants.{Cell, End, Item}
use Rattle.le_scope.specs.declared.scope.Intro.{Intro}
use Rattle.le_scope.specs.declared.scope.Intro.TheVariants as intro
use Rattle.le_scope.specs.Phrases.{simple_form, phrase_form, phrase_name}
use Rattle.le_scope.specs.Parts.{parts_from}
use Rattle.le_scope.specs.Scopes.{ScopeState, place_of, introduction, introduced, introduced_by_which}
use Rattle.le_match.specs.declared.readings.Reading.{Reading}
use Rattle.le_match.specs.declared.readings.BestReading.{BestReading}
use Rattle.le_match.specs.declared.readings.BestReading.TheVariants as best
use Rattle.le_match.specs.Readings.{best_of}
use Rattle.le_match.specs.Shares.{Share, word, phrase, shares_of}
use Rattle.le_match.specs.Shown.{shown}

-- what was found in a scope, and the names and the scope after it
pub record Found (X : Type 0) : Type 0 where
  pub value : X
  pub names : List (List ℕ)
  pub scope : ScopeState

-- a refusal at a token
abbrev pub refused : {X : Type 0} → Code → Token → Result X Refusal
refused code t = Err (refusal_at code t.line t.column)

-- the first of some tokens, and the last
abbrev pub first_of : List Token → Token
first_of ts = slice_index_or ts 0 no_token

abbrev pub last_of : List Token → Token
last_of ts = slice_index_or ts (length ts - 1) no_token

-- the constant of a name, which stands last among the names where it wasn't there
abbrev pub constant_found : List (List ℕ) → ScopeState → List ℕ → Result (Found Tree) Refusal
constant_found names scope name = Ok (record { value = constant (number_of_name names name); names = entered names name; scope = scope })

-- a term that needs no new name
abbrev pub term_found : List (List ℕ) → ScopeState → Tree → Result (Found Tree) Refusal
term_found names scope term = Ok (record { value = term; names = names; scope = scope })

-- a variable that is there
abbrev pub variable_found : List (List ℕ) → ScopeState → ℕ → Result (Found Tree) Refusal
variable_found names scope n = term_found names scope (variable n)

-- the variable that was introduced by this answer, with the scope after it, or the refusal at the phrase's first token
abbrev pub by_introduction : List (List ℕ) → ScopeState → Token → Intro → Result (Found Tree) Refusal
by_introduction names scope first (intro.New n) = variable_found names scope n
by_introduction names scope first intro.Again = refused Again first
by_introduction names scope first intro.Full = refused TooMany first

-- the variable that a name introduces: refused where the name is there, else where the scope is full
abbrev pub introducing : List (List ℕ) → ScopeState → Token → List ℕ → Result (Found Tree) Refusal
introducing names scope first name = by_introduction names (introduced scope name) first (introduction scope name)

-- the variable that `which` and a name introduce, whose number is noted: refused as `introducing` is
abbrev pub asking : List (List ℕ) → ScopeState → Token → List ℕ → Result (Found Tree) Refusal
asking names scope first name = by_introduction names (introduced_by_which scope name) first (introduction scope name)

-- what `the` and a name mean: the variable where the name was introduced, else nothing where some slot of the user's templates ends with the name's last word, else the constant of `the` and the name
abbrev pub by_place : List Template → List (List ℕ) → ScopeState → Token → List ℕ → List ℕ → Option ℕ → Result (Found Tree) Refusal
by_place users names scope first last name (Some n) = variable_found names scope n
by_place users names scope first last name None =
    if ends_slot users last then refused Dangling first else constant_found names scope (codes "the " ++ name)

-- the term of a phrase without brackets of this form
abbrev pub by_simple_form : List Template → List (List ℕ) → ScopeState → Bool → Layout → List Token → Option PhraseForm → Result (Found Tree) Refusal
by_simple_form users names scope query layout ts (Some (Number n)) = term_found names scope (number n)
by_simple_form users names scope query layout ts (Some (Day day)) = term_found names scope (date day)
by_simple_form users names scope query layout ts (Some Quote) = constant_found names scope (text_of layout (first_of ts))
by_simple_form users names scope query layout ts (Some A) = introducing names scope (first_of ts) (phrase_name layout (drop 1 ts))
by_simple_form users names scope query layout ts (Some Which) =
    if query then asking names scope (first_of ts) (phrase_name layout (drop 1 ts)) else refused WhichHere (first_of ts)
by_simple_form users names scope query layout ts (Some The) =
    let name = phrase_name layout (drop 1 ts) in
    by_place users names scope (first_of ts) (text_of layout (last_of ts)) name (place_of scope name)
by_simple_form users names scope query layout ts (Some Constant) = constant_found names scope (phrase_name layout ts)
by_simple_form users names scope query layout ts _ = refused NoReading (first_of ts)

-- the term of a phrase without brackets
abbrev pub simple_term : List Template → List (List ℕ) → ScopeState → Bool → Layout → List Token → Result (Found Tree) Refusal
simple_term users names scope query layout ts = by_simple_form users names scope query layout ts (simple_form layout ts)

-- what a list's term is made of, in preorder: a cell, whose two terms follow, the empty list, or the term of a phrase without brackets
pub data Member : Type 0 where
  next_cell : Member
  list_end : Member
  item : List Token → Member

-- a part of a list among these tokens
abbrev pub member : List Token → ListPart → Member
member ts Cell = next_cell
member ts End = list_end
member ts (Item span) = item (slice_range ts span.from span.to)

-- the parts of the list that tokens are
abbrev pub members : List Token → List Member
members ts = map (member ts) (parts_from 0 false [] ts)

-- a term's symbols
abbrev pub symbols_found : Result (Found Tree) Refusal → Result (Found (List Sym)) Refusal
symbols_found (Ok f) = Ok (record { value = flat f.value; names = f.names; scope = f.scope })
symbols_found (Err refusal) = Err refusal

-- the symbols of a part of a list
abbrev pub member_found : List Template → List (List ℕ) → ScopeState → Bool → Layout → Member → Result (Found (List Sym)) Refusal
member_found users names scope query layout next_cell = Ok (record { value = Cons ∷ []; names = names; scope = scope })
member_found users names scope query layout list_end = Ok (record { value = Nil ∷ []; names = names; scope = scope })
member_found users names scope query layout (item ts) = symbols_found (simple_term users names scope query layout ts)

-- symbols before what is found for the parts that follow
abbrev pub onto_symbols : List Sym → Result (Found (List Sym)) Refusal → Result (Found (List Sym)) Refusal
onto_symbols symbols (Ok f) = Ok (record { value = symbols ++ f.value; names = f.names; scope = f.scope })
onto_symbols symbols (Err refusal) = Err refusal

-- the symbols of a list's parts from left to right, or the first refusal
abbrev pub symbols_of : List Template → List (List ℕ) → ScopeState → Bool → Layout → List Member → Result (Found (List Sym)) Refusal
symbols_of users names scope query layout [] = Ok (record { value = []; names = names; scope = scope })
symbols_of users names scope query layout (m ∷ ms) =
    elim (member_found users names scope query layout m) [
      | Ok f ↦ onto_symbols f.value (symbols_of users f.names f.scope query layout ms)
      | Err refusal ↦ Err refusal
    ]

-- the term of symbols
abbrev pub tree_found : Result (Found (List Sym)) Refusal → Result (Found Tree) Refusal
tree_found (Ok f) = Ok (record { value = tree_of f.value; names = f.names; scope = f.scope })
tree_found (Err refusal) = Err refusal

-- the term of a phrase of this form: a list's is the term of the symbols of its parts
abbrev pub by_form : List Template → List (List ℕ) → ScopeState → Bool → Layout → List Token → Option PhraseForm → Result (Found Tree) Refusal
by_form users names scope query layout ts (Some ListForm) = tree_found (symbols_of users names scope query layout (members ts))
by_form users names scope query layout ts form = by_simple_form users names scope query layout ts form

-- The term of a phrase in a scope, with the names and the scope after it, or the first refusal in it, at the first token of the phrase without brackets that is refused.
unfoldable pub term_of : List Template → List (List ℕ) → ScopeState → Bool → Layout → List Token → Result (Found Tree) Refusal
term_of users names scope query layout ts = by_form users names scope query layout ts (phrase_form layout ts)

-- a term before what is found for the phrases after it
abbrev pub onto_terms : Tree → Result (Found (List Tree)) Refusal → Result (Found (List Tree)) Refusal
onto_terms term (Ok f) = Ok (record { value = term ∷ f.value; names = f.names; scope = f.scope })
onto_terms term (Err refusal) = Err refusal

-- the terms of the phrases that a template's slots take, from left to right, or the first refusal
abbrev pub terms_of : List Template → List (List ℕ) → ScopeState → Bool → Layout → List Share → Result (Found (List Tree)) Refusal
terms_of users names scope query layout [] = Ok (record { value = []; names = names; scope = scope })
terms_of users names scope query layout (word t ∷ rest) = terms_of users names scope query layout rest
terms_of users names scope query layout (phrase ts ∷ rest) =
    elim (term_of users names scope query layout ts) [
      | Ok f ↦ onto_terms f.value (terms_of users f.names f.scope query layout rest)
      | Err refusal ↦ Err refusal
    ]

-- the atom of a predicate and terms
abbrev pub atom_found : ℕ → Result (Found (List Tree)) Refusal → Result (Found Atom) Refusal
atom_found pred (Ok f) = Ok (record { value = record { pred = pred; args = f.value }; names = f.names; scope = f.scope })
atom_found pred (Err refusal) = Err refusal

-- the refusal of a sentence with two best readings or more, which shows the first two
abbrev pub ambiguous : List Template → Layout → List Token → Reading → Reading → Refusal
ambiguous users layout ts r s =
    record { code = Ambiguous; line = (first_of ts).line; column = (first_of ts).column; first = shown users layout ts r; second = shown users layout ts s }

-- the atom of a sentence's single best reading, its slots' terms taken from left to right
abbrev pub by_best : List Template → List (List ℕ) → ScopeState → Bool → Layout → List Token → BestReading → Result (Found Atom) Refusal
by_best users names scope query layout ts best.None = refused NoReading (first_of ts)
by_best users names scope query layout ts (best.One r) =
    atom_found r.pred (terms_of users names scope query layout (shares_of users ts r))
by_best users names scope query layout ts (best.Two r s) = Err (ambiguous users layout ts r s)

-- The atom of a sentence in a scope, with the names and the scope after it, or the refusal: where there is no reading or more than one best, and that of the first slot whose phrase is refused.
unfoldable pub atom_of : List Template → List (List ℕ) → ScopeState → Bool → Layout → List Token → Result (Found Atom) Refusal
atom_of users names scope query layout ts = by_best users names scope query layout ts (best_of users layout ts)
