-- The phrases of an atom's arguments read back, one after another.
use Rattle.std.proofs.Common.{◌≡◌, ℕ, ◌^◌, ◌<◌, ◌≤◌, List, [], ◌∷◌, ◌++◌, map, length, slice_get, slice_index_or, Some, Ok, sym, refl, ap, ◌∙◌, subst, arith}
use Rattle.std.specs.Fmt.{signed_decimal}
use Rattle.std.proofs.lemmas.Option.{slice_get-get_or}
use Rattle.le_templates.specs.declared.part.Template.{Template}
use Rattle.le_terms.specs.Tree.{Tree, constant, number, date, variable, nil, cell}
use Rattle.le_terms.specs.Names.{HasNoRepeats}
use Rattle.le_terms.specs.Variables.{occurrences, all_occurrences}
use Rattle.le_values.specs.Days.{day_text}
use Rattle.le_values.proofs.NumberLemmas.{written}
use Rattle.le_scope.specs.Scopes.{ScopeState}
use Rattle.le_english.specs.Phrases.{word_of, name_phrase, variable_phrase, phrase_of, rest_of, phrases_of}
use Rattle.le_english.specs.Saying.{ReadsAll}
use Rattle.le_match.specs.Sayable.{IsTermToSay, AreTermsToSay}
use Rattle.le_english.specs.Atoms.{index_of, numbered, printed, scope_of}
use Rattle.le_english.proofs.DayLemmas.{day-back}
use Rattle.le_english.proofs.NameLemmas.{name-has, name-reads}
use Rattle.le_english.proofs.PhraseLemmas.{ReadsSimply, form-simple}
use Rattle.le_english.proofs.ThingLemmas.{AllSmall, index-front}
use Rattle.le_english.proofs.TreeLemmas.{ReadsAsTree, ReadsAsRest, IsSimple, leaf-tree, nil-tree, nil-rest, leaf-rest, cell-rest, cell-tree, tree-reads}
use Rattle.le_english.proofs.ValueLemmas.{number-simple, date-simple, number-reads, date-reads}
use Rattle.le_english.proofs.VariableLemmas.{Agree, IsFront, printed-has, front-next, small-next, printed-append, agree-all, front-all, front-length, variable-has, variable-reads}

-- ---- leaves

name-simple : (users : List Template) (name : List ℕ) → IsSimple (name_phrase users name)
name-simple users name layout ts e = form-simple (name_phrase users name) layout ts (name-has users name) e

variable-simple : (seen : List ℕ) (v : ℕ) → v < 2 ^ 64 → IsSimple (variable_phrase seen v)
variable-simple seen v small layout ts e = form-simple (variable_phrase seen v) layout ts (variable-has seen v small) e

-- a variable, numbered by its place among all
variable-numbered : (users : List Template) (names : List (List ℕ)) (limit : ℕ) (seen ks all : List ℕ) (v : ℕ) → v < 2 ^ 64 → AllSmall ks → Agree seen ks → length all ≤ limit → IsFront (printed ks (v ∷ [])) all → ReadsSimply users names (scope_of limit ks) (variable_phrase seen v) (variable (index_of all v)) (scope_of limit (printed ks (v ∷ [])))
variable-numbered users names limit seen ks all v small few agree room f layout ts e =
    let next = printed ks (v ∷ []) in
    let long : length next ≤ limit = omega (arith, room, front-length next all f) in
    let same : index_of next v ≡ index_of all v = sym (ap (λ xs. index_of xs v) f.whole ∙ index-front next f.more v (printed-has ks v)) in
    variable-reads users names limit seen ks v small few (agree v) long layout ts e
    ∙ ap (λ n. Ok (record { value = variable n; names = names; scope = scope_of limit next })) same

small-32 : (v : ℕ) → v < 2 ^ 32 → v < 2 ^ 64
small-32 v h = omega arith

-- the variables printed once a term is
pub small-tree : (names : List (List ℕ)) (ks : List ℕ) (tree : Tree) → AllSmall ks → IsTermToSay names tree → AllSmall (printed ks (occurrences tree))
small-tree names ks (constant n) few h = few
small-tree names ks (number z) few h = few
small-tree names ks (date d) few h = few
small-tree names ks (variable v) few h = small-next ks v few (small-32 v h)
small-tree names ks nil few h = few
small-tree names ks (cell head tail) few h =
    subst AllSmall (sym (printed-append ks (occurrences head) (occurrences tail)))
    (small-tree names (printed ks (occurrences head)) tail (small-tree names ks head few h.0) h.1)

-- ---- terms

-- what a term and the terms before it have
pub record Fits (names : List (List ℕ)) (limit : ℕ) (seen ks all : List ℕ) (tree : Tree) : Type 0 where
  pub distinct : HasNoRepeats names
  pub few : AllSmall ks
  pub agree : Agree seen ks
  pub room : length all ≤ limit
  pub sayable : IsTermToSay names tree
  pub front : IsFront (printed ks (occurrences tree)) all

fits-head : (names : List (List ℕ)) (limit : ℕ) (seen ks all : List ℕ) (head tail : Tree) → Fits names limit seen ks all (cell head tail) → Fits names limit seen ks all head
fits-head names limit seen ks all head tail f = record {
  distinct = f.distinct;
  few = f.few;
  agree = f.agree;
  room = f.room;
  sayable = f.sayable.0;
  front = front-all (printed ks (occurrences head)) (occurrences tail) all (subst (λ xs. IsFront xs all) (printed-append ks (occurrences head) (occurrences tail)) f.front);
}

fits-tail : (names : List (List ℕ)) (limit : ℕ) (seen ks all : List ℕ) (head tail : Tree) → Fits names limit seen ks all (cell head tail) → Fits names limit (seen ++ occurrences head) (printed ks (occurrences head)) all tail
fits-tail names limit seen ks all head tail f = record {
  distinct = f.distinct;
  few = small-tree names ks head f.few f.sayable.0;
  agree = agree-all seen ks (occurrences head) f.agree;
  room = f.room;
  sayable = f.sayable.1;
  front = subst (λ xs. IsFront xs all) (printed-append ks (occurrences head) (occurrences tail)) f.front;
}

named : (names : List (List ℕ)) (n : ℕ) → n < length names → slice_get names n ≡ Some (slice_index_or names n [])
named names n h = slice_get-get_or names n [] h

-- the scope after a cell
cell-scope : (limit : ℕ) (ks us vs : List ℕ) → scope_of limit (printed (printed ks us) vs) ≡ scope_of limit (printed ks (us ++ vs))
cell-scope limit ks us vs = ap (scope_of limit) (sym (printed-append ks us vs))

mutual
  pub term-tree : (users : List Template) (names : List (List ℕ)) (limit : ℕ) (seen ks all : List ℕ) (tree : Tree) → Fits names limit seen ks all tree → ReadsAsTree users names (scope_of limit ks) (phrase_of users names seen tree) (numbered all tree) (scope_of limit (printed ks (occurrences tree)))
  term-tree users names limit seen ks all (constant n) f =
      let name = slice_index_or names n [] in
      leaf-tree users names (scope_of limit ks) (scope_of limit ks) (name_phrase users name) (constant n) (name-simple users name) (name-reads users names limit n ks name f.distinct (named names n f.sayable.0) f.few)
  term-tree users names limit seen ks all (number z) f =
      let text = signed_decimal z in
      leaf-tree users names (scope_of limit ks) (scope_of limit ks) (word_of text ∷ []) (number z) (number-simple text z (written z f.sayable)) (number-reads users names (scope_of limit ks) text z (written z f.sayable))
  term-tree users names limit seen ks all (date d) f =
      let text = day_text d in
      leaf-tree users names (scope_of limit ks) (scope_of limit ks) (word_of text ∷ []) (date d) (date-simple text d (day-back d f.sayable)) (date-reads users names (scope_of limit ks) text d (day-back d f.sayable))
  term-tree users names limit seen ks all (variable v) f =
      leaf-tree users names (scope_of limit ks) (scope_of limit (printed ks (v ∷ []))) (variable_phrase seen v) (variable (index_of all v)) (variable-simple seen v (small-32 v f.sayable)) (variable-numbered users names limit seen ks all v (small-32 v f.sayable) f.few f.agree f.room f.front)
  term-tree users names limit seen ks all nil f = nil-tree users names (scope_of limit ks)
  term-tree users names limit seen ks all (cell head tail) f =
      let middle = printed ks (occurrences head) in
      let P : ScopeState → Type 0 = ReadsAsTree users names (scope_of limit ks) (phrase_of users names seen (cell head tail)) (numbered all (cell head tail)) in
      subst P (cell-scope limit ks (occurrences head) (occurrences tail))
      (cell-tree users names (scope_of limit ks) (scope_of limit middle) (scope_of limit (printed middle (occurrences tail))) (phrase_of users names seen head) (rest_of users names (seen ++ occurrences head) tail) (numbered all head) (numbered all tail)
      (term-tree users names limit seen ks all head (fits-head names limit seen ks all head tail f))
      (term-rest users names limit (seen ++ occurrences head) middle all tail (fits-tail names limit seen ks all head tail f)))

  pub term-rest : (users : List Template) (names : List (List ℕ)) (limit : ℕ) (seen ks all : List ℕ) (tree : Tree) → Fits names limit seen ks all tree → ReadsAsRest users names (scope_of limit ks) (rest_of users names seen tree) (numbered all tree) (scope_of limit (printed ks (occurrences tree)))
  term-rest users names limit seen ks all (constant n) f =
      let name = slice_index_or names n [] in
      leaf-rest users names (scope_of limit ks) (scope_of limit ks) (name_phrase users name) (constant n) (name-simple users name) (name-reads users names limit n ks name f.distinct (named names n f.sayable.0) f.few)
  term-rest users names limit seen ks all (number z) f =
      let text = signed_decimal z in
      leaf-rest users names (scope_of limit ks) (scope_of limit ks) (word_of text ∷ []) (number z) (number-simple text z (written z f.sayable)) (number-reads users names (scope_of limit ks) text z (written z f.sayable))
  term-rest users names limit seen ks all (date d) f =
      let text = day_text d in
      leaf-rest users names (scope_of limit ks) (scope_of limit ks) (word_of text ∷ []) (date d) (date-simple text d (day-back d f.sayable)) (date-reads users names (scope_of limit ks) text d (day-back d f.sayable))
  term-rest users names limit seen ks all (variable v) f =
      leaf-rest users names (scope_of limit ks) (scope_of limit (printed ks (v ∷ []))) (variable_phrase seen v) (variable (index_of all v)) (variable-simple seen v (small-32 v f.sayable)) (variable-numbered users names limit seen ks all v (small-32 v f.sayable) f.few f.agree f.room f.front)
  term-rest users names limit seen ks all nil f = nil-rest users names (scope_of limit ks)
  term-rest users names limit seen ks all (cell head tail) f =
      let middle = printed ks (occurrences head) in
      let P : ScopeState → Type 0 = ReadsAsRest users names (scope_of limit ks) (rest_of users names seen (cell head tail)) (numbered all (cell head tail)) in
      subst P (cell-scope limit ks (occurrences head) (occurrences tail))
      (cell-rest users names (scope_of limit ks) (scope_of limit middle) (scope_of limit (printed middle (occurrences tail))) (phrase_of users names seen head) (rest_of users names (seen ++ occurrences head) tail) (numbered all head) (numbered all tail)
      (term-tree users names limit seen ks all head (fits-head names limit seen ks all head tail f))
      (term-rest users names limit (seen ++ occurrences head) middle all tail (fits-tail names limit seen ks all head tail f)))

-- ---- arguments

pub arguments-read : (users : List Template) (names : List (List ℕ)) (limit : ℕ) (seen ks : List ℕ) (trees : List Tree) → HasNoRepeats names → AllSmall ks → Agree seen ks → AreTermsToSay names trees → length (printed ks (all_occurrences trees)) ≤ limit → ReadsAll users names (scope_of limit ks) (phrases_of users names seen trees) (map (numbered (printed ks (all_occurrences trees))) trees) (scope_of limit (printed ks (all_occurrences trees)))
arguments-read users names limit seen ks [] distinct few agree sayable room = refl
arguments-read users names limit seen ks (tree ∷ trees) distinct few agree sayable room =
    let us = occurrences tree in
    let vs = all_occurrences trees in
    let next = printed ks us in
    let all = printed ks (us ++ vs) in
    let steps = printed-append ks us vs in
    let front : IsFront next all = subst (λ xs. IsFront next xs) (sym steps) (front-next next vs) in
    let fits : Fits names limit seen ks all tree = record { distinct = distinct; few = few; agree = agree; room = room; sayable = sayable.0; front = front } in
    let small = small-tree names ks tree few sayable.0 in
    let P : List ℕ → Type 0 = λ xs. ReadsAll users names (scope_of limit next) (phrases_of users names (seen ++ us) trees) (map (numbered xs) trees) (scope_of limit xs) in (
      scope_of limit next,
      tree-reads users names (scope_of limit ks) (scope_of limit next) (phrase_of users names seen tree) (numbered all tree) (term-tree users names limit seen ks all tree fits),
      subst P (sym steps) (arguments-read users names limit (seen ++ us) next trees distinct small (agree-all seen ks us agree) sayable.1 (omega (arith, room, ap length steps))),
    )
