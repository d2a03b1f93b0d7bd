-- The symbols of a list's parts from left to right, and the term that they are.
use Rattle.std.proofs.lemmas.Bool.{cond-true, le-leb}
use Rattle.std.proofs.Common.{◌≡◌, ℕ, nat_le, zero, suc, ◌+◌, ◌-◌, ◌≤◌, Bool, true, false, cond, Option, Some, None, Result, Ok, Err, List, [], ◌∷◌, ◌++◌, length, map, take, drop, sym, refl, ap, ◌∙◌, arith, append_assoc, append-nil}
use Rattle.std.proofs.lemmas.List.{take-take, drop-drop, length-take}
use Rattle.std.specs.List.{AllByRecursion}
use Rattle.le_base.specs.declared.stop.Refusal.{Refusal}
use Rattle.le_layout.specs.declared.span.Span.{Span}
use Rattle.le_layout.specs.declared.token.Kind.{Kind}
use Rattle.le_layout.specs.declared.token.Kind.TheVariants as kinds
use Rattle.le_layout.specs.declared.token.Token.{Token}
use Rattle.le_layout.specs.declared.layout.Layout.{Layout}
use Rattle.le_layout.specs.Words.{tokens_of}
use Rattle.le_templates.specs.declared.part.Template.{Template}
use Rattle.le_terms.specs.Tree.{Tree, nil, cell, flat, tree_of, IsTerm, IsTerm-flat, IsInRange}
use Rattle.le_terms.specs.declared.term.Sym.{Sym}
use Rattle.le_terms.specs.declared.term.Sym.TheVariants.{Cons}
use Rattle.le_scope.specs.declared.parts.ListPart.{ListPart}
use Rattle.le_scope.specs.declared.parts.ListPart.TheVariants.{Cell, End, Item}
use Rattle.le_scope.specs.Lists.{ends_item, until_end}
use Rattle.le_scope.specs.Parts.{passed, closes_next, part_at, opened_after, inside_after, with_part, parts_from, parts_of_list, one_more, paired, term_count}
use Rattle.le_scope.specs.Scopes.{ScopeState}
use Rattle.le_match.specs.Terms.{Found, Member, item, member, members, member_found, onto_symbols, symbols_of}
use Rattle.le_match.specs.Walks.{IsLongerBy, IsPartSpelled, AreSpelled}

-- ---- the symbols found so far

-- what is found with other symbols
abbrev pub with_symbols : Found (List Sym) → List Sym → Result (Found (List Sym)) Refusal
with_symbols f symbols = Ok (record { value = symbols; names = f.names; scope = f.scope })

pub onto_none : (done : List Sym) (r : Result (Found (List Sym)) Refusal) → done ≡ [] → onto_symbols done r ≡ r
onto_none done r e = ap (λ d. onto_symbols d r) e ∙ same r
  where
    same : (q : Result (Found (List Sym)) Refusal) → onto_symbols [] q ≡ q
    same (Ok f) = refl
    same (Err refusal) = refl

pub onto_more : (done more all : List Sym) (r : Result (Found (List Sym)) Refusal) → all ≡ done ++ more → onto_symbols all r ≡ onto_symbols done (onto_symbols more r)
onto_more done more all r e = ap (λ d. onto_symbols d r) e ∙ same r
  where
    same : (q : Result (Found (List Sym)) Refusal) → onto_symbols (done ++ more) q ≡ onto_symbols done (onto_symbols more q)
    same (Ok f) = ap (λ v. with_symbols f v) (append_assoc done more f.value)
    same (Err refusal) = refl

-- the next part has symbols
pub symbols_next : (us : List Template) (names : List (List ℕ)) (scope : ScopeState) (query : Bool) (l : Layout) (all rest : List Member) (m : Member) (f : Found (List Sym)) → all ≡ m ∷ rest → member_found us names scope query l m ≡ Ok f → symbols_of us names scope query l all ≡ onto_symbols f.value (symbols_of us f.names f.scope query l rest)
symbols_next us names scope query l all rest m f e h =
    ap (symbols_of us names scope query l) e
    ∙ ap (λ r. elim r as (λ _. Result (Found (List Sym)) Refusal) [ Ok f ↦ onto_symbols f.value (symbols_of us f.names f.scope query l rest) | Err refusal ↦ Err refusal ]) h

-- and where it is refused
pub symbols_refused : (us : List Template) (names : List (List ℕ)) (scope : ScopeState) (query : Bool) (l : Layout) (all rest : List Member) (m : Member) (r : Refusal) → all ≡ m ∷ rest → member_found us names scope query l m ≡ Err r → symbols_of us names scope query l all ≡ Err r
symbols_refused us names scope query l all rest m r e h =
    ap (symbols_of us names scope query l) e
    ∙ ap (λ r. elim r as (λ _. Result (Found (List Sym)) Refusal) [ Ok f ↦ onto_symbols f.value (symbols_of us f.names f.scope query l rest) | Err refusal ↦ Err refusal ]) h

-- ---- symbols that are terms

-- the symbols of one part more
pub spelled_more : (ps : List ListPart) (p : ListPart) (found more all : List Sym) → AreSpelled ps found → IsPartSpelled p more → all ≡ found ++ more → AreSpelled (ps ++ p ∷ []) all
spelled_more [] p found more all h k e = (more, [], e ∙ ap (λ s. s ++ more) h ∙ sym (append-nil more), k, refl)
spelled_more (q ∷ ps) p found more all (front, back, same, first, rest) k e =
    (front, back ++ more, e ∙ ap (λ s. s ++ more) same ∙ append_assoc front back more, first, spelled_more ps p back more (back ++ more) rest k refl)

-- the symbols of trees, one tree after another
abbrev pub flats : List Tree → List Sym
flats [] = []
flats (t ∷ ts) = flat t ++ flats ts

-- symbols that are so many terms, one after another
pub record AreTerms (n : ℕ) (symbols : List Sym) : Type 0 where
  pub trees : List Tree
  pub same : symbols ≡ flats trees
  pub many : length trees ≡ n
  pub in_range : AllByRecursion IsInRange trees

one_term : (o : Option ℕ) (n : ℕ) (t : Tree) (front back all : List Sym) → one_more o ≡ Some n → front ≡ flat t → IsInRange t → all ≡ front ++ back → ((m : ℕ) → o ≡ Some m → AreTerms m back) → AreTerms n all
one_term None n t front back all e f r a h = absurd (cc)
one_term (Some m) n t front back all e f r a h =
    let k = h m refl in
    let is : m + 1 ≡ n = cc in
    let many = k.many in
    record { trees = t ∷ k.trees; same = a ∙ ap (λ s. s ++ back) f ∙ ap (λ s. flat t ++ s) k.same; many = omega (arith, many, is); in_range = (r, k.in_range) }

pair_is : (m n : ℕ) → paired (Some (suc (suc m))) ≡ Some n → suc m ≡ n
pair_is m n e =
    let there : paired (Some (suc (suc m))) ≡ Some (suc m) =
    cond-true (nat_le 2 (suc (suc m))) (Some (suc (suc m) - 1)) None (le-leb 2 (suc (suc m)) (omega arith)) ∙ ap Some (let g : suc (suc m) - 1 ≡ suc m = omega arith in g) in
    let same : Some (suc m) ≡ Some n = sym there ∙ e in
    cc

one_cell : (m n : ℕ) (back all : List Sym) → paired (Some m) ≡ Some n → all ≡ Cons ∷ back → (k : AreTerms m back) → AreTerms n all
one_cell zero n back all e a k = absurd (cc)
one_cell (suc zero) n back all e a k = absurd (cc)
one_cell (suc (suc m)) n back all e a k = by k.trees (pair_is m n e) k.same k.many k.in_range
  where
    by : (ts : List Tree) → suc m ≡ n → back ≡ flats ts → length ts ≡ suc (suc m) → AllByRecursion IsInRange ts → AreTerms n all
    by [] is s c r = absurd (omega (arith, c))
    by (t ∷ []) is s c r = absurd (omega (arith, c))
    by (t ∷ u ∷ ts) is s c r =
        record { trees = cell t u ∷ ts; same = a ∙ ap (λ s. Cons ∷ s) s ∙ ap (λ s. Cons ∷ s) (sym (append_assoc (flat t) (flat u) (flats ts))); many = omega (arith, c, is); in_range = ((r.0, r.1.0), r.1.1) }

cell_term : (o : Option ℕ) (n : ℕ) (back all : List Sym) → paired o ≡ Some n → all ≡ Cons ∷ back → ((m : ℕ) → o ≡ Some m → AreTerms m back) → AreTerms n all
cell_term None n back all e a h = absurd (cc)
cell_term (Some m) n back all e a h = one_cell m n back all e a (h m refl)

-- the symbols of parts that are so many terms
pub terms_are : (ps : List ListPart) (symbols : List Sym) (n : ℕ) → AreSpelled ps symbols → term_count ps ≡ Some n → AreTerms n symbols
terms_are [] symbols n h e = let is : 0 ≡ n = cc in record { trees = []; same = h; many = is; in_range = tt }
terms_are (Cell ∷ ps) symbols n (front, back, same, first, rest) e =
    cell_term (term_count ps) n back symbols e (same ∙ ap (λ s. s ++ back) first) (λ m. terms_are ps back m rest)
terms_are (End ∷ ps) symbols n (front, back, same, first, rest) e =
    one_term (term_count ps) n nil front back symbols e first tt same (λ m. terms_are ps back m rest)
terms_are (Item span ∷ ps) symbols n (front, back, same, first, rest) e =
    one_term (term_count ps) n (tree_of front) front back symbols e (sym first.whole) first.in_range same (λ m. terms_are ps back m rest)

-- one term
pub term_is : (symbols : List Sym) → AreTerms 1 symbols → IsTerm symbols
term_is symbols k = by k.trees k.same k.many k.in_range
  where
    by : (ts : List Tree) → symbols ≡ flats ts → length ts ≡ 1 → AllByRecursion IsInRange ts → IsTerm symbols
    by [] s c r = absurd (omega (arith, c))
    by (t ∷ []) s c r = IsTerm-flat t symbols (s ∙ append-nil (flat t)) r.0
    by (t ∷ u ∷ ts) s c r = absurd (omega (arith, c))

-- ---- the parts of tokens, wherever these stand

-- tokens stand at a place of others
abbrev pub StandAt : List Token → ℕ → List Token → Type 0
StandAt all place ts = (k : ℕ) → k ≤ length ts → take k (drop place all) ≡ take k ts

stand_on : (all : List Token) (place : ℕ) (t : Token) (ts : List Token) → StandAt all place (t ∷ ts) → StandAt all (place + 1) ts
stand_on all place t ts h = λ k low.
    sym (ap (take k) (drop-drop 1 place all ∙ ap (λ n. drop n all) (let g : place + 1 ≡ place + 1 = refl in g)))
    ∙ one k (drop place all) (h (suc k) (omega arith))
  where
    one : (k : ℕ) (xs : List Token) → take (suc k) xs ≡ t ∷ take k ts → take k (drop 1 xs) ≡ take k ts
    one k [] e = absurd (cc)
    one k (x ∷ xs) e = ap (drop 1) e

until_within : (t : Token) (ts : List Token) → until_end ts ≤ length ts
until_within t [] = omega arith
until_within t (u ∷ us) = let h = until_within t us in cases (ends_item u.kind) h
  where
    cases : (b : Bool) → until_end us ≤ length us → cond b 0 (until_end us + 1) ≤ length (u ∷ us)
    cases true h = omega arith
    cases false h = omega (arith, h)

-- the same part, or none
abbrev SameParts : List Token → List Token → Option ListPart → Option ListPart → Type 0
SameParts all base o p = map (member all) (with_part o []) ≡ map (member base) (with_part p [])

item_is : (all base : List Token) (m n : ℕ) (t : Token) (ts : List Token) (inside : Bool) → StandAt all m (t ∷ ts) → StandAt base n (t ∷ ts) → SameParts all base (cond inside None (Some (Item (record { from = m; to = m + 1 + until_end ts })))) (cond inside None (Some (Item (record { from = n; to = n + 1 + until_end ts }))))
item_is all base m n t ts true h k = refl
item_is all base m n t ts false h k =
    let c = 1 + until_end ts in
    let low = until_within t ts in
    let size : c ≤ length (t ∷ ts) = omega (arith, low) in
    let there : m + 1 + until_end ts - m ≡ c = omega arith in
    let here : n + 1 + until_end ts - n ≡ c = omega arith in
    ap (λ s. item s ∷ []) (ap (λ d. take d (drop m all)) there ∙ h c size ∙ sym (k c size) ∙ ap (λ d. take d (drop n base)) (sym here))

same_cases : (all base : List Token) (b : Bool) (o p : Option ListPart) → SameParts all base o o → SameParts all base p p → SameParts all base (cond b o p) (cond b o p)
same_cases all base true o p h k = h
same_cases all base false o p h k = k

token_part : (all base : List Token) (m n : ℕ) (t : Token) (ts : List Token) (kind : Kind) (inside bar : Bool) → StandAt all m (t ∷ ts) → StandAt base n (t ∷ ts) → SameParts all base (part_at kind m inside bar ts) (part_at kind n inside bar ts)
token_part all base m n t ts kinds.Word inside bar h k = item_is all base m n t ts inside h k
token_part all base m n t ts kinds.Quote inside bar h k = item_is all base m n t ts inside h k
token_part all base m n t ts kinds.Open inside bar h k = same_cases all base (closes_next ts) (Some End) (Some Cell) refl refl
token_part all base m n t ts kinds.Close inside bar h k = same_cases all base bar None (Some End) refl refl
token_part all base m n t ts kinds.Comma inside bar h k = refl
token_part all base m n t ts kinds.Bar inside bar h k = refl
token_part all base m n t ts kinds.Colon inside bar h k = item_is all base m n t ts inside h k
token_part all base m n t ts kinds.Star inside bar h k = item_is all base m n t ts inside h k
token_part all base m n t ts kinds.Stop inside bar h k = item_is all base m n t ts inside h k

with_same : (all base : List Token) (o p : Option ListPart) (xs us : List ListPart) → SameParts all base o p → map (member all) xs ≡ map (member base) us → map (member all) (with_part o xs) ≡ map (member base) (with_part p us)
with_same all base None None xs us e h = h
with_same all base None (Some p) xs us e h = absurd (cc)
with_same all base (Some o) None xs us e h = absurd (cc)
with_same all base (Some o) (Some p) xs us e h = ap (λ s. s ++ map (member all) xs) e ∙ ap (λ s. member base p ∷ s) h

-- the parts of tokens are the same, whatever the number of the first of them
pub parts_anywhere : (all base : List Token) (m n : ℕ) (inside : Bool) (opened : List Bool) (ts : List Token) → StandAt all m ts → StandAt base n ts → map (member all) (parts_from m inside opened ts) ≡ map (member base) (parts_from n inside opened ts)
parts_anywhere all base m n inside opened [] h k = refl
parts_anywhere all base m n inside opened (t ∷ ts) h k =
    let then = opened_after t.kind (closes_next ts) opened in
    with_same all base (part_at t.kind m inside (passed opened) ts) (part_at t.kind n inside (passed opened) ts)
    (parts_from (m + 1) (inside_after t.kind) then ts) (parts_from (n + 1) (inside_after t.kind) then ts)
    (token_part all base m n t ts t.kind inside (passed opened) h k)
    (parts_anywhere all base (m + 1) (n + 1) (inside_after t.kind) then ts (stand_on all m t ts h) (stand_on base n t ts k))

-- the parts of the list that the tokens of a span are
pub parts_of_span : (l : Layout) (span : Span) → map (member l.tokens) (parts_of_list l span) ≡ members (tokens_of l span)
unfolding parts_of_list
parts_of_span l span =
    let all = l.tokens in
    let ts = tokens_of l span in
    parts_anywhere all ts span.from 0 false [] ts
    (λ (k : ℕ) (low : k ≤ length ts). (let short = length-take (span.to - span.from) (drop span.from all) in let le : k ≤ span.to - span.from = omega (arith, low, short) in sym (take-take k (span.to - span.from) (drop span.from all) le)))
    (λ k low. refl)

-- ---- how many parts there are

with_few : (o : Option ListPart) (ps : List ListPart) (n : ℕ) → length ps ≤ n → length (with_part o ps) ≤ n + 1
with_few None ps n h = omega (arith, h)
with_few (Some p) ps n h = omega (arith, h)

few_from : (place : ℕ) (inside : Bool) (opened : List Bool) (ts : List Token) → length (parts_from place inside opened ts) ≤ length ts
few_from place inside opened [] = omega arith
few_from place inside opened (t ∷ ts) =
    let then = opened_after t.kind (closes_next ts) opened in
    let g = with_few (part_at t.kind place inside (passed opened) ts) (parts_from (place + 1) (inside_after t.kind) then ts) (length ts) (few_from (place + 1) (inside_after t.kind) then ts) in
    omega (arith, g)

-- a list has no more parts than tokens
pub parts_few : (l : Layout) (span : Span) → length (parts_of_list l span) ≤ span.to - span.from
unfolding parts_of_list
parts_few l span =
    let g = few_from span.from false [] (tokens_of l span) in
    let short = length-take (span.to - span.from) (drop span.from l.tokens) in
    omega (arith, g, short)

-- ---- the names after the parts

-- names with few more after them
pub longer_by : (m n : ℕ) (before after : List (List ℕ)) → m ≤ n → IsLongerBy m before after → IsLongerBy n before after
longer_by m n before after low h = let few = h.few in record { front = h.front; few = omega (arith, few) }
