-- The numbering of variables by their places, over symbols and lists.
use Rattle.std.proofs.Common.{◌≡◌, ℕ, ◌+◌, ◌<◌, List, [], ◌∷◌, ◌++◌, length, map, get_or, drop, refl, sym, ap, ◌∙◌, append_assoc}
use Rattle.std.proofs.lemmas.List.{drop_more, map-append}
use Rattle.le_terms.specs.Tree.{Tree, constant, number, date, variable, nil, cell, flat}
use Rattle.le_terms.specs.Variables.{occurrences, all_occurrences, replaced}
use Rattle.le_terms.specs.declared.program.Literal.{Literal}
use Rattle.le_terms.specs.Program.{form_terms, literals_terms}
use Rattle.le_clauses.specs.Numbers.{by_place, numbered_sym}

pub numbered-flat : (vars : List ℕ) (t : Tree) → map (numbered_sym vars) (flat t) ≡ flat (replaced (by_place vars) t)
numbered-flat vars (constant n) = refl
numbered-flat vars (number z) = refl
numbered-flat vars (date d) = refl
numbered-flat vars (variable v) = refl
numbered-flat vars nil = refl
numbered-flat vars (cell head tail) =
    ap (λ xs. Rattle.le_terms.specs.declared.term.Sym.TheVariants.Cons ∷ xs)
    (map-append (numbered_sym vars) (flat head) (flat tail) ∙ ap (λ xs. xs ++ map (numbered_sym vars) (flat tail)) (numbered-flat vars head) ∙ ap (λ xs. flat (replaced (by_place vars) head) ++ xs) (numbered-flat vars tail))

pub occurrences_append : (xs ys : List Tree) → all_occurrences (xs ++ ys) ≡ all_occurrences xs ++ all_occurrences ys
occurrences_append [] ys = refl
occurrences_append (x ∷ xs) ys = ap (λ vs. occurrences x ++ vs) (occurrences_append xs ys) ∙ sym (append_assoc (occurrences x) (all_occurrences xs) (all_occurrences ys))

-- ---- the variables of literals, one more literal at a time

pub literals_step : (ls : List Literal) (i : ℕ) (l : Literal) (before now all : List ℕ) → i < length ls → l ≡ get_or ls i l → now ≡ before ++ all_occurrences (form_terms l.form) → before ++ all_occurrences (literals_terms (drop i ls)) ≡ all → now ++ all_occurrences (literals_terms (drop (i + 1) ls)) ≡ all
literals_step ls i l before now all low is e h =
    let rest = drop (i + 1) ls in
    ap (λ vs. vs ++ all_occurrences (literals_terms rest)) e
    ∙ append_assoc before (all_occurrences (form_terms l.form)) (all_occurrences (literals_terms rest))
    ∙ ap (λ vs. before ++ vs) (sym (occurrences_append (form_terms l.form) (literals_terms rest)) ∙ ap (λ (x : Literal). all_occurrences (literals_terms (x ∷ rest))) is ∙ ap (λ xs. all_occurrences (literals_terms xs)) (sym (drop_more ls i l low)))
    ∙ h
