-- The variables of terms and literals, noted one after another.
use Rattle.std.proofs.Common.{◌≡◌, ℕ, ◌+◌, ◌<◌, List, [], ◌∷◌, ◌++◌, length, get_or, drop, refl, sym, ap, ◌∙◌, append_assoc}
use Rattle.le_terms.specs.Tree.{Tree}
use Rattle.le_terms.specs.Variables.{occurrences, all_occurrences, firsts}
use Rattle.le_terms.specs.Walks.{noted, all_noted}
use Rattle.le_terms.specs.declared.program.Asked.{Asked}
use Rattle.le_terms.specs.Program.{form_terms, literals_terms}
use Rattle.le_terms.specs.declared.program.Literal.{Literal}
use Rattle.le_listing.specs.ClauseText.{asked_vars}
use Rattle.le_terms.proofs.Firsts.{all_noted-append, all_noted-firsts}
use Rattle.le_terms.proofs.Preorder.{drop-item}

pub all_occurrences-append : (xs ys : List Tree) → all_occurrences (xs ++ ys) ≡ all_occurrences xs ++ all_occurrences ys
all_occurrences-append [] ys = refl
all_occurrences-append (x ∷ xs) ys = ap (λ vs. occurrences x ++ vs) (all_occurrences-append xs ys) ∙ sym (append_assoc (occurrences x) (all_occurrences xs) (all_occurrences ys))

-- these are noted, and then the rest
noted_on : (before here now rest : List ℕ) → now ≡ all_noted before here → all_noted now rest ≡ all_noted before (here ++ rest)
noted_on before here now rest is = ap (λ ns. all_noted ns rest) is ∙ sym (all_noted-append before here rest)

-- one more term
pub term_step : (ts : List Tree) (i : ℕ) (t : Tree) (before now all : List ℕ) → i < length ts → t ≡ get_or ts i t → now ≡ all_noted before (occurrences t)
    → all_noted before (all_occurrences (drop i ts)) ≡ all → all_noted now (all_occurrences (drop (i + 1) ts)) ≡ all
term_step ts i t before now all within at is before_is =
    noted_on before (occurrences t) now (all_occurrences (drop (i + 1) ts)) is
    ∙ ap (λ xs. all_noted before (all_occurrences xs)) (sym (drop-item ts i t within at))
    ∙ before_is

-- one more literal
pub literal_step : (ls : List Literal) (i : ℕ) (l : Literal) (before now all : List ℕ) → i < length ls → l ≡ get_or ls i l → now ≡ all_noted before (all_occurrences (form_terms l.form))
    → all_noted before (all_occurrences (literals_terms (drop i ls))) ≡ all → all_noted now (all_occurrences (literals_terms (drop (i + 1) ls))) ≡ all
literal_step ls i l before now all within at is before_is =
    let rest = drop (i + 1) ls in
    noted_on before (all_occurrences (form_terms l.form)) now (all_occurrences (literals_terms rest)) is
    ∙ ap (all_noted before) (sym (all_occurrences-append (form_terms l.form) (literals_terms rest)))
    ∙ ap (λ xs. all_noted before (all_occurrences (literals_terms xs))) (sym (drop-item ls i l within at))
    ∙ before_is

-- the variables of two lists of terms, noted from none on
pub both_noted : (xs ys first both : List ℕ) → first ≡ all_noted [] xs → both ≡ all_noted first ys → both ≡ firsts (xs ++ ys)
both_noted xs ys first both is both_is = both_is ∙ noted_on [] xs first ys is ∙ all_noted-firsts (xs ++ ys)

-- a gather's result, value and atom
pub gather_noted : (before : List ℕ) (total value : Tree) (args : List Tree)
    → all_noted (all_noted (all_noted before (occurrences total)) (occurrences value)) (all_occurrences args) ≡ all_noted before (all_occurrences (total ∷ value ∷ args))
gather_noted before total value args =
    sym (all_noted-append before (occurrences total) (occurrences value ++ all_occurrences args)
    ∙ all_noted-append (all_noted before (occurrences total)) (occurrences value) (all_occurrences args))

-- one more variable that is asked for
pub asked_step : (xs : List Asked) (i : ℕ) (x : Asked) (before now all : List ℕ) → i < length xs → x ≡ get_or xs i x → now ≡ noted before x.var
    → all_noted before (asked_vars (drop i xs)) ≡ all → all_noted now (asked_vars (drop (i + 1) xs)) ≡ all
asked_step xs i x before now all within at is before_is =
    ap (λ ns. all_noted ns (asked_vars (drop (i + 1) xs))) is
    ∙ ap (λ ys. all_noted before (asked_vars ys)) (sym (drop-item xs i x within at))
    ∙ before_is
