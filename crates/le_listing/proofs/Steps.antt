-- One more item of a list is written: what is written so far, with what the items that are left write, is all.
use Rattle.std.proofs.Common.{◌≡◌, ℕ, ◌+◌, ◌<◌, Bool, false, List, ◌∷◌, ◌++◌, codes, length, get_or, drop, sym, ap, ◌∙◌, append_assoc}
use Rattle.le_templates.specs.declared.part.Part.{Part}
use Rattle.le_templates.specs.declared.part.Part.TheVariants.{Slot}
use Rattle.le_terms.specs.Tree.{Tree}
use Rattle.le_terms.specs.declared.program.Literal.{Literal}
use Rattle.le_terms.proofs.Preorder.{drop-item}
use Rattle.le_clauses.specs.declared.whole.Whole.{Whole}
use Rattle.le_listing.specs.ClauseText.{marked, filled, form_text, joint, literals_text}

-- what is written in two steps, with the rest
both_steps : (old here new rest all : List ℕ) → new ≡ old ++ here → old ++ (here ++ rest) ≡ all → new ++ rest ≡ all
both_steps old here new rest all is before = ap (λ t. t ++ rest) is ∙ append_assoc old here rest ∙ before

-- an item writes this, and the items after it the rest
pub one_more : {X : Type 0} (f : List X → List ℕ) (here : List ℕ) (xs : List X) (i : ℕ) (x : X) (old new all : List ℕ) → i < length xs → x ≡ get_or xs i x
    → f (x ∷ drop (i + 1) xs) ≡ here ++ f (drop (i + 1) xs) → new ≡ old ++ here → old ++ f (drop i xs) ≡ all → new ++ f (drop (i + 1) xs) ≡ all
one_more f here xs i x old new all within at splits is before =
    both_steps old here new (f (drop (i + 1) xs)) all is (ap (λ t. old ++ t) (sym splits ∙ ap f (sym (drop-item xs i x within at))) ∙ before)

-- a literal, with the word before it
pub literal_step : (whole : Whole) (vars : List ℕ) (is_first : Bool) (ls : List Literal) (i : ℕ) (l : Literal) (old between new all : List ℕ) → i < length ls → l ≡ get_or ls i l
    → between ≡ old ++ joint is_first → new ≡ between ++ form_text whole vars l.form → old ++ literals_text whole vars is_first (drop i ls) ≡ all
    → new ++ literals_text whole vars false (drop (i + 1) ls) ≡ all
literal_step whole vars is_first ls i l old between new all within at first second before =
    let here = form_text whole vars l.form in
    let rest = literals_text whole vars false (drop (i + 1) ls) in
    both_steps between here new rest all second
    (both_steps old (joint is_first) between (here ++ rest) all first
    (ap (λ t. old ++ literals_text whole vars is_first t) (sym (drop-item ls i l within at)) ∙ before))

-- a slot with a term in it
pub slot_filled : (names : List (List ℕ)) (vars phrase : List ℕ) (trees : List Tree) (i : ℕ) (t : Tree) (old new : List ℕ) → i < length trees → t ≡ get_or trees i t
    → new ≡ old ++ marked names vars t
    → (rest : List Part) → new ++ filled names vars rest (drop (i + 1) trees) ≡ old ++ filled names vars (Slot phrase ∷ rest) (drop i trees)
slot_filled names vars phrase trees i t old new within at is rest =
    both_steps old (marked names vars t) new (filled names vars rest (drop (i + 1) trees)) (old ++ filled names vars (Slot phrase ∷ rest) (drop i trees)) is
    (ap (λ ts. old ++ filled names vars (Slot phrase ∷ rest) ts) (sym (drop-item trees i t within at)))

-- the parts of a line, one after another
pub line_written : (old number head body numbered begun headed bodied : List ℕ) → numbered ≡ old ++ number → begun ≡ numbered ++ codes ":" → headed ≡ begun ++ head → bodied ≡ headed ++ body
    → bodied ++ codes "\n" ≡ old ++ (number ++ (codes ":" ++ (head ++ (body ++ codes "\n"))))
line_written old number head body numbered begun headed bodied a b c d =
    ap (λ t. t ++ codes "\n") (d ∙ ap (λ t. t ++ body) (c ∙ ap (λ t. t ++ head) (b ∙ ap (λ t. t ++ codes ":") a)))
    ∙ append_assoc (((old ++ number) ++ codes ":") ++ head) body (codes "\n")
    ∙ append_assoc ((old ++ number) ++ codes ":") head (body ++ codes "\n")
    ∙ append_assoc (old ++ number) (codes ":") (head ++ (body ++ codes "\n"))
    ∙ append_assoc old number (codes ":" ++ (head ++ (body ++ codes "\n")))
