-- The symbols of a program's terms, one after another.
use Rattle.std.proofs.Common.{◌≡◌, ℕ, zero, suc, ◌+◌, ◌<◌, List, [], ◌∷◌, ◌++◌, length, get_or, drop, sym, ap, subst, ◌∙◌, append_assoc, add-one}
use Rattle.std.specs.List.{AllByRecursion}
use Rattle.le_terms.specs.declared.term.Sym.{Sym}
use Rattle.le_terms.specs.declared.program.Form.{Form}
use Rattle.le_terms.specs.declared.program.Form.TheVariants.{Pos, Neg, Calc, Gather}
use Rattle.le_terms.specs.Variables.{occurrences, all_occurrences}
use Rattle.le_terms.specs.Walks.{symbol_variables}
use Rattle.le_terms.specs.Program.{form_atom, form_terms}
use Rattle.le_terms.proofs.Preorder.{symbol_variables-append, drop-item}
use Rattle.le_subst.specs.Symbols.{images, symbol_image}
use Rattle.le_proofs.proofs.Alls.{all-right}

-- what holds of the variables of symbols holds of those after the first one
later-suc : (P : ℕ → Type 0) (syms : List Sym) (i : ℕ) → AllByRecursion P (symbol_variables (drop i syms)) → AllByRecursion P (symbol_variables (drop (suc i) syms))
later-suc P [] zero h = tt
later-suc P [] (suc i) h = tt
later-suc P (x ∷ syms) zero h = all-right P (symbol_variables (x ∷ [])) (symbol_variables syms) (subst (AllByRecursion P) (symbol_variables-append (x ∷ []) syms) h)
later-suc P (x ∷ syms) (suc i) h = later-suc P syms i h

pub later-variables : (P : ℕ → Type 0) (syms : List Sym) (i : ℕ) → AllByRecursion P (symbol_variables (drop i syms)) → AllByRecursion P (symbol_variables (drop (i + 1) syms))
later-variables P syms i h = subst (λ n. AllByRecursion P (symbol_variables (drop n syms))) (sym (add-one i)) (later-suc P syms i h)

-- one symbol more of what is replaced
pub images-step : (by : ℕ → List Sym) (syms : List Sym) (i : ℕ) (x : Sym) (old new all : List Sym) → i < length syms → x ≡ get_or syms i x → new ≡ old ++ symbol_image by x → old ++ images by (drop i syms) ≡ all → new ++ images by (drop (i + 1) syms) ≡ all
images-step by syms i x old new all low read pushed before =
    ap (λ ys. ys ++ images by (drop (i + 1) syms)) pushed
    ∙ (append_assoc old (symbol_image by x) (images by (drop (i + 1) syms))
    ∙ (ap (λ ss. old ++ images by ss) (sym (drop-item syms i x low read))
    ∙ before))

-- the variables of a literal's atom are among the literal's
pub atom-variables : (P : ℕ → Type 0) (form : Form) → AllByRecursion P (all_occurrences (form_terms form)) → AllByRecursion P (all_occurrences (form_atom form).args)
atom-variables P (Pos atom) h = h
atom-variables P (Neg atom) h = h
atom-variables P (Calc atom) h = h
atom-variables P (Gather fold result value atom) h =
    all-right P (occurrences value) (all_occurrences atom.args) (all-right P (occurrences result) (all_occurrences (value ∷ atom.args)) h)
