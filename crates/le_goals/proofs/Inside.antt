-- The variables of goals are among the cells, so that more cells change nothing.
use Rattle.std.proofs.Common.{◌≡◌, ℕ, zero, suc, ◌+◌, ◌-◌, ◌<◌, ◌≤◌, Bool, true, false, List, [], ◌∷◌, ◌++◌, length, map, get_or, slice_get, take, drop, Option, Some, None, refl, ap, subst, ◌∙◌, arith}
use Rattle.std.specs.List.{AllByRecursion}
use Rattle.std.proofs.lemmas.List.{get_or_append_left}
use Rattle.std.proofs.lemmas.Option.{get_or_from_slice_get, slice_get_within}
use Rattle.le_terms.specs.Tree.{Tree, nil}
use Rattle.le_terms.specs.Variables.{replaced, occurrences, all_occurrences}
use Rattle.le_terms.specs.Program.{form_atom, form_terms, literals_terms, HasVariablesBelow, IsProgramClause, IsProgram}
use Rattle.le_terms.specs.declared.program.Asked.{Asked as AskedVariable}
use Rattle.le_terms.specs.declared.program.Clause.{Clause}
use Rattle.le_terms.specs.declared.program.Form.{Form}
use Rattle.le_terms.specs.declared.program.Form.TheVariants.{Pos, Neg, Calc, Gather}
use Rattle.le_terms.specs.declared.program.Literal.{Literal}
use Rattle.le_terms.specs.declared.program.Program.{Program}
use Rattle.le_store.specs.Shown as store
use Rattle.le_store.specs.Shown.{term_in}
use Rattle.le_proofs.specs.Goals.{Goal}
use Rattle.le_proofs.proofs.Alls.{all-left, all-right, all-both, all-weaken}
use Rattle.le_proofs.proofs.Below.{all_occurrences-append}
use Rattle.le_proofs.proofs.Variants.{replaced-there}
use Rattle.le_proofs.proofs.Instances.{form-there}
use Rattle.le_goals.specs.declared.frames.Source.{Source}
use Rattle.le_goals.specs.declared.frames.Source.TheVariants.{Query, Body}
use Rattle.le_goals.specs.declared.frames.Part.{Part}
use Rattle.le_goals.specs.declared.frames.Answers.{Answers}
use Rattle.le_goals.specs.declared.frames.Answers.TheVariants.{Asked, Nothing, Value}
use Rattle.le_goals.specs.declared.frames.Frame.{Frame}
use Rattle.le_goals.specs.declared.frames.Frame.TheVariants.{Empty, Before}
use Rattle.le_goals.specs.Frames.{Based, Laid, nothing_laid, body_of, literals_in, shaped, based, part_of, laid_after, laid_from, cell_term, read, form_value, value_in, answer_terms, goal_of}
use Rattle.le_goals.specs.State.{clause_vars, vars_in, HasCells, AreAnswers, IsFrame, AreFrames}

-- ---- the variables of a program's literals

pub all-within : {X : Type 0} (P : X → Type 0) (xs : List X) (k : ℕ) (default : X) → k < length xs → AllByRecursion P xs → P (get_or xs k default)
all-within P [] k default low h = absurd (omega (arith, low))
all-within P (x ∷ xs) zero default low h = h.0
all-within P (x ∷ xs) (suc k) default low h = all-within P xs k default (omega (arith, low)) h.1

pub all-at : {X : Type 0} (P : X → Type 0) (xs : List X) (place : ℕ) (x : X) → AllByRecursion P xs → slice_get xs place ≡ Some x → P x
all-at P xs place x h found = subst P (get_or_from_slice_get xs place x x found) (all-within P xs place x (slice_get_within xs place x found) h)

clause-body : (arity : ℕ → ℕ) (predicates : ℕ) (found : Option Clause) → ((clause : Clause) → found ≡ Some clause → IsProgramClause arity predicates clause) → HasVariablesBelow (clause_vars found) (literals_terms (body_of found))
clause-body arity predicates None h = tt
clause-body arity predicates (Some clause) h =
    let P : ℕ → Type 0 = λ v. v < clause.vars in
    all-right P (all_occurrences clause.head.args) (all_occurrences (literals_terms clause.body))
    (subst (AllByRecursion P) (all_occurrences-append clause.head.args (literals_terms clause.body)) (h clause refl).variables.variables)

-- the variables of a body's literals have numbers below its number of variables
pub body-variables : (program : Program) → IsProgram program → (source : Source) → HasVariablesBelow (vars_in program source) (literals_terms (literals_in program source))
body-variables program is Query = is.query_variables
body-variables program is (Body place) =
    clause-body is.arity _ (slice_get program.clauses place) (λ clause found. all-at (IsProgramClause is.arity _) program.clauses place clause is.clauses found)

-- so have those of each literal
abbrev pub HasBelow : ℕ → Literal → Type 0
HasBelow vars literal = HasVariablesBelow vars (form_terms literal.form)

each-below : (vars : ℕ) (literals : List Literal) → HasVariablesBelow vars (literals_terms literals) → AllByRecursion (HasBelow vars) literals
each-below vars [] h = tt
each-below vars (literal ∷ literals) h =
    let P : ℕ → Type 0 = λ v. v < vars in
    let both : AllByRecursion P (all_occurrences (form_terms literal.form) ++ all_occurrences (literals_terms literals)) = subst (AllByRecursion P) (all_occurrences-append (form_terms literal.form) (literals_terms literals)) h in
    (all-left P (all_occurrences (form_terms literal.form)) (all_occurrences (literals_terms literals)) both, each-below vars literals (all-right P (all_occurrences (form_terms literal.form)) (all_occurrences (literals_terms literals)) both))

pub body-below : (program : Program) → IsProgram program → (source : Source) → AllByRecursion (HasBelow (vars_in program source)) (literals_in program source)
body-below program is source = each-below (vars_in program source) (literals_in program source) (body-variables program is source)

-- the atom alone has no other variables
pub alone-below : (vars : ℕ) (form : Form) → HasVariablesBelow vars (form_terms form) → HasVariablesBelow vars (form_atom form).args
alone-below vars (Pos atom) h = h
alone-below vars (Neg atom) h = h
alone-below vars (Calc atom) h = h
alone-below vars (Gather fold result value atom) h =
    let P : ℕ → Type 0 = λ v. v < vars in
    all-right P (occurrences value) (all_occurrences atom.args) (all-right P (occurrences result) (all_occurrences (value ∷ atom.args)) h)

pub shaped-below : (vars : ℕ) (is_alone : Bool) (literal : Literal) → HasBelow vars literal → HasBelow vars (shaped is_alone literal)
shaped-below vars true literal h = alone-below vars literal.form h
shaped-below vars false literal h = h

pub value-below : (vars : ℕ) (form : Form) → HasVariablesBelow vars (form_terms form) → AllByRecursion (λ v. v < vars) (occurrences (form_value form))
value-below vars (Pos atom) h = tt
value-below vars (Neg atom) h = tt
value-below vars (Calc atom) h = tt
value-below vars (Gather fold result value atom) h =
    let P : ℕ → Type 0 = λ v. v < vars in
    all-left P (occurrences value) (all_occurrences atom.args) (all-right P (occurrences result) (all_occurrences (value ∷ atom.args)) h)

-- ---- goals whose variables are among so many cells

abbrev pub IsInside : ℕ → Based → Type 0
IsInside cells one = AllByRecursion (λ v. one.base + v < cells) (all_occurrences (form_terms one.literal.form))

pub record LiesInside (program : Program) (cells : ℕ) (laid : Laid) : Type 0 where
  pub literals : AllByRecursion (IsInside cells) laid.literals
  pub answers : AreAnswers program cells laid.answers

abbrev pub LieInside : Program → ℕ → List Laid → Type 0
LieInside program cells laid = AllByRecursion (LiesInside program cells) laid

all-take : {X : Type 0} (P : X → Type 0) (n : ℕ) (xs : List X) → AllByRecursion P xs → AllByRecursion P (take n xs)
all-take P zero xs h = tt
all-take P (suc n) [] h = tt
all-take P (suc n) (x ∷ xs) h = (h.0, all-take P n xs h.1)

all-drop : {X : Type 0} (P : X → Type 0) (n : ℕ) (xs : List X) → AllByRecursion P xs → AllByRecursion P (drop n xs)
all-drop P zero xs h = h
all-drop P (suc n) [] h = tt
all-drop P (suc n) (x ∷ xs) h = all-drop P n xs h.1

all-get : {X : Type 0} (P : X → Type 0) (xs : List X) (k : ℕ) (default : X) → P default → AllByRecursion P xs → P (get_or xs k default)
all-get P [] k default d h = d
all-get P (x ∷ xs) zero default d h = h.0
all-get P (x ∷ xs) (suc k) default d h = all-get P xs k default d h.1

part-inside : (program : Program) (cells : ℕ) (part : Part) → HasCells program cells part.source part.base → (literals : List Literal) → AllByRecursion (HasBelow (vars_in program part.source)) literals → AllByRecursion (IsInside cells) (map (based part) literals)
part-inside program cells part fits [] h = tt
part-inside program cells part fits (literal ∷ literals) h =
    (all-weaken (λ v. v < vars_in program part.source) (λ v. part.base + v < cells) (λ v (low : v < vars_in program part.source). omega (arith, fits, low)) (all_occurrences (form_terms (shaped part.alone literal).form)) (shaped-below (vars_in program part.source) part.alone literal h.0), part-inside program cells part fits literals h.1)

pub frame-inside : (program : Program) → IsProgram program → (cells : ℕ) (laid : List Laid) → LieInside program cells laid → (at : ℕ) (frame : Frame) → IsFrame program cells at frame → LiesInside program cells (laid_after program laid frame)
frame-inside program is cells laid inside at (Empty answers) fits = record { literals = tt; answers = fits }
frame-inside program is cells laid inside at (Before part rest) fits =
    let one : LiesInside program cells (get_or laid rest nothing_laid) = all-get (LiesInside program cells) laid rest nothing_laid (record { literals = tt; answers = tt }) inside in
    let own : AllByRecursion (IsInside cells) (part_of program part) =
    part-inside program cells part fits.0.cells_ (take (part.to - part.from) (drop part.from (literals_in program part.source)))
    (all-take (HasBelow (vars_in program part.source)) (part.to - part.from) (drop part.from (literals_in program part.source)) (all-drop (HasBelow (vars_in program part.source)) part.from (literals_in program part.source) (body-below program is part.source))) in
    record {
      literals = all-both (IsInside cells) (part_of program part) (get_or laid rest nothing_laid).literals own one.literals;
      answers = one.answers;
    }

pub frames-inside : (program : Program) → IsProgram program → (cells : ℕ) (laid : List Laid) → LieInside program cells laid → (at : ℕ) (frames : List Frame) → AreFrames program cells at frames → LieInside program cells (laid_from program laid frames)
frames-inside program is cells laid inside at [] fits = inside
frames-inside program is cells laid inside at (frame ∷ frames) fits =
    frames-inside program is cells (laid ++ laid_after program laid frame ∷ [])
    (all-both (LiesInside program cells) laid (laid_after program laid frame ∷ []) inside (frame-inside program is cells laid inside at frame fits.0, tt)) (suc at) frames fits.1

-- ---- more cells

module _ (old new : store.Snapshot) (more : List Tree) (grown : new.terms ≡ old.terms ++ more) where
  pub term-kept : (place : ℕ) → place < length old.terms → term_in new place ≡ term_in old place
  term-kept place there = ap (λ ts. get_or ts place nil) grown ∙ get_or_append_left old.terms more nil place there

  pub read-kept : (one : Based) → IsInside (length old.terms) one → read new one ≡ read old one
  read-kept one inside =
      ap (λ f. let l : Literal = record { line = one.literal.line; form = f } in l)
      (form-there (cell_term new one.base) (cell_term old one.base) one.literal.form
      (all-weaken (λ v. one.base + v < length old.terms) (λ v. cell_term new one.base v ≡ cell_term old one.base v) (λ v there. term-kept (one.base + v) there) (all_occurrences (form_terms one.literal.form)) inside))

  pub reads-kept : (ones : List Based) → AllByRecursion (IsInside (length old.terms)) ones → map (read new) ones ≡ map (read old) ones
  reads-kept [] inside = refl
  reads-kept (one ∷ ones) inside = ap (λ l. l ∷ map (read new) ones) (read-kept one inside.0) ∙ ap (λ ls. read old one ∷ ls) (reads-kept ones inside.1)

  asked-kept : (program : Program) → program.vars ≤ length old.terms → (asked : List AskedVariable) → AllByRecursion (λ one. one.var < program.vars) asked → map (λ one. term_in new one.var) asked ≡ map (λ one. term_in old one.var) asked
  asked-kept program fits [] low = refl
  asked-kept program fits (one ∷ asked) low =
      let there : one.var < length old.terms = let first : one.var < program.vars = low.0 in omega (arith, fits, first) in
      ap (λ t. t ∷ map (λ other. term_in new other.var) asked) (term-kept one.var there) ∙ ap (λ ts. term_in old one.var ∷ ts) (asked-kept program fits asked low.1)

  value-kept : (vars base : ℕ) → base + vars ≤ length old.terms → (found : Option Literal) → ((literal : Literal) → found ≡ Some literal → HasBelow vars literal) → replaced (cell_term new base) (value_in found) ≡ replaced (cell_term old base) (value_in found)
  value-kept vars base fits None low = refl
  value-kept vars base fits (Some literal) low =
      replaced-there (cell_term new base) (cell_term old base) (form_value literal.form)
      (all-weaken (λ v. v < vars) (λ v. cell_term new base v ≡ cell_term old base v) (λ v (less : v < vars). term-kept (base + v) (omega (arith, fits, less))) (occurrences (form_value literal.form)) (value-below vars literal.form (low literal refl)))

  pub terms-kept : (program : Program) → IsProgram program → (answers : Answers) → AreAnswers program (length old.terms) answers → answer_terms program new answers ≡ answer_terms program old answers
  terms-kept program is Asked fits = asked-kept program fits program.asked is.asked
  terms-kept program is Nothing fits = refl
  terms-kept program is (Value source base at) fits =
      ap (λ t. t ∷ []) (value-kept (vars_in program source) base fits (slice_get (literals_in program source) at) (λ literal found. all-at (HasBelow (vars_in program source)) (literals_in program source) at literal (body-below program is source) found))

  -- goals are the same but for the next variable
  pub goal-kept : (program : Program) → IsProgram program → (laid : Laid) → LiesInside program (length old.terms) laid
      → goal_of program new laid ≡ record { next = length new.variables; literals = map (read old) laid.literals; terms = answer_terms program old laid.answers }
  goal-kept program is laid inside =
      ap (λ ls. let g : Goal = record { next = length new.variables; literals = ls; terms = answer_terms program new laid.answers } in g) (reads-kept laid.literals inside.literals)
      ∙ ap (λ ts. let g : Goal = record { next = length new.variables; literals = map (read old) laid.literals; terms = ts } in g) (terms-kept program is laid.answers inside.answers)

  pub goals-kept : (program : Program) → IsProgram program → new.variables ≡ old.variables → (laid : List Laid) → LieInside program (length old.terms) laid → map (goal_of program new) laid ≡ map (goal_of program old) laid
  goals-kept program is same [] inside = refl
  goals-kept program is same (one ∷ laid) inside =
      ap (λ g. g ∷ map (goal_of program new) laid)
      (goal-kept program is one inside.0 ∙ ap (λ vs. let g : Goal = record { next = length vs; literals = map (read old) one.literals; terms = answer_terms program old one.answers } in g) same)
      ∙ ap (λ gs. goal_of program old one ∷ gs) (goals-kept program is same laid inside.1)
