-- The literal where a walk ends.
use Rattle.std.proofs.Common.{◌≡◌, ℕ, zero, suc, ◌+◌, ◌-◌, ◌<◌, ◌≤◌, ◌==◌, Bool, true, false, cond, List, [], ◌∷◌, ◌++◌, length, get_or, slice_get, take, drop, zip, Option, Some, None, refl, sym, ap, subst, ◌∙◌, length-append, arith}
use Rattle.std.specs.List.{AllByRecursion}
use Rattle.std.proofs.lemmas.List.{get_or-map, get_or-drop, get_or_append_left, get_or-append-add, length-map}
use Rattle.std.proofs.lemmas.Option.{get_or_from_slice_get}
use Rattle.le_terms.specs.Tree.{Tree}
use Rattle.le_terms.specs.Variables.{all_occurrences}
use Rattle.le_terms.specs.Program.{form_atom, literals_terms, HasVariablesBelow, IsProgramClause, IsProgram}
use Rattle.le_terms.specs.declared.program.Atom.{Atom}
use Rattle.le_terms.specs.declared.program.Clause.{Clause}
use Rattle.le_terms.specs.declared.program.Form.{Form}
use Rattle.le_terms.specs.declared.program.Form.TheVariants.{Pos, Neg, Calc, Gather}
use Rattle.le_terms.specs.declared.program.Literal.{Literal}
use Rattle.le_terms.specs.declared.program.Program.{Program}
use Rattle.le_subst.specs.Solution.{solve_of}
use Rattle.le_store.specs.Shown as store
use Rattle.le_proofs.specs.Goals.{atom_under, terms_under, raised, head_solution}
use Rattle.le_proofs.proofs.Alls.{all-left, all-weaken}
use Rattle.le_proofs.proofs.Below.{all_occurrences-append}
use Rattle.le_goals.specs.declared.frames.Part.{Part}
use Rattle.le_goals.specs.declared.frames.Spot.{Spot}
use Rattle.le_goals.specs.declared.frames.Frame.{Frame}
use Rattle.le_goals.specs.Frames.{Based, Laid, nothing_laid, literals_in, shaped, based, part_of, before, cell_term, read, goal_of}
use Rattle.le_goals.specs.Shown.{no_literal, literal_of}
use Rattle.le_goals.specs.State.{vars_in}
use Rattle.le_goals.specs.Parting.{laid_at, before_all, literal_count, StandsIn}
use Rattle.le_goals.specs.Unifying.{HasVariables, UnifiesTerms, UnifiesClause}
use Rattle.le_goals.proofs.Parts.{length-part}
use Rattle.le_goals.proofs.Puttings.{before_all-is, length-all}
use Rattle.le_goals.proofs.Inside.{HasBelow, all-within, body-below, alone-below}

get-take : {X : Type 0} (n at : ℕ) (xs : List X) (default : X) → at < n → get_or (take n xs) at default ≡ get_or xs at default
get-take zero at xs default low = absurd (omega (arith, low))
get-take (suc n) at [] default low = refl
get-take (suc n) zero (x ∷ xs) default low = refl
get-take (suc n) (suc at) (x ∷ xs) default low = get-take n at xs default (omega (arith, low))

no_based : Based
no_based = record { literal = no_literal; base = 0 }

module _ (program : Program) (cells : ℕ) (frames : List Frame) (goal place : ℕ) (passed : List Part) (spot : Spot) (stands : StandsIn program cells frames goal place passed spot) where
  pub inside-body : spot.part.from + spot.left < length (literals_in program spot.part.source)
  inside-body =
      let left : spot.left < spot.part.to - spot.part.from = stands.left in
      let high : spot.part.to ≤ length (literals_in program spot.part.source) = stands.part.within in
      omega (arith, left, high)

  -- the literal of the goal is the one of the body
  pub laid-literal : (default : Literal) → get_or (laid_at program frames goal).literals place (based spot.part default) ≡ based spot.part (get_or (literals_in program spot.part.source) (spot.part.from + spot.left) default)
  laid-literal default =
      let own : List Based = part_of program spot.part in
      let rest : List Based = (laid_at program frames spot.rest).literals in
      let d : Based = based spot.part default in
      let is : (front : List Based) × (before_all program passed nothing_laid ≡ before front nothing_laid) × ((other : Laid) → before_all program passed other ≡ before front other) = before_all-is program passed nothing_laid in
      let left : spot.left < spot.part.to - spot.part.from = stands.left in
      let count : length own ≡ spot.part.to - spot.part.from = length-part program cells spot.part stands.part in
      let front_ : length (is.0 ++ []) ≡ literal_count passed = ap (λ (l : Laid). length l.literals) (sym is.1) ∙ length-all program cells passed stands.passed_ in
      let front_count : length (is.0 ++ []) ≡ length is.0 + 0 = length-append is.0 [] in
      let place_ : literal_count passed + spot.left ≡ place = stands.place_ in
      let at : place ≡ length is.0 + spot.left = omega (arith, front_, front_count, place_) in
      let whole : laid_at program frames goal ≡ before is.0 (before own (laid_at program frames spot.rest)) = stands.laid ∙ is.2 (before own (laid_at program frames spot.rest)) in
      let literals = literals_in program spot.part.source in
      let taken : length (take (spot.part.to - spot.part.from) (drop spot.part.from literals)) ≡ length own = sym (length-map (take (spot.part.to - spot.part.from) (drop spot.part.from literals)) (based spot.part)) in
      ap (λ (l : Laid). get_or l.literals place d) whole
      ∙ (ap (λ n. get_or (is.0 ++ (own ++ rest)) n d) at
      ∙ (get_or-append-add is.0 (own ++ rest) spot.left d
      ∙ (get_or_append_left own rest d spot.left (omega (arith, left, count))
      ∙ (get_or-map (based spot.part) (take (spot.part.to - spot.part.from) (drop spot.part.from literals)) spot.left default d (omega (arith, left, count, taken))
      ∙ ap (based spot.part) (get-take (spot.part.to - spot.part.from) spot.left (drop spot.part.from literals) default left ∙ get_or-drop spot.part.from literals spot.left default)))))

  pub inside-goal : place < length (laid_at program frames goal).literals
  inside-goal =
      let own : List Based = part_of program spot.part in
      let rest : List Based = (laid_at program frames spot.rest).literals in
      let is : (front : List Based) × (before_all program passed nothing_laid ≡ before front nothing_laid) × ((other : Laid) → before_all program passed other ≡ before front other) = before_all-is program passed nothing_laid in
      let left : spot.left < spot.part.to - spot.part.from = stands.left in
      let count : length own ≡ spot.part.to - spot.part.from = length-part program cells spot.part stands.part in
      let front_ : length (is.0 ++ []) ≡ literal_count passed = ap (λ (l : Laid). length l.literals) (sym is.1) ∙ length-all program cells passed stands.passed_ in
      let front_count : length (is.0 ++ []) ≡ length is.0 + 0 = length-append is.0 [] in
      let place_ : literal_count passed + spot.left ≡ place = stands.place_ in
      let whole : laid_at program frames goal ≡ before is.0 (before own (laid_at program frames spot.rest)) = stands.laid ∙ is.2 (before own (laid_at program frames spot.rest)) in
      let all : length (laid_at program frames goal).literals ≡ length (is.0 ++ (own ++ rest)) = ap (λ (l : Laid). length l.literals) whole in
      let both : length (is.0 ++ (own ++ rest)) ≡ length is.0 + length (own ++ rest) = length-append is.0 (own ++ rest) in
      let inner : length (own ++ rest) ≡ length own + length rest = length-append own rest in
      omega (arith, left, count, front_, front_count, place_, all, both, inner)

  -- as the cells show it
  pub read-literal : (shown : store.Snapshot) (literal default : Literal) → literal ≡ get_or (literals_in program spot.part.source) (spot.part.from + spot.left) default → literal_of (goal_of program shown (laid_at program frames goal)) place ≡ read shown (based spot.part literal)
  read-literal shown literal default is =
      get_or-map (read shown) (laid_at program frames goal).literals place (based spot.part default) no_literal inside-goal
      ∙ ap (read shown) (laid-literal default ∙ ap (based spot.part) (sym is))

  -- the variables of its atom are there
  pub atom-below : IsProgram program → (literal default : Literal) → literal ≡ get_or (literals_in program spot.part.source) (spot.part.from + spot.left) default → HasVariablesBelow (vars_in program spot.part.source) (form_atom literal.form).args
  atom-below is literal default same =
      alone-below (vars_in program spot.part.source) literal.form
      (subst (HasBelow (vars_in program spot.part.source)) (sym same) (all-within (HasBelow (vars_in program spot.part.source)) (literals_in program spot.part.source) (spot.part.from + spot.left) default inside-body (body-below program is spot.part.source)))

  pub variables-there : (shown : store.Shown) → length shown.now.terms ≡ cells → (terms : List Tree) → HasVariablesBelow (vars_in program spot.part.source) terms → HasVariables shown spot.part.base terms
  variables-there shown count terms below =
      let fits : spot.part.base + vars_in program spot.part.source ≤ cells = stands.part.cells_ in
      all-weaken (λ v. v < vars_in program spot.part.source) (λ v. store.IsThere shown (spot.part.base + v)) (λ v (less : v < vars_in program spot.part.source). omega (arith, fits, less, count)) (all_occurrences terms) below

-- the atom of a literal as the cells show it
pub atom-read : (shown : store.Snapshot) (part : Part) (literal : Literal) → form_atom (read shown (based part literal)).form ≡ atom_under (cell_term shown part.base) (form_atom literal.form)
atom-read shown part literal = by part.alone literal.form
  where
    by : (is_alone : Bool) (form : Form) → form_atom (read shown (record { literal = shaped is_alone (record { line = literal.line; form = form }); base = part.base })).form ≡ atom_under (cell_term shown part.base) (form_atom form)
    by true form = refl
    by false (Pos atom) = refl
    by false (Neg atom) = refl
    by false (Calc atom) = refl
    by false (Gather fold result value atom) = refl

-- a clause of a program
pub clause-is : (program : Program) → IsProgram program → (place : ℕ) (used default : Clause) → place < length program.clauses → used ≡ get_or program.clauses place default → HasVariablesBelow used.vars used.head.args × (used.vars ≤ 64)
clause-is program is place used default low same =
    let ready = subst (IsProgramClause is.arity _) (sym same) (all-within (IsProgramClause is.arity _) program.clauses place default low is.clauses) in
    let P : ℕ → Type 0 = λ v. v < used.vars in
    (all-left P (all_occurrences used.head.args) (all_occurrences (literals_terms used.body)) (subst (AllByRecursion P) (all_occurrences-append used.head.args (literals_terms used.body)) ready.variables.variables), ready.variables.few)

pub same-clause : (clauses : List Clause) (place : ℕ) (used default one : Clause) → place < length clauses → used ≡ get_or clauses place default → slice_get clauses place ≡ Some one → one ≡ used
same-clause clauses place used default one low same found = sym (get_or_from_slice_get clauses place one default found) ∙ sym same

-- the head and the atom have a unifier as their terms have one, where they are of one predicate
module _ (program : Program) (old new : store.Shown) (frames : List Frame) (goal place : ℕ) (one : Clause) (atom : Atom) (base : ℕ)
    (seen : form_atom (literal_of (goal_of program old.now (laid_at program frames goal)) place).form ≡ atom_under (cell_term old.now base) atom) where
  pub other-predicate : (one.head.pred == atom.pred) ≡ false → UnifiesClause program old new frames goal place one None
  other-predicate differs =
      ap (head_solution (length old.now.variables) one) seen
      ∙ ap (λ b. cond b (solve_of (zip (terms_under (raised (length old.now.variables)) one.head.args) (terms_under (cell_term old.now base) atom.args))) None) differs

  pub same-predicate : (one.head.pred == atom.pred) ≡ true → (answer : Option ℕ) → UnifiesTerms old new one.vars one.head.args base atom.args answer → UnifiesClause program old new frames goal place one answer
  same-predicate same None none =
      ap (head_solution (length old.now.variables) one) seen
      ∙ (ap (λ b. cond b (solve_of (zip (terms_under (raised (length old.now.variables)) one.head.args) (terms_under (cell_term old.now base) atom.args))) None) same ∙ none)
  same-predicate same (Some fresh) made = (
    made.0,
    ap (head_solution (length old.now.variables) one) seen
        ∙ (ap (λ b. cond b (solve_of (zip (terms_under (raised (length old.now.variables)) one.head.args) (terms_under (cell_term old.now base) atom.args))) None) same ∙ made.1),
    made.2,
  )

pub get-from : {X : Type 0} (xs ys : List X) (at : ℕ) (x default : X) → x ≡ get_or xs at default → xs ≡ ys → x ≡ get_or ys at default
get-from xs ys at x default is same = is ∙ ap (λ zs. get_or zs at default) same

-- the atom that a walk comes to
pub record Comes (program : Program) (shown : store.Shown) (frames : List Frame) (goal place base : ℕ) (atom : Atom) : Type 0 where
  pub seen : form_atom (literal_of (goal_of program shown.now (laid_at program frames goal)) place).form ≡ atom_under (cell_term shown.now base) atom
  pub there : HasVariables shown base atom.args

pub comes : (program : Program) → IsProgram program → (shown : store.Shown) (frames : List Frame) (goal place : ℕ) (spot : Spot) (found : (passed : List Part) × StandsIn program (length shown.now.terms) frames goal place passed spot) (literal default : Literal) (atom : Atom)
    → literal ≡ get_or (literals_in program spot.part.source) (spot.part.from + spot.left) default → atom ≡ form_atom literal.form → Comes program shown frames goal place spot.part.base atom
comes program is shown frames goal place spot found literal default atom same is_atom = record {
  seen =
      ap (λ (l : Literal). form_atom l.form) (read-literal program (length shown.now.terms) frames goal place found.0 spot found.1 shown.now literal default same)
      ∙ (atom-read shown.now spot.part literal ∙ ap (atom_under (cell_term shown.now spot.part.base)) (sym is_atom));
  there =
      variables-there program (length shown.now.terms) frames goal place found.0 spot found.1 shown refl atom.args
      (subst (λ (a : Atom). HasVariablesBelow (vars_in program spot.part.source) a.args) (sym is_atom) (atom-below program (length shown.now.terms) frames goal place found.0 spot found.1 is literal default same));
}
