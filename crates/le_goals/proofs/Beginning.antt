-- The goal of a query in new cells.
use Rattle.std.proofs.Common.{◌≡◌, ℕ, zero, suc, ◌+◌, ◌-◌, ◌<◌, ◌≤◌, false, List, [], ◌∷◌, ◌++◌, length, map, get_or, slice_get, take, drop, Some, refl, sym, ap, subst, ◌∙◌, append-nil, arith}
use Rattle.std.specs.List.{AllByRecursion}
use Rattle.std.proofs.Math.Seq.{take-length}
use Rattle.le_terms.specs.Tree.{variable, nil}
use Rattle.le_terms.specs.Variables.{replaced, all_occurrences}
use Rattle.le_terms.specs.Program.{form_terms, IsProgram}
use Rattle.le_terms.specs.declared.program.Asked.{Asked as AskedVariable}
use Rattle.le_terms.specs.declared.program.Form.{Form}
use Rattle.le_terms.specs.declared.program.Form.TheVariants.{Pos, Neg, Calc, Gather}
use Rattle.le_terms.specs.declared.program.Literal.{Literal}
use Rattle.le_terms.specs.declared.program.Program.{Program}
use Rattle.le_store.specs.Shown as store
use Rattle.le_store.specs.Shown.{term_in, new_variables}
use Rattle.le_store.proofs.Views.{length-new_variables}
use Rattle.le_proofs.specs.Goals.{Goal, root_of, asked_terms, form_under, atom_under, literal_under}
use Rattle.le_proofs.proofs.Alls.{all-weaken}
use Rattle.le_proofs.proofs.Instances.{form-there}
use Rattle.le_proofs.proofs.Numbering.{atom-none}
use Rattle.le_proofs.proofs.Trees.{replaced-same}
use Rattle.le_goals.specs.declared.frames.Source.TheVariants.{Query}
use Rattle.le_goals.specs.declared.frames.Part.{Part}
use Rattle.le_goals.specs.declared.frames.Kept.{Kept}
use Rattle.le_goals.specs.declared.frames.Frame.{Frame}
use Rattle.le_goals.specs.Frames.{based, cell_term, read, goal_of, goals_of}
use Rattle.le_goals.specs.State.{AreFrames, AreKept, IsGoals, query_frames}
use Rattle.le_goals.proofs.Inside.{HasBelow, body-below}

form-none : (form : Form) → form_under variable form ≡ form
form-none (Pos atom) = ap Pos (atom-none atom)
form-none (Neg atom) = ap Neg (atom-none atom)
form-none (Calc atom) = ap Calc (atom-none atom)
form-none (Gather fold result value atom) =
    ap (λ t. Gather fold t (replaced variable value) (atom_under variable atom)) (replaced-same result)
    ∙ (ap (λ t. Gather fold result t (atom_under variable atom)) (replaced-same value) ∙ ap (Gather fold result value) (atom-none atom))

pub new-at : (from vars v : ℕ) → v < vars → get_or (new_variables from vars) v nil ≡ variable (from + v)
new-at from zero v less = absurd (omega (arith, less))
new-at from (suc vars) zero less = let same : from ≡ from + 0 = omega arith in ap variable same
new-at from (suc vars) (suc v) less = let same : suc from + v ≡ from + suc v = omega arith in new-at (suc from) vars v (omega (arith, less)) ∙ ap variable same

module _ (cells : store.Snapshot) (vars : ℕ) (fresh : cells.terms ≡ new_variables 0 vars) where
  own-term : (v : ℕ) → v < vars → term_in cells v ≡ variable v
  own-term v less = let same : 0 + v ≡ v = omega arith in ap (λ ts. get_or ts v nil) fresh ∙ (new-at 0 vars v less ∙ ap variable same)

  cell-own : (v : ℕ) → v < vars → cell_term cells 0 v ≡ variable v
  cell-own v less = let same : 0 + v ≡ v = omega arith in ap (term_in cells) same ∙ own-term v less

  pub literals-own : (literals : List Literal) (part : Part) → part.base ≡ 0 → part.alone ≡ false → AllByRecursion (HasBelow vars) literals → map (read cells) (map (based part) literals) ≡ literals
  literals-own [] part first whole low = refl
  literals-own (literal ∷ literals) part first whole low =
      ap (λ l. l ∷ map (read cells) (map (based part) literals)) (one part.base part.alone first whole)
      ∙ ap (λ ls. literal ∷ ls) (literals-own literals part first whole low.1)
    where
      plain : literal_under (cell_term cells 0) literal ≡ literal
      plain =
          ap (λ f. let l : Literal = record { line = literal.line; form = f } in l)
          (form-there (cell_term cells 0) variable literal.form (all-weaken (λ v. v < vars) (λ v. cell_term cells 0 v ≡ variable v) cell-own (all_occurrences (form_terms literal.form)) low.0)
          ∙ form-none literal.form)

      one : (base : ℕ) (is_alone : _) → base ≡ 0 → is_alone ≡ false → literal_under (cell_term cells base) (Rattle.le_goals.specs.Frames.shaped is_alone literal) ≡ literal
      one base is_alone is_zero is_false = ap (λ n. literal_under (cell_term cells n) (Rattle.le_goals.specs.Frames.shaped is_alone literal)) is_zero ∙ (ap (λ b. literal_under (cell_term cells 0) (Rattle.le_goals.specs.Frames.shaped b literal)) is_false ∙ plain)

  asked-own : (asked : List AskedVariable) → AllByRecursion (λ one. one.var < vars) asked → map (λ one. term_in cells one.var) asked ≡ asked_terms asked
  asked-own [] low = refl
  asked-own (one ∷ asked) low = ap (λ t. t ∷ map (λ other. term_in cells other.var) asked) (own-term one.var low.0) ∙ ap (λ ts. variable one.var ∷ ts) (asked-own asked low.1)

  -- the second frame is the query's goal
  pub query-goal : (program : Program) → IsProgram program → program.vars ≡ vars → length cells.variables ≡ vars → (count : ℕ) → count ≡ length program.query → slice_get (goals_of program cells (query_frames count)) 1 ≡ Some (root_of program)
  query-goal program is same next count counted =
      let part : Part = record { source = Query; base = 0; from = 0; to = count; alone = false } in
      let whole : take (count - 0) (drop 0 program.query) ≡ program.query = let all : count - 0 ≡ length program.query = omega (arith, counted) in ap (λ n. take n program.query) all ∙ take-length program.query in
      let below : AllByRecursion (HasBelow vars) program.query = subst (λ n. AllByRecursion (HasBelow n) program.query) same (body-below program is Query) in
      let literals_ : map (read cells) (map (based part) (take (count - 0) (drop 0 program.query)) ++ []) ≡ program.query =
      ap (map (read cells)) (append-nil (map (based part) (take (count - 0) (drop 0 program.query)))) ∙ (ap (λ ls. map (read cells) (map (based part) ls)) whole ∙ literals-own program.query part refl refl below) in
      let terms_ : map (λ one. term_in cells one.var) program.asked ≡ asked_terms program.asked = asked-own program.asked (subst (λ n. AllByRecursion (λ one. one.var < n) program.asked) same is.asked) in
      ap (λ n. Some (let g : Goal = record { next = n; literals = map (read cells) (map (based part) (take (count - 0) (drop 0 program.query)) ++ []); terms = map (λ one. term_in cells one.var) program.asked } in g)) (next ∙ sym same)
      ∙ (ap (λ ls. Some (let g : Goal = record { next = program.vars; literals = ls; terms = map (λ one. term_in cells one.var) program.asked } in g)) literals_
      ∙ ap (λ ts. Some (let g : Goal = record { next = program.vars; literals = program.query; terms = ts } in g)) terms_)

-- what is kept at the start
pub begun : (program : Program) → IsProgram program → (cells : store.Shown) (frames : List Frame) (kept : List Kept) (vars count : ℕ) → cells.now.terms ≡ new_variables 0 vars → cells.marks ≡ [] → program.vars ≡ vars → count ≡ length program.query → frames ≡ query_frames count → kept ≡ [] → IsGoals program cells frames kept
begun program is cells frames kept vars count fresh marks same counted made none =
    let cells_ : length cells.now.terms ≡ vars = ap length fresh ∙ length-new_variables 0 vars in
    let high : count ≤ length program.query = omega (arith, counted) in
    let asked : program.vars ≤ length cells.now.terms = omega (arith, same, cells_) in
    let all : 0 + program.vars ≤ length cells.now.terms = omega (arith, same, cells_) in
    record {
      program_ = is;
      frames_ = subst (AreFrames program (length cells.now.terms) 0) (sym made) (asked, ((record { cells_ = all; order = omega arith; within = high }, omega arith), tt));
      kept_ = subst (λ (ms : List store.Snapshot). AreKept program frames 0 0 ms kept) (sym marks) (subst (λ (ks : List Kept). AreKept program frames 0 0 [] ks) (sym none) (let low : 0 ≤ length frames = omega arith in low));
    }
