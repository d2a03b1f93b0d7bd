-- What becomes of goals when the cells change.
use Rattle.std.proofs.Common.{◌≡◌, ℕ, ◌+◌, List, [], ◌∷◌, length, map, get_or, slice_get, refl, sym, ap, ◌∙◌}
use Rattle.std.proofs.Math.ListN as lists
use Rattle.le_terms.specs.Tree.{Tree, nil}
use Rattle.le_terms.specs.Variables.{all_occurrences}
use Rattle.le_terms.specs.Program.{form_terms}
use Rattle.le_terms.specs.declared.program.Asked.{Asked as AskedVariable}
use Rattle.le_terms.specs.declared.program.Literal.{Literal}
use Rattle.le_terms.specs.declared.program.Program.{Program}
use Rattle.le_subst.specs.Unifiers.{Bindings, apply, value_at}
use Rattle.le_subst.proofs.Replacing.{replaced-agree, replaced-replaced}
use Rattle.le_store.specs.Shown as store
use Rattle.le_store.specs.Shown.{term_in}
use Rattle.le_proofs.specs.Goals.{Goal, literal_under, literals_under, terms_under}
use Rattle.le_proofs.proofs.Variants.{Agree}
use Rattle.le_proofs.proofs.Instances.{form-there, form-twice, after_by}
use Rattle.le_goals.specs.declared.frames.Answers.{Answers}
use Rattle.le_goals.specs.declared.frames.Answers.TheVariants.{Asked, Nothing, Value}
use Rattle.le_goals.specs.Frames.{Based, Laid, cell_term, read, literals_in, value_in, answer_terms, goal_of}
use Rattle.le_goals.specs.Shown.{goal_under}

-- two substitutions that agree on all variables
pub agree-all : (by with : ℕ → Tree) → ((v : ℕ) → by v ≡ with v) → (vs : List ℕ) → Agree by with vs
agree-all by with same [] = tt
agree-all by with same (v ∷ vs) = (same v, agree-all by with same vs)

-- ---- bindings

-- each cell's term is its term under a unifier
pub term-bound : (old new : store.Snapshot) (bindings : Bindings) → new.terms ≡ map (apply bindings) old.terms → (place : ℕ) → term_in new place ≡ apply bindings (term_in old place)
term-bound old new bindings bound place = ap (λ ts. get_or ts place nil) bound ∙ lists.get_or-map (apply bindings) old.terms place nil

module _ (old new : store.Snapshot) (bindings : Bindings) (bound : new.terms ≡ map (apply bindings) old.terms) where
  pub read-bound : (one : Based) → read new one ≡ literal_under (value_at bindings) (read old one)
  read-bound one =
      let same : (v : ℕ) → cell_term new one.base v ≡ after_by (cell_term old one.base) (value_at bindings) v = λ v. term-bound old new bindings bound (one.base + v) in
      ap (λ f. let l : Literal = record { line = one.literal.line; form = f } in l)
      (form-there (cell_term new one.base) (after_by (cell_term old one.base) (value_at bindings)) one.literal.form (agree-all (cell_term new one.base) (after_by (cell_term old one.base) (value_at bindings)) same (all_occurrences (form_terms one.literal.form)))
      ∙ sym (form-twice (cell_term old one.base) (value_at bindings) one.literal.form))

  pub reads-bound : (ones : List Based) → map (read new) ones ≡ literals_under (value_at bindings) (map (read old) ones)
  reads-bound [] = refl
  reads-bound (one ∷ ones) = ap (λ l. l ∷ map (read new) ones) (read-bound one) ∙ ap (λ ls. literal_under (value_at bindings) (read old one) ∷ ls) (reads-bound ones)

  asked-bound : (asked : List AskedVariable) → map (λ one. term_in new one.var) asked ≡ terms_under (value_at bindings) (map (λ one. term_in old one.var) asked)
  asked-bound [] = refl
  asked-bound (one ∷ asked) = ap (λ t. t ∷ map (λ other. term_in new other.var) asked) (term-bound old new bindings bound one.var) ∙ ap (λ ts. apply bindings (term_in old one.var) ∷ ts) (asked-bound asked)

  pub terms-bound : (program : Program) (answers : Answers) → answer_terms program new answers ≡ terms_under (value_at bindings) (answer_terms program old answers)
  terms-bound program Asked = asked-bound program.asked
  terms-bound program Nothing = refl
  terms-bound program (Value source base at) =
      ap (λ t. t ∷ [])
      (replaced-agree (cell_term new base) (λ v. apply bindings (cell_term old base v)) (λ v. term-bound old new bindings bound (base + v)) (value_in (slice_get (literals_in program source) at))
      ∙ sym (replaced-replaced (cell_term old base) (value_at bindings) (value_in (slice_get (literals_in program source) at))))

  pub goal-bound : (program : Program) (laid : Laid) → goal_of program new laid ≡ goal_under bindings (length new.variables) (goal_of program old laid)
  goal-bound program laid =
      ap (λ ls. let g : Goal = record { next = length new.variables; literals = ls; terms = answer_terms program new laid.answers } in g) (reads-bound laid.literals)
      ∙ ap (λ ts. let g : Goal = record { next = length new.variables; literals = literals_under (value_at bindings) (map (read old) laid.literals); terms = ts } in g) (terms-bound program laid.answers)

  pub goals-bound : (program : Program) (laid : List Laid) → map (goal_of program new) laid ≡ map (goal_under bindings (length new.variables)) (map (goal_of program old) laid)
  goals-bound program [] = refl
  goals-bound program (one ∷ laid) =
      ap (λ g. g ∷ map (goal_of program new) laid) (goal-bound program one)
      ∙ ap (λ gs. goal_under bindings (length new.variables) (goal_of program old one) ∷ gs) (goals-bound program laid)
