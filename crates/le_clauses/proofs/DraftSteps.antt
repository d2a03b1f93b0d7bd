-- One step of each walk that translates.
use Rattle.std.proofs.Common.{◌≡◌, ℕ, zero, suc, List, [], ◌∷◌, ◌++◌, length, get_or, reverse, map, refl, sym, ap, ◌∙◌}
use Rattle.std.specs.List.{flat_map}
use Rattle.std.proofs.lemmas.List.{reverse-append}
use Rattle.le_terms.specs.declared.program.Literal.{Literal}
use Rattle.le_terms.specs.declared.program.Clause.{Clause}
use Rattle.le_terms.specs.declared.program.GroupKind.{GroupKind}
use Rattle.le_clauses.specs.declared.part.Part.{Part}
use Rattle.le_clauses.specs.declared.part.Part.TheVariants as parts
use Rattle.le_clauses.specs.declared.draft.Made.{Made}
use Rattle.le_clauses.specs.declared.draft.Mark.{Mark}
use Rattle.le_clauses.specs.declared.draft.Done.{Done}
use Rattle.le_clauses.specs.declared.draft.Body.{Body}
use Rattle.le_clauses.specs.Groups.{body}
use Rattle.le_clauses.specs.Makings.{branch_made, joint_made}
use Rattle.le_clauses.specs.Walks.{members, left_by, clauses_in, kinds_in, first_done, rest_done, take_done, drop_done, with_mark, dones}

-- marked parts before conditions that are done
abbrev pub dones_onto : List ℕ → List Mark → List Done → List Done
dones_onto rule [] ds = ds
dones_onto rule (m ∷ ms) ds = with_mark rule m (dones_onto rule ms ds)

pub dones_last : (rule : List ℕ) (ms : List Mark) (m : Mark) (ds : List Done) → dones_onto rule (ms ++ m ∷ []) ds ≡ dones_onto rule ms (with_mark rule m ds)
dones_last rule [] m ds = refl
dones_last rule (n ∷ ms) m ds = ap (with_mark rule n) (dones_last rule ms m ds)

pub dones_all : (rule : List ℕ) (ms : List Mark) → dones_onto rule ms [] ≡ dones rule ms
dones_all rule [] = refl
dones_all rule (m ∷ ms) = ap (with_mark rule m) (dones_all rule ms)

taken_last : (n : ℕ) (ds : List Done) → take_done (suc n) ds ≡ take_done n ds ++ first_done (drop_done n ds) ∷ []
taken_last zero ds = refl
taken_last (suc n) ds = ap (λ xs. first_done ds ∷ xs) (taken_last n (rest_done ds))

pub take_last : (n m : ℕ) (ds : List Done) → m ≡ suc n → take_done m ds ≡ take_done n ds ++ first_done (drop_done n ds) ∷ []
take_last n m ds e = ap (λ k. take_done k ds) e ∙ taken_last n ds

dropped_last : (n : ℕ) (ds : List Done) → drop_done (suc n) ds ≡ rest_done (drop_done n ds)
dropped_last zero ds = refl
dropped_last (suc n) ds = dropped_last n (rest_done ds)

pub drop_last : (n m : ℕ) (ds : List Done) → m ≡ suc n → drop_done m ds ≡ rest_done (drop_done n ds)
drop_last n m ds e = ap (λ k. drop_done k ds) e ∙ dropped_last n ds

pub same_literals : (ds : List Done) → flat_map (λ (b : Body). b.literals) (map (λ (d : Done). body d.line d.literals) ds) ≡ flat_map (λ (d : Done). d.literals) ds
same_literals [] = refl
same_literals (d ∷ ds) = ap (λ xs. d.literals ++ xs) (same_literals ds)

pub get_or_zero : (xs : List ℕ) (v : ℕ) → get_or (xs ++ 0 ∷ []) v 0 ≡ get_or xs v 0
get_or_zero [] zero = refl
get_or_zero [] (suc v) = refl
get_or_zero (x ∷ xs) zero = refl
get_or_zero (x ∷ xs) (suc v) = get_or_zero xs v

pub reverse_last : (xs : List Done) (d : Done) → reverse (xs ++ d ∷ []) ≡ d ∷ reverse xs
reverse_last xs d = reverse-append xs (d ∷ [])

members_length : (n : ℕ) → length (members n) ≡ n
members_length zero = refl
members_length (suc n) = ap suc (members_length n)

pub left_and : (p : Part) (n : ℕ) (ds : List Done) → p ≡ parts.And n → drop_done n ds ≡ left_by p ds
left_and p n ds e = ap (λ k. drop_done k ds) (sym (members_length n)) ∙ ap (λ q. left_by q ds) (sym e)

pub left_or : (p : Part) (n : ℕ) (ds : List Done) → p ≡ parts.Or n → drop_done n ds ≡ left_by p ds
left_or p n ds e = ap (λ k. drop_done k ds) (sym (members_length n)) ∙ ap (λ q. left_by q ds) (sym e)

pub joint_same : (m : Made) (vars : List ℕ) (literals : List Literal) (bodies : List Body) (ds : List Done) → m ≡ branch_made ds → vars ≡ m.vars → literals ≡ flat_map (λ (b : Body). b.literals) m.draft.bodies → bodies ≡ body m.line literals ∷ [] → ◌≡◌ {A = Made} (record { line = m.line; vars = vars; draft = record { bodies = bodies; clauses = m.draft.clauses; kinds = m.draft.kinds } }) (joint_made ds)
joint_same m vars literals bodies ds em ev el eb =
    let make : ℕ → List ℕ → List Body → List Clause → List GroupKind → Made = λ line vs bs cs ks. record { line = line; vars = vs; draft = record { bodies = bs; clauses = cs; kinds = ks } } in
    ap (λ vs. make m.line vs bodies m.draft.clauses m.draft.kinds) ev
    ∙ ap (λ bs. make m.line m.vars bs m.draft.clauses m.draft.kinds) (eb ∙ ap (λ ls. body m.line ls ∷ []) el)
    ∙ ap (λ (x : Made). make x.line x.vars (body x.line (flat_map (λ (b : Body). b.literals) x.draft.bodies) ∷ []) x.draft.clauses x.draft.kinds) em
    ∙ ap (λ ls. make (first_done ds).line (flat_map (λ (d : Done). d.vars) ds) (body (first_done ds).line ls ∷ []) (clauses_in ds) (kinds_in ds)) (same_literals ds)
