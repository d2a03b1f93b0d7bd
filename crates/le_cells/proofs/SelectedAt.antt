-- The literal that is selected.
use Rattle.std.proofs.Common.{◌≡◌, ℕ, zero, suc, ◌+◌, ◌<◌, List, [], ◌∷◌, ◌++◌, get_or, take, drop, length, Option, Some, None, refl, sym, ap, ◌∙◌, length-append, add-one, arith}
use Rattle.std.specs.Prelude.{option_map}
use Rattle.le_terms.specs.declared.program.Literal.{Literal}
use Rattle.le_terms.specs.declared.program.Program.{Program}
use Rattle.le_proofs.specs.Goals.{Picked, is_delayed, selected}
use Rattle.le_proofs.proofs.Picks.{IsPicked, pick-means}
use Rattle.le_cells.specs.Keeping.{Selects, placed}

before-is : (before : List Literal) (c : Literal) (behind : List Literal) → take (length before) (before ++ c ∷ behind) ≡ before
before-is [] c behind = refl
before-is (b ∷ before) c behind = ap (λ ls. b ∷ ls) (before-is before c behind)

behind-is : (before : List Literal) (c : Literal) (behind : List Literal) → drop (suc (length before)) (before ++ c ∷ behind) ≡ behind
behind-is [] c behind = refl
behind-is (b ∷ before) c behind = behind-is before c behind

there-is : (before : List Literal) (c : Literal) (behind : List Literal) (d : Literal) → get_or (before ++ c ∷ behind) (length before) d ≡ c
there-is [] c behind d = refl
there-is (b ∷ before) c behind d = there-is before c behind d

-- the literal at the place that was found is selected
pub selects-at : (program : Program) (literals : List Literal) (place : ℕ) → option_map (λ (picked : Picked Literal). length picked.before) (selected program.version literals) ≡ Some place
    → (place < length literals) × ((x : Literal) → x ≡ get_or literals place x → Selects program literals place x)
selects-at program literals place h = by (selected program.version literals) refl h
  where
    by : (o : Option (Picked Literal)) → selected program.version literals ≡ o → option_map (λ (picked : Picked Literal). length picked.before) o ≡ Some place → (place < length literals) × ((x : Literal) → x ≡ get_or literals place x → Selects program literals place x)
    by None one h' = absurd (cc h')
    by (Some picked) one h' =
        let long : length picked.before ≡ place = cc h' in
        let means : IsPicked (is_delayed program.version) literals picked = pick-means (is_delayed program.version) literals picked one in
        let all : literals ≡ picked.before ++ picked.chosen ∷ picked.behind = means.all in
        let total : length literals ≡ length picked.before + length (picked.chosen ∷ picked.behind) = ap length all ∙ length-append picked.before (picked.chosen ∷ picked.behind) in
        let first : take place literals ≡ picked.before = ap (λ n. take n literals) (sym long) ∙ (ap (take (length picked.before)) all ∙ before-is picked.before picked.chosen picked.behind) in
        let last : drop (place + 1) literals ≡ picked.behind = ap (λ n. drop n literals) (add-one place ∙ ap suc (sym long)) ∙ (ap (drop (suc (length picked.before))) all ∙ behind-is picked.before picked.chosen picked.behind) in (
          omega arith,
          λ x read.
              let same : x ≡ picked.chosen = read ∙ (ap (λ n. get_or literals n x) (sym long) ∙ (ap (λ ls. get_or ls (length picked.before) x) all ∙ there-is picked.before picked.chosen picked.behind x)) in (
                one ∙ (ap (λ b. Some (let p : Picked Literal = record { before = b; chosen = picked.chosen; behind = picked.behind } in p)) (sym first)
                    ∙ (ap (λ c. Some (let p : Picked Literal = record { before = take place literals; chosen = c; behind = picked.behind } in p)) (sym same)
                    ∙ ap (λ b. Some (let p : Picked Literal = record { before = take place literals; chosen = x; behind = b } in p)) (sym last))),
                read,
              ),
        )

-- literals that are some have a first one
pub some-first : (literals : List Literal) → 0 < length literals → (first : Literal) × (rest : List Literal) × (literals ≡ first ∷ rest)
some-first [] some = absurd (omega (arith, some))
some-first (literal ∷ literals) some = (literal, literals, refl)

-- literals with a selected one have a first one
pub selects-first : (program : Program) (literals : List Literal) (place : ℕ) (literal : Literal) → Selects program literals place literal
    → (first : Literal) × (rest : List Literal) × (literals ≡ first ∷ rest) × (selected program.version (first ∷ rest) ≡ Some (placed literals place literal))
selects-first program [] place literal selects = absurd (cc selects.0)
selects-first program (first ∷ rest) place literal selects = (first, rest, refl, selects.0)

-- two literals that stand at one place are the same
pub same-at : (literals : List Literal) (place : ℕ) (a b : Literal) → place < length literals → a ≡ get_or literals place a → b ≡ get_or literals place b → a ≡ b
same-at [] place a b less h k = absurd (omega arith)
same-at (l ∷ literals) zero a b less h k = h ∙ sym k
same-at (l ∷ literals) (suc place) a b less h k = same-at literals place a b (omega arith) h k

-- the literal at a place
pub literal-at : (literals : List Literal) (place : ℕ) → place < length literals → (literal : Literal) × (literal ≡ get_or literals place literal)
literal-at [] place less = absurd (omega arith)
literal-at (l ∷ literals) zero less = (l, refl)
literal-at (l ∷ literals) (suc place) less = literal-at literals place (omega arith)
