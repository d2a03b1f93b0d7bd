-- The literal that is chosen: the first that isn't passed over, or the first of all.
use Rattle.std.proofs.Common.{◌≡◌, ℕ, ◌+◌, ◌<◌, ◌≤◌, Bool, true, false, List, [], ◌∷◌, ◌++◌, take, drop, length, get_or, Some, None, true≢false, refl, sym, ap, ◌∙◌, subst, arith}
use Rattle.std.specs.Prelude.{◌==◌, option_map, if◌then◌else◌}
use Rattle.std.specs.List.{AllByRecursion}
use Rattle.std.proofs.lemmas.List.{take-append-drop, take_more, take_all}
use Rattle.le_terms.proofs.Preorder.{drop-item}
use Rattle.le_terms.specs.declared.program.Literal.{Literal}
use Rattle.le_proofs.specs.Goals.{Picked, is_delayed, selected}
use Rattle.le_proofs.specs.Replay.{or_first}
use Rattle.le_proofs.proofs.Picks.{pick-there}
use Rattle.le_check.specs.Goals.{placed, Chooses}

-- those before a place are passed over
abbrev pub ArePassed : ℕ → List Literal → ℕ → Type 0
ArePassed version literals place = AllByRecursion (λ literal. is_delayed version literal ≡ true) (take place literals)

all-push : {X : Type 0} (P : X → Type 0) (xs : List X) (x : X) → AllByRecursion P xs → P x → AllByRecursion P (xs ++ x ∷ [])
all-push P [] x all last = (last, tt)
all-push P (y ∷ xs) x all last = (all.0, all-push P xs x all.1 last)

pub passed-more : (version : ℕ) (literals : List Literal) (place : ℕ) (x : Literal) → place < length literals → x ≡ get_or literals place x → is_delayed version x ≡ true → ArePassed version literals place → ArePassed version literals (place + 1)
passed-more version literals place x within read delayed before =
    subst (AllByRecursion (λ literal. is_delayed version literal ≡ true)) (sym (take_more literals place x within ∙ ap (λ y. take place literals ++ y ∷ []) (sym read)))
    (all-push (λ literal. is_delayed version literal ≡ true) (take place literals) x before delayed)

or-first-some : (literals : List Literal) (picked : Picked Literal) → 0 < length literals → or_first literals (Some picked) ≡ Some picked
or-first-some [] picked some = absurd (omega arith)
or-first-some (literal ∷ literals) picked some = refl

pick-none : (version : ℕ) (literals : List Literal) → AllByRecursion (λ literal. is_delayed version literal ≡ true) literals → selected version literals ≡ None
pick-none version [] all = refl
pick-none version (literal ∷ literals) all =
    ap (λ b. if b then option_map (λ (p : Picked Literal). let q : Picked Literal = record { before = literal ∷ p.before; chosen = p.chosen; behind = p.behind } in q) (selected version literals) else Some (record { before = []; chosen = literal; behind = literals })) all.0
    ∙ ap (option_map (λ (p : Picked Literal). let q : Picked Literal = record { before = literal ∷ p.before; chosen = p.chosen; behind = p.behind } in q)) (pick-none version literals all.1)

pub chosen-there : (version : ℕ) (literals : List Literal) (place : ℕ) (found : Literal) → place < length literals → found ≡ get_or literals place found → is_delayed version found ≡ false → ArePassed version literals place
    → (place < length literals) × Chooses version literals place
chosen-there version literals place found within read stops passed = (
  within,
  λ x read'.
      let one : drop place literals ≡ x ∷ drop (place + 1) literals = drop-item literals place x within read' in
      let two : drop place literals ≡ found ∷ drop (place + 1) literals = drop-item literals place found within read in
      let same : found ≡ x = cc (sym two ∙ one) in
      let all : literals ≡ take place literals ++ x ∷ drop (place + 1) literals = sym (take-append-drop place literals) ∙ ap (λ ls. take place literals ++ ls) one in
      ap (or_first literals) (ap (selected version) all ∙ pick-there (is_delayed version) (take place literals) x (drop (place + 1) literals) passed (subst (λ l. is_delayed version l ≡ false) same stops))
      ∙ or-first-some literals (placed literals place x) (omega arith),
)

pub chosen-first : (version : ℕ) (literals : List Literal) (place : ℕ) → 0 < length literals → length literals ≤ place → ArePassed version literals place → (0 < length literals) × Chooses version literals 0
chosen-first version literals place some past passed = (
  some,
  λ x read. ap (or_first literals) (pick-none version literals (subst (AllByRecursion (λ literal. is_delayed version literal ≡ true)) (take_all place literals past) passed)) ∙ by literals some x read,
)
  where
    by : (ls : List Literal) → 0 < length ls → (x : Literal) → x ≡ get_or ls 0 x → or_first ls None ≡ Some (placed ls 0 x)
    by [] some' x read = absurd (omega arith)
    by (l ∷ ls) some' x read = ap (λ c. Some (let p : Picked Literal = record { before = []; chosen = c; behind = ls } in p)) (sym read)

pub some-there : {X : Type 0} (xs : List X) (none : Bool) → none ≡ (length xs == 0) → none ≡ false → 0 < length xs
some-there [] none is not_none = absurd (true≢false (sym is ∙ not_none))
some-there (x ∷ xs) none is not_none = omega arith
