-- Scopes, and the names of the variables introduced in them: this project's profile.
use Rattle.std.specs.Prelude.{ℕ, ◌+◌, ◌^◌, ◌<◌, ◌≤◌, nat_le, nat_lt, if◌then◌else◌, Option, List, [], ◌∷◌, ◌++◌, length, take}
use Rattle.std.specs.List.{position, filter}
use Rattle.std.specs.Option.{is_some}
use Rattle.le_layout.specs.Words.{same_word}
use Rattle.le_scope.specs.declared.scope.Intro.{Intro}
use Rattle.le_scope.specs.declared.scope.Intro.TheVariants.{New, Again, Full}

-- a scope: the most names that it takes, the names introduced so far, as they were first spelled, in order, and the numbers of those that `which` introduced, in order
pub record ScopeState : Type 0 where
  pub limit : ℕ
  pub names : List (List ℕ)
  pub asked : List ℕ

-- numbers that ascend, the first of them no less than the least, and all of them below the most
abbrev pub Ascend : ℕ → List ℕ → ℕ → Type 0
Ascend least [] most = least ≤ most
Ascend least (n ∷ ns) most = (least ≤ n) × Ascend (n + 1) ns most

-- what every scope keeps: no more names than its limit, which is a number of 32 bits, and the numbers of names that `which` introduced ascend and are below the number of names
pub record IsScope (scope : ScopeState) : Type 0 where
  pub few : length scope.names ≤ scope.limit
  pub small : scope.limit < 2 ^ 32
  pub noted : Ascend 0 scope.asked (length scope.names)

-- a scope without names
abbrev pub empty_scope : ℕ → ScopeState
empty_scope limit = record { limit = limit; names = []; asked = [] }

-- the number of a name, counted from 0, where it was introduced, ASCII case ignored
abbrev pub place_of : ScopeState → List ℕ → Option ℕ
place_of scope name = position (same_word name) scope.names

-- What introducing a name answers: that it is there already, else that the scope is full, else its new number.
unfoldable pub introduction : ScopeState → List ℕ → Intro
introduction scope name =
    if is_some (place_of scope name) then Again
    else (if nat_le scope.limit (length scope.names) then Full
    else New (length scope.names))

-- the scope with one more name
abbrev pub with_name : ScopeState → List ℕ → ScopeState
with_name scope name = record scope { names = scope.names ++ name ∷ [] }

-- the scope after this answer to the introduction of a name: a new name stands last
abbrev pub after_introduction : ScopeState → List ℕ → Intro → ScopeState
after_introduction scope name (New n) = with_name scope name
after_introduction scope name Again = scope
after_introduction scope name Full = scope

-- the scope once a name was introduced
abbrev pub introduced : ScopeState → List ℕ → ScopeState
introduced scope name = after_introduction scope name (introduction scope name)

-- the scope with one more name, whose number is noted since `which` introduced it
abbrev pub with_asked : ScopeState → List ℕ → ScopeState
with_asked scope name =
    record { limit = scope.limit; names = scope.names ++ name ∷ []; asked = scope.asked ++ length scope.names ∷ [] }

-- the scope after this answer to the introduction of a name by `which`: a new name stands last, and its number is noted
abbrev pub after_asking : ScopeState → List ℕ → Intro → ScopeState
after_asking scope name (New n) = with_asked scope name
after_asking scope name Again = scope
after_asking scope name Full = scope

-- the scope once `which` introduced a name
abbrev pub introduced_by_which : ScopeState → List ℕ → ScopeState
introduced_by_which scope name = after_asking scope name (introduction scope name)

-- the numbers below a bound
abbrev pub numbers_below : ℕ → List ℕ → List ℕ
numbers_below most ns = filter (λ n. nat_lt n most) ns

-- the scope with its first names alone, and what is noted of them
abbrev pub first_names : ScopeState → ℕ → ScopeState
first_names scope n = record { limit = scope.limit; names = take n scope.names; asked = numbers_below n scope.asked }
