-- What it means that a call reads what its definition gives.
use Rattle.std.specs.Prelude.{◌≡◌, ℕ, Result, Ok, Err}
use Rattle.le_bundle.specs.declared.unfit.Unfit.{Unfit}
use Rattle.le_bundle.specs.declared.unfit.Unfit.TheVariants.{Line, Memory}
use Rattle.le_bundle.specs.declared.reader.Reader.{Reader}
use Rattle.le_bundle.specs.Lines.{lines_of, Read}

-- What a call returned, seen by view, is what the definition gives. Out of memory alone is free.
abbrev pub Fits : {X Y : Type 0} → (X → Y) → Result X Unfit → Result Y ℕ → Type 0
Fits view (Ok x) given = given ≡ Ok (view x)
Fits view (Err (Line n)) given = given ≡ Err n
Fits view (Err Memory) given = Unit {0}

-- The same of a call that read from a text, where the reader stands so now.
abbrev pub Reads : {X Y : Type 0} → (X → Y) → Result X Unfit → Reader → Result (Read Y) ℕ → Type 0
Reads view result reader given = Fits (λ x. record { value = view x; number = reader.number; lines = lines_of reader.rest.now }) result given
