-- Refusals, and what it means that a call gives what its definition gives.
use Rattle.std.specs.Prelude.{◌≡◌, ℕ, [], Result, Ok, Err}
use Rattle.le_base.specs.declared.code.Code.{Code}
use Rattle.le_base.specs.declared.stop.Refusal.{Refusal}
use Rattle.le_base.specs.declared.stop.Stop.{Stop}
use Rattle.le_base.specs.declared.stop.Stop.TheVariants.{Refused, Memory}

-- a refusal that shows no readings
abbrev pub refusal_at : Code → ℕ → ℕ → Refusal
refusal_at code line column = record { code = code; line = line; column = column; first = []; second = [] }

-- What a call returned, seen by view, is what the definition gives: its value, or its refusal. Out of memory alone is free.
abbrev pub Gives : {X Y : Type 0} → (X → Y) → Result X Stop → Result Y Refusal → Type 0
Gives view (Ok x) given = given ≡ Ok (view x)
Gives view (Err (Refused refusal)) given = given ≡ Err refusal
Gives view (Err Memory) given = Unit {0}
