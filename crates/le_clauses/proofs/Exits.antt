-- The exits of calls that answer what a definition gives.
use Rattle.std.proofs.Common.{◌≡◌, Result, Ok, Err, IfOk}
use Rattle.std.proofs.lemmas.Result.{IfOk-at_ok}
use Rattle.le_base.specs.Stop.{Gives}
use Rattle.le_base.specs.declared.stop.Refusal.{Refusal}
use Rattle.le_base.specs.declared.stop.Stop.{Stop}
use Rattle.le_base.specs.declared.stop.Stop.TheVariants.{Refused, Memory}

-- a stop is the refusal that a definition gives, or out of memory
abbrev pub Halts : {Y : Type 0} → Stop → Result Y Refusal → Type 0
Halts (Refused e) given = given ≡ Err e
Halts Memory given = Unit {0}

-- a stop that a callee gave is handed on: where the callee's definition refuses, so does the caller's
pub handed_on : {Y Y' : Type 0} (given : Result Y Refusal) (given' : Result Y' Refusal) (stop : Stop) → Halts stop given → ((e : Refusal) → given ≡ Err e → given' ≡ Err e) → Halts stop given'
handed_on given given' (Refused e) h step = step e h
handed_on given given' Memory h step = tt

-- what holds of what a definition gives holds of what a call gives
pub gives_ok : {X Y : Type 0} (view : X → Y) (Q : Y → Type 0) (r : Result X Stop) (given : Result Y Refusal) → Gives view r given → IfOk given Q → IfOk r (λ x. Q (view x))
gives_ok view Q (Ok x) given e h = IfOk-at_ok Q e h
gives_ok view Q (Err (Refused r)) given e h = tt
gives_ok view Q (Err Memory) given e h = tt
