-- The causes to refuse a document at its tokens, and which of them decides: this project's profile.
use Rattle.std.specs.Prelude.{◌≡◌, ℕ, ◌==◌, ◌||◌, ◌&&◌, if◌then◌else◌, Bool, false, nat_lt, List, [], ◌∷◌, All, Option, None, Some}
use Rattle.std.specs.List.{Contains}
use Rattle.le_base.specs.declared.code.Code.{Code}
use Rattle.le_base.specs.declared.stop.Refusal.{Refusal}
use Rattle.le_base.specs.Code.{code_number}
use Rattle.le_base.specs.Stop.{refusal_at}
use Rattle.le_layout.specs.declared.fault.Fault.{Fault}
use Rattle.le_layout.specs.declared.layout.Layout.{Layout}
use Rattle.le_layout.specs.Words.{token_of}

-- the fault of this cause at the token with this number
abbrev pub fault_at : Code → ℕ → Fault
fault_at code place = record { code = code; place = place }

-- Of two faults the one at the lesser place precedes the other, and at one place the one of the lesser number.
abbrev pub precedes : Fault → Fault → Bool
precedes f g = nat_lt f.place g.place || ((f.place == g.place) && nat_lt (code_number f.code) (code_number g.code))

-- of two faults the one that the other doesn't precede
abbrev pub sooner : Fault → Option Fault → Option Fault
sooner f None = Some f
sooner f (Some g) = if precedes g f then Some g else Some f

-- One of the faults, which none of them precedes.
pub record IsLeast (faults : List Fault) (fault : Fault) : Type 0 where
  pub one : Contains faults fault
  pub least : All (λ other. precedes other fault ≡ false) faults

-- the refusal that shows a fault
abbrev pub refusal_of : Layout → Fault → Refusal
refusal_of layout f = let t = token_of layout f.place in refusal_at f.code t.line t.column
