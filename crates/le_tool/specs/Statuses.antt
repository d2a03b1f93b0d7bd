-- The statuses: this project's profile.
use Rattle.std.specs.Prelude.{◌≡◌, ◌⊎◌, ℕ, Bool, true, false, Option, None, Some}
use Rattle.le_proofs.specs.declared.next.Next.{Next}
use Rattle.le_proofs.specs.declared.next.Next.TheVariants.{Answer}
use Rattle.le_tool.specs.declared.jobs.Command.{Command}
use Rattle.le_tool.specs.declared.jobs.Command.TheVariants.{Answer as Answering, Explain, Certify, Clauses, Check}
use Rattle.le_tool.specs.declared.jobs.Task.{Task}
use Rattle.le_tool.specs.declared.writes.Failure.{Failure}
use Rattle.le_tool.specs.declared.writes.Failure.TheVariants.{Read, Write, Memory}

-- the status where the report isn't written to its end
abbrev pub failure_status : Failure → ℕ
failure_status Read = 5
failure_status Write = 6
failure_status Memory = 7

abbrev pub is_answer : Next → Bool
is_answer Answer = true
is_answer _ = false

-- the status of the report of a search: answered, refused, floundered, budget spent, or out of range
abbrev pub IsSearchStatus : ℕ → Type 0
IsSearchStatus status = (status ≡ 0) ⊎ ((status ≡ 1) ⊎ ((status ≡ 3) ⊎ ((status ≡ 4) ⊎ (status ≡ 9))))

-- the status of the clauses of a document: written, or refused
abbrev pub IsClausesStatus : ℕ → Type 0
IsClausesStatus status = (status ≡ 0) ⊎ (status ≡ 1)

-- the status of a check: all derivations accepted, the length, the document or a name refused, or a line or a derivation refused
abbrev pub IsCheckStatus : ℕ → Type 0
IsCheckStatus status = (status ≡ 0) ⊎ ((status ≡ 1) ⊎ (status ≡ 8))

-- the status of the report of a command
abbrev pub IsStatusOf : Command → ℕ → Type 0
IsStatusOf Answering status = IsSearchStatus status
IsStatusOf Explain status = IsSearchStatus status
IsStatusOf Certify status = IsSearchStatus status
IsStatusOf Clauses status = IsClausesStatus status
IsStatusOf Check status = IsCheckStatus status

-- the status of the report of what the words ask for; the usage line has status 2
abbrev pub IsStatusFor : Option Task → ℕ → Type 0
IsStatusFor None status = status ≡ 2
IsStatusFor (Some task) status = IsStatusOf task.command status
