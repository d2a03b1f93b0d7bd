-- What one call on the outside does to its bytes and to its count of faults: this project's profile.
use Rattle.std.specs.Prelude.{◌≡◌, ℕ, ◌+◌, ◌-◌, ◌^◌, ◌<◌, ◌≤◌, min, List, [], length, take, Option, None, Some}
use Rattle.std.specs.Io.KnownBytes.{Consumes, Appends, Keeps, IsAtEnd}
use Rattle.le_base.specs.declared.outside.Got.{Got}
use Rattle.le_base.specs.declared.outside.Got.TheVariants as got
use Rattle.le_base.specs.declared.outside.Took.{Took}
use Rattle.le_base.specs.declared.outside.Took.TheVariants as took

-- The count is greater than before, or stands at the greatest number of 64 bits.
abbrev pub Rose : ℕ → ℕ → Type 0
Rose before now = min (before + 1) (2 ^ 64 - 1) ≤ now

-- A read gave its buffer the first n bytes left, found nothing left, or failed and took nothing away.
abbrev pub Reads : Option (List ℕ) → Option (List ℕ) → Got → List ℕ → Type 0
Reads old new (got.Bytes n) buffer = (0 < n) × (n ≤ length buffer) × Consumes old new (take n buffer)
Reads old new got.End buffer = Keeps old new × IsAtEnd old
Reads old new got.Failed buffer = Keeps old new

-- A write took the first n bytes, or failed and took none.
abbrev pub Writes : Option (List ℕ) → Option (List ℕ) → Took → List ℕ → Type 0
Writes old new (took.Bytes n) bytes = (0 < n) × (n ≤ length bytes) × Appends old new (take n bytes)
Writes old new took.Failed bytes = Keeps old new

-- A prefix of the bytes was written.
abbrev pub AppendsPrefix : Option (List ℕ) → Option (List ℕ) → List ℕ → Type 0
AppendsPrefix old new bytes = (n : ℕ) × Appends old new (take n bytes)

-- The bytes are all that was left, and nothing is left now.
abbrev pub ReadsAll : Option (List ℕ) → Option (List ℕ) → List ℕ → Type 0
ReadsAll None new bytes = Unit {0}
ReadsAll (Some left) new bytes = (bytes ≡ left) × (new ≡ Some [])

-- At most so many bytes were taken away.
abbrev pub ConsumesAtMost : Option (List ℕ) → Option (List ℕ) → ℕ → Type 0
ConsumesAtMost old new most = (bytes : List ℕ) × (length bytes ≤ most) × Consumes old new bytes

-- Exactly so many bytes were taken away.
abbrev pub ConsumesExactly : Option (List ℕ) → Option (List ℕ) → ℕ → Type 0
ConsumesExactly old new count = (bytes : List ℕ) × (length bytes ≡ count) × Consumes old new bytes
