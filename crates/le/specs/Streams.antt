-- What the answers of a stream mean: this project's profile.
use Rattle.std.specs.Prelude.{ℕ, ◌==◌, if◌then◌else◌, List, take, Option, Result, Ok, Err}
use Rattle.std.specs.Io.KnownBytes.{Consumes, Appends, IsAtEnd}
use Rattle.le_base.specs.declared.outside.Got.{Got}
use Rattle.le_base.specs.declared.outside.Got.TheVariants as got
use Rattle.le_base.specs.declared.outside.Took.{Took}
use Rattle.le_base.specs.declared.outside.Took.TheVariants as took
use Rattle.le_base.specs.Memory.{one_more}

-- A read fails exactly where the stream answers an error. A read of no bytes is the end.
abbrev pub got_of : {E : Type 0} → Result ℕ E → Got
got_of (Ok n) = if n == 0 then got.End else got.Bytes n
got_of (Err error) = got.Failed

-- A write fails exactly where the stream answers an error, takes no byte, or can't be flushed.
abbrev pub took_of : {U E F : Type 0} → Result ℕ E → Result U F → Took
took_of (Ok n) (Ok flushed) = if n == 0 then took.Failed else took.Bytes n
took_of (Ok n) (Err error) = took.Failed
took_of (Err error) flushed = took.Failed

-- A read that fails is one fault more, up to the greatest number of 64 bits, and any other read is none.
abbrev pub faults_after_read : ℕ → Got → ℕ
faults_after_read faults got.Failed = one_more faults
faults_after_read faults got.End = faults
faults_after_read faults (got.Bytes n) = faults

-- A write that fails is one fault more, up to the greatest number of 64 bits, and any other write is none.
abbrev pub faults_after_write : ℕ → Took → ℕ
faults_after_write faults took.Failed = one_more faults
faults_after_write faults (took.Bytes n) = faults

-- the first n bytes left, or nothing where none is left; of a failed read the stream says what it took
abbrev pub GivesRead : Option (List ℕ) → Option (List ℕ) → Got → List ℕ → Type 0
GivesRead old new (got.Bytes n) buffer = Consumes old new (take n buffer)
GivesRead old new got.End buffer = IsAtEnd new
GivesRead old new got.Failed buffer = Unit {0}

-- it has grown by the first n bytes; of a failed write the stream says what it took
abbrev pub TakesWrite : Option (List ℕ) → Option (List ℕ) → Took → List ℕ → Type 0
TakesWrite old new (took.Bytes n) bytes = Appends old new (take n bytes)
TakesWrite old new took.Failed bytes = Unit {0}
