-- A source and a sink over memory, whose calls fail where the caller says: this project's profile.
use Rattle.std.specs.Prelude.{ℕ, ◌+◌, ◌-◌, ◌^◌, ◌==◌, ◌||◌, Bool, nat_le, min, List, ◌++◌, length, take, drop, if◌then◌else◌}
use Rattle.std.specs.List.{list_any}
use Rattle.le_base.specs.declared.outside.Got.{Got}
use Rattle.le_base.specs.declared.outside.Got.TheVariants as got
use Rattle.le_base.specs.declared.outside.Took.{Took}
use Rattle.le_base.specs.declared.outside.Took.TheVariants as took

-- one more, up to the greatest number of 64 bits
abbrev pub one_more : ℕ → ℕ
one_more n = min (n + 1) (2 ^ 64 - 1)

-- whether the call after so many calls is one of those that are to fail
abbrev pub fails_after : List ℕ → ℕ → Bool
fails_after fails calls = list_any (λ n. n == one_more calls) fails

-- a source over memory: the bytes left, the most that one call gives, the calls that are to fail, and how many calls and failures there were
pub record SourceState : Type 0 where
  pub left : List ℕ
  pub piece : ℕ
  pub fails : List ℕ
  pub calls : ℕ
  pub faults : ℕ

-- what its next read answers, into a buffer of this room
abbrev pub next_got : SourceState → ℕ → Got
next_got s room =
    if fails_after s.fails s.calls then got.Failed
    else (if length s.left == 0 then got.End else got.Bytes (min (min s.piece room) (length s.left)))

-- and what it is after that answer
abbrev pub source_after : SourceState → Got → SourceState
source_after s (got.Bytes n) = record s { left = drop n s.left; calls = one_more s.calls }
source_after s got.End = record s { calls = one_more s.calls }
source_after s got.Failed = record s { calls = one_more s.calls; faults = one_more s.faults }

-- a sink over memory: what was written, how much it holds in all, the most that one call takes, the calls that are to fail, and how many calls and failures there were
pub record SinkState : Type 0 where
  pub written : List ℕ
  pub room : ℕ
  pub piece : ℕ
  pub fails : List ℕ
  pub calls : ℕ
  pub faults : ℕ

-- what its next write answers, of so many bytes
abbrev pub next_took : SinkState → ℕ → Took
next_took s count =
    if fails_after s.fails s.calls || nat_le s.room (length s.written) then took.Failed
    else took.Bytes (min (min s.piece count) (s.room - length s.written))

-- and what it is after that answer to a write of these bytes
abbrev pub sink_after : SinkState → Took → List ℕ → SinkState
sink_after s (took.Bytes n) bytes = record s { written = s.written ++ take n bytes; calls = one_more s.calls }
sink_after s took.Failed bytes = record s { calls = one_more s.calls; faults = one_more s.faults }
