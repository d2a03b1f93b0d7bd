-- The lines of a text, and reading them one by one: this project's profile.
use Rattle.std.specs.Prelude.{ℕ, ◌+◌, ◌==◌, if◌then◌else◌, List, [], ◌∷◌, Option, None, Some, Result, Ok, Err}

-- a line without its LF: a whole one has it, and only the last may lack it
pub data Line : Type 0 where
  whole : List ℕ → Line
  cut : List ℕ → Line

-- lines with a byte before the first of them
abbrev pub with_byte : ℕ → List Line → List Line
with_byte b [] = cut (b ∷ []) ∷ []
with_byte b (whole line ∷ lines) = whole (b ∷ line) ∷ lines
with_byte b (cut line ∷ lines) = cut (b ∷ line) ∷ lines

-- The lines of a text: each ends with an LF or with the text.
abbrev pub lines_of : List ℕ → List Line
lines_of [] = []
lines_of (b ∷ bytes) = if b == 10 then whole [] ∷ lines_of bytes else with_byte b (lines_of bytes)

-- what was read, the number of the next line, counted from 1, and the lines that are left
pub record Read (X : Type 0) : Type 0 where
  pub value : X
  pub number : ℕ
  pub lines : List Line

-- where reading goes on with what was read, or the number of the first line that doesn't fit
abbrev pub then_read : {X Y : Type 0} → Result (Read X) ℕ → (X → ℕ → List Line → Result Y ℕ) → Result Y ℕ
then_read (Ok r) more = more r.value r.number r.lines
then_read (Err line) more = Err line

abbrev pub read_by : {X : Type 0} → ℕ → List Line → Option X → Result (Read X) ℕ
read_by n lines (Some x) = Ok (record { value = x; number = n + 1; lines = lines })
read_by n lines None = Err n

-- The next line, which has this number, as what it says. A line that says nothing, that lacks its LF or that isn't there doesn't fit.
abbrev pub next_line : {X : Type 0} → (List ℕ → Option X) → ℕ → List Line → Result (Read X) ℕ
next_line says n [] = Err n
next_line says n (cut line ∷ lines) = Err n
next_line says n (whole line ∷ lines) = read_by n lines (says line)

-- the lines of a text without an LF
abbrev pub last_lines : List ℕ → List Line
last_lines [] = []
last_lines (b ∷ bytes) = cut (b ∷ bytes) ∷ []
