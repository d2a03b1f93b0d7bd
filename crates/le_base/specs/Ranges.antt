-- The numbers and the days of the language: this project's profile.
use Rattle.std.specs.Prelude.{◌-◌, ◌^◌, ℤ, pos, negsuc, ◌≤ℤ◌}

-- a number of the language: from -10^18 to 10^18
abbrev pub IsNumber : ℤ → Type 0
IsNumber n = (negsuc (10 ^ 18 - 1) ≤ℤ n) × (n ≤ℤ pos (10 ^ 18))

-- a day of the language, counted from 1970-01-01: from 0001-01-01 to 9999-12-31
abbrev pub IsDay : ℤ → Type 0
IsDay day = (negsuc 719_161 ≤ℤ day) × (day ≤ℤ pos 2_932_896)
