-- Dates of the years 1 to 9999, as words and as day numbers: the days from 1970-01-01 to the date in the calendar of ISO 8601, as the crate jiff counts them. This project's profile.
use Rattle.std.specs.Prelude.{ℕ, zero, suc, ◌+◌, ◌-◌, ◌*◌, ◌==◌, ◌&&◌, min, Bool, List, ◌∷◌, ◌++◌, length, take, slice_index, slice_range, if◌then◌else◌, Option, Some, None, ℤ, pos, neg_ℤ, ◌+ℤ◌, ◌-ℤ◌, ◌≤ℤ◌, int_le, unsigned_abs}
use Rattle.std.specs.Char.{is_ascii_digit}
use Rattle.std.specs.Int.{is_in_range, int_div_euclid, int_rem_euclid}
use Rattle.std.specs.List.{list_all}
use Rattle.std.specs.Str.Parse.{digits_value}
use Rattle.jiff_core.specs.Calendar.{days_from_civil, days_in_month}
use Rattle.jiff_fmt.specs.Text.{pad2, pad4}

-- the day number of 0001-01-01
abbrev pub first_day : ℤ
first_day = neg_ℤ (pos 719_162)

-- the day number of 9999-12-31
abbrev pub last_day : ℤ
last_day = pos 2_932_896

-- whether it is one
abbrev pub is_day : ℤ → Bool
is_day day = int_le first_day day && int_le day last_day

-- whether the calendar has this date in the years 1 to 9999
abbrev pub is_date : ℕ → ℕ → ℕ → Bool
is_date year month day =
    is_in_range 1 9999 year && is_in_range 1 12 month && is_in_range 1 (days_in_month (pos year) month) day

-- whether the word is four digits, a minus sign, two digits, a minus sign and two digits
abbrev pub is_date_word : List ℕ → Bool
is_date_word word =
    (length word == 10)
    && list_all is_ascii_digit (take 4 word) && (slice_index word 4 == 45)
    && list_all is_ascii_digit (slice_range word 5 7) && (slice_index word 7 == 45)
    && list_all is_ascii_digit (slice_range word 8 10)

-- the year that its first four digits give
abbrev pub word_year : List ℕ → ℕ
word_year word = digits_value 10 (take 4 word)

-- the month that its middle digits give
abbrev pub word_month : List ℕ → ℕ
word_month word = digits_value 10 (slice_range word 5 7)

-- the day of the month that its last digits give
abbrev pub word_day : List ℕ → ℕ
word_day word = digits_value 10 (slice_range word 8 10)

-- the day number of a date; none where it is no date of the years 1 to 9999
abbrev pub day_of_date : ℕ → ℕ → ℕ → Option ℤ
day_of_date year month day =
    if is_date year month day then Some (days_from_civil (pos year) month day) else None

-- the day number of the date that the word is; none where it isn't of that form, or is no date of the years 1 to 9999
unfoldable pub day_of : List ℕ → Option ℤ
day_of word =
    if is_date_word word then day_of_date (word_year word) (word_month word) (word_day word) else None

-- of things numbered from 1 to n, of which each begins at a day, the last that has begun by a day
unfoldable pub last_begun : (ℕ → ℤ) → ℕ → ℤ → ℕ
last_begun start zero day = 0
last_begun start (suc n) day = if int_le (start (suc n)) day then suc n else last_begun start n day

-- the year of a day: the last whose 1 January isn't after it
unfoldable pub year_of : ℤ → ℕ
year_of day = last_begun (λ year. days_from_civil (pos year) 1 1) 9999 day

-- the month of a day: the last of its year whose first day isn't after it
unfoldable pub month_of : ℤ → ℕ
month_of day = last_begun (λ month. days_from_civil (pos (year_of day)) month 1) 12 day

-- the place of a day in its month, from 1
unfoldable pub day_in_month : ℤ → ℕ
day_in_month day = unsigned_abs (day -ℤ days_from_civil (pos (year_of day)) (month_of day) 1) + 1

-- the date of a day in the form of ISO 8601: the year in four digits, the month in two and the day in two
unfoldable pub day_text : ℤ → List ℕ
day_text day = pad4 (year_of day) ++ 45 ∷ pad2 (month_of day) ++ 45 ∷ pad2 (day_in_month day)

-- the day that many days later, or earlier for a negative number; none outside the years 1 to 9999
unfoldable pub days_later : ℤ → ℤ → Option ℤ
days_later day n = if is_day (day +ℤ n) then Some (day +ℤ n) else None

-- the months from January of the year 0 to the month of a day
abbrev pub month_count : ℤ → ℕ
month_count day = 12 * year_of day + (month_of day - 1)

-- the year of a month so counted
abbrev pub year_of_count : ℤ → ℤ
year_of_count count = int_div_euclid count (pos 12)

-- and its place in that year, from 1
abbrev pub month_of_count : ℤ → ℕ
month_of_count count = unsigned_abs (int_rem_euclid count (pos 12)) + 1

-- the same day of the month of this count, or the month's last day where it is shorter; none outside the years 1 to 9999
abbrev pub day_in_count : ℕ → ℤ → Option ℤ
day_in_count day count =
    let year = year_of_count count in
    let month = month_of_count count in
    if int_le (pos 1) year && int_le year (pos 9999)
    then Some (days_from_civil year month (min day (days_in_month year month))) else None

-- the day that many months later, or earlier for a negative number
unfoldable pub months_later : ℤ → ℤ → Option ℤ
months_later day n = day_in_count (day_in_month day) (pos (month_count day) +ℤ n)
