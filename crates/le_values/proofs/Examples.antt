-- Worked examples of the definitions.
use Rattle.std.proofs.Common.{◌≡◌, ◌+◌, ◌*◌, [], ◌∷◌, map, codes, Some, None, pos, negsuc, refl}
use Rattle.jiff_core.specs.Calendar.{days_from_civil, day_count, days_of_years, days_of_months}
use Rattle.le_values.specs.Numbers.{number_of}
use Rattle.le_values.specs.Days.{day_of, day_in_count, days_later}

-- leading zeros have no effect, -0 is 0, and 10^18 is the greatest number
numbers : map number_of (codes "007" ∷ codes "-0" ∷ codes "-42" ∷ codes "1000000000000000000" ∷ []) ≡ Some (pos 7) ∷ Some (pos 0) ∷ Some (negsuc 41) ∷ Some (pos 1_000_000_000_000_000_000) ∷ []
unfolding number_of
numbers = refl

-- a word without digits, with another sign or with a point is no number, nor is one past the greatest
no_numbers : map number_of (codes "" ∷ codes "-" ∷ codes "+5" ∷ codes "5.5" ∷ codes "-1000000000000000001" ∷ []) ≡ None ∷ None ∷ None ∷ None ∷ None ∷ []
unfolding number_of
no_numbers = refl

-- 2024 has a 29 February
leap_day : day_of (codes "2024-02-29") ≡ Some (pos 19_782)
unfolding day_of days_from_civil day_count days_of_years days_of_months
leap_day = refl

-- 1900 has none, and there is no year 0 and no word with a digit too few
no_dates : map day_of (codes "1900-02-29" ∷ codes "0000-01-01" ∷ codes "2024-2-29" ∷ []) ≡ None ∷ None ∷ None ∷ []
unfolding day_of
no_dates = refl

-- no day follows 9999-12-31
after_the_last : days_later (pos 2_932_895) (pos 1) ≡ Some (pos 2_932_896)
unfolding days_later
after_the_last = refl

none_after_the_last : days_later (pos 2_932_896) (pos 1) ≡ None
unfolding days_later
none_after_the_last = refl

-- the 31st in the February of 2024 is the 29th
cut_to_february : day_in_count 31 (pos (12 * 2024 + 1)) ≡ Some (days_from_civil (pos 2024) 2 29)
cut_to_february = refl

-- December of the year 0 and of the year -1 are outside the years, and so is January of the year 10000
outside_the_years : map (day_in_count 1) (pos 11 ∷ negsuc 0 ∷ pos (12 * 10_000) ∷ []) ≡ None ∷ None ∷ None ∷ []
outside_the_years = refl
