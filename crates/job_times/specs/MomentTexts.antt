-- A date and a time of day as a text.
use Rattle.std.specs.Prelude.{◌≡◌, ℕ, ◌<◌, ◌/◌, ◌%◌, ◌==◌, ◌&&◌, ◌||◌, not, Bool, cond, List, ◌++◌, codes}
use Rattle.std.specs.Fmt.{decimal}
use Rattle.std.specs.Int.{IsInRange}

-- a number below 100, in two digits
abbrev pub two_digits : ℕ → List ℕ
two_digits n = decimal (n / 10) ++ decimal (n % 10)

-- a number below 10000, in four digits
abbrev pub four_digits : ℕ → List ℕ
four_digits n = two_digits (n / 100) ++ two_digits (n % 100)

-- a year, a month and a day, as `2026-11-28`
abbrev pub date_by : ℕ → ℕ → ℕ → List ℕ
date_by year month day = four_digits year ++ (codes "-" ++ (two_digits month ++ (codes "-" ++ two_digits day)))

-- an hour, a minute and a second, as `05:04:59`
abbrev pub time_by : ℕ → ℕ → ℕ → List ℕ
time_by hour minute second = two_digits hour ++ (codes ":" ++ (two_digits minute ++ (codes ":" ++ two_digits second)))

-- whether the year has a 29 February
abbrev pub is_leap_year : ℕ → Bool
is_leap_year year = (year % 4 == 0) && (not (year % 100 == 0) || (year % 400 == 0))

-- the number of a month's last day
abbrev pub last_day : ℕ → ℕ → ℕ
last_day year month =
    cond (month == 2) (cond (is_leap_year year) 29 28) (cond ((month == 4) || (month == 6) || (month == 9) || (month == 11)) 30 31)

-- the text says a date that the calendar has, in a year of four digits from 1970 on, and a time of day
pub record IsMomentText (text : List ℕ) : Type 0 where
  pub year : ℕ
  pub month : ℕ
  pub day : ℕ
  pub hour : ℕ
  pub minute : ℕ
  pub second : ℕ
  pub year_in : IsInRange 1970 9999 year
  pub month_in : IsInRange 1 12 month
  pub day_in : IsInRange 1 (last_day year month) day
  pub hour_in : hour < 24
  pub minute_in : minute < 60
  pub second_in : second < 60
  pub said : text ≡ date_by year month day ++ (codes "T" ++ time_by hour minute second)
