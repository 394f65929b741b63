-- A moment as a date and a time of day in UTC, in the form of RFC 3339.
use Rattle.std.specs.Prelude.{ℕ, zero, suc, ◌+◌, ◌*◌, ◌/◌, ◌%◌, nat_lt, pos, List}
use Rattle.std.specs.Prelude.{◌∷◌, ◌++◌, None, codes, if◌then◌else◌}
use Rattle.jiff_core.specs.Calendar.{days_in_month}
use Rattle.jiff_fmt.specs.Text.{fraction_part, pad2, pad4}

-- a date of the Gregorian calendar
pub record Civil : Type 0 where
  pub year : ℕ
  pub month : ℕ
  pub day : ℕ

-- the date after a date: the next day of its month, else the first of its year's next month, else the next year's first
abbrev pub tomorrow : Civil → Civil
tomorrow c =
    if nat_lt c.day (days_in_month (pos c.year) c.month) then record { year = c.year; month = c.month; day = c.day + 1 }
    else if nat_lt c.month 12 then record { year = c.year; month = c.month + 1; day = 1 }
    else record { year = c.year + 1; month = 1; day = 1 }

-- the date that many days after 1 January 1970
unfoldable pub date_of : ℕ → Civil
date_of zero = record { year = 1970; month = 1; day = 1 }
date_of (suc n) = tomorrow (date_of n)

-- `2024-06-19`
abbrev pub date_text : Civil → List ℕ
date_text c = pad4 c.year ++ 45 ∷ pad2 c.month ++ 45 ∷ pad2 c.day

-- `17:30:05`, from the seconds since 1970. A day has 86,400 of them
abbrev pub clock_text : ℕ → List ℕ
clock_text seconds = pad2 (seconds / 3600 % 24) ++ 58 ∷ pad2 (seconds / 60 % 60) ++ 58 ∷ pad2 (seconds % 60)

-- `2024-06-19T17:30:05Z`, from the microseconds since 1970: `.25` comes before the `Z` if a quarter of a second is
-- left
unfoldable pub utc_text : ℕ → List ℕ
utc_text moment =
    let seconds = moment / 1000000 in
    date_text (date_of (seconds / 86400)) ++ 84 ∷ clock_text seconds ++ fraction_part None (moment % 1000000 * 1000)
    ++ codes "Z"
