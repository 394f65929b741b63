-- The dates that follow one another are those of the calendar.
use Rattle.std.proofs.Common.{◌≡◌, ℕ, zero, suc, ◌+◌, ◌*◌, ◌/◌, ◌%◌, ◌<◌, ◌≤◌, ◌++◌, codes, refl, sym, ◌∙◌, arith, rules, le-ltb, lt-ltb, inl, inr, pos, neg_ℤ, ◌+ℤ◌, ◌≤ℤ◌}
use Rattle.std.proofs.lemmas.Bool.{cases_lt}
use Rattle.rly_core.specs.declared.limits.TheConstants.{MOMENT_LIMIT}
use Rattle.jiff_core.specs.declared.civil.date.Date.{Date}
use Rattle.jiff_core.specs.declared.civil.datetime.DateTime.{DateTime}
use Rattle.jiff_core.specs.Calendar.{IsCivilDate, day_count, days_from_civil, days_in_month}
use Rattle.jiff_core.specs.Date.{epoch_day}
use Rattle.jiff_core.specs.DateTime.{civil_nanos}
use Rattle.jiff_core.specs.Time.{time_nanos}
use Rattle.jiff_core.proofs.CalendarLemmas.{day_count-day, day_count-end, day_count-epoch, day_count-last_of_year, day_count-next_month, day_count-next_year, days_from_civil-day_count, days_in_month_bounds}
use Rattle.jiff_core.proofs.DateLemmas.{epoch_day_injective}
use Rattle.jiff_core.proofs.DateTimeLemmas.{civil_nanos-parts, time_nanos_bound}
use Rattle.jiff_core.proofs.SignedLemmas.{signed_arith}
use Rattle.jiff.specs.Names.{iso_datetime_text}
use Rattle.rly_plan_show.specs.Utc.{Civil, date_of, tomorrow, utc_text}

-- a date of the calendar, that many days after 1 January 1970
pub record IsDay (n : ℕ) (c : Civil) : Type 0 where
  pub civil : IsCivilDate (pos c.year) c.month c.day
  pub count : day_count (pos c.year) c.month c.day ≡ 4371953 + n

next_day : (n : ℕ) (c : Civil) → IsDay n c → c.day < days_in_month (pos c.year) c.month
    → IsDay (suc n) (record { year = c.year; month = c.month; day = c.day + 1 })
next_day n c is inside = record {
  civil = (is.civil.0, is.civil.1, (omega arith, omega (arith, inside)));
  count = omega (arith, is.count, day_count-day (pos c.year) c.month c.day (c.day + 1) is.civil.2.0 (omega arith));
}

next_month : (n : ℕ) (c : Civil) → IsDay n c → days_in_month (pos c.year) c.month ≤ c.day → c.month < 12
    → IsDay (suc n) (record { year = c.year; month = c.month + 1; day = 1 })
next_month n c is last inside = record {
  civil = (is.civil.0, (omega arith, omega (arith, inside)), (omega arith, omega (arith, days_in_month_bounds (pos c.year) (c.month + 1))));
  count = omega (arith, is.count, is.civil.2.1, last, day_count-day (pos c.year) c.month c.day 1 is.civil.2.0 (omega arith), day_count-next_month (pos c.year) c.month is.civil.1.0);
}

next_year : (n : ℕ) (c : Civil) → IsDay n c → days_in_month (pos c.year) c.month ≤ c.day → 12 ≤ c.month → suc n ≤ 2932896
    → IsDay (suc n) (record { year = c.year + 1; month = 1; day = 1 })
next_year n c is last late bound =
    let month : c.month ≡ 12 = omega (arith, late, is.civil.1.1) in
    let length : days_in_month (pos c.year) c.month ≡ 31 = rw month refl in
    let day : c.day ≡ 31 = omega (arith, last, is.civil.2.1, length) in
    let here : day_count (pos c.year) 12 31 ≡ 4371953 + n = rw (month, day) at is.count in
    let next : pos (c.year + 1) ≡ pos c.year +ℤ pos 1 = omega (arith, signed_arith) in
    let low : neg_ℤ (pos 10000) ≤ℤ pos c.year = omega (arith, signed_arith) in
    let first = day_count-next_year (pos c.year) (pos (c.year + 1)) low next in
    let count : day_count (pos (c.year + 1)) 1 1 ≡ 4371953 + suc n = omega (arith, here, first, day_count-last_of_year (pos c.year)) in
    let year : c.year < 9999 = before_last c.year is.civil.0 count in
    record {
      civil = ((omega (arith, signed_arith), omega (arith, signed_arith, year)), (omega arith, omega arith), (omega arith, omega (arith, days_in_month_bounds (pos (c.year + 1)) 1)));
      count = count;
    }
  where
    before_last : (y : ℕ) → (neg_ℤ (pos 9999) ≤ℤ pos y) × (pos y ≤ℤ pos 9999) → day_count (pos (y + 1)) 1 1 ≡ 4371953 + suc n → y < 9999
    before_last y within count =
        elim (cases_lt y 9999) [
          | inl below ↦ below
          | inr above ↦
              let same : y + 1 ≡ 10000 = omega (arith, signed_arith, within.1, above) in
              absurd (omega (arith, bound, day_count-end, rw same at count))
        ]

tomorrow_is : (n : ℕ) (c : Civil) → suc n ≤ 2932896 → IsDay n c → IsDay (suc n) (tomorrow c)
tomorrow_is n c bound is =
    elim (cases_lt c.day (days_in_month (pos c.year) c.month)) [
      | inl inside ↦ rw (lt-ltb c.day (days_in_month (pos c.year) c.month) inside) (next_day n c is inside)
      | inr last ↦ elim (cases_lt c.month 12) [
        | inl month ↦ rw (le-ltb c.day (days_in_month (pos c.year) c.month) last, lt-ltb c.month 12 month) (next_month n c is last month)
        | inr late ↦ rw (le-ltb c.day (days_in_month (pos c.year) c.month) last, le-ltb c.month 12 late) (next_year n c is last late bound)
      ]
    ]

pub date_is : (n : ℕ) → n ≤ 2932896 → IsDay n (date_of n)
unfolding date_of
date_is zero bound = record { civil = (search rules, search rules, search rules); count = day_count-epoch }
date_is (suc n) bound = tomorrow_is n (date_of n) bound (date_is n (omega (arith, bound)))

-- as a date of the library
abbrev pub made : (c : Civil) → IsCivilDate (pos c.year) c.month c.day → Date
made c civil = record { year = pos c.year; month = c.month; day = c.day; year_in = civil.0; month_in = civil.1; day_in = civil.2 }

-- the date of a day number is the only one
pub date_found : (d : Date) (n : ℕ) → n ≤ 2932896 → epoch_day d ≡ pos n
    → (d.year ≡ pos (date_of n).year) × (d.month ≡ (date_of n).month) × (d.day ≡ (date_of n).day)
date_found d n bound is =
    let there = date_is n bound in
    let day : days_from_civil (pos (date_of n).year) (date_of n).month (date_of n).day ≡ pos n = omega (arith, signed_arith, there.count, days_from_civil-day_count (pos (date_of n).year) (date_of n).month (date_of n).day) in
    epoch_day_injective d (made (date_of n) there.civil) (is ∙ sym day)

-- the parts of a moment
pub record IsClock (moment : ℕ) (dt : DateTime) : Type 0 where
  pub day : epoch_day dt.date ≡ pos (moment / 1000000 / 86400)
  pub hour : dt.time.hour ≡ moment / 1000000 / 3600 % 24
  pub minute : dt.time.minute ≡ moment / 1000000 / 60 % 60
  pub second : dt.time.second ≡ moment / 1000000 % 60
  pub left : dt.time.subsec_nanosecond ≡ moment % 1000000 * 1000

clock_is : (moment : ℕ) (dt : DateTime) → civil_nanos dt ≡ pos (moment * 1000) → IsClock moment dt
clock_is moment dt is =
    let parts = civil_nanos-parts dt in
    let day : epoch_day dt.date ≡ pos (moment / 1000000 / 86400) = omega (arith, signed_arith, parts, is, time_nanos_bound dt.time) in
    let rest : time_nanos dt.time + moment / 1000000 / 86400 * 86400000000000 ≡ moment * 1000 = omega (arith, signed_arith, parts, is, day) in
    record {
      day = day;
      hour = omega (arith, rest);
      minute = omega (arith, rest);
      second = omega (arith, rest);
      left = omega (arith, rest);
    }

-- what a clock shows at a moment is its text
pub clock_text_is : (moment : ℕ) (dt : DateTime) → moment < MOMENT_LIMIT → civil_nanos dt ≡ pos (moment * 1000) → iso_datetime_text dt ++ codes "Z" ≡ utc_text moment
unfolding utc_text
clock_text_is moment dt bound is =
    let clock = clock_is moment dt is in
    let date = date_found dt.date (moment / 1000000 / 86400) (omega (arith, bound)) clock.day in
    rw (date.0, date.1, date.2, clock.hour, clock.minute, clock.second, clock.left) refl
