-- A date that is not before 1970 is one of the calendar that texts say.
use Rattle.std.proofs.Common.{◌≡◌, ℕ, ◌/◌, ◌≤◌, List, refl, arith, subst, ℤ, pos, negsuc, ◌≤ℤ◌, unsigned_abs}
use Rattle.std.specs.Int.{IsInRange}
use Rattle.std.proofs.lemmas.Int.{by_lt_z}
use Rattle.jiff_core.specs.declared.civil.date.Date.{Date}
use Rattle.jiff_core.specs.Calendar.{days_in_month}
use Rattle.jiff_core.specs.Date.{epoch_day}
use Rattle.jiff_core.proofs.CalendarLemmas.{day_count-epoch, day_count-lt_year, days_from_civil-day_count}
use Rattle.jiff_core.proofs.DateLemmas.{civil}
use Rattle.jiff_core.proofs.SignedLemmas.{signed_arith}
use Rattle.job_times.specs.MomentTexts.{IsMomentText}
use Rattle.job_times.specs.Moments.{IsMomentOf}

-- its year is not before 1970
late_year : (d : Date) (k : ℕ) → epoch_day d ≡ pos k → pos 1970 ≤ℤ d.year
late_year d k at =
    by_lt_z d.year (pos 1970)
    (λ early. absurd (omega (arith, signed_arith, day_count-lt_year d.year d.month d.day (pos 1970) 1 1 (civil d) (omega arith) early, day_count-epoch, days_from_civil-day_count d.year d.month d.day, at)))
    (λ late. late)

positive : (z : ℤ) → pos 1970 ≤ℤ z → z ≡ pos (unsigned_abs z)
positive (pos n) late = refl
positive (negsuc n) late = absurd (omega (arith, signed_arith))

pub said_so : (seconds : ℕ) (text : List ℕ) → IsMomentOf seconds text → IsMomentText text
said_so seconds text is =
    let d = is.0 in
    let t = is.1 in
    let late = late_year d (seconds / 86400) is.2 in
    let year = positive d.year late in
    let low : 1970 ≤ unsigned_abs d.year = omega (arith, signed_arith, late, year) in
    let high : unsigned_abs d.year ≤ 9999 = omega (arith, signed_arith, d.year_in, year) in
    record {
      year = unsigned_abs d.year;
      month = d.month;
      day = d.day;
      hour = t.hour;
      minute = t.minute;
      second = t.second;
      year_in = (low, high);
      month_in = d.month_in;
      day_in = subst (λ (y : ℤ). IsInRange 1 (days_in_month y d.month) d.day) year d.day_in;
      hour_in = t.hour_in;
      minute_in = t.minute_in;
      second_in = t.second_in;
      said = is.4;
    }
