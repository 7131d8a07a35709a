-- The date and the time of day of a second, by the definitions of the calendar's library.
use Rattle.std.specs.Prelude.{◌≡◌, ℕ, ◌/◌, ◌%◌, pos, unsigned_abs, List, ◌++◌, codes}
use Rattle.jiff_core.specs.declared.civil.date.Date.{Date}
use Rattle.jiff_core.specs.declared.civil.time.Time.{Time}
use Rattle.jiff_core.specs.Date.{epoch_day}
use Rattle.jiff_core.specs.Time.{time_seconds}
use Rattle.job_times.specs.MomentTexts.{date_by, time_by}

-- a date whose year is not negative
abbrev pub date_text : Date → List ℕ
date_text d = date_by (unsigned_abs d.year) d.month d.day

-- a time of day, to the second
abbrev pub time_text : Time → List ℕ
time_text t = time_by t.hour t.minute t.second

-- both
abbrev pub moment_text : Date → Time → List ℕ
moment_text d t = date_text d ++ (codes "T" ++ time_text t)

-- the text is that of the second that is so many after 1970-01-01T00:00:00, where each day has 86,400
abbrev pub IsMomentOf : ℕ → List ℕ → Type 0
IsMomentOf seconds text = (d : Date) × (t : Time) × (epoch_day d ≡ pos (seconds / 86400)) × (time_seconds t ≡ seconds % 86400) × (text ≡ moment_text d t)
