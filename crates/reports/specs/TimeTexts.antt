-- How long nodes took, as it is written: in seconds with three places, or in whole milliseconds.
use Rattle.std.specs.Prelude.{ℕ, ◌/◌, ◌%◌, ◌^◌, ◌<◌, List, ◌++◌, codes, IfSome}
use Rattle.std.specs.Fmt.{decimal}
use Rattle.std.specs.Option.{unwrap_or}
use Rattle.job_times.specs.Timings.{Took, took_of}

-- so many microseconds in whole milliseconds
abbrev pub milliseconds : ℕ → ℕ
milliseconds micros = micros / 1000

-- so many microseconds in seconds: whole ones, a point, tenths, hundredths and thousandths; what is less is cut off
abbrev pub seconds_text : ℕ → List ℕ
seconds_text micros =
    decimal (micros / 1000000) ++ (codes "." ++ (decimal (micros / 100000 % 10) ++ (decimal (micros / 10000 % 10) ++ decimal (micros / 1000 % 10))))

-- the microseconds of node n, and none where they are not known
abbrev pub time_or_none : Took → ℕ → ℕ
time_or_none took n = unwrap_or (took_of took n) 0

-- each time that is known is a number of 64 bits
abbrev pub AreTimes : Took → Type 0
AreTimes took = (n : ℕ) → IfSome (took_of took n) (λ micros. micros < 2 ^ 64)
