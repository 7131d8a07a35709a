-- The line that says how far the tests of a run have come.
use Rattle.std.specs.Prelude.{ℕ, ◌+◌, ◌-◌, List, ◌++◌, codes, slice_index_or}
use Rattle.std.specs.Fmt.{decimal}
use Rattle.live.specs.declared.test_counts.TestCounts.{TestCounts}

-- the count at a place of a summary's twelve: those of tests are 6 found, 7 skipped, 8 started, 9 aborted, 10 successful, 11 failed
abbrev pub count_at : List ℕ → ℕ → ℕ
count_at counts place = slice_index_or counts place 0

-- the tests that have ended, in whatever way
abbrev pub have_ended : List ℕ → ℕ
have_ended counts = count_at counts 9 + count_at counts 10 + count_at counts 11

-- those that have started and not ended
abbrev pub are_running : List ℕ → ℕ
are_running counts = count_at counts 8 - have_ended counts

-- those that have ended or were skipped
abbrev pub are_done : List ℕ → ℕ
are_done counts = count_at counts 7 + have_ended counts

abbrev pub line_of : TestCounts → ℕ → List ℕ
line_of t seconds = decimal t.found ++ (codes " found, " ++ (decimal t.running ++ (codes " running, " ++ (decimal t.done ++ (codes " done, " ++ (decimal t.failed ++ (codes " failed, " ++ (decimal seconds ++ codes " s"))))))))
