-- The text of a replay.
use Rattle.std.specs.Prelude.{ℕ, List, ◌++◌, codes}
use Rattle.std.specs.Fmt.{decimal}
use Rattle.run_outputs.specs.declared.replay.ReplayCounts.{ReplayCounts}

-- the line that says how many steps were read and how many passed over, and how many events were published and given
abbrev pub replay_line : ReplayCounts → List ℕ
replay_line c = codes "steps " ++ (decimal c.steps ++ (codes " passed-over " ++ (decimal c.passed_over ++ (codes " published " ++ (decimal c.published ++ (codes " given " ++ (decimal c.given ++ codes "\n")))))))
