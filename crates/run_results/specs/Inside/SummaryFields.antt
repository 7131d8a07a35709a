-- The fields of a listener that counts and what they keep, which only proofs need.
use Rattle.std.specs.Prelude.{◌≡◌, length}
use Rattle.run_results.specs.Told.{all_told}
use Rattle.run_results.specs.Summaries.{SummaryParts}
use Rattle.run_results.specs.declared.summary.Summary.TheInside.{Inside}

-- the fields as contracts see them
abbrev pub parts_of : Inside → SummaryParts
parts_of s = record { got = s.list.got; room = s.list.room; outline = s.tally.outline }

-- of each node that is what the events tell
abbrev pub IsSound : Inside → Type 0
IsSound s = s.tally.told ≡ all_told (length s.tally.outline) s.list.got
