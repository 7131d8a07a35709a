-- The events so far are the same.
use Rattle.std.proofs.Common.{◌≡◌, take}
use Rattle.schedules.proofs.same.are_same.Given as goal

abbrev pub invariant-loop-place : goal.invariant-loop-place
invariant-loop-place l = take l.place l.some ≡ take l.place l.others
