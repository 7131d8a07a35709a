-- The lines of the events so far.
use Rattle.std.proofs.Common.{◌≡◌, take}
use Rattle.std.specs.String.{string_bytes}
use Rattle.run_results.specs.Feed.{feed_of}
use Rattle.run_results.proofs.feed.feed_text.Given as goal

abbrev pub invariant-loop-event : goal.invariant-loop-event
invariant-loop-event l = string_bytes l.feed ≡ feed_of l.plan l.texts (take l.event-index l.events)
