-- The replies that a job may give of which nobody knows beforehand how it ends: no pulls, any status, and any text of at most 65,536 bytes.
use Rattle.std.specs.Prelude.{Bool, List}
use Rattle.plan_events.specs.declared.outcome.Outcome.{Outcome}
use Rattle.plan_events.specs.declared.outcome.Reply.{Reply}
use Rattle.test_bodies.specs.Replies.{SaysUpTo, replies_within}

-- an outcome that such a job may have
abbrev pub IsSayable : Outcome → Type 0
IsSayable o = SaysUpTo 65536 o

-- the replies that a job may still give: none once it was run
abbrev pub replies_by : (is_over : Bool) → List Reply
replies_by is_over = replies_within 65536 is_over 0
