-- What the answers keep of the order of their replies. Only the answers' model and proofs need this file.
use Rattle.std.specs.Prelude.{ℕ, ◌<◌, List, length, IsTrue, slice_index_or}
use Rattle.plan_events.specs.declared.outcome.Reply.{Reply}
use Rattle.sched_core.specs.declared.answers.Answers.TheInside.{Inside}

-- the bodies rise along the replies, so that none comes twice
abbrev pub IsInOrder : List (ℕ × Reply) → Type 0
IsInOrder replies = (i j : ℕ) (d : ℕ × Reply) → i < j → j < length replies → (slice_index_or replies i d).0 < (slice_index_or replies j d).0

-- where it is said that they are in order, they are
abbrev pub IsOrderKnown : Inside → Type 0
IsOrderKnown a = IsTrue a.in_order → IsInOrder a.replies.items
