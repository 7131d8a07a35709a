-- The replies that a body may give of which nobody knows beforehand how it ends: any number of pulls that is left to it, any
-- status, and any text of at most so many bytes as are its limit: 512, or that of a crate above.
use Rattle.std.specs.Prelude.{ℕ, zero, suc, ◌≤◌, Bool, true, false, List, [], ◌∷◌, ◌++◌, length, map}
use Rattle.std.specs.List.{flat_map}
use Rattle.std.specs.Char.{encode_utf8}
use Rattle.std.specs.Str.{IsUtf8}
use Rattle.plan_events.specs.Jobs.{one_pull_more, without_pulls}
use Rattle.plan_events.specs.declared.outcome.Outcome.{Outcome}
use Rattle.plan_events.specs.declared.outcome.Reply.{Reply}
use Rattle.plan_events.specs.declared.status.Status.{Status}
use Rattle.plan_events.specs.declared.status.Status.TheVariants.{Successful, Aborted, Failed}

-- the numbers below n
unfoldable pub numbers_below : ℕ → List ℕ
numbers_below zero = []
numbers_below (suc n) = numbers_below n ++ n ∷ []

-- all texts of at most so many characters, as their bytes
unfoldable pub texts_up_to : ℕ → List (List ℕ)
texts_up_to zero = [] ∷ []
texts_up_to (suc n) = [] ∷ flat_map (λ c. map (λ text. encode_utf8 c ++ text) (texts_up_to n)) (numbers_below 1114112)

abbrev pub statuses : List Status
statuses = Successful ∷ Aborted ∷ Failed ∷ []

abbrev pub ended : Status → List ℕ → Outcome
ended status text = record { status = status; text = text }

-- all outcomes with a text of at most so many characters
unfoldable pub outcomes : (longest : ℕ) → List Outcome
outcomes longest = flat_map (λ status. map (ended status) (texts_up_to longest)) statuses

-- an outcome with a text of at most so many bytes
abbrev pub SaysUpTo : (longest : ℕ) → Outcome → Type 0
SaysUpTo longest o = IsUtf8 o.text × (length o.text ≤ longest)

-- all replies without pulls
unfoldable pub ends : (longest : ℕ) → List Reply
ends longest = map without_pulls (outcomes longest)

-- all replies with at most so many pulls
unfoldable pub replies_up_to : (longest : ℕ) → ℕ → List Reply
replies_up_to longest zero = ends longest
replies_up_to longest (suc n) = ends longest ++ map one_pull_more (replies_up_to longest n)

-- the replies that are left, by whether the body was run and how many dynamic tests it still registers: none once it was run
abbrev pub replies_within : (longest : ℕ) → Bool → ℕ → List Reply
replies_within longest true left = []
replies_within longest false left = replies_up_to longest left

-- an outcome that a body of this crate may have
abbrev pub IsSayable : Outcome → Type 0
IsSayable o = SaysUpTo 512 o

-- the replies that a body of this crate may still give
abbrev pub replies_by : Bool → ℕ → List Reply
replies_by is_spent left = replies_within 512 is_spent left
