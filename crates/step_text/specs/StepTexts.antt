-- The steps that a text names: tokens between spaces, each a step of the dispatcher or of a worker.
use Rattle.std.specs.Prelude.{ℕ, ◌+◌, ◌==◌, ◌&&◌, nat_lt, nat_le, List, length, not, Bool, if◌then◌else◌, Option, Some, None, Result, Ok, Err, option_map, option_and_then, codes, slice_index, drop, is_none}
use Rattle.std.specs.List.{filter_map, position, position_or_len, before_first, after_first}
use Rattle.std.specs.Str.{bytes_eq}
use Rattle.std.specs.Str.Parse.{digits_value}
use Rattle.suite_words.specs.Numbers.{is_number, number_up_to}
use Rattle.suite_words.specs.Words.{words_in}
use Rattle.scheduling.specs.declared.step.Action.{Action}
use Rattle.scheduling.specs.declared.step.Action.TheVariants.{Claim, Own, Draw, Show, Admit, Done, Settle, Look, Weigh, Take, Give, GiveUp, AddChild, Notice, Raise}
use Rattle.scheduling.specs.declared.step.Step.{Step}
use Rattle.scheduling.specs.declared.step.Step.TheVariants.{Worker, Read}

-- the byte after a worker, and before a node
abbrev pub is_colon : ℕ → Bool
is_colon b = b == 58

-- a number with no zero before other digits
abbrev pub is_decimal : List ℕ → Bool
is_decimal digits = is_number digits && not (nat_lt 1 (length digits) && (slice_index digits 0 == 48))

-- the number of these digits, from the least to the most
abbrev pub number_within : ℕ → ℕ → List ℕ → Option ℕ
number_within least most digits = if is_decimal digits && nat_le least (digits_value 10 digits) then number_up_to most digits else None

-- a worker's number
abbrev pub worker_of : List ℕ → Option ℕ
worker_of digits = number_within 1 64 digits

-- a node's number
abbrev pub node_of : List ℕ → Option ℕ
node_of digits = number_within 0 65535 digits

-- a step that names a node: its name and the node's digits
abbrev pub node_action : List ℕ → List ℕ → Option Action
node_action name digits =
    if bytes_eq name (codes "claim") then option_map Claim (node_of digits)
    else (if bytes_eq name (codes "own") then option_map Own (node_of digits) else None)

-- a step that names no node
abbrev pub plain_action : List ℕ → Option Action
plain_action name =
    if bytes_eq name (codes "draw") then Some Draw else (
    if bytes_eq name (codes "show") then Some Show else (
    if bytes_eq name (codes "admit") then Some Admit else (
    if bytes_eq name (codes "done") then Some Done else (
    if bytes_eq name (codes "settle") then Some Settle else (
    if bytes_eq name (codes "look") then Some Look else (
    if bytes_eq name (codes "weigh") then Some Weigh else (
    if bytes_eq name (codes "take") then Some Take else (
    if bytes_eq name (codes "give") then Some Give else (
    if bytes_eq name (codes "give_up") then Some GiveUp else (
    if bytes_eq name (codes "add_child") then Some AddChild else (
    if bytes_eq name (codes "notice") then Some Notice else (
    if bytes_eq name (codes "raise") then Some Raise else None))))))))))))

-- whether a colon stands in the text
abbrev pub has_colon : List ℕ → Bool
has_colon text = nat_lt (position_or_len is_colon text) (length text)

-- what a worker does: with a colon, a step that names a node
abbrev pub action_of : List ℕ → Option Action
action_of text = if has_colon text then node_action (before_first is_colon text) (after_first is_colon text) else plain_action text

-- a worker's step, of what follows the letter w: the worker's digits, a colon, and what the worker does
abbrev pub worker_step : List ℕ → Option Step
worker_step text =
    if has_colon text then option_and_then (λ worker. option_map (Worker worker) (action_of (after_first is_colon text))) (worker_of (before_first is_colon text)) else None

-- the step that a token names, or None
unfoldable pub step_of : List ℕ → Option Step
step_of word = if bytes_eq word (codes "d:read") then Some Read else (if slice_index word 0 == 119 then worker_step (drop 1 word) else None)

-- a token that names no step
abbrev pub is_bad_word : List ℕ → Bool
is_bad_word word = is_none (step_of word)

-- the steps of tokens, by the place from 0 of the first that names none: its number, from 1, or the steps of all
abbrev pub steps_unless : Option ℕ → List (List ℕ) → Result (List Step) ℕ
steps_unless (Some place) words = Err (place + 1)
steps_unless None words = Ok (filter_map step_of words)

-- the steps of a text, or the number of the first token that names none
abbrev pub steps_of : List ℕ → Result (List Step) ℕ
steps_of text = steps_unless (position is_bad_word (words_in text)) (words_in text)
