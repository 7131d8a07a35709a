-- Texts without what stands at their ends.
use Rattle.std.specs.Prelude.{ℕ, ◌==◌, ◌||◌, ◌-◌, Bool, List, length, take, drop}
use Rattle.std.specs.List.{prefix_len, suffix_len}
use Rattle.config_params.specs.declared.blanks.Blanks.{Blanks}
use Rattle.config_params.specs.declared.blanks.Blanks.TheVariants.{Spaces, SpacesAndTabs}

-- the bytes that are dropped at the ends of a text
abbrev pub is_blank : Blanks → ℕ → Bool
is_blank Spaces byte = byte == 32
is_blank SpacesAndTabs byte = byte == 32 || byte == 9

-- a text without those in front
abbrev pub without_front : Blanks → List ℕ → List ℕ
without_front blanks text = drop (prefix_len (is_blank blanks) text) text

-- a text without those at its end
abbrev pub without_end : Blanks → List ℕ → List ℕ
without_end blanks text = take (length text - suffix_len (is_blank blanks) text) text

-- a text without those at both ends
abbrev pub without_ends : Blanks → List ℕ → List ℕ
without_ends blanks text = without_end blanks (without_front blanks text)
