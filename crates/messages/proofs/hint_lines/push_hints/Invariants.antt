-- The lines of the hints so far.
use Rattle.std.proofs.Common.{◌≡◌, ◌++◌, take, string_bytes}
use Rattle.std.specs.List.{flat_map}
use Rattle.messages.specs.Hints.{hint_line}
use Rattle.messages.proofs.hint_lines.push_hints.Given as goal

abbrev pub invariant-loop-hint : goal.invariant-loop-hint
invariant-loop-hint l = string_bytes l.text ≡ string_bytes l.fn.text ++ flat_map hint_line (take l.hint-index l.hints)
