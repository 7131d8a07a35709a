-- The characters so far.
use Rattle.std.proofs.Common.{◌≡◌, ◌++◌, string_bytes}
use Rattle.std.specs.List.{flat_map}
use Rattle.suite_messages.specs.Marks.{shown_char}
use Rattle.suite_messages.proofs.marked.push_shown.Given as goal

abbrev pub invariant-loop-c : goal.invariant-loop-c
invariant-loop-c l = string_bytes l.text ≡ string_bytes l.fn.text ++ flat_map shown_char l.yielded
