-- The characters so far.
use Rattle.std.proofs.Common.{◌≡◌, ◌++◌, string_bytes}
use Rattle.std.specs.List.{flat_map}
use Rattle.reports.specs.JsonStrings.{json_char}
use Rattle.reports.proofs.json_strings.push_chars.Given as goal

abbrev pub invariant-loop-c : goal.invariant-loop-c
invariant-loop-c l = string_bytes l.json ≡ string_bytes l.fn.json ++ flat_map json_char l.yielded
