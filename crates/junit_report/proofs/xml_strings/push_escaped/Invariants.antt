-- The characters so far.
use Rattle.std.proofs.Common.{◌≡◌, ◌++◌, string_bytes}
use Rattle.std.specs.List.{flat_map}
use Rattle.junit_report.specs.XmlStrings.{xml_char}
use Rattle.junit_report.proofs.xml_strings.push_escaped.Given as goal

abbrev pub invariant-loop-c : goal.invariant-loop-c
invariant-loop-c l = string_bytes l.xml ≡ string_bytes l.fn.xml ++ flat_map xml_char l.yielded
