-- The characters so far, cleaned.
use Rattle.std.proofs.Common.{◌≡◌, ◌++◌, string_bytes}
use Rattle.std.specs.Prelude.{encode_utf8_all}
use Rattle.run_results.specs.Printed.{cleaned}
use Rattle.run_results.proofs.printed.push_chars.Given as goal

abbrev pub invariant-loop-c : goal.invariant-loop-c
invariant-loop-c l = string_bytes l.printed ≡ string_bytes l.fn.printed ++ cleaned (encode_utf8_all l.yielded)
