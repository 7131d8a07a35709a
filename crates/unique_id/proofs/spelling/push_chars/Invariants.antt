-- Writing a part: the loop has written the characters that it has passed.
use Rattle.std.proofs.Common.{◌≡◌, ◌++◌, string_bytes}
use Rattle.std.specs.Prelude.{encode_utf8_all}
use Rattle.unique_id.specs.Spelling.{spelled_part}
use Rattle.unique_id.proofs.spelling.push_chars.Given as goal

abbrev pub invariant-loop-c : goal.invariant-loop-c
invariant-loop-c l = string_bytes l.text ≡ string_bytes l.fn.text ++ spelled_part (encode_utf8_all l.yielded)
