-- The suite that bytes are.
use Rattle.std.specs.Prelude.{ℕ, ◌+◌, ◌==◌, nat_lt, List, length, take, count_by, if◌then◌else◌, Option, Result, Err}
use Rattle.std.specs.Str.{is_utf8}
use Rattle.std.specs.Str.Lossy.{utf8_valid_len}
use Rattle.suite_words.specs.declared.suite.fault.SuiteFault.{SuiteFault}
use Rattle.suite_words.specs.declared.suite.fault.SuiteFault.TheVariants.{TooLarge, BadLine}
use Rattle.suite_text.specs.Reading.Parts.{SuiteParts}
use Rattle.suite_text.specs.Suites.{suite_of}
use Rattle.suite_words.specs.Limits.{byte_limit}
use Rattle.suite_words.specs.Reading.Bytes.{without_mark}

-- the number of the line, from 1, of the first byte that is not UTF-8
abbrev pub line_of_fault : List ℕ → ℕ
line_of_fault bytes = 1 + count_by (λ byte. byte == 10) (take (utf8_valid_len bytes) bytes)

-- the suite that the bytes of a standard input are, where so many nodes were asked for: too many bytes first, then bytes that are no text; a byte order mark in front is passed over
abbrev pub suite_read : Option ℕ → List ℕ → Result SuiteParts SuiteFault
suite_read most bytes =
    if nat_lt (byte_limit most) (length bytes) then Err TooLarge
    else (if is_utf8 bytes then suite_of most (without_mark bytes) else Err (BadLine (line_of_fault bytes)))
