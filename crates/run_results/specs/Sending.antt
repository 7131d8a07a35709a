-- What goes out to a writer.
use Rattle.std.specs.Prelude.{ℕ, ◌<◌, List, length, take, Option, Result, MatchResult}
use Rattle.std.specs.Io.KnownBytes.{Appends}
use Rattle.run_results.specs.declared.to_writer.WriteFault.{WriteFault}

-- Ok: the writer took all the bytes. A fault: it took the first `sent` of them, and not all.
abbrev pub SendsExactly : Option (List ℕ) → Option (List ℕ) → List ℕ → Result (Unit {0}) WriteFault → Type 0
SendsExactly old new bytes result = MatchResult result (λ _. Appends old new bytes) (λ fault. (fault.sent < length bytes) × Appends old new (take fault.sent bytes))
