-- The text of a message.
use Rattle.std.specs.Prelude.{ℕ, List, ◌++◌, codes}

-- its sentence, and on the lines below what is known besides
abbrev pub message_text : List ℕ → List ℕ → List ℕ
message_text sentence details = sentence ++ codes "\n" ++ details
