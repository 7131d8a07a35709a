-- The bytes of a text, wherever they are.
use Rattle.std.specs.Prelude.{ℕ, List, string_bytes}
use Rattle.std.specs.Arc.{arc_value}
use Rattle.unique_id.specs.declared.canonical_text.Spelled.{Spelled}
use Rattle.unique_id.specs.declared.canonical_text.Spelled.TheVariants.{InPlace, Own}
use Rattle.unique_id.specs.declared.text.Bytes.{Bytes}
use Rattle.unique_id.specs.declared.text.Bytes.TheVariants.{Inline, Shared}

abbrev pub bytes_of : Bytes → List ℕ
bytes_of (Inline text) = text.bytes
bytes_of (Shared text) = string_bytes (arc_value text)

abbrev pub spelled_bytes : Spelled → List ℕ
spelled_bytes (InPlace text) = text.bytes
spelled_bytes (Own text) = string_bytes text
