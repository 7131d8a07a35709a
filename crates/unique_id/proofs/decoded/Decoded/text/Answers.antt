-- The bytes are read as text exactly where they are one.
use Rattle.std.proofs.Common.{ap, ◌∙◌}
use Rattle.std.specs.Str.{is_utf8}
use Rattle.unique_id.proofs.Checked.{text_told}
use Rattle.unique_id.proofs.decoded.Decoded.text.Goals as goal

pub returns-clause-is_text : goal.returns-clause-is_text
returns-clause-is_text c = c.ok.ensures.variant ∙ text_told c.from_utf8.result c.as_slice.result.now _ _ c.from_utf8.ensures.cases ∙ ap is_utf8 c.as_slice.ensures.bytes
