-- The fields of a unique id, and what they keep.
use Rattle.std.specs.Prelude.{◌≡◌, ◌<◌, ◌≤◌, length, All}
use Rattle.std.specs.Arc.{arc_value}
use Rattle.unique_id.specs.Segments.{IsWhole, IsText}
use Rattle.unique_id.specs.Spelling.{spelling}
use Rattle.unique_id.specs.declared.unique_id.UniqueId.TheInside.{Inside}

-- one to 64 segments, no part empty, each part UTF-8, and the text is their spelling of at most 1,024 bytes
pub record IsSound (u : Inside) : Type 0 where
  pub text : (arc_value u.named).text ≡ spelling u.path
  pub some_segment : 0 < length u.path
  pub few : length u.path ≤ 64
  pub whole : All IsWhole u.path
  pub texts : All IsText u.path
  pub short : length (spelling u.path) ≤ 1024
