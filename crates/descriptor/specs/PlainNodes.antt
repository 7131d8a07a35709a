-- A node of which only its id, its name and its kind are told.
use Rattle.std.specs.Prelude.{ℕ, false, List, [], None}
use Rattle.unique_id.specs.declared.unique_id.Segment.{Segment}
use Rattle.descriptor.specs.declared.kind.Kind.{Kind}
use Rattle.descriptor.specs.declared.node.Node.{Node}
use Rattle.descriptor.specs.declared.role.Role.TheVariants.{Plain}

-- it has no special role, declares nothing, has no body, is not disabled and has no tags
abbrev pub plain : List Segment → List ℕ → Kind → Node
plain segments text sort = record {
  id = segments;
  name = text;
  kind = sort;
  role = Plain;
  mode = None;
  locks = [];
  isolated = false;
  body = None;
  after = None;
  disabled = None;
  tags = [];
}
