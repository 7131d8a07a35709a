-- What is declared of the next node.
use Rattle.std.specs.Prelude.{ℕ, ◌==◌, ◌&&◌, ◌||◌, nat_lt, not, Bool, true, false, List, [], ◌∷◌, ◌++◌, length, Option, Some, None}
use Rattle.std.specs.Option.{is_none}
use Rattle.unique_id.specs.declared.unique_id.Segment.{Segment}
use Rattle.descriptor.specs.declared.lock_mode.LockMode.{LockMode}
use Rattle.descriptor.specs.declared.mode.Mode.{Mode}
use Rattle.descriptor.specs.declared.node.Node.{Node}
use Rattle.tag_expr.specs.TagSets as tag_sets
use Rattle.descriptor.specs.PlainNodes.{plain}
use Rattle.test_tree.specs.declared.marks.Marks.{Marks}
use Rattle.test_tree.specs.declared.sort.Sort.{Sort}
use Rattle.test_tree.specs.Sorts.{kind_of, role_of}

-- nothing is declared
abbrev pub no_marks : Marks
no_marks = record { tags = []; locks = []; mode = None; isolated = false; disabled = None; slow = None }

-- whether nothing is declared
abbrev pub is_unmarked : Marks → Bool
is_unmarked marks = (length marks.tags == 0) && (length marks.locks == 0) && is_none marks.mode && not marks.isolated && is_none marks.disabled && is_none marks.slow

-- the node with these segments, this name and this body, of which this is declared
abbrev pub marked : Marks → Sort → List Segment → List ℕ → Option ℕ → Node
marked marks sort segments name body = record (plain segments name (kind_of sort)) {
  role = role_of sort;
  mode = marks.mode;
  locks = marks.locks;
  isolated = marks.isolated;
  body = body;
  disabled = marks.disabled;
  tags = marks.tags;
}

-- with one more thing declared
abbrev pub with_tag : Marks → List ℕ → Marks
with_tag marks tag = record { tags = tag_sets.with_tag marks.tags tag; locks = marks.locks; mode = marks.mode; isolated = marks.isolated; disabled = marks.disabled; slow = marks.slow }

abbrev pub with_lock : Marks → List ℕ → LockMode → Marks
with_lock marks name sort = record { tags = marks.tags; locks = marks.locks ++ record { key = name; mode = sort } ∷ []; mode = marks.mode; isolated = marks.isolated; disabled = marks.disabled; slow = marks.slow }

abbrev pub with_mode : Marks → Mode → Marks
with_mode marks given = record { tags = marks.tags; locks = marks.locks; mode = Some given; isolated = marks.isolated; disabled = marks.disabled; slow = marks.slow }

abbrev pub with_isolation : Marks → Marks
with_isolation marks = record { tags = marks.tags; locks = marks.locks; mode = marks.mode; isolated = true; disabled = marks.disabled; slow = marks.slow }

abbrev pub with_reason : Marks → List ℕ → Marks
with_reason marks reason = record { tags = marks.tags; locks = marks.locks; mode = marks.mode; isolated = marks.isolated; disabled = Some reason; slow = marks.slow }

abbrev pub with_slow : Marks → ℕ → Marks
with_slow marks limit = record { tags = marks.tags; locks = marks.locks; mode = marks.mode; isolated = marks.isolated; disabled = marks.disabled; slow = Some limit }

-- whether a test may be slow from so many milliseconds on: one at least, and at most 86,400,000
abbrev pub is_limit : ℕ → Bool
is_limit limit = not (limit == 0 || nat_lt 86400000 limit)
