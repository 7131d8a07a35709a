-- When a node is refused.
use Rattle.std.specs.Prelude.{ℕ, ◌==◌, ◌||◌, ◌&&◌, nat_lt, Bool, false, cond, List, Option, Some, None}
use Rattle.std.specs.List.{list_any}
use Rattle.std.specs.Str.{bytes_eq}
use Rattle.unique_id.specs.Spelling.{spelling}
use Rattle.unique_id.specs.declared.unique_id.Segment.{Segment}
use Rattle.descriptor.specs.declared.node.Node.{Node}
use Rattle.descriptor.specs.declared.fault.TreeFault.{TreeFault}
use Rattle.descriptor.specs.declared.fault.TreeFault.TheVariants.{NoMemory, TooMany, TooDeep, DoubleId, ParentIsTest, EngineLock, BodyTwice, SpareOutsideFactory, OverLimit, AfterMisplaced}
use Rattle.descriptor.specs.Bodies.{is_body, repeats_itself, has_misplaced_after, may_get_after_at}
use Rattle.descriptor.specs.Declarations.{declares}
use Rattle.descriptor.specs.Limits.{is_over_limit}
use Rattle.descriptor.specs.Nodes.{Nodes, size, depth_of, is_leaf_at, role_of}
use Rattle.descriptor.specs.Roles.{is_misplaced}

-- the number of each refusal, and 0 for want of memory
abbrev pub number_of : TreeFault → ℕ
number_of NoMemory = 0
number_of TooMany = 10
number_of TooDeep = 11
number_of DoubleId = 12
number_of ParentIsTest = 13
number_of EngineLock = 14
number_of BodyTwice = 15
number_of SpareOutsideFactory = 16
number_of OverLimit = 17
number_of AfterMisplaced = 18

-- a node of the tree has a unique id of this canonical text
abbrev pub has_text : Nodes → List ℕ → Bool
has_text t text = list_any (λ node. bytes_eq (spelling node.id) text) t.nodes

-- a node of the tree has this unique id: ids are equal where their canonical texts are
abbrev pub has_id : Nodes → List Segment → Bool
has_id t id = has_text t (spelling id)

-- whether b is a node's body or its after-body
abbrev pub uses_body : ℕ → Node → Bool
uses_body b node = is_body b node.body || is_body b node.after

-- a node of the tree has this body or after-body
abbrev pub has_body : Nodes → Option ℕ → Bool
has_body t None = false
has_body t (Some b) = list_any (uses_body b) t.nodes

-- a node's body or its after-body is one already, of a node of the tree or of the node itself
abbrev pub repeats_body : Nodes → Node → Bool
repeats_body t node = has_body t node.body || has_body t node.after || repeats_itself node

-- the first reason to refuse a node below a, in the order in which they are looked for, where there may be so many nodes besides the plan
abbrev pub refusal : ℕ → Nodes → ℕ → Node → Option TreeFault
refusal limit t a node =
    cond (nat_lt limit (size t)) (Some TooMany) (
    cond (depth_of t a == 64) (Some TooDeep) (
    cond (has_id t node.id) (Some DoubleId) (
    cond (is_leaf_at t a) (Some ParentIsTest) (
    cond ((a == 0) && declares node) (Some EngineLock) (
    cond (repeats_body t node) (Some BodyTwice) (
    cond (is_misplaced (role_of t a) node.kind node.role) (Some SpareOutsideFactory) (
    cond (is_over_limit node) (Some OverLimit) (
    cond (has_misplaced_after node) (Some AfterMisplaced) None))))))))

-- the first reason not to give node n the after-body b
abbrev pub after_refusal : Nodes → ℕ → ℕ → Option TreeFault
after_refusal t n b =
    cond (has_body t (Some b)) (Some BodyTwice) (
    cond (may_get_after_at t n) None (Some AfterMisplaced))
