-- What is left of a name that is read from its end; only contracts inside the crate cite it.
use Rattle.std.specs.Prelude.{◌≡◌, ℕ, ◌<◌, ◌==◌, false, List, [], ◌∷◌, ◌++◌, reverse, codes, if◌then◌else◌, Option, Some, None, unwrap_or}
use Rattle.std.specs.Str.{bytes_eq}
use Rattle.unique_id.specs.declared.unique_id.Segment.{Segment}
use Rattle.descriptor.specs.Nodes.{Nodes, size, parent_of}
use Rattle.selectors.specs.declared.name_end.NameEnd.{NameEnd}
use Rattle.selectors.specs.declared.pattern.Piece.{Piece}
use Rattle.selectors.specs.declared.pattern.Piece.TheVariants.{Ends, Star}
use Rattle.selectors.specs.ClassNames.{class_name, last_segment, is_of_method}
use Rattle.selectors.specs.Patterns.{fits}

-- a name and this sign
abbrev pub and_sign : ℕ → Option (List ℕ) → Option (List ℕ)
and_sign sign None = None
and_sign sign (Some name) = Some (name ++ sign ∷ [])

-- what stands in a name before the value of such a segment, where the node above has that class name: nothing for a class, and else that name and a sign
abbrev pub front_below : Option (List ℕ) → Option Segment → Option (List ℕ)
front_below above None = None
front_below above (Some segment) =
    if bytes_eq segment.kind (codes "class") then Some []
    else (if bytes_eq segment.kind (codes "nested-class") then and_sign 36 above
    else (if is_of_method segment then and_sign 35 above else None))

-- what stands in the name of node n before its own value
abbrev pub front_of : Nodes → ℕ → Option (List ℕ)
front_of t n = front_below (class_name t (parent_of t n)) (last_segment t n)

-- node n is part of a name
abbrev pub IsInName : Nodes → ℕ → Type 0
IsInName t n = (0 < n) × (n < size t) × ((front : List ℕ) × (front_of t n ≡ Some front))

-- what is left of a name, its last byte first
abbrev pub left_of : Nodes → NameEnd → List ℕ
left_of t name = reverse (unwrap_or (front_of t name.number) [] ++ name.left.now)

-- a text without a star
abbrev pub Plain : List ℕ → Type 0
Plain [] = Unit {0}
Plain (byte ∷ text) = ((byte == 42) ≡ false) × Plain text

-- what reading a pattern and a name as far as to the next star comes to: whether the one fits the other, where there is no star or they differ before it;
-- and else what is left of both, behind the same text
abbrev pub IsPiece : Nodes → List ℕ → NameEnd → Piece → Type 0
IsPiece t pattern name (Ends fit) = fit ≡ fits (reverse pattern) (left_of t name)
IsPiece t pattern name (Star more rest) =
    IsInName t rest.number × ((piece : List ℕ) × Plain piece × (reverse pattern ≡ piece ++ 42 ∷ reverse more.now) × (left_of t name ≡ piece ++ left_of t rest))
