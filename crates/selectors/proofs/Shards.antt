-- The units of a shard: each unit is got by one shard, and those that stay are those at its places.
use Rattle.std.proofs.Common.{◌≡◌, ℕ, suc, ◌+◌, ◌-◌, ◌%◌, ◌<◌, true, false, Option, Some, None, refl, sym, ap, ◌∙◌, arith}
use Rattle.std.proofs.lemmas.Bool.Decides.{Decides-eqb}
use Rattle.std.proofs.lemmas.Nat.{mod_below}
use Rattle.descriptor.specs.declared.node.Node.{Node}
use Rattle.descriptor.specs.Nodes.{Nodes, node_at, kind_or, role_or, bit}
use Rattle.selectors.specs.declared.dealing.Dealing.{Dealing}
use Rattle.selectors.specs.Shards.{gets_told, lot_of, place_of, AreDealtOut}
use Rattle.selectors.specs.Units.{is_selectable, is_unit}
use Rattle.selectors.proofs.Marks.{and_both, and_parts}

-- one node more: if it is a unit, one unit more comes before the next
pub place_more : (t : Nodes) (n : ℕ) → is_unit t n ≡ true → place_of t (n + 1) ≡ place_of t n + 1
place_more t n unit =
    let next : n + 1 ≡ suc n = omega arith in
    let more : place_of t (suc n) ≡ 1 + place_of t n = ap (λ b. bit b + place_of t n) unit in
    ap (place_of t) next ∙ omega arith

pub place_same : (t : Nodes) (n : ℕ) → is_unit t n ≡ false → place_of t (n + 1) ≡ place_of t n
place_same t n other =
    let next : n + 1 ≡ suc n = omega arith in
    let same : place_of t (suc n) ≡ 0 + place_of t n = ap (λ b. bit b + place_of t n) other in
    ap (place_of t) next ∙ omega arith

of_node : (o : Option Node) → is_selectable (kind_or o) (role_or o) ≡ true → (node : Node) × (o ≡ Some node)
of_node None h = absurd (cc)
of_node (Some node) h = (node, refl)

pub unit_told : (t : Nodes) (n : ℕ) → is_unit t n ≡ true → (node : Node) × (node_at t n ≡ Some node)
unit_told t n unit = of_node (node_at t n) unit

before_suc : (n : ℕ) → n ≡ suc n - 1
before_suc n = omega arith

module _ (dealing : Dealing) (t : Nodes) (n : ℕ) (node : Node) (told : node_at t n ≡ Some node) where
  -- K - 1 is what is left
  gets_as : (number count : ℕ) → lot_of dealing (place_of t n) node % count ≡ number - 1 → gets_told (record { number = number; count = count; dealing = dealing }) (place_of t n) (node_at t n) ≡ true
  gets_as number count e = ap (gets_told (record { number = number; count = count; dealing = dealing }) (place_of t n)) told ∙ (Decides-eqb (lot_of dealing (place_of t n) node % count) (number - 1)).1 e

  is_left : (number count : ℕ) → gets_told (record { number = number; count = count; dealing = dealing }) (place_of t n) (node_at t n) ≡ true → lot_of dealing (place_of t n) node % count ≡ number - 1
  is_left number count e = (Decides-eqb (lot_of dealing (place_of t n) node % count) (number - 1)).0 (sym (ap (gets_told (record { number = number; count = count; dealing = dealing }) (place_of t n)) told) ∙ e)

pub dealt_out : (t : Nodes) (count : ℕ) (dealing : Dealing) → 0 < count → AreDealtOut t count dealing
dealt_out t count dealing some = record {
  each = λ n unit.
      let node = unit_told t n unit in
      let lot = lot_of dealing (place_of t n) node.0 in
      let left : lot % count < count = mod_below lot count some in
      (suc (lot % count), omega arith, omega arith, and_both (is_unit t n) _ unit (gets_as dealing t n node.0 node.1 (suc (lot % count)) count (before_suc (lot % count))));
  once = λ n k l above beyond first second.
      let node = unit_told t n (and_parts (is_unit t n) _ first).0 in
      let one : lot_of dealing (place_of t n) node.0 % count ≡ k - 1 = is_left dealing t n node.0 node.1 k count (and_parts (is_unit t n) _ first).1 in
      let other : lot_of dealing (place_of t n) node.0 % count ≡ l - 1 = is_left dealing t n node.0 node.1 l count (and_parts (is_unit t n) _ second).1 in
      omega arith;
}
