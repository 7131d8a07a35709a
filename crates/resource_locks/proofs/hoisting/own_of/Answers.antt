-- A child of an engine has the global lock, and no other node.
use Rattle.std.proofs.Common.{◌≡◌, ◌≢◌, ◌∙◌, sym, ap, inl, inr, false, get_or, arith, List, Bool, ℕ, [], ◌∷◌}
use Rattle.std.proofs.lemmas.Grind.{common_steps}
use Rattle.descriptor.specs.Nodes.{size}
use Rattle.descriptor.specs.declared.lock_mode.LockMode.{LockMode}
use Rattle.resource_locks.specs.Declarations.{declared_of, global}
use Rattle.resource_locks.specs.Held.{top_of, is_whole, own}
use Rattle.resource_locks.proofs.Walks.{table_at}
use Rattle.resource_locks.proofs.Turns.{own_then, own_else}
use Rattle.resource_locks.proofs.hoisting.own_of.Goals as goal
use Rattle.resource_locks.proofs.hoisting.own_of.Goals.{then-node-gt0+then-tops-node+in_ok-put, else-node-gt0, else-node-gt0-via-then-node-gt0+else-tops-node, else-node-gt0-via-else-node-gt0}

pub returns : goal.returns
returns c =
    let top : get_or c.args.tops.now c.args.node 0 ≡ top_of c.args.tree.now c.args.node = ap (λ (v : List ℕ). get_or v c.args.node 0) c.requires.tops in
    let whole : get_or c.args.wholes.now c.args.node false ≡ is_whole (declared_of c.args.tree.now) c.args.node = ap (λ (v : List Bool). get_or v c.args.node false) c.requires.wholes ∙ table_at (is_whole (declared_of c.args.tree.now)) false (size c.args.tree.now) c.args.node c.requires.inside in
    elim c.if-node-gt0.branch [
      | then-node-gt0+then-tops-node+in_ok-put w ↦
          let here : get_or c.args.tops.now c.args.node 0 ≡ c.args.node = grind (arith, common_steps) in
          let made : w.put.new.self ≡ record { key = global; mode = w.global_mode.result } ∷ [] = grind (arith, common_steps) in
          w.set-is ∙ own_then (declared_of c.args.tree.now) c.args.node (get_or c.args.wholes.now c.args.node false) w.put.new.self w.if-node-gt0.true (sym top ∙ here) whole (made ∙ ap (λ (m : LockMode). record { key = global; mode = m } ∷ []) w.global_mode.ensures)
      | else-node-gt0 w ↦
          let none : [] ≡ own (declared_of c.args.tree.now) c.args.node = elim w.else-node-gt0.branch [
            | else-node-gt0-via-then-node-gt0+else-tops-node v ↦ (let other : get_or c.args.tops.now c.args.node 0 ≢ c.args.node = v.if-tops-node.false in own_else (declared_of c.args.tree.now) c.args.node (inr (λ e. other (top ∙ e))))
            | else-node-gt0-via-else-node-gt0 v ↦ own_else (declared_of c.args.tree.now) c.args.node (inl v.if-node-gt0.false)
          ] in
          w.set-is ∙ c.new-set.ensures ∙ none
    ]
