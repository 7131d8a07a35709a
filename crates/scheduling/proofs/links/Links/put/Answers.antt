-- One more node is put before the others.
use Rattle.std.proofs.Common.{◌≡◌, ◌∙◌, ℕ, suc, ◌<◌, List, Option, Some, None, false, length, get_or, set, ap, sym, refl, subst, arith}
use Rattle.std.proofs.lemmas.Bool.{cond-true, cond-false}
use Rattle.std.proofs.lemmas.List.{get_or_default}
use Rattle.descriptor.specs.Nodes.{size, parent_of, Nodes}
use Rattle.scheduling.specs.LinkLists.{IsLinkedFrom, chosen_child}
use Rattle.scheduling.proofs.Linking.{links_root, links_put}
use Rattle.scheduling.proofs.links.Links.put.Goals as goal

pub returns-in_default : goal.returns-in_default
returns-in_default c =
    let root : c.args.node ≡ 0 = c.in_default.ensures.root.0 refl in
    subst (λ (k : ℕ). IsLinkedFrom c.args.tree.now (chosen_child c.args.tree.now c.args.chosen.now) k c.args.self.now) (sym root)
    (links_root c.args.tree.now c.args.chosen.now c.args.self.now (let less : c.args.node < size c.args.tree.now = c.requires.inside in omega (arith, less, root))
    (subst (λ (k : ℕ). IsLinkedFrom c.args.tree.now (chosen_child c.args.tree.now c.args.chosen.now) (suc k) c.args.self.now) root c.requires.linked))

-- what is written, in the words of the links
nexts : (t : Nodes) (first next : List (Option ℕ)) (c i j up : ℕ) (v : Option ℕ) → i ≡ c → j ≡ up → up ≡ parent_of t c → up < length first → v ≡ get_or first j v → set next i v ≡ set next c (get_or first (parent_of t c) None)
nexts t first next c i j up v here there is inside read =
    ap (λ (k : ℕ). set next k v) here ∙ ap (set next c) (read ∙ ap (λ (k : ℕ). get_or first k v) there ∙ get_or_default first up v None inside ∙ ap (λ (k : ℕ). get_or first k None) is)

pub returns-then-chosen-index : goal.returns-then-chosen-index
returns-then-chosen-index c =
    let less : c.in-Some.parent < c.args.node = c.in-Some.ensures.smaller in
    let inside : c.args.node < size c.args.tree.now = c.requires.inside in
    let is : c.in-Some.parent ≡ parent_of c.args.tree.now c.args.node = c.in-Some.ensures.value in
    let len = c.requires.linked.first_len in
    links_put c.args.tree.now c.args.chosen.now c.args.self.now _ c.args.node (omega (arith, less)) inside (omega (arith, less, inside, is)) c.requires.linked
    (nexts c.args.tree.now c.args.self.now.first.items c.args.self.now.next.items c.args.node c.index-3.result c.index.result c.in-Some.parent c.index-2.result.now c.index-3.ensures.same c.index.ensures.same is (omega (arith, less, inside, len)) c.index-2.ensures)
    (ap (λ (k : ℕ). set c.args.self.now.first.items k (Some c.args.node)) (c.index-then-chosen-index.ensures.same ∙ is)
    ∙ sym (cond-true (get_or c.args.chosen.now c.args.node false) (set c.args.self.now.first.items (parent_of c.args.tree.now c.args.node) (Some c.args.node)) c.args.self.now.first.items
    (sym (ap (λ (k : ℕ). get_or c.args.chosen.now k false) c.index-4.ensures.same) ∙ c.if-chosen-index.true)))

pub returns-else-chosen-index : goal.returns-else-chosen-index
returns-else-chosen-index c =
    let less : c.in-Some.parent < c.args.node = c.in-Some.ensures.smaller in
    let inside : c.args.node < size c.args.tree.now = c.requires.inside in
    let is : c.in-Some.parent ≡ parent_of c.args.tree.now c.args.node = c.in-Some.ensures.value in
    let len = c.requires.linked.first_len in
    links_put c.args.tree.now c.args.chosen.now c.args.self.now _ c.args.node (omega (arith, less)) inside (omega (arith, less, inside, is)) c.requires.linked
    (nexts c.args.tree.now c.args.self.now.first.items c.args.self.now.next.items c.args.node c.index-3.result c.index.result c.in-Some.parent c.index-2.result.now c.index-3.ensures.same c.index.ensures.same is (omega (arith, less, inside, len)) c.index-2.ensures)
    (sym (cond-false (get_or c.args.chosen.now c.args.node false) (set c.args.self.now.first.items (parent_of c.args.tree.now c.args.node) (Some c.args.node)) c.args.self.now.first.items
    (sym (ap (λ (k : ℕ). get_or c.args.chosen.now k false) c.index-4.ensures.same) ∙ c.if-chosen-index.false)))
