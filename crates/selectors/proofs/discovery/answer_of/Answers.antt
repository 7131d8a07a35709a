-- The lists of children are kept by the shard, and by the order.
use Rattle.std.proofs.Common.{ℕ, Result, Ok, Err, IfOk}
use Rattle.descriptor.specs.Children.{ListsChildren}
use Rattle.descriptor.specs.Nodes.{Nodes}
use Rattle.selectors.proofs.discovery.answer_of.Goals as goal

-- what follows of one thing follows of what that follows of
then_so : {X E : Type 0} (result : Result X E) (P Q : Type 0) (R : X → Type 0) → IfOk result (λ x. Q → R x) → (P → Q) → IfOk result (λ x. P → R x)
then_so (Ok x) P Q R is first = λ p. is (first p)
then_so (Err e) P Q R is first = is

pub returns-clause-children : goal.returns-clause-children
returns-clause-children c =
    then_so c.seeded_or_same.result ((n : ℕ) → ListsChildren c.args.tree n) ((n : ℕ) → ListsChildren c.in_ok-dealt.dealt n) (λ (found : Nodes). (n : ℕ) → ListsChildren found n) c.seeded_or_same.ensures.children c.in_ok-dealt.ensures.children
