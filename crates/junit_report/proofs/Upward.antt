-- What is told of a node by the way up from it, whatever number of steps is allowed.
use Rattle.std.proofs.Common.{◌≡◌, ℕ, zero, suc, ◌<◌, ◌≤◌, List, ap, refl, ◌∙◌, arith}
use Rattle.descriptor.specs.Nodes.{Nodes, parent_of}
use Rattle.run_results.specs.declared.told.NodeEvents.{NodeEvents}
use Rattle.junit_report.specs.Cases.{cause_within, own_cause, worse_of}
use Rattle.junit_report.specs.declared.cases.Cause.{Cause}

-- of node 0 is told what became of it
pub root_cause : (t : Nodes) (told : List NodeEvents) (n : ℕ) → n ≡ 0 → (steps : ℕ) → own_cause told n ≡ cause_within t told steps n
root_cause t told zero is zero = refl
root_cause t told zero is (suc steps) = refl
root_cause t told (suc n) is steps = absurd (omega (arith, is))

-- of any other node the worse of that and of what is told of its parent
pub cause_above : (t : Nodes) (told : List NodeEvents) (n p : ℕ) (above : Cause) → p < n → p ≡ parent_of t n → ((steps : ℕ) → p ≤ steps → above ≡ cause_within t told steps p)
    → (steps : ℕ) → n ≤ steps → worse_of above (own_cause told n) ≡ cause_within t told steps n
cause_above t told zero p above less is so steps enough = absurd (omega (arith, less))
cause_above t told (suc n) p above less is so zero enough = absurd (omega (arith, enough))
cause_above t told (suc n) p above less is so (suc steps) enough =
    ap (λ (c : Cause). worse_of c (own_cause told (suc n))) (so steps (omega (arith, less, enough)) ∙ ap (cause_within t told steps) is)
