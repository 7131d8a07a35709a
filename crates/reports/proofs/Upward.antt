-- What rules a node out on the way up from it, whatever number of steps is allowed.
use Rattle.std.proofs.Common.{◌≡◌, ℕ, zero, suc, ◌<◌, ◌≤◌, ◌||◌, Bool, true, false, ap, sym, ◌∙◌, arith}
use Rattle.descriptor.specs.Nodes.{Nodes, parent_of, is_disabled}
use Rattle.reports.specs.Lists.{is_ruled_out_within}

-- a node that is disabled is ruled out
pub out_itself : (t : Nodes) (n : ℕ) → is_disabled t n ≡ true → (steps : ℕ) → true ≡ is_ruled_out_within t steps n
out_itself t n is zero = sym is
out_itself t zero is (suc steps) = sym is
out_itself t (suc n) is (suc steps) = sym (ap (λ (b : Bool). b || is_ruled_out_within t steps (parent_of t (suc n))) is)

-- node 0 is not, if it is not disabled
pub not_out : (t : Nodes) (n : ℕ) → n ≡ 0 → is_disabled t n ≡ false → (steps : ℕ) → false ≡ is_ruled_out_within t steps n
not_out t n root is zero = sym is
not_out t zero root is (suc steps) = sym is
not_out t (suc n) root is (suc steps) = absurd (omega (arith, root))

-- and any other node is where its parent is
pub out_above : (t : Nodes) (n p : ℕ) (above : Bool) → p < n → p ≡ parent_of t n → is_disabled t n ≡ false → ((steps : ℕ) → p ≤ steps → above ≡ is_ruled_out_within t steps p)
    → (steps : ℕ) → n ≤ steps → above ≡ is_ruled_out_within t steps n
out_above t zero p above less is on so steps enough = absurd (omega (arith, less))
out_above t (suc n) p above less is on so zero enough = absurd (omega (arith, enough))
out_above t (suc n) p above less is on so (suc steps) enough =
    so steps (omega (arith, less, enough)) ∙ ap (is_ruled_out_within t steps) is
    ∙ sym (ap (λ (b : Bool). b || is_ruled_out_within t steps (parent_of t (suc n))) on)
