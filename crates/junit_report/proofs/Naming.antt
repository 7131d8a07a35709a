-- Class names, whatever number of steps is allowed.
use Rattle.std.proofs.Common.{◌≡◌, ℕ, zero, suc, ◌<◌, ◌≤◌, Bool, true, false, cond, List, ◌++◌, codes, ap, sym, ◌∙◌, subst, arith}
use Rattle.descriptor.specs.Nodes.{Nodes, parent_of, is_high}
use Rattle.run_results.specs.TreeTexts.{name_at}
use Rattle.junit_report.specs.ClassNames.{class_name_within, top_name}

-- what a test decides
chosen : {A : Type 0} (b : Bool) (x y : A) → b ≡ true → cond b x y ≡ x
chosen b x y h = ap (λ (c : Bool). cond c x y) h

other : {A : Type 0} (b : Bool) (x y : A) → b ≡ false → cond b x y ≡ y
other b x y h = ap (λ (c : Bool). cond c x y) h

-- below the plan, or an engine, the name that a node has there
pub high_name : (t : Nodes) (several : Bool) (n p : ℕ) → p < n → p ≡ parent_of t n → is_high t p ≡ true → (steps : ℕ) → n ≤ steps → top_name t several n ≡ class_name_within t several steps n
high_name t several zero p less is high steps enough = absurd (omega (arith, less))
high_name t several (suc n) p less is high zero enough = absurd (omega (arith, enough))
high_name t several (suc n) p less is high (suc steps) enough =
    sym (chosen (is_high t (parent_of t (suc n))) (top_name t several (suc n)) (class_name_within t several steps (parent_of t (suc n)) ++ (codes "$" ++ name_at t (suc n))) (subst (λ (q : ℕ). is_high t q ≡ true) is high))

-- else behind that of the parent
pub deep_name : (t : Nodes) (several : Bool) (n p : ℕ) (above : List ℕ) → p < n → p ≡ parent_of t n → is_high t p ≡ false → ((steps : ℕ) → p ≤ steps → above ≡ class_name_within t several steps p)
    → (steps : ℕ) → n ≤ steps → above ++ (codes "$" ++ name_at t n) ≡ class_name_within t several steps n
deep_name t several zero p above less is low so steps enough = absurd (omega (arith, less))
deep_name t several (suc n) p above less is low so zero enough = absurd (omega (arith, enough))
deep_name t several (suc n) p above less is low so (suc steps) enough =
    let name = codes "$" ++ name_at t (suc n) in
    ap (λ (l : List ℕ). l ++ name) (so steps (omega (arith, less, enough)) ∙ ap (class_name_within t several steps) is)
    ∙ sym (other (is_high t (parent_of t (suc n))) (top_name t several (suc n)) (class_name_within t several steps (parent_of t (suc n)) ++ name) (subst (λ (q : ℕ). is_high t q ≡ false) is low))
