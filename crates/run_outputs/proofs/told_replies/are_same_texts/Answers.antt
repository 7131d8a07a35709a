-- One more node has the same text in both.
use Rattle.std.proofs.Common.{◌≡◌, ℕ, ◌+◌, ◌<◌, true, arith, inl, inr, subst}
use Rattle.std.proofs.lemmas.Bool.{cases_eq}
use Rattle.std.proofs.lemmas.Grind.{common_steps}
use Rattle.plan_events.specs.Texts.{TextParts, text_at}
use Rattle.run_outputs.proofs.told_replies.are_same_texts.Goals as goal

next_same : (some others : TextParts) (m : ℕ) → ((n : ℕ) → n < m → text_at some n ≡ text_at others n) → text_at some m ≡ text_at others m → (n : ℕ) → n < m + 1 → text_at some n ≡ text_at others n
next_same some others m before same n lt = elim (cases_eq n m) [
  | inl e ↦ rw e same
  | inr ne ↦ before n (omega (arith, lt, ne))
]

pub loop-number-preserved : goal.loop-number-preserved
loop-number-preserved c =
    let found : c.is_same_text.result ≡ true = grind (arith, common_steps) in
    let here : c.new.result ≡ c.loop-number.number = grind (arith, common_steps) in
    next_same c.args.some.now c.args.others.now c.loop-number.number c.loop-number.invariant
    (subst (λ (k : ℕ). text_at c.args.some.now k ≡ text_at c.args.others.now k) here (c.is_same_text.ensures found))
