-- When a token is a worker's.
use Rattle.std.proofs.Common.{◌≡◌, ◌≢◌, ℕ, ◌&&◌, false, List, [], ◌∷◌, inl, inr, refl, ap}
use Rattle.std.proofs.lemmas.Bool.Decides.{eqb_tells}
use Rattle.suite_words.specs.Numbers.{is_number}
use Rattle.saved_runs.specs.FeedLines.{is_worker}

pub worker_by : (word digits : List ℕ) → word ≡ 119 ∷ digits → is_worker word ≡ is_number digits
worker_by word digits is = ap is_worker is

pub no_worker : (word : List ℕ) → ((rest : List ℕ) → word ≢ 119 ∷ rest) → is_worker word ≡ false
no_worker [] none = refl
no_worker (b ∷ rest) none = elim (eqb_tells b 119) [
  | inl e ↦ absurd (none rest (ap (λ x. x ∷ rest) e.1))
  | inr e ↦ ap (λ t. t && is_number rest) e.0
]
