-- The lines of a feed tell its events, and nothing else.
use Rattle.std.proofs.Common.{◌≡◌, ◌∙◌, ℕ, List, [], ◌∷◌, map, Option, Some, Result, Ok, Err, IfOk, refl, sym, ap₂, subst}
use Rattle.saved_runs.specs.Histories.{event_told}
use Rattle.saved_runs.specs.Lines.{whole_lines, Tell}
use Rattle.saved_runs.specs.declared.fault.SavedFault.{SavedFault}
use Rattle.saved_runs.specs.declared.told.Told.{Told}
use Rattle.saved_runs.proofs.ReadBack.{feed_back}
use Rattle.uses.proofs.saved_feed.feed_again.Goals as goal

same : (xs ys : List Told) → map (λ x. Some x) xs ≡ map (λ x. Some x) ys → xs ≡ ys
same [] [] e = refl
same [] (y ∷ ys) e = absurd (cc)
same (x ∷ xs) [] e = absurd (cc)
same (x ∷ xs) (y ∷ ys) e = ap₂ (λ a b. a ∷ b) (cc) (same xs ys (cc))

-- lines tell one thing
told_once : (lines : List (List ℕ)) (told more : List Told) → Tell lines told → Tell lines more → told ≡ more
told_once lines told more h k = same told more (sym h ∙ k)

weaker : (r : Result (List Told) SavedFault) (P Q : List Told → Type 0) → ((told : List Told) → P told → Q told) → IfOk r P → IfOk r Q
weaker (Ok told) P Q f h = f told h
weaker (Err fault) P Q f h = tt

pub returns : goal.returns
returns c = λ replies workers flat legal.
    let text = c.as_str.result.now in
    let events = map (event_told c.args.plan.now) c.args.history.now in
    let back = feed_back c.args.plan.now replies workers c.args.history.now c.args.texts.now c.has_uids.ensures flat legal in
    let whole : Tell (whole_lines text) events = subst (λ (t : List ℕ). Tell (whole_lines t) events) (sym (c.as_str.ensures.value ∙ c.in_ok-feed.ensures)) back.all in
    weaker c.read.result (λ told. Tell (whole_lines text) told) (λ told. told ≡ events) (λ told h. told_once (whole_lines text) told events h whole) c.read.ensures.told
