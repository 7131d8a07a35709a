-- One place more.
use Rattle.std.proofs.Common.{◌∙◌, List, ℕ, ap, map}
use Rattle.config_params.proofs.LockKeys.{none_more, one_more}
use Rattle.config_params.proofs.params.push_limiting.Goals.{in-Some+in_ok-push_if_limiting, in_default}
use Rattle.config_params.proofs.params.push_limiting.Goals as goal

pub loop-place-preserved : goal.loop-place-preserved
loop-place-preserved c =
    let first : List (List ℕ) = map (λ key. key.now) c.args.keys.now.items in
    let before : List (List ℕ) = map (λ key. key.now) c.loop-place.keys.items in
    elim c.match-key_at.branch [
      | in-Some+in_ok-push_if_limiting w ↦
          one_more c.args.table.now c.loop-place.place w.in-Some.key.now first before (map (λ key. key.now) c.match-key_at.keys.items) w.in-Some.ensures c.loop-place.invariant
          (ap (λ k. map (λ key. key.now) k.items) w.keys-is ∙ w.in_ok-push_if_limiting.ensures)
      | in_default w ↦
          ap (λ k. map (λ key. key.now) k.items) w.keys-is
          ∙ none_more c.args.table.now c.loop-place.place first before w.in_default.ensures c.loop-place.invariant
    ]
