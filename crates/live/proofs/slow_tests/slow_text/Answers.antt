-- One piece behind the other.
use Rattle.std.proofs.Common.{◌≡◌, ◌∙◌, ◌++◌, List, ℕ, string_bytes, ap}
use Rattle.live.proofs.Growing.{then}
use Rattle.live.specs.Shown.{shown}
use Rattle.live.specs.SlowNaming.{slow_line}
use Rattle.live.proofs.slow_tests.slow_text.Goals as goal

pub returns : goal.returns
returns c =
    let slow = c.args.slow.now in
    let begun = string_bytes c.in_ok-text.text in
    let headed = string_bytes c.push_str.new.self in
    let named : string_bytes c.push_shown.new.text ≡ headed ++ shown (string_bytes slow.test.name) = c.in_ok-push_shown.ensures ∙ ap (λ (l : List ℕ). headed ++ shown l) c.as_str.ensures.value in
    then begun _ _ c.in_ok-push_str.ensures.bytes
    (then headed _ _ named
    (then (string_bytes c.push_shown.new.text) _ _ c.in_ok-push_str-2.ensures.bytes (then (string_bytes c.push_str-2.new.self) _ _ c.in_ok-push_seconds.ensures c.in_ok-writeln.ensures.bytes)))
    ∙ ap (λ (l : List ℕ). l ++ slow_line (record { node = slow.test.node; name = string_bytes slow.test.name; time = slow.time; limit = slow.test.limit })) c.in_ok-text.ensures.ok
