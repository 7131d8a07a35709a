-- The line says how far the tests have come, and what is said of the one that runs longest.
use Rattle.std.proofs.Common.{◌≡◌, ◌∙◌, ◌++◌, List, ℕ, IfOk, Result, Ok, Err, ap, string_bytes}
use Rattle.live.specs.RunningTests.{longest_part}
use Rattle.live.specs.Terminals.{Line, erasing, text_of, wrapping_off, wrapping_on}
use Rattle.live.proofs.progress.Progress.line.Goals as goal

so_if_ok : {A F : Type 0} {P Q : A → Type 0} (result : Result A F) → ((a : A) → P a → Q a) → IfOk result P → IfOk result Q
so_if_ok (Ok a) so is = so a is
so_if_ok (Err fault) so is = tt

pub returns : goal.returns
returns g c =
    let told = c.in_ok-push_longest.ensures in
    let line : Line = record { tests = c.of-tests.result; seconds = c.args.seconds; longest = told.0 } in
    let text : string_bytes c.push_longest.new.text ≡ text_of line = told.2 ∙ ap (λ (l : List ℕ). l ++ longest_part told.0) c.in_ok-line.ensures in
    so_if_ok c.format.result (λ t is. (line, told.1, is ∙ ap (λ (l : List ℕ). erasing ++ (wrapping_off ++ (l ++ wrapping_on))) text)) c.format.ensures.ok
