-- An object of JSON, for lines of JSON and for the plan's nodes.
use Rattle.std.proofs.Common.{◌≡◌, ◌++◌, ℕ, List, OnOk, sym, subst, string_bytes}
use Rattle.run_outputs.proofs.Noting.{warning_noted}
use Rattle.run_outputs.proofs.warning_lines.push_warning.Goals as goal

pub returns-in-Json : goal.returns-in-Json
returns-in-Json c =
    subst (λ (line : List ℕ). OnOk c.push_note.result (string_bytes c.push_note.new.json ≡ string_bytes c.args.text.now ++ line)) (sym (warning_noted c.args.details c.args.key.now c.in-Json.is)) c.push_note.ensures.text
