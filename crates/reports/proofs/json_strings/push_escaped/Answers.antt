-- A text of which nothing is escaped is appended as it is.
use Rattle.std.proofs.Common.{◌≡◌, ◌++◌, ◌∙◌, List, ℕ, All, true, string_bytes, sym, ap, subst}
use Rattle.std.proofs.lemmas.Result.{on_ok_weaker}
use Rattle.json.specs.Print.{escape}
use Rattle.reports.specs.JsonStrings.{is_plain}
use Rattle.reports.proofs.Escapes.{plain_text}
use Rattle.reports.proofs.Pushing.{pushed}
use Rattle.reports.proofs.json_strings.push_escaped.Goals as goal

pub returns-then-are_plain : goal.returns-then-are_plain
returns-then-are_plain c =
    let plain : All (λ byte. is_plain byte ≡ true) c.as_bytes.result.now = c.are_plain.ensures.0 c.if-are_plain.true in
    let same : escape c.args.text.now ≡ c.args.text.now = plain_text c.args.text.now (subst (All (λ byte. is_plain byte ≡ true)) c.as_bytes.ensures.value plain) in
    on_ok_weaker c.push_str.result (λ last. last ∙ ap (λ (l : List ℕ). string_bytes c.args.json.now ++ l) (sym same))
    (pushed c.push_str.result (string_bytes c.push_str.new.self) (string_bytes c.args.json.now) c.args.text.now c.push_str.ensures.bytes)
