-- Of which details warnings and schedules are objects of JSON.
use Rattle.std.proofs.Common.{◌≡◌, ℕ, List, codes, ap, inl, inr}
use Rattle.std.specs.Prelude.{◌⊎◌}
use Rattle.reports.specs.Json.{note_line}
use Rattle.launch_options.specs.declared.details.Details.{Details}
use Rattle.launch_options.specs.declared.details.Details.TheVariants as details
use Rattle.run_outputs.specs.ScheduleTexts.{line_by}
use Rattle.run_outputs.specs.WarningTexts.{warning_line}

pub schedule_noted : (kind : Details) (name text : List ℕ) → (kind ≡ details.Json) ⊎ (kind ≡ details.Plan) → line_by kind name text ≡ note_line (codes "schedule") name text
schedule_noted kind name text is = elim is [ inl q ↦ ap (λ (k : Details). line_by k name text) q | inr q ↦ ap (λ (k : Details). line_by k name text) q ]

pub warning_noted : (kind : Details) (key : List ℕ) → (kind ≡ details.Json) ⊎ (kind ≡ details.Plan) → warning_line kind key ≡ note_line (codes "warning") (codes "key") key
warning_noted kind key is = elim is [ inl q ↦ ap (λ (k : Details). warning_line k key) q | inr q ↦ ap (λ (k : Details). warning_line k key) q ]
