-- What becomes of each report that is asked for: it is opened, and in the end kept or given up.
use Rattle.std.specs.Prelude.{◌≡◌, ℕ, ◌+◌, ◌<◌, Bool, true, false, List, [], ◌∷◌, ◌++◌, length, take, map, Option, None, Some, Result, Ok, Err}
use Rattle.launch_options.specs.Given.{Text}
use Rattle.launch_options.specs.declared.details.Details.{Details}
use Rattle.launch_options.specs.declared.fault.LaunchFault.{LaunchFault}
use Rattle.launch_options.specs.declared.fault.LaunchFault.TheVariants.{BadReport, CutReport, NoMemory}
use Rattle.run_outputs.specs.declared.exit_status.ExitStatus.{ExitStatus}
use Rattle.report_files.specs.Deeds.{Deed, Does, IsEmpty}
use Rattle.report_files.specs.Deeds.Deed.{Opened, Kept, NotKept, GivenUp}
use Rattle.report_files.specs.declared.report.Outcome.{Outcome}
use Rattle.report_files.specs.declared.report.Outcome.TheVariants.{Waiting, Whole, Cut}
use Rattle.report_files.specs.declared.report.Report.{Report}

-- a report that is asked for: its form, and the name under which it is to stand
abbrev pub Wanted : Type 0
Wanted = Details × Text

-- all of a report was written
abbrev pub is_whole : Outcome → Bool
is_whole Waiting = false
is_whole Whole = true
is_whole (Cut cause) = false

-- a file is opened for each of these
abbrev pub openings : List Wanted → List Deed
openings wanted = map (λ (w : Wanted). Opened w.1) wanted

-- and each is given up
abbrev pub givings_up : List Wanted → List Deed
givings_up wanted = map (λ (w : Wanted). GivenUp w.1) wanted

module _ {F : Type 0} (contents : F → Option (List ℕ)) where
  -- a report has the form that is asked for, and an empty file
  pub record IsOpened (wanted : Wanted) (report : Report F) : Type 0 where
    pub form : report.form ≡ wanted.0
    pub empty : IsEmpty (contents report.file)
    pub outcome : report.outcome ≡ Waiting

  -- these reports are opened, of those that are asked for the first so many
  abbrev pub AreOpened : List (Report F) → List Wanted → Type 0
  AreOpened [] wanted = Unit {0}
  AreOpened (report ∷ reports) [] = ⊥
  AreOpened (report ∷ reports) (w ∷ wanted) = IsOpened w report × AreOpened reports wanted

  -- one more is opened, or it could not be
  abbrev pub OpensNext : Wanted → (old new : List (Report F)) → (before after : Option (List Deed)) → Bool → Type 0
  OpensNext w old new before after true = (report : Report F) × IsOpened w report × (new ≡ old ++ report ∷ []) × Does before after (Opened w.1 ∷ [])
  OpensNext w old new before after false = (new ≡ old) × Does before after []

  -- what became of a report under its name: what is in its file is kept, or could not be, if all of it was written; and else it is given up
  abbrev pub IsEnded : Wanted → Report F → Deed → Type 0
  IsEnded w report (Opened name) = ⊥
  IsEnded w report (Kept name bytes) = (name ≡ w.1) × (is_whole report.outcome ≡ true) × (bytes ≡ contents report.file)
  IsEnded w report (NotKept name) = (name ≡ w.1) × (is_whole report.outcome ≡ true)
  IsEnded w report (GivenUp name) = (name ≡ w.1) × (is_whole report.outcome ≡ false)

  -- and of each of these
  abbrev pub AreEnded : List (Report F) → List Wanted → List Deed → Type 0
  AreEnded [] wanted [] = Unit {0}
  AreEnded [] wanted (deed ∷ deeds) = ⊥
  AreEnded (report ∷ reports) [] deeds = ⊥
  AreEnded (report ∷ reports) (w ∷ wanted) [] = ⊥
  AreEnded (report ∷ reports) (w ∷ wanted) (deed ∷ deeds) = IsEnded w report deed × AreEnded reports wanted deeds

-- a report is kept
abbrev pub is_kept : Deed → Bool
is_kept (Opened name) = false
is_kept (Kept name bytes) = true
is_kept (NotKept name) = false
is_kept (GivenUp name) = false

-- the first that is not kept, counted from this number
abbrev pub lost_or : Bool → ℕ → Option ℕ → Option ℕ
lost_or true number later = later
lost_or false number later = Some number

abbrev pub first_lost : ℕ → List Deed → Option ℕ
first_lost number [] = None
first_lost number (deed ∷ deeds) = lost_or (is_kept deed) number (first_lost (number + 1) deeds)

-- the answer of a run, where the report of this number is the first that is not kept, if one is not
abbrev pub unless_lost : ExitStatus → Option ℕ → Result ExitStatus LaunchFault
unless_lost status None = Ok status
unless_lost status (Some number) = Err (CutReport number)

abbrev pub answer_with : Result ExitStatus LaunchFault → Option ℕ → Result ExitStatus LaunchFault
answer_with (Ok status) lost = unless_lost status lost
answer_with (Err fault) lost = Err fault

-- why the files of reports are not opened: there is no memory; or that of this number could not be, and those before it are given up
abbrev pub IsUnopened : List Wanted → (before after : Option (List Deed)) → LaunchFault → Type 0
IsUnopened wanted before after NoMemory = Does before after []
IsUnopened wanted before after (BadReport number) =
    (n : ℕ) × (number ≡ n + 1) × (n < length wanted) × Does before after (openings (take n wanted) ++ givings_up (take n wanted))
IsUnopened wanted before after _ = ⊥
