-- From the refusals of each part of a run to the first one of all, and to the plan that is run.
use Rattle.std.proofs.Common.{◌≡◌, ◌≢◌, ℕ, ◌<◌, ◌≤◌, List, map, length, Bool, true, false, Option, Some, None, option_map, Result, Ok, Err, IfErr, refl, sym, ap, subst, ◌∙◌}
use Rattle.std.specs.Prelude.{nat_lt, if◌then◌else◌, unwrap_or}
use Rattle.std.specs.Option.{option_or}
use Rattle.std.specs.Result.{IsErrAnd}
use Rattle.std.proofs.lemmas.Bool.{lt-ltb}
use Rattle.std.proofs.lemmas.Option.{none-some}
use Rattle.config_params.specs.declared.settings.Settings.{Settings}
use Rattle.config_params.specs.declared.limits_fault.LimitsFault.{LimitsFault}
use Rattle.config_params.specs.declared.limits_fault.LimitsFault.TheVariants as limits
use Rattle.config_params.specs.LockLimits.{IsRefusedAs, limit_said, limited_as_said, limits_refusal}
use Rattle.config_params.specs.Parameters.{Parameters, answer_over}
use Rattle.config_params.specs.declared.settings_fault.SettingsFault.{SettingsFault}
use Rattle.descriptor.specs.Nodes.{Nodes}
use Rattle.descriptor.specs.declared.mode.Mode.{Mode}
use Rattle.config_params.specs.GivenModes.{given_modes}
use Rattle.plan_events.specs.declared.outcome.Reply.{Reply}
use Rattle.resource_locks.specs.Declarations.{declared_of}
use Rattle.resource_locks.specs.Held as hoisted
use Rattle.resource_locks.specs.Hoisted.{IsGuarded}
use Rattle.resource_locks.specs.Keys.{keys_of}
use Rattle.resource_locks.specs.Limits.{limit_given, limited_by, with_limits}
use Rattle.resource_locks.specs.declared.limits.KeyLimit.{KeyLimit}
use Rattle.resource_locks.specs.Plans.{PlanParts}
use Rattle.resource_locks.specs.Spares.{HasBareSpares, HasFreeSpares}
use Rattle.never_stuck.specs.Reaching.{NeverStuck}
use Rattle.resource_locks.specs.declared.fault.PlanFault.{PlanFault}
use Rattle.resource_locks.specs.declared.fault.PlanFault.TheVariants as plans
use Rattle.selectors.specs.Selections.{answer, refusal}
use Rattle.selectors.specs.declared.select_fault.SelectFault.{SelectFault}
use Rattle.selectors.specs.declared.select_fault.SelectFault.TheVariants as selections
use Rattle.suite_text.specs.Reading.Parts.{SuiteParts}
use Rattle.launch_options.specs.Asked.{Asked}
use Rattle.launch_options.specs.Faults.{IsLimitsFault, IsPlanFault}
use Rattle.ready_runs.specs.Ready.{FailsSuite, IsReady, TakesMemory, answers_of, crowd_refusal, keys_refusal, limits_refused, plan_in, plan_of, plan_refusal, run_refusal, selection_fault, selection_refusal, settings_in, settings_refusal, workers_refusal}
use Rattle.launch_options.specs.declared.fault.LaunchFault.{LaunchFault}
use Rattle.launch_options.specs.declared.fault.LaunchFault.TheVariants.{NoMemory, Suite as OfSuite, BadWords, BadStep, BadReport, CutReport, UnreadRun, BadSavedLine, UnreadWords, BadSelector, BadTags, BadPair, BadSettings, NothingMatches, TooManyKeys, TooManyWorkers, NoWorker, Reading, Writing}

or_none : {A : Type 0} (a b : Option A) → option_or a b ≡ None → a ≡ None
or_none None b is = refl
or_none (Some x) b is = absurd (none-some _ (sym is))

-- the plan of what a request finds in a tree, where the properties are these
module _ (asked : Asked) (tree : Nodes) (properties : Parameters) where
  module _ (accepted : refusal tree asked.request ≡ None) where
    selection_none : selection_refusal tree asked.request ≡ None
    selection_none = ap (option_map selection_fault) accepted

    behind_selection : plan_refusal asked tree properties ≡ option_or (limits_refused asked tree properties) (keys_refusal (answer tree asked.request))
    behind_selection = ap (λ o. option_or o (option_or (limits_refused asked tree properties) (keys_refusal (answer tree asked.request)))) selection_none

    -- limits are judged behind the selection
    pub limits_fail : (cause : LimitsFault) {X : Type 0} (result : Result X LaunchFault) → IsErrAnd result (IsLimitsFault cause) → IsRefusedAs (limits_refusal asked.params properties tree) cause
        → IfErr result (λ fault. fault ≢ NoMemory → plan_refusal asked tree properties ≡ Some fault)
    limits_fail cause (Ok x) is why = absurd is
    limits_fail limits.NoMemory (Err fault) is why = λ other. absurd (other is)
    limits_fail (limits.Refused f) (Err fault) is why =
        λ other. behind_selection ∙ ap (λ o. option_or (option_map BadSettings o) (keys_refusal (answer tree asked.request))) why ∙ ap Some (sym is)

    module _ (sound : limits_refusal asked.params properties tree ≡ None) (found : Nodes) (is_found : found ≡ answer tree asked.request) where
      plan_is : plan_refusal asked tree properties ≡ keys_refusal found
      plan_is = behind_selection ∙ ap (λ o. option_or (option_map BadSettings o) (keys_refusal (answer tree asked.request))) sound ∙ ap keys_refusal (sym is_found)

      pub plan_accepted : keys_refusal found ≡ None → plan_refusal asked tree properties ≡ None
      plan_accepted none = plan_is ∙ none

-- too many keys
pub keys_refused : (found : Nodes) {X : Type 0} (cause : PlanFault) (result : Result X LaunchFault) → IsErrAnd result (IsPlanFault cause) → (cause ≡ plans.TooManyKeys → 256 < length (keys_of (declared_of found)))
    → IfErr result (λ fault. fault ≢ NoMemory → keys_refusal found ≡ Some fault)
keys_refused found cause (Ok x) is many = absurd is
keys_refused found plans.NoMemory (Err fault) is many = λ other. absurd (other is)
keys_refused found plans.TooManyKeys (Err fault) is many =
    λ other. ap (λ b. if b then Some TooManyKeys else None) (lt-ltb 256 (length (keys_of (declared_of found))) (many refl)) ∙ ap Some (sym is)

-- the plan that was made
pub plan_made : (found : Nodes) (settings : Settings) (fail_fast : Bool) (tolerated : ℕ) (modes : List Mode) (made plan : PlanParts) → modes ≡ given_modes found settings
    → made ≡ hoisted.plan_of found modes → plan ≡ record made { fail_fast = fail_fast; tolerated = tolerated } → plan ≡ plan_of fail_fast tolerated settings found
plan_made found settings fail_fast tolerated modes made plan are_modes is_made is =
    is ∙ ap (λ (p : PlanParts). record p { fail_fast = fail_fast; tolerated = tolerated }) (is_made ∙ ap (hoisted.plan_of found) are_modes)

-- in which the keys have the limits that are said
pub limited_so : (asked : Asked) (tree : Nodes) (properties : Parameters) (settings : Settings) (found : Nodes) (given : List KeyLimit) (plan : PlanParts) → found ≡ answer tree asked.request
    → ((lock : List ℕ) → limit_given given lock ≡ limit_said (answer_over asked.params properties) lock) → plan ≡ with_limits (plan_of asked.fail_fast asked.tolerated settings found) given → plan ≡ plan_in asked tree properties settings
limited_so asked tree properties settings found given plan is_found said is =
    is ∙ (λ i. limited_by (plan_of asked.fail_fast asked.tolerated settings found) (map (λ lock. said lock i) (plan_of asked.fail_fast asked.tolerated settings found).keys))
    ∙ ap (λ (t : Nodes). limited_as_said (answer_over asked.params properties) (plan_of asked.fail_fast asked.tolerated settings t)) is_found

-- it fails fast as it is told to, and then tolerates so many failures
pub both_set : (fail_fast : Bool) (tolerated : ℕ) (made fast plan : PlanParts) → fast ≡ record made { fail_fast = fail_fast } → plan ≡ record fast { tolerated = tolerated } → plan ≡ record made { fail_fast = fail_fast; tolerated = tolerated }
both_set fail_fast tolerated made fast plan is_fast is = is ∙ ap (λ (p : PlanParts). record p { tolerated = tolerated }) is_fast

-- and it holds for its nodes what they declare, with limits too
module _ (found : Nodes) (modes : List Mode) (fail_fast : Bool) (tolerated : ℕ) (made fast plan : PlanParts) (is_made : made ≡ hoisted.plan_of found modes) (is_fast : fast ≡ record made { fail_fast = fail_fast }) (is : plan ≡ record fast { tolerated = tolerated }) where
  still_guarded : IsGuarded (declared_of found) made → (IsGuarded (declared_of made.tree) made → IsGuarded (declared_of made.tree) fast) → (IsGuarded (declared_of fast.tree) fast → IsGuarded (declared_of fast.tree) plan) → IsGuarded (declared_of plan.tree) plan
  still_guarded safe still_fast still =
      let safe_there : IsGuarded (declared_of made.tree) made = subst (λ (t : Nodes). IsGuarded (declared_of t) made) (sym (ap (λ (p : PlanParts). p.tree) is_made)) safe in
      let fast_there : IsGuarded (declared_of fast.tree) fast = subst (λ (t : Nodes). IsGuarded (declared_of t) fast) (sym (ap (λ (p : PlanParts). p.tree) is_fast)) (still_fast safe_there) in
      subst (λ (t : Nodes). IsGuarded (declared_of t) plan) (sym (ap (λ (p : PlanParts). p.tree) is)) (still fast_there)

  pub limited_guarded : (given : List KeyLimit) (limited : PlanParts) → limited ≡ with_limits plan given → IsGuarded (declared_of found) made → (IsGuarded (declared_of made.tree) made → IsGuarded (declared_of made.tree) fast)
      → (IsGuarded (declared_of fast.tree) fast → IsGuarded (declared_of fast.tree) plan) → (IsGuarded (declared_of plan.tree) plan → IsGuarded (declared_of plan.tree) limited) → IsGuarded (declared_of limited.tree) limited
  limited_guarded given limited is_limited safe still_fast still still_limited =
      subst (λ (t : Nodes). IsGuarded (declared_of t) limited) (sym (ap (λ (p : PlanParts). p.tree) is_limited)) (still_limited (still_guarded safe still_fast still))

  -- no spare of it holds a key, if none did
  pub limited_free : (given : List KeyLimit) (limited : PlanParts) → limited ≡ with_limits plan given → HasFreeSpares made → HasFreeSpares limited
  limited_free given limited is_limited free = subst HasFreeSpares (sym (is_limited ∙ ap (λ (p : PlanParts). with_limits p given) (both_set fail_fast tolerated made fast plan is_fast is))) free

-- what a run of a suite is refused for is one of these
abbrev IsRunRefusal : LaunchFault → Type 0
IsRunRefusal NoMemory = Unit {0}
IsRunRefusal (BadSettings fault) = Unit {0}
IsRunRefusal (NothingMatches number) = Unit {0}
IsRunRefusal TooManyKeys = Unit {0}
IsRunRefusal TooManyWorkers = Unit {0}
IsRunRefusal _ = ⊥

by_some : (a b : LaunchFault) → Some a ≡ Some b → IsRunRefusal a → IsRunRefusal b
by_some a b same is = subst IsRunRefusal (ap (λ o. unwrap_or o a) same) is

by_crowd : (b : Bool) (fault : LaunchFault) → (if b then Some TooManyWorkers else None) ≡ Some fault → IsRunRefusal fault
by_crowd true fault same = by_some TooManyWorkers fault same tt
by_crowd false fault same = absurd (none-some _ same)

by_parts : (settings : Result Settings SettingsFault) (selection : Option SelectFault) (limits : Option SettingsFault) (keys : Bool) (fault : LaunchFault)
    → option_or (settings_refusal settings) (option_or (option_or (option_map selection_fault selection) (option_or (option_map BadSettings limits) (if keys then Some TooManyKeys else None))) (crowd_refusal settings)) ≡ Some fault → IsRunRefusal fault
by_parts (Err cause) selection limits keys fault same = by_some (BadSettings cause) fault same tt
by_parts (Ok settings) (Some selections.NoMemory) limits keys fault same = by_some NoMemory fault same tt
by_parts (Ok settings) (Some (selections.NothingMatches n)) limits keys fault same = by_some (NothingMatches n) fault same tt
by_parts (Ok settings) None (Some cause) keys fault same = by_some (BadSettings cause) fault same tt
by_parts (Ok settings) None None true fault same = by_some TooManyKeys fault same tt
by_parts (Ok settings) None None false fault same = by_crowd (nat_lt 64 settings.workers) fault same

module _ (asked : Asked) (suite : SuiteParts) where
  run_kind : (fault : LaunchFault) → run_refusal asked suite ≡ Some fault → IsRunRefusal fault
  run_kind fault same = by_parts (settings_in asked suite) (refusal suite.tree asked.request) (limits_refusal asked.params suite.properties suite.tree) (nat_lt 256 (length (keys_of (declared_of (answer suite.tree asked.request))))) fault same

  fails_by : (fault : LaunchFault) → (fault ≢ NoMemory → run_refusal asked suite ≡ Some fault) → (fault ≡ NoMemory → TakesMemory asked suite) → FailsSuite asked suite fault
  fails_by NoMemory refused memory = memory refl
  fails_by (OfSuite f) refused memory = absurd (run_kind (OfSuite f) (refused (λ same. cc)))
  fails_by BadWords refused memory = absurd (run_kind BadWords (refused (λ same. cc)))
  fails_by (BadStep n) refused memory = absurd (run_kind (BadStep n) (refused (λ same. cc)))
  fails_by (BadReport n) refused memory = absurd (run_kind (BadReport n) (refused (λ same. cc)))
  fails_by (CutReport n) refused memory = absurd (run_kind (CutReport n) (refused (λ same. cc)))
  fails_by UnreadRun refused memory = absurd (run_kind UnreadRun (refused (λ same. cc)))
  fails_by (BadSavedLine n) refused memory = absurd (run_kind (BadSavedLine n) (refused (λ same. cc)))
  fails_by (UnreadWords n) refused memory = absurd (run_kind (UnreadWords n) (refused (λ same. cc)))
  fails_by (BadSelector n) refused memory = absurd (run_kind (BadSelector n) (refused (λ same. cc)))
  fails_by (BadTags f) refused memory = absurd (run_kind (BadTags f) (refused (λ same. cc)))
  fails_by (BadPair f) refused memory = absurd (run_kind (BadPair f) (refused (λ same. cc)))
  fails_by (BadSettings f) refused memory = refused (λ same. cc)
  fails_by (NothingMatches n) refused memory = refused (λ same. cc)
  fails_by TooManyKeys refused memory = refused (λ same. cc)
  fails_by TooManyWorkers refused memory = refused (λ same. cc)
  fails_by NoWorker refused memory = absurd (run_kind NoWorker (refused (λ same. cc)))
  fails_by Reading refused memory = absurd (run_kind Reading (refused (λ same. cc)))
  fails_by (Writing f) refused memory = absurd (run_kind (Writing f) (refused (λ same. cc)))

  module _ (settings : Settings) (are : Ok settings ≡ settings_in asked suite) where
    run_is : run_refusal asked suite ≡ option_or (plan_refusal asked suite.tree suite.properties) (workers_refusal settings.workers)
    run_is = ap (λ r. option_or (settings_refusal r) (option_or (plan_refusal asked suite.tree suite.properties) (crowd_refusal r))) (sym are)

    takes : selection_refusal suite.tree asked.request ≡ None → TakesMemory asked suite
    takes none = record { settings = ap settings_refusal (sym are); selection = none }

    -- a plan that is none, or that too many workers would run
    pub plan_fails : {X : Type 0} (fault : LaunchFault) (result : Result X LaunchFault) → IsErrAnd result (λ e. e ≡ fault) → (fault ≢ NoMemory → option_or (plan_refusal asked suite.tree suite.properties) (workers_refusal settings.workers) ≡ Some fault)
        → (fault ≡ NoMemory → selection_refusal suite.tree asked.request ≡ None) → IfErr result (FailsSuite asked suite)
    plan_fails fault (Ok x) same refused memory = absurd same
    plan_fails fault (Err e) same refused memory = rw same (fails_by fault (λ other. run_is ∙ refused other) (λ is. takes (memory is)))

    module _ (accepted : plan_refusal asked suite.tree suite.properties ≡ None) where
      run_left : run_refusal asked suite ≡ workers_refusal settings.workers
      run_left = run_is ∙ ap (λ o. option_or o (workers_refusal settings.workers)) accepted

      -- want of memory
      pub memory_fails : {X : Type 0} (result : Result X LaunchFault) → IsErrAnd result (λ e. e ≡ NoMemory) → IfErr result (FailsSuite asked suite)
      memory_fails (Ok x) same = absurd same
      memory_fails (Err e) same = rw same (takes (or_none _ _ accepted))

      -- nothing refuses the suite
      pub made_ready : (plan : PlanParts) → workers_refusal settings.workers ≡ None → plan ≡ plan_in asked suite.tree suite.properties settings → 1 ≤ settings.workers → settings.workers ≤ 64 → IsGuarded (declared_of plan.tree) plan
          → (HasBareSpares suite.tree → NeverStuck plan) → IsReady asked suite settings plan (answers_of suite.scripts)
      made_ready plan count same some few safe never = record {
        accepted = run_left ∙ count;
        are = sym are;
        plan_is = same;
        replies_are = refl;
        some = some;
        few = few;
        guarded = safe;
        never_stuck = never;
      }

-- what goes with settings and a plan is still them
pub still_ready : (asked : Asked) (suite : SuiteParts) (settings made : Settings) (plan planned : PlanParts) (answers answered : List (ℕ × Reply)) → made ≡ settings → planned ≡ plan → answered ≡ answers → IsReady asked suite settings plan answers
    → IsReady asked suite made planned answered
still_ready asked suite settings made plan planned answers answered same_settings same_plan same_answers ready =
    subst (λ (s : Settings). IsReady asked suite s planned answered) (sym same_settings)
    (subst (λ (p : PlanParts). IsReady asked suite settings p answered) (sym same_plan) (subst (λ (a : List (ℕ × Reply)). IsReady asked suite settings plan a) (sym same_answers) ready))

module _ (asked : Asked) (suite : SuiteParts) (settings : Settings) (plan : PlanParts) (answers : List (ℕ × Reply)) (ready : IsReady asked suite settings plan answers) where
  -- nothing that is judged before memory is taken refuses it
  pub ready_takes : TakesMemory asked suite
  ready_takes = record {
    settings = ap settings_refusal ready.are;
    selection = or_none _ _ (or_none _ _ (after_settings (settings_in asked suite) ready.are ready.accepted));
  }
    where
      after_settings : (r : Result Settings SettingsFault) → r ≡ Ok settings → option_or (settings_refusal r) (option_or (plan_refusal asked suite.tree suite.properties) (crowd_refusal r)) ≡ None → option_or (plan_refusal asked suite.tree suite.properties) (crowd_refusal r) ≡ None
      after_settings (Ok s) is none = none
      after_settings (Err f) is none = cc
