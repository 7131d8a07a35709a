-- From what a run has shown, or how it broke off, to what is answered.
use Rattle.std.proofs.Common.{◌≡◌, ◌≢◌, ◌∙◌, ℕ, zero, suc, ◌<◌, Bool, true, false, List, [], length, take, Option, Some, None, Result, Ok, Err, refl, sym, ap, subst, append-nil, inl, inr, arith}
use Rattle.std.specs.Io.KnownBytes.{Appends, Keeps}
use Rattle.std.proofs.lemmas.Bool.{true≢false}
use Rattle.live.specs.declared.live_feed.Outlet.{Outlet}
use Rattle.live.specs.declared.live_feed.Outlet.TheVariants.{Waiting, Open, Closed, Failed}
use Rattle.launch_options.specs.Asked.{Asked}
use Rattle.launch_options.specs.Faults.{cut_by_memory, cut_by_writer}
use Rattle.launch_options.specs.declared.fault.CutOutput.{CutOutput}
use Rattle.launch_options.specs.declared.fault.LaunchFault.{LaunchFault}
use Rattle.launch_options.specs.declared.fault.LaunchFault.TheVariants.{Writing}
use Rattle.run_outputs.specs.declared.exit_status.ExitStatus.{ExitStatus}
use Rattle.launcher.specs.Faults.{is_writing}
use Rattle.launcher.specs.Watched.{IsAnswered, IsBrokenOff, IsRefusedBy, cut_in}

module _ (asked : Asked) (Output : List ℕ → ExitStatus → Type 0) (Fails : LaunchFault → Type 0) (old new : Option (List ℕ)) where
  abbrev Answered : Result ExitStatus LaunchFault → Type 0
  Answered = IsAnswered asked Output Fails old new

  -- a refusal that is not about an output
  refused : (fault : LaunchFault) → cut_in fault ≡ None → Fails fault → Answered (Err fault)
  refused fault none fails = subst (λ (o : Option CutOutput). IsRefusedBy asked Output Fails o fault old new) (sym none) fails

  module _ (fault result : LaunchFault) (none : cut_in fault ≡ None) (fails : Fails fault) where
    as_it_is : result ≡ fault → Answered (Err result)
    as_it_is is = subst (λ (f : LaunchFault). Answered (Err f)) (sym is) (refused fault none fails)

    -- the writer has not failed
    going : (outlet : Outlet) (sent : ℕ) → outlet ≢ Failed → IsBrokenOff asked Output outlet old new sent → (outlet ≢ Failed → 0 < sent → result ≡ Writing (cut_by_memory sent)) → (outlet ≢ Failed → sent ≡ 0 → result ≡ fault) → Answered (Err result)
    going outlet zero not so some same = as_it_is (same not refl)
    going outlet (suc n) not so some same = elim so [
      | inl un ↦ absurd (omega (arith, un.1))
      | inr part ↦ subst (λ (f : LaunchFault). Answered (Err f)) (sym (some not (omega arith))) (part.0, (omega arith, part.1))
    ]

    waits : Waiting ≢ Failed
    waits q = cc

    opens : Open ≢ Failed
    opens q = cc

    is_shut : Closed ≢ Failed
    is_shut q = cc

    -- a run that broke off is answered by its fault, unless its writer failed or a part of it was written
    pub broken : (outlet : Outlet) (sent : ℕ) → IsBrokenOff asked Output outlet old new sent → (outlet ≡ Failed → result ≡ Writing (cut_by_writer sent)) → (outlet ≢ Failed → 0 < sent → result ≡ Writing (cut_by_memory sent)) → (outlet ≢ Failed → sent ≡ 0 → result ≡ fault)
        → Answered (Err result)
    broken Waiting sent so failed some same = going Waiting sent waits so some same
    broken Open sent so failed some same = going Open sent opens so some same
    broken Closed sent so failed some same = going Closed sent is_shut so some same
    broken Failed sent so failed some same = elim so [
      | inl un ↦ absurd (un.0 refl)
      | inr part ↦ subst (λ (f : LaunchFault). Answered (Err f)) (sym (failed refl)) (part.0, tt)
    ]

nothing_more : (old new : Option (List ℕ)) → Appends old new [] → Keeps old new
nothing_more None new is = tt
nothing_more (Some xs) None is = absurd is
nothing_more (Some xs) (Some ys) is = is ∙ append-nil xs

-- where the answer is not about an output nothing was written
module _ (asked : Asked) (Output : List ℕ → ExitStatus → Type 0) (old new : Option (List ℕ)) (result : LaunchFault) (other : is_writing result ≡ false) where
  quiet_so : (outlet : Outlet) (sent : ℕ) → outlet ≢ Failed → IsBrokenOff asked Output outlet old new sent → (outlet ≢ Failed → 0 < sent → result ≡ Writing (cut_by_memory sent)) → Keeps old new
  quiet_so outlet zero not so some = elim so [ inl un ↦ nothing_more old new un.2 | inr part ↦ nothing_more old new part.0.written ]
  quiet_so outlet (suc n) not so some = elim so [
    | inl un ↦ absurd (omega (arith, un.1))
    | inr part ↦ absurd (true≢false (sym (ap is_writing (some not (omega arith))) ∙ other))
  ]

  is_waiting : Waiting ≢ Failed
  is_waiting q = cc

  is_open : Open ≢ Failed
  is_open q = cc

  is_closed : Closed ≢ Failed
  is_closed q = cc

  pub quiet : (outlet : Outlet) (sent : ℕ) → IsBrokenOff asked Output outlet old new sent → (outlet ≡ Failed → result ≡ Writing (cut_by_writer sent)) → (outlet ≢ Failed → 0 < sent → result ≡ Writing (cut_by_memory sent)) → Keeps old new
  quiet Waiting sent so failed some = quiet_so Waiting sent is_waiting so some
  quiet Open sent so failed some = quiet_so Open sent is_open so some
  quiet Closed sent so failed some = quiet_so Closed sent is_closed so some
  quiet Failed sent so failed some = elim so [
    | inl un ↦ absurd (un.0 refl)
    | inr part ↦ absurd (true≢false (sym (ap is_writing (failed refl)) ∙ other))
  ]

-- what is answered of one output is answered of another
module _ (asked : Asked) (Output Other : List ℕ → ExitStatus → Type 0) (Fails Refuses : LaunchFault → Type 0) (gives : (text : List ℕ) (status : ExitStatus) → Output text status → Other text status) (so : (fault : LaunchFault) → Fails fault → Refuses fault) (old new : Option (List ℕ)) where
  refused_as : (o : Option CutOutput) (fault : LaunchFault) → IsRefusedBy asked Output Fails o fault old new → IsRefusedBy asked Other Refuses o fault old new
  refused_as None fault fails = so fault fails
  refused_as (Some cut) fault is =
      let part = is.0 in
      (record { text = part.text; status = part.status; output = gives part.text part.status part.output; short = part.short; written = part.written }, is.1)

  pub answered_as : (result : Result ExitStatus LaunchFault) → IsAnswered asked Output Fails old new result → IsAnswered asked Other Refuses old new result
  answered_as (Ok status) is = record { text = is.text; output = gives is.text status is.output; written = is.written }
  answered_as (Err fault) is = refused_as (cut_in fault) fault is
