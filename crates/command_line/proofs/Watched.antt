-- What follows of one who watched a run, whatever was run.
use Rattle.std.proofs.Common.{◌≡◌, ℕ, true, false, List, [], Option, Some, None, refl, sym, ap, subst, append-nil}
use Rattle.resource_locks.specs.Plans.{PlanParts}
use Rattle.listeners.specs.Listeners.{Telling, tellings_of}
use Rattle.listeners.specs.Observing.{HasSeenMore}
use Rattle.live.proofs.Drawing.{begun, drawn_still, left}
use Rattle.live.specs.Terminals.{HasFollowed, IsDrawnBehind, IsDrawnOn, is_done}
use Rattle.live.proofs.SlowWriting.{untouched}
use Rattle.live.proofs.SlowWriting.{begun as lines_begun}
use Rattle.live.proofs.Written.{written_still}
use Rattle.live.specs.SlowNames.{AreNamedBehind, HasNamed, IsWrittenOn}
use Rattle.live.specs.SlowNaming.{Slow, slow_line}
use Rattle.live.specs.declared.progress.Progress.{Progress}
use Rattle.live.specs.declared.slow_lines.SlowLines.{SlowLines}
use Rattle.launcher.specs.Launches.{Sees}
use Rattle.report_files.specs.Besides.{BothSaw}
use Rattle.report_files.specs.declared.beside.Beside.{Beside}
use Rattle.worker_pool.specs.declared.report.Report.{Report}

-- who is as it was has seen nothing more
nothing_seen : {L : Type 0} (saw : PlanParts → L → L → List Telling → Type 0) (p : PlanParts) (a : L) → HasSeenMore saw p [] a a
nothing_seen saw p a first before is = subst (saw p first a) (sym (append-nil before)) is

-- of two who watched one run each is the same still, and each has seen it
module _ {V D : Type 0} (saw : PlanParts → V → V → List Telling → Type 0) (beside : PlanParts → D → D → List Telling → Type 0) (first now : Beside V D) where
  both_seen : (p : PlanParts) (ts : List Telling) → HasSeenMore (BothSaw saw beside) p ts first now → BothSaw saw beside p first now ts
  both_seen p ts more = more first [] (record { same = refl; same_other = refl; seen = nothing_seen saw p first.observer.now; other = nothing_seen beside p first.other.now })

  pub pair_same : {B : Type 0} (ran : Option (Report B)) → Sees (BothSaw saw beside) first now ran → now.observer.ghost_name ≡ first.observer.ghost_name
  pair_same (Some ran) more = (both_seen ran.plan (tellings_of ran.texts ran.events.items) more).same
  pair_same None is = ap (λ (w : Beside V D). w.observer.ghost_name) is

  pub pair_same_other : {B : Type 0} (ran : Option (Report B)) → Sees (BothSaw saw beside) first now ran → now.other.ghost_name ≡ first.other.ghost_name
  pair_same_other (Some ran) more = (both_seen ran.plan (tellings_of ran.texts ran.events.items) more).same_other
  pair_same_other None is = ap (λ (w : Beside V D). w.other.ghost_name) is

  pub pair_watched : {B : Type 0} (ran : Option (Report B)) → Sees (BothSaw saw beside) first now ran → Sees saw first.observer.now now.observer.now ran
  pair_watched (Some ran) more = (both_seen ran.plan (tellings_of ran.texts ran.events.items) more).seen
  pair_watched None is = ap (λ (w : Beside V D). w.observer.now) is

  pub pair_other : {B : Type 0} (ran : Option (Report B)) → Sees (BothSaw saw beside) first now ran → Sees beside first.other.now now.other.now ran
  pair_other (Some ran) more = (both_seen ran.plan (tellings_of ran.texts ran.events.items) more).other
  pair_other None is = ap (λ (w : Beside V D). w.other.now) is

module _ {E C V : Type 0} (contents : E → Option (List ℕ)) (first now : SlowLines E C V) where
  abbrev Named : Type 0
  Named = (said : List Slow) × IsWrittenOn contents first now said

  silent : now ≡ first → Named
  silent is = ([], subst (λ (l : SlowLines E C V). IsWrittenOn contents first l []) (sym is) (untouched contents first first refl refl))

  named : (p : PlanParts) (ts : List Telling) → HasSeenMore (HasNamed contents) p ts first now → Named
  named p ts more = let has = more first [] (lines_begun contents p first) in (has.said, has.written)

  -- one that names slow tests wrote lines of these
  pub named_by_run : {B : Type 0} (ran : Option (Report B)) → Sees (HasNamed contents) first now ran → (said : List Slow) × IsWrittenOn contents first now said
  named_by_run (Some ran) more = named ran.plan (tellings_of ran.texts ran.events.items) more
  named_by_run None same = silent same

  -- and so these stand behind what the writer held
  pub named_behind_it : (said : List Slow) × IsWrittenOn contents first now said → AreNamedBehind (contents first.errors.now) (contents now.errors.now)
  named_behind_it is = (is.0, written_still slow_line is.0 (contents first.errors.now) (contents now.errors.now) now.is_over true (λ never. cc) is.1.written)

module _ {E C : Type 0} (contents : E → Option (List ℕ)) (first now : Progress E C) where
  unseen : now ≡ first → IsDrawnOn contents first now
  unseen is = subst (λ (p : Progress E C). IsDrawnOn contents first p) (sym is) (left contents first first refl (λ done. done))

  followed : (p : PlanParts) (ts : List Telling) → HasSeenMore (HasFollowed contents) p ts first now → IsDrawnOn contents first now
  followed p ts more = (more first [] (begun contents p first)).drawn

  -- one that draws was drawn on
  pub drawn_by_run : {B : Type 0} (ran : Option (Report B)) → Sees (HasFollowed contents) first now ran → IsDrawnOn contents first now
  drawn_by_run (Some ran) more = followed ran.plan (tellings_of ran.texts ran.events.items) more
  drawn_by_run None same = unseen same

  -- and so there are drawings behind what it held
  pub drawn_behind_it : IsDrawnOn contents first now → IsDrawnBehind (contents first.terminal.now) (contents now.terminal.now)
  drawn_behind_it is = drawn_still (contents first.terminal.now) (contents now.terminal.now) (is_done now) true true_is_false is.drawn
    where
      true_is_false : true ≡ false → is_done now ≡ false
      true_is_false never = cc
