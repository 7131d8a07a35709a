-- Of a run that is over there was printed a front of the whole output, and not all.
use Rattle.std.proofs.Common.{◌≡◌, ◌≢◌, ◌∙◌, ℕ, zero, suc, ◌<◌, ◌≤◌, ◌⊎◌, inl, inr, Bool, true, false, ◌||◌, ◌&&◌, ◌==◌, List, [], ◌∷◌, ◌++◌, length, take, Option, string_bytes, Some, slice_get, refl, sym, ap, ap₂, subst, arith, append_assoc, length-append}
use Rattle.std.specs.List.{flat_map}
use Rattle.std.specs.Io.KnownBytes.{Appends}
use Rattle.std.proofs.lemmas.List.{take-append-le}
use Rattle.std.proofs.lemmas.Option.{none-some, same_Some}
use Rattle.plan_events.specs.declared.event.Event.{Event}
use Rattle.plan_events.specs.declared.event.EventKind.{EventKind}
use Rattle.plan_events.specs.declared.event.EventKind.TheVariants.{Finished}
use Rattle.plan_events.specs.Texts.{TextParts}
use Rattle.resource_locks.specs.Plans.{PlanParts}
use Rattle.event_history.specs.Parts.{EndsInPlan}
use Rattle.listeners.specs.Listeners.{tellings_of}
use Rattle.listeners.specs.Endings.{ends_plan, is_finish}
use Rattle.live.specs.LiveFeeds.{lines_of, telling_line, output_of, has_end, IsSoFar, IsPrinted, IsFront, is_stopped, shown_times}
use Rattle.live.specs.declared.live_feed.LiveFeed.{LiveFeed}
use Rattle.live.specs.declared.live_feed.Outlet.{Outlet}
use Rattle.live.specs.declared.live_feed.Outlet.TheVariants.{Waiting, Open, Closed, Failed}
use Rattle.live.proofs.Lines.{lines_are}

or_true : (b c : Bool) → c ≡ true → (b || c) ≡ true
or_true true c is = refl
or_true false c is = is

-- where the plan's finish stands, one has ended it
has_finish : (texts : TextParts) (h : List Event) (i : ℕ) (e : Event) → slice_get h i ≡ Some e → ends_plan e ≡ true → has_end (tellings_of texts h) ≡ true
has_finish texts [] i e here is = absurd (none-some _ here)
has_finish texts (f ∷ h) zero e here is = ap (λ (b : Bool). b || has_end (tellings_of texts h)) (ap ends_plan (same_Some _ _ here) ∙ is)
has_finish texts (f ∷ h) (suc i) e here is = or_true (ends_plan f) _ (has_finish texts h i e here is)

ends_so : (e : Event) → e.kind ≡ Finished → e.node ≡ 0 → ends_plan e ≡ true
ends_so e kind node = ap₂ (λ (k : EventKind) (n : ℕ). is_finish k && (n == 0)) kind node

over : (texts : TextParts) (h : List Event) → EndsInPlan h → has_end (tellings_of texts h) ≡ true
over texts h is = has_finish texts h is.place is.stands.event is.stands.here (ends_so is.stands.event is.stands.kind is.stands.node)

-- nothing was printed, and the writer did not fail; or not all was
abbrev pub IsShort : Outlet → ℕ → List ℕ → Type 0
IsShort o sent text = ((o ≢ Failed) × (sent ≡ 0)) ⊎ (sent < length text)

waiting_whole : Waiting ≢ Failed
waiting_whole q = cc

closed_whole : Closed ≢ Failed
closed_whole q = cc

module _ (texts : TextParts) (h : List Event) (ends : EndsInPlan h) where
  short : (o : Outlet) (sent : ℕ) (pending output : List ℕ) → IsSoFar o sent pending output (tellings_of texts h) → IsShort o sent output
  short Waiting sent pending output so = inl (waiting_whole, so.0)
  short Open sent pending output so = absurd (different (sym so.1 ∙ over texts h ends))
    where
      different : false ≡ true → ⊥
      different q = cc
  short Closed sent pending output so = elim so [ inl none ↦ inl (closed_whole, none) | inr few ↦ inr few ]
  short Failed sent pending output so = inr so

  module _ {W S : Type 0} (contents : W → Option (List ℕ)) (p : PlanParts) (first now : LiveFeed W S) (is : IsPrinted contents p first now (tellings_of texts h)) (live : is_stopped first.outlet ≡ false) (rest text : List ℕ)
      (whole : text ≡ first.head.now ++ (lines_of first.form p texts (shown_times now) h ++ rest)) where
    abbrev output : List ℕ
    output = output_of first.form first.head.now p (shown_times now) (tellings_of texts h)

    begins : text ≡ output ++ rest
    begins =
        whole
        ∙ ap (λ (lines : List ℕ). first.head.now ++ (lines ++ rest)) (lines_are p (shown_times now) first.form texts h)
        ∙ sym (append_assoc first.head.now (flat_map (telling_line first.form p (shown_times now)) (tellings_of texts h)) rest)

    longer : length output ≤ length text
    longer = omega (arith, ap length begins, length-append output rest)

    so_short : IsShort now.outlet now.sent output
    so_short = short now.outlet now.sent (string_bytes now.pending.now) output (is.so_far live)

    low : now.sent ≤ length output
    low = elim so_short [ inl none ↦ omega (arith, none.1) | inr few ↦ omega (arith, few) ]

    not_all : now.outlet ≡ Failed → now.sent < length text
    not_all failed = (let few = subst (λ (o : Outlet). IsSoFar o now.sent (string_bytes now.pending.now) output (tellings_of texts h)) failed (is.so_far live) in omega (arith, few, longer))

    pub front : IsFront (contents first.writer.now) (contents now.writer.now) now.outlet now.sent text
    front = record {
      fits = omega (arith, low, longer);
      failed = not_all;
      printed = subst (Appends (contents first.writer.now) (contents now.writer.now)) (sym (ap (take now.sent) begins ∙ take-append-le now.sent output rest low)) (is.printed live);
    }

    pub front_short : IsShort now.outlet now.sent text
    front_short = elim so_short [ inl none ↦ inl none | inr few ↦ inr (omega (arith, few, longer)) ]
