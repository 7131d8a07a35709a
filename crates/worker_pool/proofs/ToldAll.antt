-- What a run whose observer is an audience says of its listeners.
use Rattle.std.proofs.Common.{◌≡◌, ◌∙◌, ◌≤◌, ℕ, List, [], ◌∷◌, ◌++◌, length, get_or, Result, Ok, Err, IfOk, IfErr, refl, ap, subst, arith}
use Rattle.std.specs.List.{All}
use Rattle.std.proofs.lemmas.List.{append-nil, length-map}
use Rattle.plan_events.specs.declared.event.Event.{Event}
use Rattle.plan_events.specs.declared.outcome.Reply.{Reply}
use Rattle.plan_events.specs.Texts.{TextParts}
use Rattle.resource_locks.specs.Plans.{PlanParts, most_events}
use Rattle.event_history.specs.History.{IsLegal}
use Rattle.event_history.proofs.EventBound.{legal_few}
use Rattle.listeners.specs.Listeners.{Telling, telling, tellings_of, EachPlace, HasHeardMore}
use Rattle.listeners.specs.Observing.{HaveGot, HaveSeen, events_of}
use Rattle.listeners.proofs.Observing.{got_just, seen_nothing}
use Rattle.worker_pool.specs.Hearings.{HaveHeard}

-- what follows from both that are said of a result; what is said of each result; and what follows of a refusal
pub under_both : {X E : Type 0} (r : Result X E) (P Q R : X → Type 0) → ((x : X) → P x → Q x → R x) → IfOk r P → IfOk r Q → IfOk r R
under_both (Ok x) P Q R both p q = both x p q
under_both (Err e) P Q R both p q = tt

pub either_way : {X E : Type 0} (r : Result X E) (Z : Type 0) → IfOk r (λ _. Z) → IfErr r (λ _. Z) → Z
either_way (Ok x) Z z other = z
either_way (Err e) Z other z = z

pub under_refusal : {X E : Type 0} (r : Result X E) (P Q : E → Type 0) → ((e : E) → P e → Q e) → IfErr r P → IfErr r Q
under_refusal (Ok x) P Q then p = tt
under_refusal (Err e) P Q then p = then e p

-- the events of what is told of events are these
pub told_events : (texts : TextParts) (events : List Event) → events_of (tellings_of texts events) ≡ events
told_events texts [] = refl
told_events texts (e ∷ events) = ap (λ (es : List Event). e ∷ es) (told_events texts events)

module _ {L : Type 0} (got : L → List Event) (room : L → ℕ) (heard : L → List Telling → Type 0) (p : PlanParts) (replies : ℕ → List Reply) (workers : ℕ) (texts : TextParts) (events : List Event)
    (legal : IsLegal p replies workers events) (ready next : List L) (wide : All (λ l. most_events p ≤ room l) ready)
    (seen : (before : List Telling) → HaveSeen got room heard ready ready before → HaveSeen got room heard ready next (before ++ tellings_of texts events)) where
  -- each was told all, since it had room
  whole : HaveGot got room heard ready next (tellings_of texts events)
  whole = seen [] (seen_nothing got room heard ready)
      (λ k d lt. let few = legal_few p replies workers events legal in let fits = wide k d lt in omega (arith, few, fits, length-map events (telling texts)))

  pub many_whole : length next ≡ length ready
  many_whole = whole.many

  pub got_whole : All (λ l. got l ≡ []) ready → All (λ l. got l ≡ events) next
  got_whole fresh k d lt = got_just got room heard ready next (tellings_of texts events) whole fresh k d lt ∙ told_events texts events

  pub heard_whole : (first : List L) → length ready ≡ length first → EachPlace (λ a b. HasHeardMore heard [] a b) first ready → HaveHeard heard texts events first next
  heard_whole first many nothing k d lt before h =
      whole.listened k d (rw (many) lt) before (subst (heard (get_or ready k d)) (append-nil before) (nothing k d lt before h))
