-- A moment is one of what was read, of the same plan, with as many seats dealt.
use Rattle.std.proofs.Common.{◌≡◌, ℕ, List, sym, subst}
use Rattle.plan_events.specs.declared.event.Event.{Event}
use Rattle.plan_events.specs.declared.outcome.Reply.{Reply}
use Rattle.table_rule.specs.declared.view.About.{About}
use Rattle.table_rule.specs.declared.view.View.{View}
use Rattle.table_rule.specs.Moments.{IsMoment, IsMomentAt}
use Rattle.table_rule.specs.Picture.{replies_of}
use Rattle.table_rule.specs.Plays.{dispatcher}

pub moment_alike : {B : Type 0} (answers : B → List Reply) (v w : View B) → w.about ≡ v.about → (dispatcher w).dealt ≡ (dispatcher v).dealt → (dispatcher w).read ≡ (dispatcher v).read → IsMomentAt answers v → IsMomentAt answers w
moment_alike {B} answers v w about dealt read is =
    subst (λ (a : About B). IsMoment (replies_of answers a) a (dispatcher w).dealt (dispatcher w).read) (sym about) (subst (λ (x : ℕ × List Event). IsMoment (replies_of answers v.about) v.about x.0 x.1) (λ i. (sym dealt i, sym read i)) is)
