-- Of listeners that were prepared, what they got is what an audience has seen; in a run that was not begun it is as it was.
use Rattle.std.proofs.Common.{◌≡◌, ◌∙◌, ◌≤◌, [], length, sym, ap}
use Rattle.std.specs.List.{All}
use Rattle.resource_locks.specs.Plans.{PlanParts, most_events}
use Rattle.table_rule.specs.Picture.{about_of, replies_of}
use Rattle.worker_pool.specs.Hearings.{HaveHeardNothing}
use Rattle.thread_pool.proofs.Carried.{carried}
use Rattle.worker_pool.proofs.ToldAll.{either_way, got_whole, heard_whole, many_whole, under_both, under_refusal}
use Rattle.worker_pool.proofs.report.run_told.Goals as goal

pub returns-in-Err-clause-untold : goal.returns-in-Err-clause-untold
returns-in-Err-clause-untold g c = c.prepare.ensures.all_got [] c.requires.fresh

pub returns-in-Ok-clause-listeners : goal.returns-in-Ok-clause-listeners
returns-in-Ok-clause-listeners g c =
    let ready = c.prepare.new.self.listeners.items in
    let next = c.run_at.new.observer.listeners.items in
    let key = about_of c.args.table.table.shared.key in
    let wide = carried (sym (c.plan.ensures ∙ c.args.table.fitting.plan)) (λ (p : PlanParts). All (λ l. most_events p ≤ g.L.Listener.room l) ready) c.in-Ok.ensures.room in
    either_way c.run_at.result (length next ≡ length ready)
    (under_both c.run_at.result _ _ (λ _. length next ≡ length ready)
    (λ report is seen. many_whole g.L.Listener.got g.L.Listener.room g.L.Listener.heard key.plan (replies_of g.B.Job.answers key) key.workers report.texts report.events.items is.right.legal ready next wide (seen c.prepare.new.self))
    c.run_at.ensures.report c.run_at.ensures.seen)
    (under_refusal c.run_at.result _ (λ _. length next ≡ length ready) (λ _ same. ap (λ a. length a.listeners.items) same) c.run_at.ensures.unseen)
    ∙ c.prepare.ensures.len

pub returns-in-Ok-clause-told : goal.returns-in-Ok-clause-told
returns-in-Ok-clause-told g c =
    let ready = c.prepare.new.self.listeners.items in
    let next = c.run_at.new.observer.listeners.items in
    let key = about_of c.args.table.table.shared.key in
    let wide = carried (sym (c.plan.ensures ∙ c.args.table.fitting.plan)) (λ (p : PlanParts). All (λ l. most_events p ≤ g.L.Listener.room l) ready) c.in-Ok.ensures.room in
    under_both c.run_at.result _ _ _
    (λ report is seen. got_whole g.L.Listener.got g.L.Listener.room g.L.Listener.heard key.plan (replies_of g.B.Job.answers key) key.workers report.texts report.events.items is.right.legal ready next wide (seen c.prepare.new.self)
    (c.prepare.ensures.all_got [] c.requires.fresh))
    c.run_at.ensures.report c.run_at.ensures.seen

pub returns-in-Ok-clause-heard : goal.returns-in-Ok-clause-heard
returns-in-Ok-clause-heard g c =
    let ready = c.prepare.new.self.listeners.items in
    let next = c.run_at.new.observer.listeners.items in
    let key = about_of c.args.table.table.shared.key in
    let wide = carried (sym (c.plan.ensures ∙ c.args.table.fitting.plan)) (λ (p : PlanParts). All (λ l. most_events p ≤ g.L.Listener.room l) ready) c.in-Ok.ensures.room in
    under_both c.run_at.result _ _ _
    (λ report is seen. heard_whole g.L.Listener.got g.L.Listener.room g.L.Listener.heard key.plan (replies_of g.B.Job.answers key) key.workers report.texts report.events.items is.right.legal ready next wide (seen c.prepare.new.self)
    c.args.audience.now.listeners.items c.prepare.ensures.len c.prepare.ensures.heard)
    c.run_at.ensures.report c.run_at.ensures.seen

pub returns-in-Ok-clause-untold : goal.returns-in-Ok-clause-untold
returns-in-Ok-clause-untold g c =
    under_refusal c.run_at.result _ _ (λ _ same. carried same (λ a. All (λ l. g.L.Listener.got l ≡ []) a.listeners.items) (c.prepare.ensures.all_got [] c.requires.fresh)) c.run_at.ensures.unseen

pub returns-in-Ok-clause-unheard : goal.returns-in-Ok-clause-unheard
returns-in-Ok-clause-unheard g c =
    under_refusal c.run_at.result _ _ (λ _ same. carried same (λ a. HaveHeardNothing g.L.Listener.heard c.args.audience.now.listeners.items a.listeners.items) c.prepare.ensures.heard) c.run_at.ensures.unseen
