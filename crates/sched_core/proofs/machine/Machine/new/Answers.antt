-- The machine at the start is the opening state, and sound.
use Rattle.std.proofs.Common.{◌∙◌, ap, replicate, refl}
use Rattle.scheduling.specs.declared.lock_word.LockWord.TheVariants.{Readers}
use Rattle.sched_core.proofs.AtStart.{starts, sound_start}
use Rattle.sched_core.proofs.machine.Machine.new.Goals as goal

pub returns-clause-opening : goal.returns-clause-opening
returns-clause-opening c =
    let words = c.in_ok-statuses.ensures in
    let room = c.in_ok-published.ensures in
    let locks = c.in_ok-vec.ensures.items_if_clones_equal (λ y h. h) ∙ ap (λ n. replicate n (Readers 0)) c.key_count.ensures in
    starts c.args.plan.now words.plan.tree c.args.workers _ _ _ _ _ _ _ words.statuses words.counters words.results locks c.in_ok-seats_at_start.ensures room.published room.shown

pub returns-clause-sound : goal.returns-clause-sound
returns-clause-sound c answers =
    sound_start c.args.plan.now answers _ c.args.workers c.in_ok-statuses.ensures.plan c.requires.some c.requires.few refl refl (returns-clause-opening c)
    (record { published = c.in_ok-published.ensures.published_room; shown = c.in_ok-published.ensures.shown_room })
