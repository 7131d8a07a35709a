-- The next listener has what it was told, and room.
use Rattle.std.proofs.Common.{◌+◌, refl, arith}
use Rattle.std.proofs.lemmas.Grind.{common_steps}
use Rattle.listeners.proofs.Hearing.{ready_same, ready_more, all_kept, kept_len}
use Rattle.listeners.proofs.Stepping.{stepped_none, stepped_more, stepped_all, stepped_so_far, nothing_more}
use Rattle.listeners.proofs.audience.Audience.prepare.Goals as goal

pub returns-in_err-prepare-clause-got : goal.returns-in_err-prepare-clause-got
returns-in_err-prepare-clause-got g c =
    ready_same _ _ c.loop-index.index c.args.self.now.listeners.items c.loop-index.self.listeners.items c.index_mut.result.now c.prepare.new.self c.loop-index.invariant.ready c.index_mut.ensures.value c.prepare.ensures.got

pub loop-index-init : goal.loop-index-init
loop-index-init g c = record {
  ready = record { same = refl; ready = λ k d from to. absurd (omega (arith, from, to)) };
  grown = stepped_none _ c.args.self.now.listeners.items;
  heard = stepped_none _ c.args.self.now.listeners.items;
}

pub loop-index-preserved : goal.loop-index-preserved
loop-index-preserved g c =
    record {
      ready = ready_more _ _ c.loop-index.index c.args.self.now.listeners.items c.loop-index.self.listeners.items c.index_mut.result.now c.prepare.new.self c.loop-index.invariant.ready (grind (arith, common_steps)) c.index_mut.ensures.value c.prepare.ensures.got c.in_ok-prepare.ensures.room;
      grown = stepped_more _ c.args.self.now.listeners.items c.loop-index.index c.loop-index.self.listeners.items c.index_mut.result.now c.prepare.new.self c.loop-index.invariant.grown (grind (arith, common_steps)) c.index_mut.ensures.value c.prepare.ensures.grown;
      heard = stepped_more _ c.args.self.now.listeners.items c.loop-index.index c.loop-index.self.listeners.items c.index_mut.result.now c.prepare.new.self c.loop-index.invariant.heard (grind (arith, common_steps)) c.index_mut.ensures.value c.prepare.ensures.heard;
    }

pub returns-in_err-prepare-clause-len : goal.returns-in_err-prepare-clause-len
returns-in_err-prepare-clause-len g c = kept_len c.args.self.now.listeners.items _ (λ b. g.L.Listener.got b) (returns-in_err-prepare-clause-got g c)

pub returns-in_err-prepare-clause-all_got : goal.returns-in_err-prepare-clause-all_got
returns-in_err-prepare-clause-all_got g c heard = all_kept c.args.self.now.listeners.items _ (λ b. g.L.Listener.got b) heard (returns-in_err-prepare-clause-got g c)

pub returns-clause-len : goal.returns-clause-len
returns-clause-len g c = kept_len c.args.self.now.listeners.items c.loop-index.self.listeners.items (λ b. g.L.Listener.got b) c.loop-index.invariant.ready.same

pub returns-clause-all_got : goal.returns-clause-all_got
returns-clause-all_got g c heard = all_kept c.args.self.now.listeners.items c.loop-index.self.listeners.items (λ b. g.L.Listener.got b) heard c.loop-index.invariant.ready.same

pub returns-in_err-prepare-clause-grown : goal.returns-in_err-prepare-clause-grown
returns-in_err-prepare-clause-grown g c =
    stepped_so_far _ c.args.self.now.listeners.items (c.loop-index.index + 1) _ (λ l. omega arith)
    (stepped_more _ c.args.self.now.listeners.items c.loop-index.index c.loop-index.self.listeners.items c.index_mut.result.now c.prepare.new.self c.loop-index.invariant.grown (grind (arith, common_steps)) c.index_mut.ensures.value c.prepare.ensures.grown)

pub returns-in_err-prepare-clause-heard : goal.returns-in_err-prepare-clause-heard
returns-in_err-prepare-clause-heard g c =
    stepped_so_far _ c.args.self.now.listeners.items (c.loop-index.index + 1) _ (nothing_more (λ b. g.L.Listener.heard b))
    (stepped_more _ c.args.self.now.listeners.items c.loop-index.index c.loop-index.self.listeners.items c.index_mut.result.now c.prepare.new.self c.loop-index.invariant.heard (grind (arith, common_steps)) c.index_mut.ensures.value c.prepare.ensures.heard)

pub returns-clause-grown : goal.returns-clause-grown
returns-clause-grown g c = stepped_all _ c.args.self.now.listeners.items c.loop-index.index c.loop-index.self.listeners.items (grind (arith, common_steps)) c.loop-index.invariant.grown

pub returns-clause-heard : goal.returns-clause-heard
returns-clause-heard g c = stepped_all _ c.args.self.now.listeners.items c.loop-index.index c.loop-index.self.listeners.items (grind (arith, common_steps)) c.loop-index.invariant.heard
