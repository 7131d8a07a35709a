-- The lock joins the one of its key, or comes at its place.
use Rattle.std.proofs.Common.{◌≡◌, ◌∙◌, ℕ, List, arith, get_or, subst}
use Rattle.std.proofs.lemmas.Grind.{common_steps}
use Rattle.std.specs.List.{insert}
use Rattle.resource_locks.specs.Inside.Places.{IsHere, IsBefore}
use Rattle.resource_locks.proofs.Puts.{put_here, set_here, put_before}
use Rattle.resource_locks.proofs.lock_set.LockSet.put_copy.Goals as goal

pub returns-in-Ok-clause-ok : goal.returns-in-Ok-clause-ok
returns-in-Ok-clause-ok c =
    let at : c.index_mut.result.now ≡ get_or c.self.inside.locks.items c.in-Ok.place c.index_mut.result.now = grind (arith, common_steps) in
    let here = subst (λ (key : List ℕ). IsHere c.args.self.now key c.in-Ok.place) c.as_str.ensures c.in-Ok.ensures.here in
    put_here c.self.inside.locks.items c.args.self.now c.args.lock.now.key c.args.lock.now.mode _ c.index_mut.result.now _ c.self.view_is here at c.strengthen.ensures

pub invariant_of-self : goal.invariant_of-self
invariant_of-self c =
    let at : c.index_mut.result.now ≡ get_or c.self.inside.locks.items c.in-Ok.place c.index_mut.result.now = grind (arith, common_steps) in
    set_here _ _ _ c.self.invariant c.self.view_is _ (put_here _ _ _ c.args.lock.now.mode _ c.index_mut.result.now _ c.self.view_is c.in-Ok.ensures.here at c.strengthen.ensures)

pub returns-in_ok-insert-in-Err-clause-ok : goal.returns-in_ok-insert-in-Err-clause-ok
returns-in_ok-insert-in-Err-clause-ok c =
    let is : c.insert.new.self.items ≡ insert c.self.inside.locks.items c.in-Err.place c.args.lock.now = grind (arith, common_steps) in
    let before = subst (λ (key : List ℕ). IsBefore c.args.self.now key c.in-Err.place) c.as_str.ensures c.in-Err.ensures.before in
    is ∙ put_before c.self.inside.locks.items c.args.self.now c.args.lock.now c.in-Err.place c.self.view_is before

pub invariant_of-self-in_ok-insert-in-Err : goal.invariant_of-self-in_ok-insert-in-Err
invariant_of-self-in_ok-insert-in-Err c =
    let is : c.insert.new.self.items ≡ insert c.self.inside.locks.items c.in-Err.place c.args.lock.now = grind (arith, common_steps) in
    let before = subst (λ (key : List ℕ). IsBefore c.args.self.now key c.in-Err.place) c.as_str.ensures c.in-Err.ensures.before in
    set_here _ _ c.args.lock.now c.self.invariant c.self.view_is _ (is ∙ put_before c.self.inside.locks.items c.args.self.now c.args.lock.now c.in-Err.place c.self.view_is before)
