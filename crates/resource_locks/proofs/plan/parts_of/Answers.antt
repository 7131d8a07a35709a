-- Each key that is held has a number.
use Rattle.std.proofs.Common.{◌≡◌, ◌<◌, ◌∙◌, sym, ap, subst, IfOk, Result, Ok, List, ℕ, [], length, map, get_or}
use Rattle.descriptor.specs.declared.lock.Lock.{Lock}
use Rattle.resource_locks.specs.Wants.{HasLock}
use Rattle.resource_locks.specs.Declarations.{declared_of}
use Rattle.resource_locks.specs.Keys.{keys_of}
use Rattle.resource_locks.specs.Plans.{number_of, numbers_of}
use Rattle.resource_locks.proofs.Hoists.{plan_numbered}
use Rattle.resource_locks.proofs.plan.parts_of.Goals as goal

ok_is : {A E : Type 0} (r : Result A E) (x : A) (P : A → Type 0) → r ≡ Ok x → IfOk r P → P x
ok_is {A} {E} r x P is holds = subst (λ (q : Result A E). IfOk q P) is holds

pub all_numbers-numbers-requires : goal.all_numbers-numbers-requires
all_numbers-numbers-requires c = λ n key mode h.
    let keys = c.in_ok-all.ensures.keys in
    let sets = c.deref.ensures.value ∙ c.in-Ok.ensures.held in
    subst (λ (ks : List (List ℕ)). number_of ks key < length ks) (sym keys) (
    plan_numbered c.args.tree.now c.in_ok-all.ensures.tree c.args.given.items c.requires n key mode (subst (λ (v : List (List Lock)). HasLock (get_or v n []) key mode) sets h)
    )

pub returns-clause-numbers : goal.returns-clause-numbers
returns-clause-numbers c =
    let keys = c.in_ok-all.ensures.keys in
    let sets = c.deref.ensures.value ∙ c.in-Ok.ensures.held in
    let made = ok_is _ _ (λ pair. c.all_numbers-numbers.result ≡ Ok pair.0) c.in_ok-modes.ensures.second c.both.ensures.first in
    let lists = ok_is _ _ _ made c.all_numbers-numbers.ensures in
    lists ∙ ap (λ (ks : List (List ℕ)). map (numbers_of ks) c.deref.result.now) keys ∙ ap (map (numbers_of (keys_of (declared_of c.args.tree.now)))) sets
