-- What a lawful event says of its parts.
use Rattle.std.proofs.Common.{◌≡◌, ◌≤◌, Bool, true, ◌&&◌, ◌||◌, ◌==◌, not, leb, subst}
use Rattle.std.proofs.lemmas.Bool.{and_parts, eq-eqb, leb-true}
use Rattle.plan_events.specs.declared.event.Event.{Event}
use Rattle.plan_events.specs.Words.{fits_status, plan_may, is_lawful}

lawful_parts : (e : Event) → is_lawful e ≡ true → ((fits_status e.kind e.status ≡ true) × ((leb 1 e.worker && leb e.worker 64) ≡ true)) × ((not (e.node == 0) || plan_may e.kind e.status) ≡ true)
lawful_parts e q =
    let four = and_parts (fits_status e.kind e.status && (leb 1 e.worker && leb e.worker 64) && leb e.node 16383) (not (e.node == 0) || plan_may e.kind e.status) q in
    let three = and_parts (fits_status e.kind e.status && (leb 1 e.worker && leb e.worker 64)) (leb e.node 16383) four.0 in
    (and_parts (fits_status e.kind e.status) (leb 1 e.worker && leb e.worker 64) three.0, four.1)

-- a status stands exactly where the node is finished
pub lawful_fits : (e : Event) → is_lawful e ≡ true → fits_status e.kind e.status ≡ true
lawful_fits e q = (lawful_parts e q).0.0

-- workers are counted from 1
pub lawful_worker : (e : Event) → is_lawful e ≡ true → 1 ≤ e.worker
lawful_worker e q = leb-true 1 e.worker (and_parts (leb 1 e.worker) (leb e.worker 64) (lawful_parts e q).0.1).0

-- what stands for node 0 is its start, or a successful finish
pub plan_event : (e : Event) → is_lawful e ≡ true → e.node ≡ 0 → plan_may e.kind e.status ≡ true
plan_event e q z = subst (λ (x : Bool). (not x || plan_may e.kind e.status) ≡ true) (eq-eqb e.node 0 z) (lawful_parts e q).1
