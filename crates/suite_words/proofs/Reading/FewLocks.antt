-- The first locks of a line do for all, where they are too many.
use Rattle.std.proofs.Common.{◌≡◌, ℕ, zero, suc, ◌<◌, ◌≤◌, List, [], ◌∷◌, length, take, drop, refl, ap, sym, subst, ◌∙◌, arith}
use Rattle.std.specs.declared.cmp.Ordering.{Ordering}
use Rattle.std.specs.declared.cmp.Ordering.TheVariants.{Less, Equal, Greater}
use Rattle.descriptor.specs.declared.lock.Lock.{Lock}
use Rattle.resource_locks.specs.LockSets.{key_cmp, put_by, put, join, of}
use Rattle.suite_words.specs.Reading.Locks.{StandFor}

-- a set never gets smaller
longer_by : (o : Ordering) (l x : Lock) (s : List Lock) → length s ≤ length (put l s) → length (x ∷ s) ≤ length (put_by o l x s (put l s))
longer_by Less l x s h = omega arith
longer_by Equal l x s h = omega arith
longer_by Greater l x s h = omega (arith, h)

longer : (l : Lock) (s : List Lock) → length s ≤ length (put l s)
longer l [] = omega arith
longer l (x ∷ s) = longer_by (key_cmp l.key x.key) l x s (longer l s)

all_longer : (s more : List Lock) → length s ≤ length (join s more)
all_longer s [] = omega arith
all_longer s (l ∷ more) = let one = longer l s in let all = all_longer (put l s) more in omega (arith, one, all)

join_rest : (s locks : List Lock) (n : ℕ) → join (join s (take n locks)) (drop n locks) ≡ join s locks
join_rest s locks zero = refl
join_rest s [] (suc n) = refl
join_rest s (l ∷ locks) (suc n) = join_rest (put l s) locks n

-- the set of the first locks, where it is over the limit
pub stops_early : (locks few : List Lock) (n : ℕ) → few ≡ join [] (take n locks) → 16 < length few → StandFor few (of locks)
stops_early locks few n is many =
    let whole : join few (drop n locks) ≡ of locks = ap (λ (s : List Lock). join s (drop n locks)) is ∙ join_rest [] locks n in
    let more : length few ≤ length (of locks) = subst (λ (s : List Lock). length few ≤ length s) whole (all_longer few (drop n locks)) in
    record { same = λ h. absurd (omega (arith, many, more, h)); more = λ h. many }

pub stand_for : (few all : List Lock) → few ≡ all → StandFor few all
stand_for few all is = record { same = λ h. is; more = λ h. subst (λ (s : List Lock). 16 < length s) (sym is) h }
