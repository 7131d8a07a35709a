-- What contracts see of a body.
use Rattle.std.specs.Prelude.{◌≡◌, ℕ, ◌+◌, min, Bool, true, false, Some, Result, Ok}
use Rattle.plan_events.specs.declared.outcome.Outcome.{Outcome}
use Rattle.test_bodies.specs.Stops.{IsTold}
use Rattle.test_bodies.specs.declared.body.Body.{Body}
use Rattle.test_bodies.specs.declared.code.Code.{Code}
use Rattle.test_bodies.specs.declared.code.Code.TheVariants.{Spent, Plain, Boxed}

module _ {X Y : Type 0} {Z : Y → Type 0} {f : _} {g : _} where
  -- whether nothing is left to be run
  abbrev pub is_over : Code X Y Z f g → Bool
  is_over Spent = true
  is_over (Plain plain) = false
  is_over (Boxed boxed) = false

  -- whether the body was run
  abbrev pub is_spent : Body X Y Z f g → Bool
  is_spent body = is_over body.code

  -- how many dynamic tests it still registers
  abbrev pub tests_left : Body X Y Z f g → ℕ
  tests_left body = body.tests

  -- the body, which registers one dynamic test more, or as many as before if these are 65,535
  abbrev pub with_test : Body X Y Z f g → Body X Y Z f g
  with_test body = record { alloc = body.alloc; code = body.code; tests = min (body.tests + 1) 65535; answered = body.answered }

  -- it has kept what is told of this answer of its code
  abbrev pub HasKept : Body X Y Z f g → Result (Unit {0}) Outcome → Type 0
  HasKept body answer = (kept : Outcome) × (body.answered ≡ Some kept) × IsTold answer kept

  -- what its code may answer
  abbrev pub may_answer : Body X Y Z f g → Result (Unit {0}) Outcome → Type 0
  may_answer body answer = go body.code
    where
      go : Code X Y Z f g → Type 0
      go Spent = answer ≡ Ok tt
      go (Plain plain) = f.post plain.run (body.alloc, tt) answer
      go (Boxed boxed) = g.post (boxed.run.vtable, boxed.run.value) (body.alloc, tt) answer
