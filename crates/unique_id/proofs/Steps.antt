-- What the parts of a reading say where the whole succeeds.
use Rattle.std.proofs.Common.{◌≡◌, ◌⊎◌, inl, inr, Bool, true, false, cond, Option, Some, None, Result, Ok, Err, refl, ap, ◌∙◌}
use Rattle.std.specs.Option.{ok_or}
use Rattle.unique_id.specs.declared.fault.UidFault.{UidFault}
use Rattle.unique_id.specs.Answers.{◌>>=◌}

-- which way a test went
pub went : {A : Type 0} (t : Bool) (x y z : A) → cond t x y ≡ z → ((t ≡ true) × (x ≡ z)) ⊎ ((t ≡ false) × (y ≡ z))
went true x y z h = inl (refl, h)
went false x y z h = inr (refl, h)

no_err : {A : Type 0} (e : UidFault) (x : A) → ◌≡◌ {A = Result A UidFault} (Err e) (Ok x) → ⊥
no_err e x h = cc

pub err_ok : {A B : Type 0} (e : UidFault) (x : A) → ◌≡◌ {A = Result A UidFault} (Err e) (Ok x) → B
err_ok e x h = absurd (no_err e x h)

pub same_ok : {A : Type 0} (x y : A) → ◌≡◌ {A = Result A UidFault} (Ok x) (Ok y) → x ≡ y
same_ok x y h = cc

-- both steps succeeded
pub both : {A B : Type 0} (r : Result A UidFault) (f : A → Result B UidFault) (y : B) → (r >>= f) ≡ Ok y → (x : A) × (r ≡ Ok x) × (f x ≡ Ok y)
both (Ok x) f y h = (x, refl, h)
both (Err e) f y h = err_ok e y h

pub some_ok : {A : Type 0} (o : Option A) (e : UidFault) (x : A) → ok_or o e ≡ Ok x → o ≡ Some x
some_ok None e x h = err_ok e x h
some_ok (Some y) e x h = ap Some (same_ok y x h)

-- three steps, whose last and second answers are the whole's
pub three : {A B C : Type 0} (r : Result A UidFault) (s : Result B UidFault) (t : A → Result C UidFault) (all : C × B) → (r >>= λ a. s >>= λ b. t a >>= λ c. Ok (c, b)) ≡ Ok all
    → (a : A) × (r ≡ Ok a) × (s ≡ Ok all.1) × (t a ≡ Ok all.0)
three {A} {B} {C} (Ok a) (Ok b) t all h =
    let last = both {B = C × B} (t a) (λ c. Ok (c, b)) all h in
    let same : ◌≡◌ {A = C × B} (last.0, b) all = same_ok {A = C × B} (last.0, b) all last.2 in
    (a, refl, ap (λ (p : C × B). Ok p.1) same, last.1 ∙ ap (λ (p : C × B). Ok p.0) same)
three {A} {B} {C} (Ok a) (Err e) t all h = err_ok {A = C × B} e all h
three {A} {B} {C} (Err e) s t all h = err_ok {A = C × B} e all h

pub same_err : {A : Type 0} (e f : UidFault) → ◌≡◌ {A = Result A UidFault} (Err e) (Err f) → e ≡ f
same_err e f h = cc
