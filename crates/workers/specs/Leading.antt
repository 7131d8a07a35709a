-- What becomes of a place: it stays the one that came, asked for one job after the other.
use Rattle.std.specs.Prelude.{◌≡◌, ℕ, List, Option, Some, length, refl, slice_get}

module _ {K : Type 0} (led : K → K → Type 0) where
  -- what has led to the old place has led to the new one too
  abbrev pub GoesOnFrom : (old new : K) → Type 0
  GoesOnFrom old new = (first : K) → led first old → led first new

  -- the place that came as the one of this number has led to this one
  pub record IsLedFrom (came : List (Option K)) (number : ℕ) (now : K) : Type 0 where
    pub first : K
    pub stood : slice_get came number ≡ Some (Some first)
    pub led_to : led first now

  -- each place that stands here is the one that came as the one of its number
  pub record AreLedFrom (came now : List (Option K)) : Type 0 where
    pub many : length now ≡ length came
    pub each : (number : ℕ) (place : K) → slice_get now number ≡ Some (Some place) → ∥ IsLedFrom came number place ∥₁

  -- those that were asked for nothing
  pub are_as_came : ((place : K) → led place place) → (came : List (Option K)) → AreLedFrom came came
  are_as_came unasked came = record { many = refl; each = λ number place stands. ∣ record { first = place; stood = stands; led_to = unasked place } ∣₁ }
