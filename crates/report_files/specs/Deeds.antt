-- What is done with the files of reports, and how an account of it grows.
use Rattle.std.specs.Prelude.{◌≡◌, ℕ, List, ◌++◌, Option, None, Some, IfSome, []}
use Rattle.launch_options.specs.Given.{Text}

-- a file was opened for this name; what it held, as far as that is known, was kept, and stands under the name; or it could not be kept, or it
-- was given up: then nothing is left of it
pub data Deed : Type 0 where
  Opened : Text → Deed
  Kept : Text → Option (List ℕ) → Deed
  NotKept : Text → Deed
  GivenUp : Text → Deed

-- this was done behind what was done before; of one who keeps no account nothing is known
abbrev pub Does : Option (List Deed) → Option (List Deed) → List Deed → Type 0
Does None after deeds = Unit {0}
Does (Some before) None deeds = ⊥
Does (Some before) (Some after) deeds = after ≡ before ++ deeds

-- a file has nothing in it, as far as that is known
abbrev pub IsEmpty : Option (List ℕ) → Type 0
IsEmpty known = IfSome known (λ bytes. bytes ≡ [])
