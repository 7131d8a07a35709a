-- Tests that are added by a list of functions with their names.
use Rattle.std.specs.Prelude.{◌≡◌, ℕ, true, false, ◌⊎◌, List, [], ◌∷◌}
use Rattle.std.specs.List.{FoldsTo}
use Rattle.test_tree.specs.declared.cause.BuildCause.{BuildCause}
use Rattle.test_tree.specs.declared.cause.BuildCause.TheVariants as causes
use Rattle.test_tree.specs.declared.named_test.NamedTest.{NamedTest}
use Rattle.test_tree.specs.declared.sort.Sort.TheVariants.{Test}
use Rattle.test_tree.specs.Growing.{Built, IsAddedWith, IsBodyRefused}
use Rattle.test_tree.specs.Marks.{is_unmarked}

module _ {P A : Type 0} where
  -- steps over the items before one of these took p to q, and that one is refused there
  abbrev pub StopsAt : (P → A → P → Type 0) → (P → A → Type 0) → P → List A → P → Type 0
  StopsAt R IsRefused p [] q = ⊥
  StopsAt R IsRefused p (x ∷ xs) q = ((q ≡ p) × IsRefused p x) ⊎ ((next : P) × R p x next × StopsAt R IsRefused next xs q)

module _ {X : Type 0} {f : _} where
  -- the name of a test of a list
  abbrev pub name_of : NamedTest X f → List ℕ
  name_of test = test.name.now

  -- its function
  abbrev pub function_of : NamedTest X f → X
  function_of test = test.run

module _ {B X : Type 0} {f : _} (May : X → B → Type 0) (a : ℕ) where
  -- a test of this name was added below node a, with a body that may do what its function may
  abbrev pub IsTestAdded : Built B → NamedTest X f → Built B → Type 0
  IsTestAdded before test after = IsAddedWith (May (function_of test)) before after a Test (name_of test)

  -- these were added, the one after the other
  abbrev pub AreTestsAdded : Built B → List (NamedTest X f) → Built B → Type 0
  AreTestsAdded old tests new = FoldsTo IsTestAdded old tests new

  -- those before one of these were added, and that one is refused
  abbrev pub IsTestRefused : BuildCause → Built B → List (NamedTest X f) → Built B → Type 0
  IsTestRefused cause old tests new = StopsAt IsTestAdded (λ before test. IsBodyRefused before a Test (name_of test) cause) old tests new

  -- why not all of these were added: something was declared before them, and none was; or one of them is refused
  abbrev pub AreTestsRefused : BuildCause → Built B → List (NamedTest X f) → Built B → Type 0
  AreTestsRefused cause old tests new =
      ((cause ≡ causes.Marked) × (is_unmarked old.marks ≡ false) × (new ≡ old)) ⊎ ((is_unmarked old.marks ≡ true) × IsTestRefused cause old tests new)
