-- How far two texts went out, one behind the other, and what a text holds that was written in several calls.
use Rattle.std.proofs.Common.{◌≡◌, ◌∙◌, ◌+◌, ◌++◌, ℕ, Bool, true, false, List, [], ◌∷◌, length, take, Option, arith, sym, ap, subst, append-nil, append_assoc}
use Rattle.std.proofs.Math.Seq.{take-append-add}
use Rattle.std.proofs.lemmas.List.{length-append, take-append-le}
use Rattle.std.specs.Fmt.{WritesInCalls}
use Rattle.std.specs.List.{FoldsTo, concat}
use Rattle.std.specs.Io.KnownBytes.{Appends}
use Rattle.std.proofs.KnownBytes.{Appends-trans}
use Rattle.command_line.specs.Runs.{WentOut}

-- all of the one, and what went out of the other
pub behind_all : (all : Bool) (a b c : Option (List ℕ)) (front behind : List ℕ) → Appends a b front → WentOut all b c behind → WentOut all a c (front ++ behind)
behind_all true a b c front behind first then = Appends-trans a b c front behind first then
behind_all false a b c front behind first then = (
  length front + then.0,
  omega (arith, length-append front behind, then.1),
  subst (Appends a c) (sym (take-append-add front behind then.0)) (Appends-trans a b c front (take then.0 behind) first then.2),
)

-- a part of the one, and nothing of the other
pub cut_short : (a b : Option (List ℕ)) (front behind : List ℕ) → WentOut false a b front → WentOut false a b (front ++ behind)
cut_short a b front behind part = (
  part.0,
  omega (arith, length-append front behind, part.1),
  subst (Appends a b) (sym (take-append-le part.0 front behind (omega (arith, part.1)))) part.2,
)

module _ {T : Type 0} (bytes : T → List ℕ) where
  in_calls : (w : T) (parts : List (List ℕ)) (v : T) → FoldsTo (λ s xs t. bytes t ≡ bytes s ++ xs) w parts v → bytes v ≡ bytes w ++ concat parts
  in_calls w [] v same = sym (ap bytes same) ∙ sym (append-nil (bytes w))
  in_calls w (x ∷ xs) v p = in_calls p.0 xs v p.2 ∙ ap (λ (l : List ℕ). l ++ concat xs) p.1 ∙ append_assoc (bytes w) x (concat xs)

  -- what was written stands behind what was there
  pub written : (w v : T) (text : List ℕ) → WritesInCalls (λ s xs t. bytes t ≡ bytes s ++ xs) w text v → bytes v ≡ bytes w ++ text
  written w v text p = in_calls w p.parts v p.calls ∙ ap (λ (l : List ℕ). bytes w ++ l) p.whole
