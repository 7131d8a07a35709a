-- Whether a byte stands in a text, and where the text is cut at it.
use Rattle.std.proofs.Common.{◌≡◌, ℕ, ◌+◌, ◌<◌, List, [], ◌∷◌, length, Bool, true, false, refl, arith}
use Rattle.std.proofs.lemmas.List.{drop_all}
use Rattle.std.specs.List.{position_or_len, list_any, after_first}

-- a byte that is passed by nowhere stands nowhere
pub not_there : (p : ℕ → Bool) (text : List ℕ) → position_or_len p text ≡ length text → list_any p text ≡ false
not_there p [] h = refl
not_there p (b ∷ bs) h = by (p b) refl (not_there p bs)
  where
    by : (t : Bool) → p b ≡ t → (position_or_len p bs ≡ length bs → list_any p bs ≡ false) → list_any p (b ∷ bs) ≡ false
    by true e more = let here : position_or_len p (b ∷ bs) ≡ 0 = rw e refl in absurd (omega (arith, h, here))
    by false e more = let next : position_or_len p (b ∷ bs) ≡ 1 + position_or_len p bs = rw e refl in rw e (more (omega (arith, h, next)))

-- and then nothing stands behind it
pub nothing_behind : (p : ℕ → Bool) (text : List ℕ) → position_or_len p text ≡ length text → after_first p text ≡ []
nothing_behind p text h = drop_all (position_or_len p text + 1) text (omega (arith, h))

-- one that is passed somewhere stands there
pub is_there : (p : ℕ → Bool) (text : List ℕ) → position_or_len p text < length text → list_any p text ≡ true
is_there p [] h = absurd (omega (arith, h))
is_there p (b ∷ bs) h = by (p b) refl (is_there p bs)
  where
    by : (t : Bool) → p b ≡ t → (position_or_len p bs < length bs → list_any p bs ≡ true) → list_any p (b ∷ bs) ≡ true
    by true e more = rw e refl
    by false e more = let next : position_or_len p (b ∷ bs) ≡ 1 + position_or_len p bs = rw e refl in rw e (more (omega (arith, h, next)))
