-- Where a name is among others: its number, and its place after one more.
use Rattle.std.proofs.Common.{◌≡◌, ℕ, suc, ◌+◌, ◌<◌, ◌≤◌, Bool, true, false, not, cond, List, [], ◌∷◌, ◌++◌, length, Option, None, Some, refl, ap, sym, subst, ◌∙◌, true≢false, arith, String, Global, string_bytes}
use Rattle.std.specs.HashMap.{HashMap, UpdatesBy}
use Rattle.std.specs.List.{list_any}
use Rattle.std.specs.Option.{is_some, option_map, MatchOption}
use Rattle.std.specs.Prelude.{IfSome, IsNone, ◌||◌}
use Rattle.std.specs.Str.{bytes_eq}
use Rattle.std.specs.String.{string_eq}
use Rattle.std.proofs.lemmas.Bool.{false≢true}
use Rattle.std.proofs.lemmas.Map.Text.{hash_map_updates_text}
use Rattle.std.proofs.lemmas.Option.{none-some}
use Rattle.std.proofs.lemmas.Slice.Eq.{bytes_eq-Decides}
use Rattle.resource_locks.specs.NamePlaces.{place_in, HasPlaces}
use Rattle.resource_locks.specs.Plans.{number_of}

-- the place is the number of a name that is there
numbered : (names : List (List ℕ)) (name : List ℕ) → MatchOption (place_in names name) (length names ≤ number_of names name) (λ n. (n ≡ number_of names name) × (n < length names))
numbered [] name = omega arith
numbered (other ∷ more) name = by (bytes_eq name other) (place_in more name) (number_of more name) (length more) (numbered more name)
  where
    by : (b : Bool) (o : Option ℕ) (k l : ℕ) → MatchOption o (l ≤ k) (λ n. (n ≡ k) × (n < l))
        → MatchOption (cond b (Some 0) (option_map suc o)) (suc l ≤ cond (not b) (1 + k) 0) (λ n. (n ≡ cond (not b) (1 + k) 0) × (n < suc l))
    by true o k l h = (refl, omega arith)
    by false None k l h = omega (arith, h)
    by false (Some n) k l h = let same = h.0 in let inside = h.1 in (omega (arith, same), omega (arith, inside))

module _ (names : List (List ℕ)) (name : List ℕ) where
  told : (found : Option ℕ) → found ≡ place_in names name → MatchOption found (length names ≤ number_of names name) (λ n. (n ≡ number_of names name) × (n < length names))
  told found e = subst (λ o. MatchOption o (length names ≤ number_of names name) (λ n. (n ≡ number_of names name) × (n < length names))) (sym e) (numbered names name)

  pub number_found : (found : Option ℕ) → found ≡ place_in names name → IfSome found (λ n. n ≡ number_of names name)
  number_found (Some n) e = (told (Some n) e).0
  number_found None e = tt

  pub number_inside : (found : Option ℕ) → found ≡ place_in names name → IfSome found (λ n. n < length names)
  number_inside (Some n) e = (told (Some n) e).1
  number_inside None e = tt

  pub none_found : (found : Option ℕ) → found ≡ place_in names name → IsNone found → length names ≤ number_of names name
  none_found (Some n) e none = absurd (false≢true (sym none))
  none_found None e none = told None e

-- a name has a place just where it is there
pub is_there : (names : List (List ℕ)) (name : List ℕ) → is_some (place_in names name) ≡ list_any (bytes_eq name) names
is_there [] name = refl
is_there (other ∷ more) name = by (bytes_eq name other) (place_in more name) ∙ ap (λ (b : Bool). bytes_eq name other || b) (is_there more name)
  where
    by : (b : Bool) (o : Option ℕ) → is_some (cond b (Some 0) (option_map suc o)) ≡ (b || is_some o)
    by true o = refl
    by false None = refl
    by false (Some n) = refl

pub nowhere : (names : List (List ℕ)) (name : List ℕ) → list_any (bytes_eq name) names ≡ false → place_in names name ≡ None
nowhere names name e = by (place_in names name) (is_there names name ∙ e)
  where
    by : (o : Option ℕ) → is_some o ≡ false → o ≡ None
    by None e = refl
    by (Some n) e = absurd (true≢false e)

bytes_eq_flip : (a b : List ℕ) → bytes_eq a b ≡ bytes_eq b a
bytes_eq_flip a b = by (bytes_eq a b) (bytes_eq b a) refl refl
  where
    by : (s t : Bool) → bytes_eq a b ≡ s → bytes_eq b a ≡ t → s ≡ t
    by true true p q = refl
    by false false p q = refl
    by true false p q = absurd (true≢false (sym ((bytes_eq-Decides b a).1 (sym ((bytes_eq-Decides a b).0 p))) ∙ q))
    by false true p q = absurd (true≢false (sym ((bytes_eq-Decides a b).1 (sym ((bytes_eq-Decides b a).0 q))) ∙ p))

-- one more name, which is none of the others
pub placed : (names : List (List ℕ)) (name query : List ℕ) → place_in names name ≡ None → place_in (names ++ name ∷ []) query ≡ cond (bytes_eq name query) (Some (length names)) (place_in names query)
placed [] name query e = rw (bytes_eq_flip query name) refl
placed (other ∷ more) name query e = by (bytes_eq name other) (bytes_eq query other) (bytes_eq name query) refl refl refl e (placed more name query)
  where
    none_later : (o : Option ℕ) → option_map suc o ≡ None → o ≡ None
    none_later None e = refl
    none_later (Some m) e = absurd (none-some _ (sym e))

    later : (b : Bool) (n : ℕ) (o : Option ℕ) → option_map suc (cond b (Some n) o) ≡ cond b (Some (suc n)) (option_map suc o)
    later true n o = refl
    later false n o = refl

    by : (h q b : Bool) → bytes_eq name other ≡ h → bytes_eq query other ≡ q → bytes_eq name query ≡ b → cond h (Some 0) (option_map suc (place_in more name)) ≡ None
        → (place_in more name ≡ None → place_in (more ++ name ∷ []) query ≡ cond b (Some (length more)) (place_in more query))
        → cond q (Some 0) (option_map suc (place_in (more ++ name ∷ []) query)) ≡ cond b (Some (suc (length more))) (cond q (Some 0) (option_map suc (place_in more query)))
    by true q b s t u e next = absurd (none-some _ (sym e))
    by false true true s t u e next = absurd (true≢false (sym ((bytes_eq-Decides name other).1 ((bytes_eq-Decides name query).0 u ∙ (bytes_eq-Decides query other).0 t)) ∙ s))
    by false true false s t u e next = refl
    by false false b s t u e next = ap (option_map suc) (next (none_later (place_in more name) e)) ∙ later b (length more) (place_in more query)

module _ {S : Type 0} where
  -- the places with that of the last name
  pub grown : (names more : List (List ℕ)) (key name : List ℕ) (place : ℕ) (m n : HashMap (String Global) ℕ S) → more ≡ names ++ name ∷ [] → key ≡ name → place ≡ length names
      → place_in names name ≡ None → HasPlaces names m → UpdatesBy string_eq (λ k. bytes_eq key (string_bytes k)) m n (Some place) → HasPlaces more n
  grown names more key name place m n is same last new was updates query =
      hash_map_updates_text key m n (Some place) updates query ∙ ap (cond (bytes_eq key query) (Some place)) (was query)
      ∙ (λ i. cond (bytes_eq (same i) query) (Some (last i)) (place_in names query)) ∙ sym (placed names name query new) ∙ ap (λ l. place_in l query) (sym is)
