-- Where the pair of a key is in a table, after a value at a place, and after one more pair.
use Rattle.std.proofs.Common.{◌≡◌, ℕ, zero, suc, Bool, true, false, cond, List, [], ◌∷◌, ◌++◌, length, map, slice_get, slice_set, Option, None, Some, refl, ap, sym, ◌∙◌, String, Global, string_bytes, arith}
use Rattle.std.specs.HashMap.{HashMap, UpdatesBy}
use Rattle.std.proofs.lemmas.List.{length-map, map_push}
use Rattle.resource_locks.proofs.NamePlaces as names
use Rattle.std.specs.Option.{option_map}
use Rattle.std.specs.Str.{bytes_eq}
use Rattle.std.specs.String.{string_eq}
use Rattle.std.proofs.Math.Nat.{suc_inj}
use Rattle.std.proofs.lemmas.Option.{none-some, same_Some}
use Rattle.config_params.specs.Pairs.{Pair}
use Rattle.config_params.specs.Places.{bytes_of, place_in, HasPlaces, with_value_at}
use Rattle.config_params.specs.Tables.{with_pair, value_in}

one_later : (o : Option ℕ) (n : ℕ) → option_map suc o ≡ Some (suc n) → o ≡ Some n
one_later None n e = absurd (none-some _ e)
one_later (Some m) n e = ap Some (suc_inj (same_Some (suc m) (suc n) e))

none_later : (o : Option ℕ) → option_map suc o ≡ None → o ≡ None
none_later None e = refl
none_later (Some m) e = absurd (none-some _ (sym e))

never : (n : ℕ) → 0 ≡ suc n → ⊥
never n e = omega (arith, e)

not_first : (o : Option ℕ) → option_map suc o ≡ Some 0 → ⊥
not_first None e = none-some _ e
not_first (Some m) e = never m (sym (same_Some (suc m) 0 e))

-- what is so of the first pair, if that has the key, and else of the others
at_place : (b : Bool) (o : Option ℕ) (P : ℕ → Type 0) → (b ≡ true → P 0) → ((n : ℕ) → b ≡ false → o ≡ Some n → P (suc n)) → (place : ℕ) → cond b (Some 0) (option_map suc o) ≡ Some place → P place
at_place true o P first more zero e = first refl
at_place true o P first more (suc n) e = absurd (never n (same_Some 0 (suc n) e))
at_place false o P first more zero e = absurd (not_first o e)
at_place false o P first more (suc n) e = more n refl (one_later o n e)

nowhere : (b : Bool) (o : Option ℕ) (P : Type 0) → (b ≡ false → o ≡ None → P) → cond b (Some 0) (option_map suc o) ≡ None → P
nowhere true o P more e = absurd (none-some _ (sym e))
nowhere false o P more e = more refl (none_later o e)

-- another value at the place of a key is what a table with one more pair has
pub set_is : (pairs : List Pair) (key value : List ℕ) (place : ℕ) → place_in pairs key ≡ Some place → with_value_at pairs place value ≡ with_pair pairs (key, value)
set_is [] key value place e = absurd (none-some _ e)
set_is (pair ∷ pairs) key value place e =
    at_place (bytes_eq key pair.0) (place_in pairs key) (λ n. with_value_at (pair ∷ pairs) n value ≡ with_pair (pair ∷ pairs) (key, value))
    (λ t. rw t refl) (λ n t more. rw t (ap (λ l. pair ∷ l) (set_is pairs key value n more))) place e

-- a key that no pair has comes last
pub append_is : (pairs : List Pair) (key value : List ℕ) → place_in pairs key ≡ None → pairs ++ (key, value) ∷ [] ≡ with_pair pairs (key, value)
append_is [] key value e = refl
append_is (pair ∷ pairs) key value e =
    nowhere (bytes_eq key pair.0) (place_in pairs key) (pair ∷ (pairs ++ (key, value) ∷ []) ≡ with_pair (pair ∷ pairs) (key, value))
    (λ t more. rw t (ap (λ l. pair ∷ l) (append_is pairs key value more))) e

-- the value of a key is that at its place
pub valued : (pairs : List Pair) (key : List ℕ) (place : ℕ) → place_in pairs key ≡ Some place → value_in pairs key ≡ option_map (λ pair. pair.1) (slice_get pairs place)
valued [] key place e = absurd (none-some _ e)
valued (pair ∷ pairs) key place e =
    at_place (bytes_eq key pair.0) (place_in pairs key) (λ n. value_in (pair ∷ pairs) key ≡ option_map (λ pair. pair.1) (slice_get (pair ∷ pairs) n))
    (λ t. rw t refl) (λ n t more. rw t (valued pairs key n more)) place e

pub unvalued : (pairs : List Pair) (key : List ℕ) → place_in pairs key ≡ None → value_in pairs key ≡ None
unvalued [] key e = refl
unvalued (pair ∷ pairs) key e = nowhere (bytes_eq key pair.0) (place_in pairs key) (value_in (pair ∷ pairs) key ≡ None) (λ t more. rw t (unvalued pairs key more)) e

-- another value moves no key
pub kept : (pairs : List Pair) (place : ℕ) (value key : List ℕ) → place_in (with_value_at pairs place value) key ≡ place_in pairs key
kept [] place value key = refl
kept (pair ∷ pairs) zero value key = refl
kept (pair ∷ pairs) (suc place) value key = ap (λ o. cond (bytes_eq key pair.0) (Some 0) (option_map suc o)) (kept pairs place value key)

module _ {S : Type 0} where
  -- the places with that of the last pair
  pub grown : (pairs more : List Pair) (name key value : List ℕ) (place : ℕ) (m n : HashMap (String Global) ℕ S) → more ≡ pairs ++ (key, value) ∷ [] → name ≡ key → place ≡ length pairs
      → place_in pairs key ≡ None → HasPlaces pairs m → UpdatesBy string_eq (λ k. bytes_eq name (string_bytes k)) m n (Some place) → HasPlaces more n
  grown pairs more name key value place m n is same last new was updates =
      names.grown (keys pairs) (keys more) name key place m n (ap keys is ∙ map_push (λ pair. pair.0) pairs (key, value)) same (last ∙ sym (length-map pairs (λ pair. pair.0))) new was updates
    where
      keys : List Pair → List (List ℕ)
      keys l = map (λ pair. pair.0) l

-- a value at a place, of the bytes and of the strings
pub set_bytes : (items : List (String Global × String Global)) (place : ℕ) (was : String Global × String Global) (value : String Global) → slice_get items place ≡ Some was
    → map bytes_of (slice_set items place (was.0, value)) ≡ with_value_at (map bytes_of items) place (string_bytes value)
set_bytes [] place was value e = absurd (none-some _ e)
set_bytes (item ∷ items) zero was value e = ap (λ (p : String Global × String Global). (string_bytes p.0, string_bytes value) ∷ map bytes_of items) (sym (same_Some item was e))
set_bytes (item ∷ items) (suc place) was value e = ap (λ l. bytes_of item ∷ l) (set_bytes items place was value e)

-- behind the last there is none
pub set_past : (items : List (String Global × String Global)) (place : ℕ) (value : List ℕ) → slice_get items place ≡ None → map bytes_of items ≡ with_value_at (map bytes_of items) place value
set_past [] place value e = refl
set_past (item ∷ items) zero value e = absurd (none-some _ (sym e))
set_past (item ∷ items) (suc place) value e = ap (λ l. bytes_of item ∷ l) (set_past items place value e)
