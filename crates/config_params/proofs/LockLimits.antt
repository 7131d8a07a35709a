-- From what is said key by key to the limit of each lock, and to what is refused.
use Rattle.std.proofs.Common.{◌≡◌, ◌≢◌, ℕ, zero, suc, Bor, length, get_or, Result, Ok, Err, IfErr, ◌+◌, ◌<◌, Bool, true, false, ◌||◌, ◌&&◌, not, cond, List, [], ◌∷◌, ◌++◌, map, take, Option, Some, None, inl, inr, refl, sym, ap, ◌∙◌, true≢false, arith}
use Rattle.std.specs.Prelude.{is_some}
use Rattle.std.specs.List.{list_any}
use Rattle.std.specs.Option.{option_or}
use Rattle.std.specs.Result.{IsErrAnd}
use Rattle.std.specs.Str.{bytes_eq}
use Rattle.std.proofs.lemmas.Bool.{false_from_ne_true, or_left, or_right, false≢true}
use Rattle.std.proofs.lemmas.List.{map_push}
use Rattle.std.proofs.lemmas.Grind.{common_steps}
use Rattle.std.proofs.lemmas.Option.{none-some, same_Some}
use Rattle.std.proofs.lemmas.Slice.Eq.{bytes_eq-Decides}
use Rattle.descriptor.specs.Nodes.{Nodes, size}
use Rattle.resource_locks.specs.Declarations.{global, declared_of}
use Rattle.resource_locks.specs.Keys.{keys_of}
use Rattle.resource_locks.specs.Limits.{first_limit, limit_given}
use Rattle.resource_locks.specs.declared.limits.KeyLimit.{KeyLimit}
use Rattle.config_params.specs.LockKeys.{holders_key, lock_limited, limiting_keys}
use Rattle.config_params.specs.LockLimits.{AreLimits, IsRefusedAs, can_limit, holders_of, limit_by, limit_said, limits_by, limits_fault, limits_refusal, lock_fault, number_fault, value_fault}
use Rattle.config_params.specs.Numbers.{holders_in}
use Rattle.config_params.specs.Parameters.{Parameters, answer_over}
use Rattle.config_params.specs.Settings.{Answers}
use Rattle.config_params.specs.declared.limits_fault.LimitsFault.{LimitsFault}
use Rattle.config_params.specs.declared.limits_fault.LimitsFault.TheVariants.{NoMemory, Refused}
use Rattle.config_params.specs.declared.settings_fault.SettingsFault.{SettingsFault}
use Rattle.config_params.specs.declared.settings_fault.SettingsFault.TheVariants.{BadHolders, UnknownLock}
use Rattle.config_params.proofs.LockKeys.{limited_of, limited_is, said_over}
use Rattle.resource_locks.proofs.NamedLocks.{named_by, declared_has}

or_or : {A : Type 0} (a b c : Option A) → option_or (option_or a b) c ≡ option_or a (option_or b c)
or_or None b c = refl
or_or (Some x) b c = refl

append_assoc : (a b c : List KeyLimit) → (a ++ b) ++ c ≡ a ++ (b ++ c)
append_assoc [] b c = refl
append_assoc (x ∷ a) b c = ap (λ l. x ∷ l) (append_assoc a b c)

module _ (answers : Answers) where
  -- keys and more keys
  pub limits_append : (xs ys : List (List ℕ)) → limits_by answers (xs ++ ys) ≡ limits_by answers xs ++ limits_by answers ys
  limits_append [] ys = refl
  limits_append (x ∷ xs) ys = ap (λ l. limit_by answers x (lock_limited x) ++ l) (limits_append xs ys) ∙ sym (append_assoc (limit_by answers x (lock_limited x)) (limits_by answers xs) (limits_by answers ys))

  pub fault_append : (names xs ys : List (List ℕ)) → limits_fault answers names (xs ++ ys) ≡ option_or (limits_fault answers names xs) (limits_fault answers names ys)
  fault_append names [] ys = refl
  fault_append names (x ∷ xs) ys = ap (option_or (lock_fault answers names x (lock_limited x))) (fault_append names xs ys) ∙ sym (or_or (lock_fault answers names x (lock_limited x)) (limits_fault answers names xs) (limits_fault answers names ys))

  -- the first entry of a lock says what its key says
  first_is : (keys : List (List ℕ)) (lock : List ℕ) → first_limit (limits_by answers keys) lock ≡ cond (list_any (bytes_eq (holders_key lock)) keys) (holders_of (answers (holders_key lock))) 0
  first_is [] lock = refl
  first_is (key ∷ keys) lock = by (lock_limited key) refl (first_is keys lock)
    where
      other : (o : Option (List ℕ)) → lock_limited key ≡ o → (o ≡ Some lock → ⊥) → bytes_eq (holders_key lock) key ≡ false
      other o is never = false_from_ne_true (bytes_eq (holders_key lock) key) (λ t. never (sym is ∙ ap lock_limited (sym ((bytes_eq-Decides (holders_key lock) key).0 t)) ∙ limited_of lock))

      by_lock : (l : List ℕ) → lock_limited key ≡ Some l → (b : Bool) → bytes_eq lock l ≡ b → first_limit (limits_by answers keys) lock ≡ cond (list_any (bytes_eq (holders_key lock)) keys) (holders_of (answers (holders_key lock))) 0
          → cond b (holders_of (answers key)) (first_limit (limits_by answers keys) lock) ≡ cond (bytes_eq (holders_key lock) key || list_any (bytes_eq (holders_key lock)) keys) (holders_of (answers (holders_key lock))) 0
      by_lock l is true same more =
          let here : (holders_key lock) ≡ key = ap holders_key ((bytes_eq-Decides lock l).0 same) ∙ sym (limited_is key l is) in
          ap (λ (k : List ℕ). holders_of (answers k)) (sym here) ∙ sym (ap (λ (b : Bool). cond (b || list_any (bytes_eq (holders_key lock)) keys) (holders_of (answers (holders_key lock))) 0) ((bytes_eq-Decides (holders_key lock) key).1 here))
      by_lock l is false same more =
          more ∙ sym (ap (λ (b : Bool). cond (b || list_any (bytes_eq (holders_key lock)) keys) (holders_of (answers (holders_key lock))) 0) (other (Some l) is (λ e. true≢false (sym ((bytes_eq-Decides lock l).1 (sym (same_Some l lock e))) ∙ same))))

      by : (o : Option (List ℕ)) → lock_limited key ≡ o → first_limit (limits_by answers keys) lock ≡ cond (list_any (bytes_eq (holders_key lock)) keys) (holders_of (answers (holders_key lock))) 0
          → first_limit (limit_by answers key o ++ limits_by answers keys) lock ≡ cond (bytes_eq (holders_key lock) key || list_any (bytes_eq (holders_key lock)) keys) (holders_of (answers (holders_key lock))) 0
      by None is more = more ∙ sym (ap (λ (b : Bool). cond (b || list_any (bytes_eq (holders_key lock)) keys) (holders_of (answers (holders_key lock))) 0) (other None is (λ e. none-some lock e)))
      by (Some l) is more = by_lock l is (bytes_eq lock l) refl more

  -- if nothing is wrong with keys, nothing is wrong with any, and the other way round
  fault_none : (names keys : List (List ℕ)) (key : List ℕ) → limits_fault answers names keys ≡ None → list_any (bytes_eq key) keys ≡ true → lock_fault answers names key (lock_limited key) ≡ None
  fault_none names [] key none has = absurd (false≢true has)
  fault_none names (k ∷ keys) key none has = by (lock_fault answers names k (lock_limited k)) refl none (bytes_eq key k) refl has (fault_none names keys key)
    where
      by : (o : Option SettingsFault) → lock_fault answers names k (lock_limited k) ≡ o → option_or o (limits_fault answers names keys) ≡ None → (b : Bool) → bytes_eq key k ≡ b → (b || list_any (bytes_eq key) keys) ≡ true
          → (limits_fault answers names keys ≡ None → list_any (bytes_eq key) keys ≡ true → lock_fault answers names key (lock_limited key) ≡ None) → lock_fault answers names key (lock_limited key) ≡ None
      by None is rest true same there later = ap (λ (k : List ℕ). lock_fault answers names k (lock_limited k)) ((bytes_eq-Decides key k).0 same) ∙ is
      by None is rest false same there later = later rest there
      by (Some f) is rest b same there later = absurd (none-some f (sym rest))

  none_all : (names keys : List (List ℕ)) → ((key : List ℕ) → list_any (bytes_eq key) keys ≡ true → lock_fault answers names key (lock_limited key) ≡ None) → limits_fault answers names keys ≡ None
  none_all names [] all = refl
  none_all names (k ∷ keys) all =
      ap (λ o. option_or o (limits_fault answers names keys)) (all k (or_left (bytes_eq k k) (list_any (bytes_eq k) keys) ((bytes_eq-Decides k k).1 refl)))
      ∙ none_all names keys (λ key there. all key (or_right (bytes_eq key k) (list_any (bytes_eq key) keys) there))

right_empty : (l : List KeyLimit) → l ++ [] ≡ l
right_empty [] = refl
right_empty (x ∷ l) = ap (λ m. x ∷ m) (right_empty l)

-- no keys are none, however they are lent
pub none_said : (keys : List (Bor (List ℕ))) → length keys ≡ 0 → [] ≡ map (λ key. key.now) keys
none_said [] is = refl
none_said (k ∷ keys) is = absurd (omega (arith, is))

-- the first key that something is wrong with
first_fault : (answers : Answers) (names : List (List ℕ)) (keys : List (Bor (List ℕ))) (i : ℕ) (d : Bor (List ℕ)) (fault : SettingsFault) → i < length keys → limits_fault answers names (map (λ key. key.now) (take i keys)) ≡ None
    → lock_fault answers names (get_or keys i d).now (lock_limited (get_or keys i d).now) ≡ Some fault → limits_fault answers names (map (λ key. key.now) keys) ≡ Some fault
first_fault answers names [] i d fault inside none now = absurd (omega (arith, inside))
first_fault answers names (k ∷ keys) zero d fault inside none now = ap (λ o. option_or o (limits_fault answers names (map (λ key. key.now) keys))) now
first_fault answers names (k ∷ keys) (suc i) d fault inside none now = by (lock_fault answers names k.now (lock_limited k.now)) none (λ rest. first_fault answers names keys i d fault (omega (arith, inside)) rest now)
  where
    by : (o : Option SettingsFault) → option_or o (limits_fault answers names (map (λ key. key.now) (take i keys))) ≡ None → (limits_fault answers names (map (λ key. key.now) (take i keys)) ≡ None → limits_fault answers names (map (λ key. key.now) keys) ≡ Some fault)
        → option_or o (limits_fault answers names (map (λ key. key.now) keys)) ≡ Some fault
    by None rest later = later rest
    by (Some f) rest later = absurd (none-some f (sym rest))

-- a list of borrowed texts, with the one at a place
module _ (answers : Answers) (keys : List (Bor (List ℕ))) (i : ℕ) (d : Bor (List ℕ)) (inside : i < length keys) where
  abbrev said : List ℕ
  said = (get_or keys i d).now

  one_text : map (λ key. key.now) (take (i + 1) keys) ≡ map (λ key. key.now) (take i keys) ++ said ∷ []
  one_text = ap (map (λ key. key.now)) more ∙ map_push (λ key. key.now) (take i keys) (get_or keys i d)
    where
      more : take (i + 1) keys ≡ take i keys ++ get_or keys i d ∷ []
      more = grind (arith, common_steps)

  -- the limits of one key more
  pub next_limits : (first before after : List KeyLimit) → before ≡ first ++ limits_by answers (map (λ key. key.now) (take i keys)) → after ≡ before ++ limit_by answers said (lock_limited said)
      → after ≡ first ++ limits_by answers (map (λ key. key.now) (take (i + 1) keys))
  next_limits first before after so_far now =
      let one : List KeyLimit = limit_by answers said (lock_limited said) in
      let done : List KeyLimit = limits_by answers (map (λ key. key.now) (take i keys)) in
      now ∙ ap (λ l. l ++ one) so_far ∙ append_assoc first done one ∙ ap (λ l. first ++ (done ++ l)) (sym (right_empty one))
      ∙ ap (λ l. first ++ l) (sym (limits_append answers (map (λ key. key.now) (take i keys)) (said ∷ [])))
      ∙ ap (λ l. first ++ limits_by answers l) (sym one_text)

  module _ (names : List (List ℕ)) (none : limits_fault answers names (map (λ key. key.now) (take i keys)) ≡ None) where
    -- nothing is wrong with it either
    pub next_fault : lock_fault answers names said (lock_limited said) ≡ None → limits_fault answers names (map (λ key. key.now) (take (i + 1) keys)) ≡ None
    next_fault now =
        ap (limits_fault answers names) one_text ∙ fault_append answers names (map (λ key. key.now) (take i keys)) (said ∷ [])
        ∙ ap (λ o. option_or o (limits_fault answers names (said ∷ []))) none ∙ ap (λ o. option_or o None) now

    -- or it is the first that something is wrong with
    pub refused_at : {X : Type 0} (cause : LimitsFault) (result : Result X LimitsFault) → IsErrAnd result (λ e. e ≡ cause) → IsRefusedAs (lock_fault answers names said (lock_limited said)) cause
        → IfErr result (IsRefusedAs (limits_fault answers names (map (λ key. key.now) keys)))
    refused_at cause (Ok x) is why = absurd is
    refused_at NoMemory (Err e) is why = rw is tt
    refused_at (Refused fault) (Err e) is why = rw is (first_fault answers names keys i d fault inside none why)

-- what a value has that nothing is wrong with
value_sound : (can : Bool) (value : List ℕ) → value_fault can (Some value) ≡ None → (can ≡ true) × ((n : ℕ) × (holders_in value ≡ Some n))
value_sound can value none = by can (holders_in value) refl none
  where
    by : (b : Bool) (o : Option ℕ) → holders_in value ≡ o → number_fault b o ≡ None → (b ≡ true) × ((n : ℕ) × (holders_in value ≡ Some n))
    by true (Some n) is none = (refl, (n, is))
    by false (Some n) is none = absurd (none-some UnknownLock (sym none))
    by b None is none = absurd (none-some BadHolders (sym none))

can_parts : (names : List (List ℕ)) (lock : List ℕ) → can_limit names lock ≡ true → (lock ≢ global) × (list_any (bytes_eq lock) names ≡ true)
can_parts names lock can = by (bytes_eq global lock) refl can
  where
    by : (b : Bool) → bytes_eq global lock ≡ b → (not b && list_any (bytes_eq lock) names) ≡ true → (lock ≢ global) × (list_any (bytes_eq lock) names ≡ true)
    by true is can = absurd (false≢true can)
    by false is can = ((λ same. true≢false (sym ((bytes_eq-Decides global lock).1 (sym same)) ∙ is)), can)

can_from : (names : List (List ℕ)) (lock : List ℕ) → lock ≢ global → list_any (bytes_eq lock) names ≡ true → can_limit names lock ≡ true
can_from names lock other has = ap (λ (b : Bool). not b && list_any (bytes_eq lock) names) (false_from_ne_true (bytes_eq global lock) (λ t. other (sym ((bytes_eq-Decides global lock).0 t)))) ∙ has

module _ (over under : Parameters) where
  abbrev all : List (List ℕ)
  all = limiting_keys over ++ limiting_keys under

  limits_lock : (lock : List ℕ) → is_some (lock_limited (holders_key lock)) ≡ true
  limits_lock lock = ap is_some (limited_of lock)

  -- each lock has the limit that its key says
  pub limits_are : (limits : List KeyLimit) (lock : List ℕ) → limits ≡ limits_by (answer_over over under) all → limit_given limits lock ≡ limit_said (answer_over over under) lock
  limits_are limits lock are = ap (cond (bytes_eq global lock) 0) (ap (λ l. first_limit l lock) are ∙ first_is (answer_over over under) all lock ∙ by (answer_over over under (holders_key lock)) refl)
    where
      by : (o : Option (List ℕ)) → answer_over over under (holders_key lock) ≡ o → cond (list_any (bytes_eq (holders_key lock)) all) (holders_of (answer_over over under (holders_key lock))) 0 ≡ holders_of (answer_over over under (holders_key lock))
      by None is = ap (λ (b : Bool). cond b (holders_of (answer_over over under (holders_key lock))) 0) (sym (said_over over under (holders_key lock) (limits_lock lock)) ∙ ap is_some is) ∙ ap holders_of (sym is)
      by (Some v) is = ap (λ (b : Bool). cond b (holders_of (answer_over over under (holders_key lock))) 0) (sym (said_over over under (holders_key lock) (limits_lock lock)) ∙ ap is_some is)

  module _ (tree : Nodes) where
    abbrev names : List (List ℕ)
    names = keys_of (declared_of tree)

    sound_of : (lock value : List ℕ) → limits_refusal over under tree ≡ None → answer_over over under (holders_key lock) ≡ Some value → (can_limit names lock ≡ true) × ((n : ℕ) × (holders_in value ≡ Some n))
    sound_of lock value none is =
        let has : list_any (bytes_eq (holders_key lock)) all ≡ true = sym (said_over over under (holders_key lock) (limits_lock lock)) ∙ ap is_some is in
        let fine = fault_none (answer_over over under) names all (holders_key lock) none has in
        value_sound (can_limit names lock) value
        (ap (value_fault (can_limit names lock)) (sym is) ∙ sym (ap (lock_fault (answer_over over under) names (holders_key lock)) (limited_of lock)) ∙ fine)

    are_limits : limits_refusal over under tree ≡ None → AreLimits (answer_over over under) tree
    are_limits none = record {
      numbers = λ lock value is. (sound_of lock value none is).1;
      limitable = λ lock value is. (can_parts names lock (sound_of lock value none is).0).0;
      named = λ lock value is.
          let parts = can_parts names lock (sound_of lock value none is).0 in
          elim (named_by (declared_of tree) (size tree) lock parts.1) [ inl same ↦ absurd (parts.0 same) | inr found ↦ found ];
    }

    none_refused : AreLimits (answer_over over under) tree → limits_refusal over under tree ≡ None
    none_refused are = none_all (answer_over over under) names all (λ key has. by key has (lock_limited key) refl)
      where
        value_fine : (lock : List ℕ) (o : Option (List ℕ)) → answer_over over under (holders_key lock) ≡ o → value_fault (can_limit names lock) o ≡ None
        value_fine lock None is = refl
        value_fine lock (Some value) is =
            let number = are.numbers lock value is in
            let named = are.named lock value is in
            let can = can_from names lock (are.limitable lock value is) (declared_has (declared_of tree) (size tree) named.0 lock named.1.1.0 named.1.0 named.1.1.1) in
            (λ i. number_fault (can i) (number.1 i))

        by : (key : List ℕ) → list_any (bytes_eq key) all ≡ true → (o : Option (List ℕ)) → lock_limited key ≡ o → lock_fault (answer_over over under) names key o ≡ None
        by key has None is = refl
        by key has (Some lock) is = value_fine lock (answer_over over under key) (ap (answer_over over under) (sym (limited_is key lock is)))

    pub refused_exactly : (limits_refusal over under tree ≡ None → AreLimits (answer_over over under) tree) × (AreLimits (answer_over over under) tree → limits_refusal over under tree ≡ None)
    refused_exactly = (are_limits, none_refused)
