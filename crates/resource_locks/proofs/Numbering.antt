-- The keys of a plan, and the bytes of those that a set has.
use Rattle.std.proofs.Common.{◌≡◌, ℕ, ◌+◌, ◌<◌, List, [], ◌∷◌, ◌++◌, length, take, get_or, refl, sym, ap, ◌∙◌, arith, add-one}
use Rattle.std.specs.Str.{bytes_eq}
use Rattle.std.proofs.lemmas.List.Sums.{passes_at_first}
use Rattle.std.proofs.lemmas.Grind.{common_steps}
use Rattle.descriptor.specs.declared.lock.Lock.{Lock}
use Rattle.resource_locks.specs.Declarations.{Declared}
use Rattle.resource_locks.specs.Plans.{number_of}
use Rattle.resource_locks.proofs.Wants.{same_key}
use Rattle.resource_locks.specs.Keys.{with_key, with_keys, keys_upto}

-- keys with those of one more lock
pub keys_more : (keys : List (List ℕ)) (locks : List Lock) (l : Lock) → with_keys keys (locks ++ l ∷ []) ≡ with_key (with_keys keys locks) l.key
keys_more keys [] l = refl
keys_more keys (x ∷ locks) l = keys_more (with_key keys x.key) locks l

-- one more lock of a list
pub key_next : (keys : List (List ℕ)) (locks : List Lock) (i : ℕ) (l : Lock) (before : List (List ℕ)) → before ≡ with_keys keys (take i locks) → i < length locks → l ≡ get_or locks i l
    → with_key before l.key ≡ with_keys keys (take (i + 1) locks)
key_next keys locks i l before e lt at = ap (λ (x : List (List ℕ)). with_key x l.key) e ∙ sym (keys_more keys (take i locks) l) ∙ ap (with_keys keys) (sym more)
  where
    more : take (i + 1) locks ≡ take i locks ++ l ∷ []
    more = grind (arith, common_steps)

-- the keys of one more node
pub node_next : (d : Declared) (n : ℕ) (before after : List (List ℕ)) (locks : List Lock) → before ≡ keys_upto d n → locks ≡ d.locks n → after ≡ with_keys before locks → after ≡ keys_upto d (n + 1)
node_next d n before after locks e f g = rw add-one (g ∙ ap (λ (l : List Lock). with_keys before l) f ∙ ap (λ (l : List (List ℕ)). with_keys l (d.locks n)) e)

-- keys of one number are one key
pub same_number : (keys : List (List ℕ)) (a b : List ℕ) → number_of keys a < length keys → number_of keys b < length keys → number_of keys a ≡ number_of keys b → a ≡ b
same_number keys a b la lb e =
    same_key a (get_or keys (number_of keys a) []) (passes_at_first (bytes_eq a) keys [] la)
    ∙ ap (λ (m : ℕ). get_or keys m []) e
    ∙ sym (same_key b (get_or keys (number_of keys b) []) (passes_at_first (bytes_eq b) keys [] lb))
