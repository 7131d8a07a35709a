-- What tables have for keys, and the bytes of a map's entries.
use Rattle.std.proofs.Common.{◌≡◌, ◌≢◌, ℕ, List, [], ◌∷◌, ◌++◌, reverse, fold, Bool, true, false, cond, Option, None, Some, refl, ap, sym, subst, ◌∙◌, true≢false}
use Rattle.std.specs.Prelude.{if◌then◌else◌}
use Rattle.std.specs.Option.{option_or}
use Rattle.std.specs.Str.{bytes_eq}
use Rattle.std.proofs.lemmas.Bool.{false_from_ne_true}
use Rattle.std.proofs.lemmas.List.{reverse-append}
use Rattle.std.proofs.lemmas.Slice.Eq.{bytes_eq-Decides}
use Rattle.config_params.specs.Pairs.{Pair}
use Rattle.config_params.specs.Tables.{with_pair, table_of, value_in, last_value}

same_bytes : (a : List ℕ) → bytes_eq a a ≡ true
same_bytes a = (bytes_eq-Decides a a).1 refl

other_bytes : (a b : List ℕ) → a ≢ b → bytes_eq a b ≡ false
other_bytes a b h = false_from_ne_true (bytes_eq a b) (λ t. h ((bytes_eq-Decides a b).0 t))

-- what a key has after one more pair
pub has_after : (pairs : List Pair) (key value query : List ℕ) → value_in (with_pair pairs (key, value)) query ≡ cond (bytes_eq query key) (Some value) (value_in pairs query)
has_after [] key value query = refl
has_after (e ∷ es) key value query = by (bytes_eq key e.0) refl (has_after es key value query)
  where
    both : (b t : Bool) → bytes_eq key e.0 ≡ false → bytes_eq query e.0 ≡ b → bytes_eq query key ≡ t
        → cond b (Some e.1) (cond t (Some value) (value_in es query)) ≡ cond t (Some value) (cond b (Some e.1) (value_in es query))
    both true true k q r = absurd (true≢false (sym (subst (λ l. bytes_eq l e.0 ≡ true) ((bytes_eq-Decides query key).0 r) q) ∙ k))
    both true false k q r = refl
    both false true k q r = refl
    both false false k q r = refl

    twice : (b : Bool) → cond b (Some value) (value_in es query) ≡ cond b (Some value) (cond b (Some e.1) (value_in es query))
    twice true = refl
    twice false = refl

    by : (b : Bool) → bytes_eq key e.0 ≡ b → value_in (with_pair es (key, value)) query ≡ cond (bytes_eq query key) (Some value) (value_in es query)
        → value_in (with_pair (e ∷ es) (key, value)) query ≡ cond (bytes_eq query key) (Some value) (value_in (e ∷ es) query)
    by true t more =
        ap (λ (c : Bool). value_in (if c then (e.0, value) ∷ es else e ∷ with_pair es (key, value)) query) t
        ∙ ap (λ k. cond (bytes_eq query k) (Some value) (value_in es query)) (sym ((bytes_eq-Decides key e.0).0 t)) ∙ twice (bytes_eq query key)
        ∙ ap (λ k. cond (bytes_eq query key) (Some value) (cond (bytes_eq query k) (Some e.1) (value_in es query))) ((bytes_eq-Decides key e.0).0 t)
    by false t more =
        ap (λ (c : Bool). value_in (if c then (e.0, value) ∷ es else e ∷ with_pair es (key, value)) query) t
        ∙ ap (cond (bytes_eq query e.0) (Some e.1)) more ∙ both (bytes_eq query e.0) (bytes_eq query key) t refl refl

pub has_new : (pairs : List Pair) (key value : List ℕ) → value_in (with_pair pairs (key, value)) key ≡ Some value
has_new pairs key value = has_after pairs key value key ∙ ap (λ b. cond b (Some value) (value_in pairs key)) (same_bytes key)

pub has_other : (pairs : List Pair) (key value other : List ℕ) → other ≢ key → value_in (with_pair pairs (key, value)) other ≡ value_in pairs other
has_other pairs key value other h = has_after pairs key value other ∙ ap (λ b. cond b (Some value) (value_in pairs other)) (other_bytes other key h)

-- two lists of pairs, one behind the other
has_append : (xs ys : List Pair) (key : List ℕ) → value_in (xs ++ ys) key ≡ option_or (value_in xs key) (value_in ys key)
has_append [] ys key = refl
has_append (x ∷ xs) ys key = by (bytes_eq key x.0) (has_append xs ys key)
  where
    by : (b : Bool) → value_in (xs ++ ys) key ≡ option_or (value_in xs key) (value_in ys key) → cond b (Some x.1) (value_in (xs ++ ys) key) ≡ option_or (cond b (Some x.1) (value_in xs key)) (value_in ys key)
    by true more = refl
    by false more = more

or_assoc : {T : Type 0} (a b c : Option T) → option_or (option_or a b) c ≡ option_or a (option_or b c)
or_assoc None b c = refl
or_assoc (Some x) b c = refl

or_cond : {T : Type 0} (b : Bool) (v : T) (o : Option T) → cond b (Some v) o ≡ option_or (cond b (Some v) None) o
or_cond true v o = refl
or_cond false v o = refl

has_folded : (table pairs : List Pair) (key : List ℕ) → value_in (fold with_pair table pairs) key ≡ option_or (last_value pairs key) (value_in table key)
has_folded table [] key = refl
has_folded table (p ∷ ps) key =
    has_folded (with_pair table p) ps key ∙ ap (option_or (last_value ps key)) (has_after table p.0 p.1 key ∙ or_cond (bytes_eq key p.0) p.1 (value_in table key))
    ∙ sym (or_assoc (last_value ps key) (value_in (p ∷ []) key) (value_in table key))
    ∙ ap (λ o. option_or o (value_in table key)) (sym (has_append (reverse ps) (p ∷ []) key) ∙ ap (λ l. value_in l key) (sym (reverse-append (p ∷ []) ps)))

or_none : {T : Type 0} (a : Option T) → option_or a None ≡ a
or_none None = refl
or_none (Some x) = refl

-- of a repeated key the last value counts
pub has_last : (pairs : List Pair) (key : List ℕ) → value_in (table_of pairs) key ≡ last_value pairs key
has_last pairs key = has_folded [] pairs key ∙ or_none (last_value pairs key)
