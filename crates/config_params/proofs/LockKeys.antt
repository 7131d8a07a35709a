-- The keys of the configuration that limit a lock: one of each lock, and tables have a value for just those that they list.
use Rattle.std.proofs.Common.{◌≡◌, ◌≢◌, ℕ, zero, suc, ◌+◌, add-one, slice_get, ◌-◌, Bool, true, false, ◌||◌, cond, List, [], ◌∷◌, ◌++◌, length, take, drop, codes, Option, Some, None, refl, sym, ap, ◌∙◌, true≢false, arith, length-append, Bor}
use Rattle.std.specs.Prelude.{nat_eq, is_some, if◌then◌else◌}
use Rattle.std.specs.List.{list_any, starts_with, ends_with}
use Rattle.std.specs.Option.{option_or, option_map, MatchOption}
use Rattle.std.specs.Str.{bytes_eq}
use Rattle.std.specs.Str.Pattern.{FindsTextPrefix, FindsTextSuffix, StripsPrefix, StripsSuffix}
use Rattle.std.proofs.Math.Bool.{or_assoc}
use Rattle.std.proofs.lemmas.Bool.{false_from_ne_true}
use Rattle.std.proofs.lemmas.Bool.Decides.{Decides-eqb}
use Rattle.std.proofs.lemmas.List.Folds.{list_any-append}
use Rattle.std.proofs.lemmas.Option.{none-some, same_Some}
use Rattle.std.proofs.lemmas.Slice.Eq.{bytes_eq-Decides, starts_is, ends_is}
use Rattle.std.proofs.Math.Seq.{take-append_seam}
use Rattle.config_params.specs.LockKeys.{holders_key, lock_before_end, lock_limited, limiting, limiting_keys}
use Rattle.config_params.specs.Pairs.{Pair}
use Rattle.config_params.specs.Parameters.{Parameters, answer, answer_over}
use Rattle.config_params.specs.Tables.{value_in}

abbrev front : List ℕ
front = codes "nelborugy.lock."

abbrev end : List ℕ
end = codes ".holders"

starts : (key rest : List ℕ) → key ≡ front ++ rest → starts_with nat_eq key front ≡ true
starts key rest e = (starts_is Decides-eqb key front (starts_with nat_eq key front) refl).1 rest e

starts_not : (key : List ℕ) → ((rest : List ℕ) → key ≢ front ++ rest) → starts_with nat_eq key front ≡ false
starts_not key h = false_from_ne_true (starts_with nat_eq key front) (λ t. h (drop 15 key) ((starts_is Decides-eqb key front (starts_with nat_eq key front) refl).0 t))

ends : (rest lock : List ℕ) → rest ≡ lock ++ end → ends_with nat_eq rest end ≡ true
ends rest lock e = (ends_is Decides-eqb rest end (ends_with nat_eq rest end) refl).1 lock e

ends_not : (rest : List ℕ) → ((lock : List ℕ) → rest ≢ lock ++ end) → ends_with nat_eq rest end ≡ false
ends_not rest h = false_from_ne_true (ends_with nat_eq rest end) (λ t. h (take (length rest - 8) rest) ((ends_is Decides-eqb rest end (ends_with nat_eq rest end) refl).0 t))

-- what a text comes to that begins so, or does not
pub front_not : (key : List ℕ) → ((rest : List ℕ) → key ≢ front ++ rest) → lock_limited key ≡ None
front_not key h = ap (λ (b : Bool). if b then lock_before_end (drop 15 key) else None) (starts_not key h)

pub front_is : (key rest : List ℕ) → key ≡ front ++ rest → lock_limited key ≡ lock_before_end rest
front_is key rest e =
    ap (λ (b : Bool). if b then lock_before_end (drop 15 key) else None) (starts key rest e)
    ∙ ap (λ (k : List ℕ). lock_before_end (drop 15 k)) e

-- and that ends so, or does not
pub end_not : (rest : List ℕ) → ((lock : List ℕ) → rest ≢ lock ++ end) → lock_before_end rest ≡ None
end_not rest h = ap (λ (b : Bool). if b then Some (take (length rest - 8) rest) else None) (ends_not rest h)

pub end_is : (rest lock : List ℕ) → rest ≡ lock ++ end → lock_before_end rest ≡ Some lock
end_is rest lock e =
    ap (λ (b : Bool). if b then Some (take (length rest - 8) rest) else None) (ends rest lock e)
    ∙ ap (λ (r : List ℕ). Some (take (length r - 8) r)) e
    ∙ ap (λ (n : ℕ). Some (take n (lock ++ end))) len
    ∙ ap Some (take-append_seam lock end)
  where
    len : length (lock ++ end) - 8 ≡ length lock
    len = let h = length-append lock end in omega (arith, h)

-- what is cut off at an end
pub end_by : (rest : List ℕ) (r : Option (Bor (List ℕ))) → MatchOption r ((lock : List ℕ) → rest ≢ lock ++ end) (λ x. StripsSuffix (FindsTextSuffix end) rest x.now) → option_map (λ x. x.now) r ≡ lock_before_end rest
end_by rest None h = sym (end_not rest h)
end_by rest (Some x) h = sym (end_is rest x.now (h.1.1 ∙ ap (λ (l : List ℕ). l ++ end) (sym h.2)))

pub front_by : (key : List ℕ) (x : List ℕ) → StripsPrefix (FindsTextPrefix front) key x → lock_limited key ≡ lock_before_end x
front_by key x h = front_is key x (h.1.1 ∙ ap (λ (l : List ℕ). front ++ l) (sym h.2))

-- the key of a lock limits that lock
pub limited_of : (lock : List ℕ) → lock_limited (holders_key lock) ≡ Some lock
limited_of lock = front_is (holders_key lock) (lock ++ end) refl ∙ end_is (lock ++ end) lock refl

-- and a key that limits a lock is the key of it
pub limited_is : (key lock : List ℕ) → lock_limited key ≡ Some lock → key ≡ holders_key lock
limited_is key lock e = by_front (starts_with nat_eq key front) refl e
  where
    by_end : (b : Bool) → ends_with nat_eq (drop 15 key) end ≡ b → (if b then Some (take (length (drop 15 key) - 8) (drop 15 key)) else None) ≡ Some lock → drop 15 key ≡ lock ++ end
    by_end true t same = (ends_is Decides-eqb (drop 15 key) end (ends_with nat_eq (drop 15 key) end) refl).0 t ∙ ap (λ (l : List ℕ). l ++ end) (same_Some (take (length (drop 15 key) - 8) (drop 15 key)) lock same)
    by_end false t same = absurd (none-some lock same)

    by_front : (b : Bool) → starts_with nat_eq key front ≡ b → (if b then lock_before_end (drop 15 key) else None) ≡ Some lock → key ≡ holders_key lock
    by_front true t same = (starts_is Decides-eqb key front (starts_with nat_eq key front) refl).0 t ∙ ap (λ (l : List ℕ). front ++ l) (by_end (ends_with nat_eq (drop 15 key) end) refl same)
    by_front false t same = absurd (none-some lock same)

same_bytes : (a : List ℕ) → bytes_eq a a ≡ true
same_bytes a = (bytes_eq-Decides a a).1 refl

-- a table has a value of a key that limits a lock just where it lists the key
said : (pairs : List Pair) (key : List ℕ) → is_some (lock_limited key) ≡ true → is_some (value_in pairs key) ≡ list_any (bytes_eq key) (limiting pairs)
said [] key limits = refl
said (p ∷ ps) key limits = by (bytes_eq key p.0) refl (is_some (lock_limited p.0)) refl (said ps key limits)
  where
    by : (b : Bool) → bytes_eq key p.0 ≡ b → (c : Bool) → is_some (lock_limited p.0) ≡ c → is_some (value_in ps key) ≡ list_any (bytes_eq key) (limiting ps)
        → is_some (cond b (Some p.1) (value_in ps key)) ≡ list_any (bytes_eq key) (cond c (p.0 ∷ limiting ps) (limiting ps))
    by true here true there more = sym (ap (λ (b : Bool). b || list_any (bytes_eq key) (limiting ps)) here)
    by true here false there more = absurd (true≢false (sym limits ∙ ap (λ (k : List ℕ). is_some (lock_limited k)) ((bytes_eq-Decides key p.0).0 here) ∙ there))
    by false here true there more = more ∙ sym (ap (λ (b : Bool). b || list_any (bytes_eq key) (limiting ps)) here)
    by false here false there more = more

some_or : {A : Type 0} (a b : Option A) → is_some (option_or a b) ≡ (is_some a || is_some b)
some_or None b = refl
some_or (Some x) b = refl

-- and so have parameters
said_by : (params : Parameters) (key : List ℕ) → is_some (lock_limited key) ≡ true → is_some (answer params key) ≡ list_any (bytes_eq key) (limiting_keys params)
said_by params key limits =
    some_or (option_or (value_in params.request key) (value_in params.system key)) (value_in params.file key)
    ∙ ap (λ (b : Bool). b || is_some (value_in params.file key)) (some_or (value_in params.request key) (value_in params.system key))
    ∙ or_assoc (is_some (value_in params.request key)) (is_some (value_in params.system key)) (is_some (value_in params.file key))
    ∙ (λ i. said params.request key limits i || (said params.system key limits i || said params.file key limits i))
    ∙ ap (λ (b : Bool). list_any (bytes_eq key) (limiting params.request) || b) (sym (list_any-append (bytes_eq key) (limiting params.system) (limiting params.file)))
    ∙ sym (list_any-append (bytes_eq key) (limiting params.request) (limiting params.system ++ limiting params.file))

pub said_over : (over under : Parameters) (key : List ℕ) → is_some (lock_limited key) ≡ true → is_some (answer_over over under key) ≡ list_any (bytes_eq key) (limiting_keys over ++ limiting_keys under)
unfolding answer_over
said_over over under key limits =
    some_or (answer over key) (answer under key) ∙ (λ i. said_by over key limits i || said_by under key limits i)
    ∙ sym (list_any-append (bytes_eq key) (limiting_keys over) (limiting_keys under))

-- the keys of the first pairs, with one pair more
next : (pairs : List Pair) (i : ℕ) (key : List ℕ) → option_map (λ pair. pair.0) (slice_get pairs i) ≡ Some key → limiting (take (suc i) pairs) ≡ limiting (take i pairs) ++ cond (is_some (lock_limited key)) (key ∷ []) []
next [] zero key e = absurd (none-some key e)
next [] (suc i) key e = absurd (none-some key e)
next (p ∷ ps) zero key e = ap (λ (k : List ℕ). cond (is_some (lock_limited k)) (k ∷ []) []) (same_Some p.0 key e)
next (p ∷ ps) (suc i) key e = by (is_some (lock_limited p.0)) (next ps i key e)
  where
    by : (b : Bool) → limiting (take (suc i) ps) ≡ limiting (take i ps) ++ cond (is_some (lock_limited key)) (key ∷ []) []
        → cond b (p.0 ∷ limiting (take (suc i) ps)) (limiting (take (suc i) ps)) ≡ cond b (p.0 ∷ limiting (take i ps)) (limiting (take i ps)) ++ cond (is_some (lock_limited key)) (key ∷ []) []
    by true more = ap (λ l. p.0 ∷ l) more
    by false more = more

append_assoc : {A : Type 0} (a b c : List A) → (a ++ b) ++ c ≡ a ++ (b ++ c)
append_assoc [] b c = refl
append_assoc (x ∷ a) b c = ap (λ l. x ∷ l) (append_assoc a b c)

-- the keys of one pair more, behind other keys
pub one_more : (pairs : List Pair) (i : ℕ) (key : List ℕ) (first before after : List (List ℕ)) → Some key ≡ option_map (λ pair. pair.0) (slice_get pairs i) → before ≡ first ++ limiting (take i pairs)
    → after ≡ before ++ cond (is_some (lock_limited key)) (key ∷ []) [] → after ≡ first ++ limiting (take (i + 1) pairs)
one_more pairs i key first before after at so_far now =
    let more : List (List ℕ) = cond (is_some (lock_limited key)) (key ∷ []) [] in
    rw add-one (now ∙ ap (λ l. l ++ more) so_far ∙ append_assoc first (limiting (take i pairs)) more ∙ ap (λ l. first ++ l) (sym (next pairs i key (sym at))))

-- there is no place behind the last
pub none_more : (pairs : List Pair) (i : ℕ) (first before : List (List ℕ)) → None ≡ option_map (λ pair. pair.0) (slice_get pairs i) → before ≡ first ++ limiting (take i pairs)
    → before ≡ first ++ limiting (take (i + 1) pairs)
none_more pairs i first before past so_far = rw add-one (so_far ∙ ap (λ l. first ++ limiting l) (same pairs i (sym past)))
  where
    same : (pairs : List Pair) (i : ℕ) → option_map (λ pair. pair.0) (slice_get pairs i) ≡ None → take i pairs ≡ take (suc i) pairs
    same [] zero e = refl
    same [] (suc i) e = refl
    same (p ∷ ps) zero e = absurd (none-some p.0 (sym e))
    same (p ∷ ps) (suc i) e = ap (λ l. p ∷ l) (same ps i e)
