-- Reading the items of a part, one after the other.
use Rattle.std.proofs.Common.{◌≡◌, ℕ, ◌+◌, ◌<◌, ◌==◌, Bool, true, false, cond, List, [], ◌∷◌, ◌++◌, length, drop, Option, Some, None, option_map, Result, Err, refl, ap, sym, ◌∙◌, arith}
use Rattle.std.proofs.lemmas.List.{drop-drop}
use Rattle.std.proofs.lemmas.Option.{none-some, same_Some}
use Rattle.std.specs.Option.{ok_or}
use Rattle.unique_id.specs.declared.fault.UidFault.{UidFault}
use Rattle.unique_id.specs.declared.fault.UidFault.TheVariants.{BadEscape}
use Rattle.unique_id.specs.Escapes.{byte_of}
use Rattle.unique_id.specs.Answers.{◌>>=◌}
use Rattle.unique_id.specs.Reading.{item_of, unescaped}

-- an item's byte and its length
abbrev found : ℕ → ℕ → Option (ℕ × ℕ)
found byte n = Some (byte, n)

abbrev of_three : ℕ → ℕ × ℕ
of_three byte = (byte, 3)

-- a function of an item's byte and length, at the item that is found
at_item : {R : Type 0} (f : ℕ → ℕ → R) (a n b m : ℕ) → found a n ≡ found b m → f a n ≡ f b m
at_item f a n b m h =
    let same : (a, n) ≡ (b, m) = same_Some (a, n) (b, m) h in
    ap (λ (p : ℕ × ℕ). f p.0 p.1) same

plain : {R : Type 0} (t : Bool) (e : R) (f : ℕ → ℕ → R) (a b m : ℕ) → cond t None (found a 1) ≡ found b m → cond t e (f a 1) ≡ f b m
plain true e f a b m h = absurd (none-some (b, m) h)
plain false e f a b m h = at_item f a 1 b m h

escape : (t : Bool) (o : Option ℕ) (e : UidFault) (f : ℕ → ℕ → Result (List ℕ) UidFault) (a b m : ℕ)
    → cond t (option_map of_three o) (found a 1) ≡ found b m → cond t (ok_or o e >>= λ byte. f byte 3) (f a 1) ≡ f b m
escape true None e f a b m h = absurd (none-some (b, m) h)
escape true (Some byte) e f a b m h = at_item f byte 3 b m h
escape false o e f a b m h = at_item f a 1 b m h

-- one item is read, and then the rest
pub item_read : (done : List ℕ) (place : ℕ) (text : List ℕ) (byte n : ℕ) → item_of text ≡ found byte n → unescaped done place text ≡ unescaped (done ++ byte ∷ []) (place + n) (drop n text)
item_read done place [] byte n h = absurd (none-some (byte, n) h)
item_read done place (b ∷ []) byte n h = plain (b == 37) _ (λ x k. unescaped (done ++ x ∷ []) (place + k) (drop k (b ∷ []))) b byte n h
item_read done place (b ∷ c ∷ []) byte n h = plain (b == 37) _ (λ x k. unescaped (done ++ x ∷ []) (place + k) (drop k (b ∷ c ∷ []))) b byte n h
item_read done place (b ∷ c ∷ d ∷ rest) byte n h =
    escape (b == 37) (byte_of c d) (BadEscape place) (λ x k. unescaped (done ++ x ∷ []) (place + k) (drop k (b ∷ c ∷ d ∷ rest))) b byte n h

no_plain : {R : Type 0} (t : Bool) (e x : R) (a : ℕ) → cond t None (found a 1) ≡ None → cond t e x ≡ e
no_plain true e x a h = refl
no_plain false e x a h = absurd (none-some (a, 1) (sym h))

no_escape : (t : Bool) (o : Option ℕ) (e : UidFault) (f : ℕ → Result (List ℕ) UidFault) (x : Result (List ℕ) UidFault) (a : ℕ)
    → cond t (option_map of_three o) (found a 1) ≡ None → cond t (ok_or o e >>= f) x ≡ Err e
no_escape true None e f x a h = refl
no_escape true (Some byte) e f x a h = absurd (none-some (byte, 3) (sym h))
no_escape false o e f x a h = absurd (none-some (a, 1) (sym h))

-- a % that begins no escape
pub item_refused : (done : List ℕ) (place : ℕ) (text : List ℕ) → 0 < length text → item_of text ≡ None → unescaped done place text ≡ Err (BadEscape place)
item_refused done place [] some h = absurd (omega arith)
item_refused done place (b ∷ []) some h = no_plain (b == 37) (Err (BadEscape place)) _ b h
item_refused done place (b ∷ c ∷ []) some h = no_plain (b == 37) (Err (BadEscape place)) _ b h
item_refused done place (b ∷ c ∷ d ∷ rest) some h = no_escape (b == 37) (byte_of c d) (BadEscape place) _ _ b h

-- one more item of a part, from the i-th byte on
pub item_next : (done new : List ℕ) (place i n byte : ℕ) (text : List ℕ) (all : Result (List ℕ) UidFault)
    → item_of (drop i text) ≡ Some (byte, n) → new ≡ done ++ byte ∷ [] → unescaped done (place + i) (drop i text) ≡ all
    → unescaped new (place + (i + n)) (drop (i + n) text) ≡ all
item_next done new place i n byte text all item new_is so_far =
    let here : place + (i + n) ≡ place + i + n = omega arith in
    ap (λ l. unescaped l (place + (i + n)) (drop (i + n) text)) new_is
    ∙ ap (λ k. unescaped (done ++ byte ∷ []) k (drop (i + n) text)) here
    ∙ ap (unescaped (done ++ byte ∷ []) (place + i + n)) (sym (drop-drop n i text))
    ∙ sym (item_read done (place + i) (drop i text) byte n item)
    ∙ so_far
