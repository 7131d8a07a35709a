-- The value of a lock is read as it is written.
use Rattle.std.proofs.Common.{◌≡◌, ◌≢◌, ℕ, ◌<◌, ◌==◌, List, [], ◌∷◌, ◌++◌, length, if◌then◌else◌, Ok, Err, codes, refl, ap, sym, ◌∙◌, arith, length-append, append-nil}
use Rattle.std.specs.Prelude.{slice_index_or}
use Rattle.std.proofs.lemmas.Bool.{ne_eqb}
use Rattle.std.proofs.lemmas.List.{append_assoc, take_at}
use Rattle.descriptor.specs.declared.lock.Lock.{Lock}
use Rattle.resource_locks.specs.LockSets.{put}
use Rattle.suite_words.specs.declared.suite.fault.SuiteFault.TheVariants.{BadLine}
use Rattle.suite_words.specs.Reading.Locks.{without_last, lock_of, with_lock_of}
use Rattle.suite_text.specs.Writing.Lines.{LockSign, Plain, Reads, Writes, sign_text, sign_mode, MaySign}
use Rattle.suite_words.proofs.Reading.Locks.{ends, ends_not, plain_is}
use Rattle.suite_words.proofs.Lists.{get_last}

front_is : (n : ℕ) (front end : List ℕ) → length end ≡ n → without_last n (front ++ end) ≡ front
front_is n front end e =
    let all = length-append front end in
    take_at front end _ (omega (arith, all, e))

-- `:rw` does not end in `:r`
last_differs : (key front : List ℕ) → key ++ codes ":rw" ≢ front ++ codes ":r"
last_differs key front e =
    let one : key ++ codes ":rw" ≡ (key ++ codes ":r") ++ 119 ∷ [] = sym (append_assoc key (codes ":r") (119 ∷ [])) in
    let other : front ++ codes ":r" ≡ (front ++ codes ":") ++ 114 ∷ [] = sym (append_assoc front (codes ":") (114 ∷ [])) in
    let same : (key ++ codes ":r") ++ 119 ∷ [] ≡ (front ++ codes ":") ++ 114 ∷ [] = sym one ∙ e ∙ other in
    let last = get_last (key ++ codes ":r") 119 in
    let last_too = get_last (front ++ codes ":") 114 in
    let long = length-append (key ++ codes ":r") (119 ∷ []) in
    let long_too = length-append (front ++ codes ":") (114 ∷ []) in
    let lengths = ap length same in
    let place : length (key ++ codes ":r") ≡ length (front ++ codes ":") = omega (arith, long, long_too, lengths) in
    let bytes : 119 ≡ 114 = sym last ∙ ap (λ l. slice_index_or l (length (key ++ codes ":r")) 0) same ∙ ap (λ k. slice_index_or ((front ++ codes ":") ++ 114 ∷ []) k 0) place ∙ last_too in
    absurd (omega (arith, bytes))

abbrev named : List ℕ → LockSign → Lock
named key sign = record { key = key; mode = sign_mode sign }

pub lock_is : (key : List ℕ) (sign : LockSign) → MaySign key sign → lock_of (key ++ sign_text sign) ≡ named key sign
lock_is key Plain may = ap lock_of (append-nil key) ∙ sym (plain_is key may.0 may.1)
lock_is key Reads may = rw (ends (key ++ codes ":r") key (codes ":r") refl) (ap (λ k. named k Reads) (front_is 2 key (codes ":r") refl))
lock_is key Writes may =
    rw (ends_not (key ++ codes ":rw") (codes ":r") (last_differs key), ends (key ++ codes ":rw") key (codes ":rw") refl) (ap (λ k. named k Writes) (front_is 3 key (codes ":rw") refl))

pub lock_back : (number : ℕ) (locks : List Lock) (key : List ℕ) (sign : LockSign) → 0 < length key → MaySign key sign → with_lock_of number locks (key ++ sign_text sign) ≡ Ok (put (named key sign) locks)
lock_back number locks key sign some may =
    ap (λ l. if length l.key == 0 then Err (BadLine number) else Ok (put l locks)) (lock_is key sign may)
    ∙ ap (λ b. if b then Err (BadLine number) else Ok (put (named key sign) locks)) (ne_eqb (length key) 0 (λ e. omega (arith, e, some)))
