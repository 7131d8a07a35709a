-- An attribute that is read is one that may be written, and says what was read.
use borrow.Author.Tests.{tests}
use Rattle.std.proofs.Common.{rules, ◌≡◌, ◌≢◌, ℕ, zero, suc, ◌+◌, ◌<◌, ◌≤◌, ◌⊎◌, inl, inr, ◌&&◌, List, [], ◌∷◌, ◌++◌, length, take, drop, codes, Bool, true, false, cond, not, Option, Some, None, Result, Ok, Err, refl, ap, ap₂, sym, subst, ◌∙◌, arith}
use Rattle.std.specs.Prelude.{◌==◌, nat_le, if◌then◌else◌}
use Rattle.std.specs.Option.{is_some}
use Rattle.std.specs.List.{AllByRecursion, before_first, after_first, position_or_len}
use Rattle.std.specs.Str.{trim, bytes_eq}
use Rattle.std.specs.Str.Parse.{digits_value}
use Rattle.std.proofs.lemmas.Bool.{and_parts, false≢true}
use Rattle.std.proofs.lemmas.Bool.Decides.{Decides-eqb}
use Rattle.std.proofs.lemmas.Slice.Eq.{bytes_eq-Decides, ends_is}
use Rattle.tag_expr.specs.declared.fault.TagFault.{TagFault}
use Rattle.tag_expr.specs.Tags.{tag_refusal}
use Rattle.tag_expr.specs.TagSets.{with_tag}
use Rattle.descriptor.specs.declared.lock.Lock.{Lock}
use Rattle.descriptor.specs.declared.mode.Mode.{Mode}
use Rattle.descriptor.specs.declared.mode.Mode.TheVariants.{SameThread, Concurrent}
use Rattle.resource_locks.specs.LockSets.{put}
use Rattle.unique_id.specs.Answers.{◌>>=◌}
use Rattle.suite_words.specs.declared.suite.attributes.Attribute as kinds
use Rattle.suite_words.specs.declared.suite.attributes.Attribute.TheVariants as found
use Rattle.suite_words.specs.declared.suite.attributes.Attributes.{Attributes}
use Rattle.suite_words.specs.declared.suite.fault.SuiteFault.{SuiteFault}
use Rattle.suite_words.specs.declared.suite.fault.SuiteFault.TheVariants.{BadLine}
use Rattle.suite_words.specs.declared.suite.words.Word.{Word}
use Rattle.suite_words.specs.declared.suite.words.Word.TheVariants.{Engine, Class, Test, Factory, Dyn}
use Rattle.suite_words.specs.Numbers.{is_number, number_up_to}
use Rattle.suite_words.specs.Reading.Attributes.{after_sign, takes_tags, may_declare, declaration_in, attribute_of, with_tag_of, with_spin_of, with_slow_of, with_pulls_of, with_mode, with_attribute}
use Rattle.suite_words.specs.Reading.Lines.{begins_with_sign}
use Rattle.suite_words.specs.Reading.Locks.{ends_in, lock_of, with_lock_of}
use Rattle.suite_words.specs.Reading.Pulls.{is_pulls}
use Rattle.suite_words.specs.Reading.Slow.{is_slow, some_or_bad_line, limit_of}
use Rattle.suite_words.specs.Reading.Spins.{is_equals_sign, key_of, value_of, is_spin, or_bad_line, count_of}
use Rattle.suite_words.specs.Words.{is_space}
use Rattle.suite_text.specs.Writing.Lines.{IsWord, LockSign, Plain, Reads, Writes, sign_text, sign_mode, MaySign, Said, Tagged, Counts, Slows, Registers, Runs, Locks, Alone, said_text, said_also, IsTestWord, MaySay}
use Rattle.suite_words.specs.Grammar.{mode_text}
use Rattle.suite_words.proofs.Reading.Locks.{ends}
use Rattle.suite_text.proofs.Writing.Cuts.{drop_next}
use Rattle.suite_text.proofs.Writing.Locks.{lock_is}
use Rattle.suite_text.proofs.Writing.Words.{Unspaced}

-- Of options and of results by cases.
pub chosen_some : {X : Type 0} (P : X → Type 0) (b : Bool) (x : X) (rest : Option X) → (b ≡ true → P x) → ((y : X) → rest ≡ Some y → P y) → (y : X) → (if b then Some x else rest) ≡ Some y → P y
chosen_some P true x rest h k y e = let same : x ≡ y = cc in subst P same (h refl)
chosen_some P false x rest h k y e = k y e

pub ok_then : {A B F : Type 0} (r : Result A F) (f : A → Result B F) (y : B) → (r >>= f) ≡ Ok y → (x : A) × (r ≡ Ok x) × (f x ≡ Ok y)
ok_then (Ok x) f y e = (x, refl, e)
ok_then (Err fault) f y e = absurd (cc)

pub ok_else : {A F : Type 0} (b : Bool) (fault : F) (r : Result A F) (y : A) → (if b then Err fault else r) ≡ Ok y → (b ≡ false) × (r ≡ Ok y)
ok_else true fault r y e = absurd (cc)
ok_else false fault r y e = (refl, e)

pub ok_same : {A F : Type 0} (r : Result A F) (x y : A) → r ≡ Ok x → r ≡ Ok y → y ≡ x
ok_same r x y d e = cc

pub spelled : (text word : List ℕ) → bytes_eq text word ≡ true → text ≡ word
spelled text word e = (bytes_eq-Decides text word).0 e

none_is : {X : Type 0} (o : Option X) → is_some o ≡ false → o ≡ None
none_is None e = refl
none_is (Some x) e = absurd (cc)

pub zero_empty : {X : Type 0} (xs : List X) → (length xs == 0) ≡ true → xs ≡ []
zero_empty [] e = refl
zero_empty (x ∷ xs) e = absurd (let none = (Decides-eqb (length (x ∷ xs)) 0).0 e in omega (arith, none))

pub some_length : {X : Type 0} (xs : List X) → (length xs == 0) ≡ false → 0 < length xs
some_length [] e = absurd (cc)
some_length (x ∷ xs) e = omega arith

-- Which attribute a token is.
abbrev Means : Word → List ℕ → kinds.Attribute → Type 0
Means w text found.Tag = (takes_tags w && begins_with_sign text) ≡ true
Means w text found.Spin = is_spin w (key_of text) ≡ true
Means w text found.Slow = is_slow w (key_of text) ≡ true
Means w text found.Pulls = is_pulls w (key_of text) ≡ true
Means w text (found.Runs mode) = (may_declare w ≡ true) × (text ≡ mode_text mode)
Means w text found.Lock = (may_declare w ≡ true) × (key_of text ≡ codes "lock")
Means w text found.Isolated = (may_declare w ≡ true) × (text ≡ codes "isolated")

declared_by : (w : Word) (text : List ℕ) (b : Bool) → may_declare w ≡ b → (a : kinds.Attribute) → (if b then declaration_in text (key_of text) else None) ≡ Some a → Means w text a
declared_by w text false may a e = absurd (cc)
declared_by w text true may a e =
    chosen_some (Means w text) (bytes_eq text (codes "@concurrent")) (found.Runs Concurrent) _ (λ is. (may, spelled text (codes "@concurrent") is))
    (chosen_some (Means w text) (bytes_eq text (codes "@same_thread")) (found.Runs SameThread) _ (λ is. (may, spelled text (codes "@same_thread") is))
    (chosen_some (Means w text) (bytes_eq text (codes "isolated")) found.Isolated _ (λ is. (may, spelled text (codes "isolated") is))
    (chosen_some (Means w text) (bytes_eq (key_of text) (codes "lock")) found.Lock _ (λ is. (may, spelled (key_of text) (codes "lock") is)) (λ y no. absurd (cc)))))
    a e

means : (w : Word) (text : List ℕ) (a : kinds.Attribute) → attribute_of w text ≡ Some a → Means w text a
means w text =
    chosen_some (Means w text) (takes_tags w && begins_with_sign text) found.Tag _ (λ is. is)
    (chosen_some (Means w text) (is_spin w (key_of text)) found.Spin _ (λ is. is)
    (chosen_some (Means w text) (is_slow w (key_of text)) found.Slow _ (λ is. is)
    (chosen_some (Means w text) (is_pulls w (key_of text)) found.Pulls _ (λ is. is) (declared_by w text (may_declare w) refl))))

-- A token at its equals sign.
equals_by : (b : ℕ) (bs : List ℕ) (z : Bool) → is_equals_sign b ≡ z → (bs ≡ key_of bs ++ (61 ∷ value_of bs)) ⊎ (value_of bs ≡ []) → (b ∷ bs ≡ key_of (b ∷ bs) ++ (61 ∷ value_of (b ∷ bs))) ⊎ (value_of (b ∷ bs) ≡ [])
equals_by b bs true e more =
    let at : position_or_len is_equals_sign (b ∷ bs) ≡ 0 = ap (λ z. cond (not z) (1 + position_or_len is_equals_sign bs) 0) e in
    inl (ap (λ x. x ∷ bs) ((Decides-eqb b 61).0 e) ∙ ap (λ k. take k (b ∷ bs) ++ (61 ∷ drop (k + 1) (b ∷ bs))) (sym at))
equals_by b bs false e more =
    let one = ap (λ z. cond (not z) (1 + position_or_len is_equals_sign bs) 0) e in
    let at : position_or_len is_equals_sign (b ∷ bs) ≡ suc (position_or_len is_equals_sign bs) = omega (arith, one) in
    elim more [
      | inl is ↦ inl (ap (λ l. b ∷ l) is ∙ ap (λ v. b ∷ (key_of bs ++ (61 ∷ v))) (sym (drop_next (position_or_len is_equals_sign bs) b bs)) ∙ ap (λ k. take k (b ∷ bs) ++ (61 ∷ drop (k + 1) (b ∷ bs))) (sym at))
      | inr none ↦ inr (ap (λ k. drop (k + 1) (b ∷ bs)) at ∙ drop_next (position_or_len is_equals_sign bs) b bs ∙ none)
    ]

equals_at : (text : List ℕ) → (text ≡ key_of text ++ (61 ∷ value_of text)) ⊎ (value_of text ≡ [])
equals_at [] = inr refl
equals_at (b ∷ bs) = equals_by b bs (is_equals_sign b) refl (equals_at bs)

with_value : (text key : List ℕ) → key_of text ≡ key → 0 < length (value_of text) → text ≡ key ++ (61 ∷ value_of text)
with_value text key is some = elim (equals_at text) [
  | inl e ↦ e ∙ ap (λ k. k ++ (61 ∷ value_of text)) is
  | inr none ↦ absurd (let empty = ap length none in omega (arith, empty, some))
]

-- A number.
record IsCount (most : ℕ) (digits : List ℕ) (n : ℕ) : Type 0 where
  pub number : is_number digits ≡ true
  pub within : digits_value 10 digits ≤ most
  pub value : n ≡ digits_value 10 digits

le_is : (a b : ℕ) → nat_le a b ≡ true → a ≤ b
le_is a b e = search (rules, tests)

count_by : (number most : ℕ) (digits : List ℕ) (n : ℕ) (z : Bool) → (is_number digits && nat_le (digits_value 10 digits) most) ≡ z → or_bad_line number (if z then Some (digits_value 10 digits) else None) ≡ Ok n → IsCount most digits n
count_by number most digits n true is e =
    let both = and_parts (is_number digits) (nat_le (digits_value 10 digits) most) is in
    record { number = both.0; within = le_is (digits_value 10 digits) most both.1; value = ok_same _ (digits_value 10 digits) n refl e }
count_by number most digits n false is e = absurd (cc)

count_is : (number most : ℕ) (digits : List ℕ) (n : ℕ) → count_of number most digits ≡ Ok n → IsCount most digits n
count_is number most digits n e = count_by number most digits n (is_number digits && nat_le (digits_value 10 digits) most) refl e

number_some : (digits : List ℕ) → is_number digits ≡ true → 0 < length digits
number_some [] e = absurd (cc)
number_some (d ∷ digits) e = omega arith

-- A number that is not zero.
record IsLimit (digits : List ℕ) (n : ℕ) : Type 0 where
  pub count : IsCount 86400000 digits n
  pub some : 0 < digits_value 10 digits

above_zero : (n : ℕ) → (n == 0) ≡ false → 0 < n
above_zero zero e = absurd (cc)
above_zero (suc n) e = omega arith

limit_is : (number : ℕ) (digits : List ℕ) (n : ℕ) → limit_of number digits ≡ Ok n → IsLimit digits n
limit_is number digits n e =
    let read = ok_then (count_of number 86400000 digits) (λ limit. some_or_bad_line number limit) n e in
    let some = ok_else (read.0 == 0) (BadLine number) (Ok read.0) n read.2 in
    let count = count_is number 86400000 digits read.0 read.1 in
    record {
      count = record { number = count.number; within = count.within; value = ok_same _ read.0 n refl some.1 ∙ count.value };
      some = subst (λ (x : ℕ). 0 < x) count.value (above_zero read.0 some.0);
    }

-- The value of a lock.
record IsLock (value : List ℕ) : Type 0 where
  pub key : List ℕ
  pub sign : LockSign
  pub text : value ≡ key ++ sign_text sign
  pub may : MaySign key sign

ends_so : (text end : List ℕ) → ends_in text end ≡ true → (front : List ℕ) × (text ≡ front ++ end)
ends_so text end e = (_, (ends_is Decides-eqb text end _ refl).0 e)

ends_never : (text end : List ℕ) → ends_in text end ≡ false → (front : List ℕ) → text ≢ front ++ end
ends_never text end off front e = false≢true (sym off ∙ ends text front end e)

lock_by : (value : List ℕ) (reads writes : Bool) → ends_in value (codes ":r") ≡ reads → ends_in value (codes ":rw") ≡ writes → IsLock value
lock_by value true writes r w = let front = ends_so value (codes ":r") r in record { key = front.0; sign = Reads; text = front.1; may = tt }
lock_by value false true r w = let front = ends_so value (codes ":rw") w in record { key = front.0; sign = Writes; text = front.1; may = tt }
lock_by value false false r w = record { key = value; sign = Plain; text = sym (append_nil value); may = (ends_never value (codes ":r") r, ends_never value (codes ":rw") w) }
  where
    append_nil : (l : List ℕ) → l ++ [] ≡ l
    append_nil [] = refl
    append_nil (x ∷ l) = ap (λ m. x ∷ m) (append_nil l)

is_lock : (value : List ℕ) → IsLock value
is_lock value = lock_by value _ _ refl refl

unspaced_front : (xs ys : List ℕ) → Unspaced (xs ++ ys) → Unspaced xs
unspaced_front [] ys h = tt
unspaced_front (x ∷ xs) ys h = (h.0, unspaced_front xs ys h.1)

unspaced_back : (xs ys : List ℕ) → Unspaced (xs ++ ys) → Unspaced ys
unspaced_back [] ys h = h
unspaced_back (x ∷ xs) ys h = unspaced_back xs ys h.1

-- What is said.
pub record IsSaid (w : Word) (before next : Attributes) (text : List ℕ) : Type 0 where
  pub said : Said
  pub text_is : text ≡ said_text said
  pub may : MaySay w before said
  pub next_is : next ≡ said_also before said

tag_by : (number : ℕ) (w : Word) (before next : Attributes) (tag : List ℕ) (refused : Option TagFault) → tag_refusal tag ≡ refused → Unspaced tag → takes_tags w ≡ true
    → (if is_some refused then Err (BadLine number) else Ok (said_also before (Tagged tag))) ≡ Ok next → IsSaid w before next (35 ∷ tag)
tag_by number w before next tag None is word takes e = record { said = Tagged tag; text_is = refl; may = (word, is, takes); next_is = ok_same _ (said_also before (Tagged tag)) next refl e }
tag_by number w before next tag (Some fault) is word takes e = absurd (cc)

tag_said : (number : ℕ) (w : Word) (before next : Attributes) (text : List ℕ) → Unspaced text → begins_with_sign text ≡ true → takes_tags w ≡ true → with_tag_of number before (after_sign text) ≡ Ok next → IsSaid w before next text
tag_said number w before next [] word sign takes e = absurd (cc)
tag_said number w before next (b ∷ tag) word sign takes e =
    let is : b ≡ 35 = (Decides-eqb b 35).0 sign in
    let after : after_sign (b ∷ tag) ≡ tag = ap (λ x. after_sign (x ∷ tag)) is in
    subst (λ (x : ℕ). IsSaid w before next (x ∷ tag)) (sym is)
    (tag_by number w before next tag (tag_refusal tag) refl word.1 takes (sym (ap (with_tag_of number before) after) ∙ e))

spin_word : (w : Word) (key : List ℕ) → is_spin w key ≡ true → IsTestWord w × (key ≡ codes "spin")
spin_word Engine key e = absurd (false≢true e)
spin_word Class key e = absurd (false≢true e)
spin_word Test key e = (tt, spelled key (codes "spin") e)
spin_word Factory key e = absurd (false≢true e)
spin_word Dyn key e = (tt, spelled key (codes "spin") e)

spin_said : (number : ℕ) (w : Word) (before next : Attributes) (text : List ℕ) → is_spin w (key_of text) ≡ true → with_spin_of number before (value_of text) ≡ Ok next → IsSaid w before next text
spin_said number w before next text is e =
    let word = spin_word w (key_of text) is in
    let once = ok_else (is_some before.spin) (BadLine number) _ next e in
    let count = ok_then (count_of number 1000000 (value_of text)) (λ spin. Ok (record before { spin = Some spin })) next once.1 in
    let digits = count_is number 1000000 (value_of text) count.0 count.1 in
    record {
      said = Counts (value_of text);
      text_is = with_value text (codes "spin") word.1 (number_some (value_of text) digits.number);
      may = (word.0, none_is before.spin once.0, digits.number, digits.within);
      next_is = ok_same _ _ next refl count.2 ∙ ap (λ n. record before { spin = Some n }) digits.value;
    }

slow_word : (w : Word) (key : List ℕ) → is_slow w key ≡ true → IsTestWord w × (key ≡ codes "@slow")
slow_word Engine key e = absurd (false≢true e)
slow_word Class key e = absurd (false≢true e)
slow_word Test key e = (tt, spelled key (codes "@slow") e)
slow_word Factory key e = absurd (false≢true e)
slow_word Dyn key e = (tt, spelled key (codes "@slow") e)

slow_said : (number : ℕ) (w : Word) (before next : Attributes) (text : List ℕ) → is_slow w (key_of text) ≡ true → with_slow_of number before (value_of text) ≡ Ok next → IsSaid w before next text
slow_said number w before next text is e =
    let word = slow_word w (key_of text) is in
    let once = ok_else (is_some before.slow) (BadLine number) _ next e in
    let limit = ok_then (limit_of number (value_of text)) (λ limit. Ok (record before { slow = Some limit })) next once.1 in
    let digits = limit_is number (value_of text) limit.0 limit.1 in
    record {
      said = Slows (value_of text);
      text_is = with_value text (codes "@slow") word.1 (number_some (value_of text) digits.count.number);
      may = (word.0, none_is before.slow once.0, digits.count.number, digits.count.within, digits.some);
      next_is = ok_same _ _ next refl limit.2 ∙ ap (λ n. record before { slow = Some n }) digits.count.value;
    }

pulls_word : (w : Word) (key : List ℕ) → is_pulls w key ≡ true → (w ≡ Factory) × (key ≡ codes "pulls")
pulls_word Engine key e = absurd (false≢true e)
pulls_word Class key e = absurd (false≢true e)
pulls_word Test key e = absurd (false≢true e)
pulls_word Factory key e = (refl, spelled key (codes "pulls") e)
pulls_word Dyn key e = absurd (false≢true e)

pulls_said : (number : ℕ) (w : Word) (before next : Attributes) (text : List ℕ) → is_pulls w (key_of text) ≡ true → with_pulls_of number before (value_of text) ≡ Ok next → IsSaid w before next text
pulls_said number w before next text is e =
    let word = pulls_word w (key_of text) is in
    let once = ok_else (is_some before.pulls) (BadLine number) _ next e in
    let count = ok_then (count_of number 4096 (value_of text)) (λ pulls. Ok (record before { pulls = Some pulls })) next once.1 in
    let digits = count_is number 4096 (value_of text) count.0 count.1 in
    record {
      said = Registers (value_of text);
      text_is = with_value text (codes "pulls") word.1 (number_some (value_of text) digits.number);
      may = (word.0, none_is before.pulls once.0, digits.number, digits.within);
      next_is = ok_same _ _ next refl count.2 ∙ ap (λ n. record before { pulls = Some n }) digits.value;
    }

runs_said : (number : ℕ) (w : Word) (before next : Attributes) (text : List ℕ) (mode : Mode) → may_declare w ≡ true → text ≡ mode_text mode → with_mode number before mode ≡ Ok next → IsSaid w before next text
runs_said number w before next text mode may is e =
    let once = ok_else (is_some before.mode) (BadLine number) (Ok (record before { mode = Some mode })) next e in
    record { said = Runs mode; text_is = is; may = (may, none_is before.mode once.0); next_is = ok_same _ (record before { mode = Some mode }) next refl once.1 }

some_value : (value : List ℕ) → 0 < length (lock_of value).key → 0 < length value
some_value [] h = h
some_value (b ∷ value) h = omega arith

lock_said : (number : ℕ) (w : Word) (before next : Attributes) (text : List ℕ) → Unspaced text → may_declare w ≡ true → key_of text ≡ codes "lock"
    → (with_lock_of number before.locks (value_of text) >>= (λ locks. Ok (record before { locks = locks }))) ≡ Ok next → IsSaid w before next text
lock_said number w before next text word may is e =
    let value = value_of text in
    let lock = is_lock value in
    let named = lock_is lock.key lock.sign lock.may in
    let same : lock_of value ≡ record { key = lock.key; mode = sign_mode lock.sign } = ap lock_of lock.text ∙ named in
    let put_in = ok_then (with_lock_of number before.locks value) (λ locks. Ok (record before { locks = locks })) next e in
    let keyed = ok_else (length (lock_of value).key == 0) (BadLine number) (Ok (put (lock_of value) before.locks)) put_in.0 put_in.1 in
    let some : 0 < length (lock_of value).key = some_length (lock_of value).key keyed.0 in
    let whole : text ≡ codes "lock" ++ (61 ∷ value) = with_value text (codes "lock") is (some_value value some) in
    let all : text ≡ codes "lock=" ++ (lock.key ++ sign_text lock.sign) = whole ∙ ap (λ v. codes "lock=" ++ v) lock.text in
    record {
      said = Locks lock.key lock.sign;
      text_is = all;
      may = (
        may,
        (subst (λ (l : Lock). 0 < length l.key) same some, unspaced_front lock.key (sign_text lock.sign) (unspaced_back (codes "lock=") (lock.key ++ sign_text lock.sign) (subst Unspaced all word))),
        lock.may,
      );
      next_is = ok_same _ (record before { locks = put_in.0 }) next refl put_in.2
          ∙ ap (λ l. record before { locks = l }) (ok_same _ (put (lock_of value) before.locks) put_in.0 refl keyed.1 ∙ ap (λ l. put l before.locks) same);
    }

said_by : (number : ℕ) (w : Word) (before next : Attributes) (text : List ℕ) (a : kinds.Attribute) → Unspaced text → Means w text a → with_attribute number before text a ≡ Ok next → IsSaid w before next text
said_by number w before next text found.Tag word is e = let both = and_parts (takes_tags w) (begins_with_sign text) is in tag_said number w before next text word both.1 both.0 e
said_by number w before next text found.Spin word is e = spin_said number w before next text is e
said_by number w before next text found.Slow word is e = slow_said number w before next text is e
said_by number w before next text found.Pulls word is e = pulls_said number w before next text is e
said_by number w before next text (found.Runs mode) word is e = runs_said number w before next text mode is.0 is.1 e
said_by number w before next text found.Lock word is e = lock_said number w before next text word is.0 is.1 e
said_by number w before next text found.Isolated word is e = record { said = Alone; text_is = is.1; may = is.0; next_is = ok_same _ (record before { isolated = true }) next refl e }

pub said_so : (number : ℕ) (w : Word) (before next : Attributes) (text : List ℕ) (a : kinds.Attribute) → Unspaced text → attribute_of w text ≡ Some a → with_attribute number before text a ≡ Ok next → IsSaid w before next text
said_so number w before next text a word is e = said_by number w before next text a word (means w text a is) e
