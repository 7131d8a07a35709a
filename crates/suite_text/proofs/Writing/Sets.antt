-- A property's line that is read is one that may be written, and says what was read.
use Rattle.std.proofs.Common.{◌≡◌, ◌≢◌, ℕ, zero, suc, ◌+◌, ◌-◌, ◌<◌, ◌||◌, ◌⊎◌, inl, inr, List, [], ◌∷◌, ◌++◌, length, reverse, take, drop, codes, Bool, true, false, cond, not, Option, Some, None, Result, Ok, Err, refl, ap, ap₂, sym, subst, ◌∙◌, arith, append-nil}
use Rattle.std.specs.Prelude.{◌==◌, if◌then◌else◌}
use Rattle.std.specs.List.{AllByRecursion, list_any, before_first, after_first, position_or_len, prefix_len, suffix_len}
use Rattle.std.proofs.lemmas.Bool.Decides.{Decides-eqb}
use Rattle.std.proofs.lemmas.List.{append_assoc, reverse-append, reverse-reverse}
use Rattle.config_params.specs.declared.fault.ParamsFault.{ParamsFault}
use Rattle.config_params.specs.declared.fault.ParamsFault.TheVariants.{NoEquals, EmptyKey}
use Rattle.config_params.specs.Pairs as pairs
use Rattle.config_params.specs.Pairs.{Pair, is_equals_sign, begins_with_sign, key_of, value_of, pair_of, property_of}
use Rattle.config_params.specs.Parameters.{Parameters}
use Rattle.suite_words.specs.declared.suite.fault.SuiteFault.{SuiteFault}
use Rattle.suite_words.specs.Reading.Lines.{first_word, after_word}
use Rattle.suite_words.specs.Reading.Properties.{is_property, with_said, with_property}
use Rattle.suite_text.specs.Writing.Lines.{spaces}
use Rattle.suite_text.specs.Writing.Properties.{is_blank, AreBlanks, Between, between_text, IsBetween, IsKey, Property, Sets, Remarks, Bare, said_text, property_text, IsProperty, said_to}
use Rattle.suite_text.proofs.Trimmed.{from_front, to_end, front_passes, front_kept, end_is, pass_reverse}
use Rattle.suite_text.proofs.Writing.Cuts.{indent, drop_next, Parted, parted, follows_is}
use Rattle.suite_text.proofs.Writing.Said.{ok_else, ok_same, spelled, zero_empty, some_length}

-- What was taken off the ends of a text.
module _ (p : ℕ → Bool) where
  abbrev Pass : List ℕ → Type 0
  Pass text = AllByRecursion (λ byte. p byte ≡ true) text

  record Front (text : List ℕ) : Type 0 where
    pub front : List ℕ
    pub whole : text ≡ front ++ from_front p text
    pub passes : Pass front
    pub gone : prefix_len p (from_front p text) ≡ 0

  front_by : (b : ℕ) (bs : List ℕ) (z : Bool) → p b ≡ z → Front bs → Front (b ∷ bs)
  front_by b bs true e more =
      let one = ap (λ z. cond z (1 + prefix_len p bs) 0) e in
      let is : prefix_len p (b ∷ bs) ≡ suc (prefix_len p bs) = omega (arith, one) in
      let left : from_front p (b ∷ bs) ≡ from_front p bs = ap (λ k. drop k (b ∷ bs)) is in
      record { front = b ∷ more.front; whole = ap (λ l. b ∷ l) more.whole ∙ ap (λ l. b ∷ (more.front ++ l)) (sym left); passes = (e, more.passes); gone = ap (prefix_len p) left ∙ more.gone }
  front_by b bs false e more =
      let is : prefix_len p (b ∷ bs) ≡ 0 = ap (λ z. cond z (1 + prefix_len p bs) 0) e in
      let left : from_front p (b ∷ bs) ≡ b ∷ bs = ap (λ k. drop k (b ∷ bs)) is in
      record { front = []; whole = sym left; passes = tt; gone = ap (prefix_len p) left ∙ is }

  front_taken : (text : List ℕ) → Front text
  front_taken [] = record { front = []; whole = refl; passes = tt; gone = refl }
  front_taken (b ∷ bs) = front_by b bs (p b) refl (front_taken bs)

  kept_by : (b : ℕ) (bs more : List ℕ) (z : Bool) → p b ≡ z → prefix_len p (b ∷ (bs ++ more)) ≡ 0 → prefix_len p (b ∷ bs) ≡ 0
  kept_by b bs more true e h = let some = ap (λ z. cond z (1 + prefix_len p (bs ++ more)) 0) e in absurd (omega (arith, some, h))
  kept_by b bs more false e h = ap (λ z. cond z (1 + prefix_len p bs) 0) e

  kept : (text more : List ℕ) → prefix_len p (text ++ more) ≡ 0 → prefix_len p text ≡ 0
  kept [] more h = refl
  kept (b ∷ bs) more h = kept_by b bs more (p b) refl h

  record Ends (text : List ℕ) : Type 0 where
    pub front : List ℕ
    pub back : List ℕ
    pub whole : text ≡ front ++ (to_end p (from_front p text) ++ back)
    pub front_passes : Pass front
    pub back_passes : Pass back
    pub begins : prefix_len p (to_end p (from_front p text)) ≡ 0
    pub ends : suffix_len p (to_end p (from_front p text)) ≡ 0

  ends_taken : (text : List ℕ) → Ends text
  ends_taken text =
      let f = front_taken text in
      let middle = from_front p text in
      let turned = front_taken (reverse middle) in
      let own = reverse (from_front p (reverse middle)) in
      let back = reverse turned.front in
      let whole : middle ≡ own ++ back =
      sym (reverse-reverse middle) ∙ ap reverse turned.whole ∙ reverse-append turned.front (from_front p (reverse middle)) in
      let last : suffix_len p own ≡ 0 = ap (prefix_len p) (reverse-reverse (from_front p (reverse middle))) ∙ turned.gone in
      let passes : Pass back = pass_reverse p turned.front turned.passes in
      let is : to_end p middle ≡ own = ap (to_end p) whole ∙ end_is p own back passes last in
      record {
        front = f.front;
        back = back;
        whole = f.whole ∙ ap (λ l. f.front ++ l) (whole ∙ ap (λ l. l ++ back) (sym is));
        front_passes = f.passes;
        back_passes = passes;
        begins = kept (to_end p middle) back (sym (ap (prefix_len p) (whole ∙ ap (λ l. l ++ back) (sym is))) ∙ f.gone);
        ends = ap (suffix_len p) is ∙ last;
      }

abbrev between_of : List ℕ → Between
between_of text = let e = ends_taken is_blank text in record { front = e.front; text = to_end is_blank (from_front is_blank text); back = e.back }

is_between : (text : List ℕ) → IsBetween (between_of text)
is_between text = let e = ends_taken is_blank text in record { front = e.front_passes; back = e.back_passes; begins = e.begins; ends = e.ends }

-- Before the first equals sign.
abbrev HasNone : List ℕ → Type 0
HasNone text = AllByRecursion (λ byte. is_equals_sign byte ≡ false) text

record AtSign (text : List ℕ) : Type 0 where
  pub whole : text ≡ before_first is_equals_sign text ++ (61 ∷ after_first is_equals_sign text)
  pub none : HasNone (before_first is_equals_sign text)

sign_by : (b : ℕ) (bs : List ℕ) (z : Bool) → is_equals_sign b ≡ z → list_any is_equals_sign (b ∷ bs) ≡ true → (list_any is_equals_sign bs ≡ true → AtSign bs) → AtSign (b ∷ bs)
sign_by b bs true e any more =
    let at : position_or_len is_equals_sign (b ∷ bs) ≡ 0 = ap (λ z. cond (not z) (1 + position_or_len is_equals_sign bs) 0) e in
    record {
      whole = ap (λ x. x ∷ bs) ((Decides-eqb b 61).0 e) ∙ ap (λ k. take k (b ∷ bs) ++ (61 ∷ drop (k + 1) (b ∷ bs))) (sym at);
      none = subst HasNone (sym (ap (λ k. take k (b ∷ bs)) at)) tt;
    }
sign_by b bs false e any more =
    let one = ap (λ z. cond (not z) (1 + position_or_len is_equals_sign bs) 0) e in
    let at : position_or_len is_equals_sign (b ∷ bs) ≡ suc (position_or_len is_equals_sign bs) = omega (arith, one) in
    let rest = more (sym (ap (λ z. z || list_any is_equals_sign bs) e) ∙ any) in
    record {
      whole = ap (λ l. b ∷ l) rest.whole ∙ ap (λ v. b ∷ (before_first is_equals_sign bs ++ (61 ∷ v))) (sym (drop_next (position_or_len is_equals_sign bs) b bs)) ∙ ap (λ k. take k (b ∷ bs) ++ (61 ∷ drop (k + 1) (b ∷ bs))) (sym at);
      none = subst HasNone (sym (ap (λ k. take k (b ∷ bs)) at)) (e, rest.none);
    }

at_sign : (text : List ℕ) → list_any is_equals_sign text ≡ true → AtSign text
at_sign [] any = absurd (cc)
at_sign (b ∷ bs) any = sign_by b bs (is_equals_sign b) refl any (λ h. at_sign bs h)

none_within : (xs ys : List ℕ) → HasNone (xs ++ ys) → HasNone xs × HasNone ys
none_within [] ys h = (tt, h)
none_within (x ∷ xs) ys h = let more = none_within xs ys h.1 in ((h.0, more.0), more.1)

-- A key does not begin as a comment.
sign_less : (text more : List ℕ) → 0 < length text → begins_with_sign (text ++ more) ≡ false → begins_with_sign text ≡ false
sign_less [] more some h = absurd (omega (arith, some))
sign_less (b ∷ bs) more some h = h

-- What a text behind the keyword says.
record IsRead (number : ℕ) (params next : Parameters) (text : List ℕ) : Type 0 where
  pub property : Property
  pub is : IsProperty property
  pub text_is : 32 ∷ text ≡ said_text property
  pub next_is : next ≡ said_to params property

comment_by : (text : List ℕ) → ((length text == 0) ≡ true) ⊎ (begins_with_sign text ≡ true) → (text ≡ []) ⊎ ((rest : List ℕ) × (text ≡ 35 ∷ rest))
comment_by text (inl h) = inl (zero_empty text h)
comment_by [] (inr h) = inl refl
comment_by (b ∷ bs) (inr h) = inr (bs, ap (λ x. x ∷ bs) ((Decides-eqb b 35).0 h))

either : (a b : Bool) → (a || b) ≡ true → (a ≡ true) ⊎ (b ≡ true)
either true b e = inl refl
either false b e = inr e

neither : (a b : Bool) → (a || b) ≡ false → (a ≡ false) × (b ≡ false)
neither true b e = absurd (cc)
neither false b e = (refl, e)

remark_read : (number : ℕ) (params next : Parameters) (text : List ℕ) → pairs.says_nothing text ≡ true → with_said params (Ok None) ≡ Ok next → IsRead number params next text
remark_read number params next text says e =
    let f = front_taken is_blank text in
    record {
      property = Remarks f.front (from_front is_blank text);
      is = (f.passes, comment_by (from_front is_blank text) (either (length (from_front is_blank text) == 0) (begins_with_sign (from_front is_blank text)) says));
      text_is = ap (λ l. 32 ∷ l) f.whole;
      next_is = ok_same _ params next refl e;
    }

kept_front : (key : Between) (more : List ℕ) → IsBetween key → 0 < length key.text → (text : List ℕ) → text ≡ between_text key ++ more → from_front is_blank text ≡ key.text ++ (key.back ++ more)
kept_front key more is some text whole =
    ap (from_front is_blank) (whole ∙ append_assoc key.front (key.text ++ key.back) more)
    ∙ front_passes is_blank key.front ((key.text ++ key.back) ++ more) is.front
    ∙ ap (from_front is_blank) (append_assoc key.text key.back more)
    ∙ by key.text some is.begins
  where
    by : (k : List ℕ) → 0 < length k → prefix_len is_blank k ≡ 0 → from_front is_blank (k ++ (key.back ++ more)) ≡ k ++ (key.back ++ more)
    by [] some begins = absurd (omega (arith, some))
    by (x ∷ xs) some begins = front_kept is_blank x xs (key.back ++ more) begins

sets_read : (number : ℕ) (params next : Parameters) (text : List ℕ) → pairs.says_nothing text ≡ false → list_any is_equals_sign text ≡ true → (length (key_of text) == 0) ≡ false
    → with_said params (Ok (Some (key_of text, value_of text))) ≡ Ok next → IsRead number params next text
sets_read number params next text says any some e =
    let at = at_sign text any in
    let before = before_first is_equals_sign text in
    let key = between_of before in
    let value = between_of (after_first is_equals_sign text) in
    let ends = ends_taken is_blank before in
    let whole : text ≡ between_text key ++ (61 ∷ between_text value) = at.whole ∙ ap₂ (λ a b. a ++ (61 ∷ b)) ends.whole (ends_taken is_blank (after_first is_equals_sign text)).whole in
    let none = none_within key.front (key.text ++ key.back) (subst HasNone ends.whole at.none) in
    let more : from_front is_blank text ≡ key.text ++ (key.back ++ (61 ∷ between_text value)) = kept_front key (61 ∷ between_text value) (is_between before) (some_length key.text some) text whole in
    let sign = (neither (length (from_front is_blank text) == 0) (begins_with_sign (from_front is_blank text)) says).1 in
    record {
      property = Sets key value;
      is = (
        record {
          between = is_between before;
          some = some_length key.text some;
          no_sign = sign_less key.text (key.back ++ (61 ∷ between_text value)) (some_length key.text some) (sym (ap begins_with_sign more) ∙ sign);
          no_equals = (none_within key.text key.back none.1).0;
        },
        is_between (after_first is_equals_sign text),
      );
      text_is = ap (λ l. 32 ∷ l) whole;
      next_is = ok_same _ (said_to params (Sets key value)) next refl e;
    }

by_key : (number : ℕ) (params next : Parameters) (text : List ℕ) → pairs.says_nothing text ≡ false → list_any is_equals_sign text ≡ true → (b : Bool) → (length (key_of text) == 0) ≡ b
    → with_said params (pairs.said (if b then Err (EmptyKey number) else Ok (key_of text, value_of text))) ≡ Ok next → IsRead number params next text
by_key number params next text says any true some e = absurd (cc)
by_key number params next text says any false some e = sets_read number params next text says any some e

by_sign : (number : ℕ) (params next : Parameters) (text : List ℕ) → pairs.says_nothing text ≡ false → (b : Bool) → list_any is_equals_sign text ≡ b
    → with_said params (pairs.said (if not b then Err (NoEquals number) else (if length (key_of text) == 0 then Err (EmptyKey number) else Ok (key_of text, value_of text)))) ≡ Ok next → IsRead number params next text
by_sign number params next text says false any e = absurd (cc)
by_sign number params next text says true any e = by_key number params next text says any (length (key_of text) == 0) refl e

by_says : (number : ℕ) (params next : Parameters) (text : List ℕ) (b : Bool) → pairs.says_nothing text ≡ b → with_said params (if b then Ok None else pairs.said (pair_of number text)) ≡ Ok next → IsRead number params next text
by_says number params next text true says e = remark_read number params next text says e
by_says number params next text false says e = by_sign number params next text says (list_any is_equals_sign text) refl e

-- The line.
pub record IsSet (params next : Parameters) (line : List ℕ) : Type 0 where
  pub property : Property
  pub is : IsProperty property
  pub text_is : line ≡ property_text property
  pub next_is : next ≡ said_to params property

bare_same : (number : ℕ) (params next : Parameters) → with_said params (property_of number []) ≡ Ok next → next ≡ params
bare_same number params next e = ok_same _ params next refl e

behind_by : (number : ℕ) (params next : Parameters) (line rest : List ℕ) → line ≡ codes "property" ++ rest → with_said params (property_of number (drop 1 rest)) ≡ Ok next → (rest ≡ []) ⊎ (rest ≡ 32 ∷ drop 1 rest) → IsSet params next line
behind_by number params next line rest whole e (inl none) =
    record { property = Bare; is = tt; text_is = whole ∙ ap (λ l. codes "property" ++ l) none; next_is = bare_same number params next (ap (λ l. with_said params (property_of number (drop 1 l))) (sym none) ∙ e) }
behind_by number params next line rest whole e (inr some) =
    let read = by_says number params next (drop 1 rest) (pairs.says_nothing (drop 1 rest)) refl e in
    record { property = read.property; is = read.is; text_is = whole ∙ ap (λ l. codes "property" ++ l) (some ∙ read.text_is); next_is = read.next_is }

pub property_so : (number : ℕ) (params next : Parameters) (line : List ℕ) → indent line ≡ 0 → is_property line ≡ true → with_property number params line ≡ Ok next → IsSet params next line
property_so number params next line at is e =
    let part = parted line in
    let whole : line ≡ codes "property" ++ part.rest = part.whole ∙ ap₂ (λ n word. spaces n ++ (word ++ part.rest)) at (spelled (first_word line) (codes "property") is) in
    behind_by number params next line part.rest whole (ap (λ l. with_said params (property_of number l)) (sym part.after) ∙ e) (follows_is part.rest part.follows)
