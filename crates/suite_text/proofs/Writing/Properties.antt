-- The line of a property is read as it is written.
use Rattle.std.proofs.Common.{◌≡◌, ℕ, ◌+◌, ◌<◌, ◌||◌, ◌⊎◌, List, [], ◌∷◌, ◌++◌, length, take, drop, true, false, not, cond, if◌then◌else◌, ◌==◌, None, Ok, Err, codes, inl, inr, refl, ap, sym, ◌∙◌, arith, rules}
use Rattle.std.proofs.lemmas.Bool.{ne_eqb}
use Rattle.std.proofs.lemmas.List.{append_assoc, take_at, drop_at, drop-drop}
use Rattle.std.specs.Str.{bytes_eq}
use Rattle.std.specs.List.{AllByRecursion, list_any, position_or_len, before_first, after_first, prefix_len}
use Rattle.config_params.specs.declared.fault.ParamsFault.TheVariants.{NoEquals, EmptyKey}
use Rattle.config_params.specs.Pairs as pairs
use Rattle.config_params.specs.Pairs.{is_equals_sign, begins_with_sign, key_of, value_of, pair_of, property_of}
use Rattle.config_params.specs.Parameters.{Parameters}
use Rattle.suite_words.specs.Reading.Lines as lines
use Rattle.suite_words.specs.Reading.Lines.{first_word, after_word, level_of}
use Rattle.suite_words.specs.Reading.Properties.{is_property, with_said, with_property}
use Rattle.suite_text.specs.Writing.Lines.{IsWord}
use Rattle.suite_text.specs.Writing.Properties.{is_blank, AreBlanks, Between, between_text, IsBetween, IsKey, Property, Sets, Remarks, Bare, said_text, property_text, IsProperty, said_to}
use Rattle.suite_text.proofs.Trimmed.{from_front, to_end, front_passes, front_kept, between}
use Rattle.suite_text.proofs.Writing.Words.{Follows, or_true, first_is, after_is}

-- spaces and tabs round a text
between_is : (b : Between) → IsBetween b → to_end is_blank (from_front is_blank (between_text b)) ≡ b.text
between_is b is = between is_blank b.front b.text b.back is.front is.back is.begins is.ends

-- a text without an equals sign, before the first one
abbrev HasNone : List ℕ → Type 0
HasNone text = AllByRecursion (λ byte. is_equals_sign byte ≡ false) text

none_in_both : (xs ys : List ℕ) → HasNone xs → HasNone ys → HasNone (xs ++ ys)
none_in_both [] ys h k = k
none_in_both (x ∷ xs) ys h k = (h.0, none_in_both xs ys h.1 k)

blank_no_equals : (b : ℕ) → is_blank b ≡ true → is_equals_sign b ≡ false
blank_no_equals b h = ne_eqb b 61 (λ e. let no : true ≡ false = sym h ∙ ap is_blank e in cc)

blanks_no_equals : (xs : List ℕ) → AreBlanks xs → HasNone xs
blanks_no_equals [] h = tt
blanks_no_equals (x ∷ xs) h = (blank_no_equals x h.0, blanks_no_equals xs h.1)

sign_at : (xs ys : List ℕ) → HasNone xs → position_or_len is_equals_sign (xs ++ 61 ∷ ys) ≡ length xs
sign_at [] ys h = refl
sign_at (x ∷ xs) ys h =
    let next = ap (λ b. cond (not b) (1 + position_or_len is_equals_sign (xs ++ 61 ∷ ys)) 0) h.0 in
    let more = sign_at xs ys h.1 in
    omega (arith, next, more)

has_sign : (xs ys : List ℕ) → list_any is_equals_sign (xs ++ 61 ∷ ys) ≡ true
has_sign [] ys = refl
has_sign (x ∷ xs) ys = ap (λ b. is_equals_sign x || b) (has_sign xs ys) ∙ or_true (is_equals_sign x)

module _ (xs ys : List ℕ) (none : HasNone xs) where
  front_is : before_first is_equals_sign (xs ++ 61 ∷ ys) ≡ xs
  front_is = ap (λ k. take k (xs ++ 61 ∷ ys)) (sign_at xs ys none) ∙ take_at xs (61 ∷ ys) _ refl

  back_is : after_first is_equals_sign (xs ++ 61 ∷ ys) ≡ ys
  back_is = ap (λ k. drop (k + 1) (xs ++ 61 ∷ ys)) (sign_at xs ys none) ∙ sym (drop-drop 1 (length xs) (xs ++ 61 ∷ ys)) ∙ ap (drop 1) (drop_at xs (61 ∷ ys) _ refl)

-- a key and a value
module _ (number : ℕ) (key value : Between) (is : IsKey key) (means : IsBetween value) where
  abbrev text : List ℕ
  text = between_text key ++ (61 ∷ between_text value)

  none : HasNone (between_text key)
  none = none_in_both key.front (key.text ++ key.back) (blanks_no_equals key.front is.between.front) (none_in_both key.text key.back is.no_equals (blanks_no_equals key.back is.between.back))

  key_is : key_of text ≡ key.text
  key_is = ap (λ t. to_end is_blank (from_front is_blank t)) (front_is (between_text key) (between_text value) none) ∙ between_is key is.between

  value_is : value_of text ≡ value.text
  value_is = ap (λ t. to_end is_blank (from_front is_blank t)) (back_is (between_text key) (between_text value) none) ∙ between_is value means

  pair_is : pair_of number text ≡ Ok (key.text, value.text)
  pair_is =
      ap (λ b. if not b then Err (NoEquals number) else (if length (key_of text) == 0 then Err (EmptyKey number) else Ok (key_of text, value_of text))) (has_sign (between_text key) (between_text value))
      ∙ ap (λ k. if length k == 0 then Err (EmptyKey number) else Ok (k, value_of text)) key_is
      ∙ ap (λ b. if b then Err (EmptyKey number) else Ok (key.text, value_of text)) (ne_eqb (length key.text) 0 (λ e. omega (arith, e, is.some)))
      ∙ ap (λ v. Ok (key.text, v)) value_is

  says : pairs.says_nothing text ≡ false
  says =
      ap (λ t. pairs.says_nothing t) (append_assoc key.front (key.text ++ key.back) (61 ∷ between_text value))
      ∙ ap (λ t. (length t == 0) || begins_with_sign t) (front_passes is_blank key.front ((key.text ++ key.back) ++ 61 ∷ between_text value) is.between.front)
      ∙ ap pairs.says_nothing (append_assoc key.text key.back (61 ∷ between_text value))
      ∙ by key.text is.some is.between.begins is.no_sign
    where
      by : (k : List ℕ) → 0 < length k → prefix_len is_blank k ≡ 0 → begins_with_sign k ≡ false → pairs.says_nothing (k ++ (key.back ++ 61 ∷ between_text value)) ≡ false
      by [] some begins sign = absurd (omega (arith, some))
      by (x ∷ xs) some begins sign =
          ap (λ t. (length t == 0) || begins_with_sign t) (front_kept is_blank x xs (key.back ++ 61 ∷ between_text value) begins)
          ∙ ap (λ b. b || (x == 35)) (ne_eqb (length (x ∷ (xs ++ (key.back ++ 61 ∷ between_text value)))) 0 (λ e. omega (arith, e)))
          ∙ sign

-- a comment, or nothing
remark : (front comment : List ℕ) → AreBlanks front → (comment ≡ []) ⊎ ((rest : List ℕ) × (comment ≡ 35 ∷ rest)) → pairs.says_nothing (front ++ comment) ≡ true
remark front comment h (inl none) = ap (λ t. (length t == 0) || begins_with_sign t) (front_passes is_blank front comment h) ∙ ap pairs.says_nothing none
remark front comment h (inr sign) = ap (λ t. (length t == 0) || begins_with_sign t) (front_passes is_blank front comment h) ∙ ap pairs.says_nothing sign.1 ∙ comment_says sign.0
  where
    comment_says : (rest : List ℕ) → pairs.says_nothing (35 ∷ rest) ≡ true
    comment_says rest = or_true (length (35 ∷ rest) == 0)

said_back : (number : ℕ) (params : Parameters) (property : Property) → IsProperty property → with_said params (property_of number (drop 1 (said_text property))) ≡ Ok (said_to params property)
said_back number params Bare is = refl
said_back number params (Sets key value) is =
    ap (λ b. with_said params (if b then Ok None else pairs.said (pair_of number (between_text key ++ (61 ∷ between_text value))))) (says number key value is.0 is.1)
    ∙ ap (λ r. with_said params (pairs.said r)) (pair_is number key value is.0 is.1)
said_back number params (Remarks front comment) is =
    ap (λ b. with_said params (if b then Ok None else pairs.said (pair_of number (front ++ comment)))) (remark front comment is.0 is.1)

-- the line
is_word : IsWord (codes "property")
is_word = (omega arith, search rules)

behind_word : (property : Property) → Follows (said_text property)
behind_word (Sets key value) = refl
behind_word (Remarks front comment) = refl
behind_word Bare = tt

module _ (property : Property) where
  pub property_says : lines.says_nothing (property_text property) ≡ false
  property_says = ne_eqb (length (property_text property)) 0 (λ e. omega (arith, e))

  pub property_level : (number : ℕ) → level_of number 0 (property_text property) ≡ Ok 0
  property_level number = refl

  pub property_is : is_property (property_text property) ≡ true
  property_is = ap (λ t. bytes_eq t (codes "property")) (first_is 0 (codes "property") (said_text property) is_word (behind_word property))

  pub property_back : (number : ℕ) (params : Parameters) → IsProperty property → with_property number params (property_text property) ≡ Ok (said_to params property)
  property_back number params is =
      ap (λ t. with_said params (property_of number t)) (after_is 0 (codes "property") (said_text property) is_word (behind_word property)) ∙ said_back number params property is
