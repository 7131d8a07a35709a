-- What is written on lines is read line by line.
use Rattle.std.proofs.Common.{◌≡◌, ℕ, zero, suc, ◌-◌, ◌^◌, ◌<◌, ◌≤◌, Bool, true, false, ◌==◌, ◌&&◌, nat_le, List, [], ◌∷◌, ◌++◌, length, get_or, map, decimal, inl, inr, refl, sym, ap, ap₂, ◌∙◌, subst, arith, append_assoc}
use Rattle.std.specs.Prelude.{⊤, codes, slice_index}
use Rattle.std.specs.List.{AllByRecursion, flat_map, slice_split}
use Rattle.std.specs.Str.Lines.{lines, lines_of_parts, strip_carriage_return}
use Rattle.std.proofs.lemmas.Bool.{cases_eq, cases_lt, ne_eqb, and_from, and_parts, le-leb, leb-true}
use Rattle.std.proofs.lemmas.List.Elements.{All-from_recursion}
use Rattle.std.proofs.lemmas.List.Splits.{slice_split_at, length-slice_split}
use Rattle.std.proofs.lemmas.Fmt.{decimal_is_IsNumeral}
use Rattle.std.proofs.lemmas.Str.Parse.{digit_at}
use Rattle.json.specs.Json.{Json, null, boolean, number, string, array, object, Items, no_items, item, Members, no_members, member, document, max_depth}
use Rattle.json.specs.Print.{escape_byte, escape, quoted}
use Rattle.json.specs.Tree.{depth, HasNumbers, ItemsHaveNumbers, MembersHaveNumbers}
use Rattle.json.proofs.Printed.Decimals.{IsNumber-decimal}
use Rattle.json.proofs.Printed.Strings.{escape_byte_plain}
use Rattle.json.proofs.Printed.Trees.{document-print}
use Rattle.reports.specs.Json.{ReadsAs, written}
use Rattle.reports.specs.JsonPieces.{value_text, items_behind, members_behind}
use Rattle.reports.proofs.JsonWritten.{pieces}

-- whether no control character stands in the text
abbrev is_shown : List ℕ → Bool
is_shown [] = true
is_shown (x ∷ xs) = nat_le 32 x && is_shown xs

both : (xs ys : List ℕ) → is_shown xs ≡ true → is_shown ys ≡ true → is_shown (xs ++ ys) ≡ true
both [] ys h k = k
both (x ∷ xs) ys h k = let p = and_parts (nat_le 32 x) (is_shown xs) h in and_from (nat_le 32 x) (is_shown (xs ++ ys)) p.0 (both xs ys p.1 k)

-- ---- the text of a value

-- whether the escapes of the bytes below n are so
abbrev are_shown_below : ℕ → Bool
are_shown_below zero = true
are_shown_below (suc n) = is_shown (escape_byte n) && are_shown_below n

at : (n : ℕ) → are_shown_below n ≡ true → (x : ℕ) → x < n → is_shown (escape_byte x) ≡ true
at zero h x lt = absurd (omega arith)
at (suc n) h x lt =
    let p = and_parts (is_shown (escape_byte n)) (are_shown_below n) h in
    elim (cases_eq x n) [ inl same ↦ ap (λ (y : ℕ). is_shown (escape_byte y)) same ∙ p.0 | inr other ↦ at n p.1 x (omega arith) ]

low_bytes : are_shown_below 128 ≡ true
unfolding escape_byte
low_bytes = refl

byte_shown : (x : ℕ) → is_shown (escape_byte x) ≡ true
byte_shown x = elim (cases_lt x 128) [
  | inl low ↦ at 128 low_bytes x low
  | inr high ↦ ap is_shown (escape_byte_plain x (λ e. omega arith) (λ e. omega arith) (omega arith)) ∙ and_from (nat_le 32 x) true (le-leb 32 x (omega arith)) refl
]

escape_shown : (s : List ℕ) → is_shown (escape s) ≡ true
escape_shown [] = refl
escape_shown (x ∷ s) = both (escape_byte x) (escape s) (byte_shown x) (escape_shown s)

quoted_shown : (s : List ℕ) → is_shown (quoted s) ≡ true
quoted_shown s = both (escape s) (34 ∷ []) (escape_shown s) refl

-- the number is written in decimal
abbrev IsDecimal : List ℕ → Type 0
IsDecimal s = (n : ℕ) × (n < 2 ^ 64) × (s ≡ decimal n)

digits_shown : (s : List ℕ) → ((i : ℕ) → i < length s → 48 ≤ get_or s i 0) → is_shown s ≡ true
digits_shown [] h = refl
digits_shown (x ∷ s) h = and_from (nat_le 32 x) (is_shown s) (le-leb 32 x (omega (arith, h 0 (omega arith)))) (digits_shown s (λ i lt. h (suc i) (omega (arith, lt))))

decimal_shown : (n : ℕ) → n < 2 ^ 64 → is_shown (decimal n) ≡ true
decimal_shown n h = digits_shown (decimal n) (λ i lt. (digit_at (decimal n) i (decimal_is_IsNumeral n h).0.1 lt).0)

abbrev mutual
  -- each number in the value is written in decimal
  pub HasDecimals : Json → Type 0
  HasDecimals null = ⊤
  HasDecimals (boolean b) = ⊤
  HasDecimals (number s) = IsDecimal s
  HasDecimals (string s) = ⊤
  HasDecimals (array js) = ItemsHaveDecimals js
  HasDecimals (object ms) = MembersHaveDecimals ms

  pub ItemsHaveDecimals : Items → Type 0
  ItemsHaveDecimals no_items = ⊤
  ItemsHaveDecimals (item j js) = HasDecimals j × ItemsHaveDecimals js

  pub MembersHaveDecimals : Members → Type 0
  MembersHaveDecimals no_members = ⊤
  MembersHaveDecimals (member k j ms) = HasDecimals j × MembersHaveDecimals ms

mutual
  numbers : (j : Json) → HasDecimals j → HasNumbers j
  numbers null h = tt
  numbers (boolean b) h = tt
  numbers (number s) h = subst (λ (t : List ℕ). HasNumbers (number t)) (sym h.2) (IsNumber-decimal h.0 h.1)
  numbers (string s) h = tt
  numbers (array js) h = item_numbers js h
  numbers (object ms) h = member_numbers ms h

  item_numbers : (js : Items) → ItemsHaveDecimals js → ItemsHaveNumbers js
  item_numbers no_items h = tt
  item_numbers (item j js) h = (numbers j h.0, item_numbers js h.1)

  member_numbers : (ms : Members) → MembersHaveDecimals ms → MembersHaveNumbers ms
  member_numbers no_members h = tt
  member_numbers (member k j ms) h = (numbers j h.0, member_numbers ms h.1)

named : (k value : List ℕ) → is_shown value ≡ true → is_shown (quoted k ++ 58 ∷ value) ≡ true
named k value h = both (quoted k) (58 ∷ value) (quoted_shown k) h

mutual
  value_shown : (j : Json) → HasDecimals j → is_shown (value_text j) ≡ true
  value_shown null h = refl
  value_shown (boolean true) h = refl
  value_shown (boolean false) h = refl
  value_shown (number s) h = ap is_shown h.2 ∙ decimal_shown h.0 h.1
  value_shown (string s) h = quoted_shown s
  value_shown (array no_items) h = refl
  value_shown (array (item j js)) h = both (value_text j) (items_behind js ++ 93 ∷ []) (value_shown j h.0) (both (items_behind js) (93 ∷ []) (items_shown js h.1) refl)
  value_shown (object no_members) h = refl
  value_shown (object (member k j ms)) h =
      both (quoted k ++ 58 ∷ value_text j) (members_behind ms ++ 125 ∷ []) (named k (value_text j) (value_shown j h.0)) (both (members_behind ms) (125 ∷ []) (members_shown ms h.1) refl)

  items_shown : (js : Items) → ItemsHaveDecimals js → is_shown (items_behind js) ≡ true
  items_shown no_items h = refl
  items_shown (item j js) h = both (value_text j) (items_behind js) (value_shown j h.0) (items_shown js h.1)

  members_shown : (ms : Members) → MembersHaveDecimals ms → is_shown (members_behind ms) ≡ true
  members_shown no_members h = refl
  members_shown (member k j ms) h = both (quoted k ++ 58 ∷ value_text j) (members_behind ms) (named k (value_text j) (value_shown j h.0)) (members_shown ms h.1)

-- ---- lines

no_feed : (xs : List ℕ) → is_shown xs ≡ true → AllByRecursion (λ b. (b == 10) ≡ false) xs
no_feed [] h = tt
no_feed (x ∷ xs) h = let p = and_parts (nat_le 32 x) (is_shown xs) h in (ne_eqb x 10 (λ e. omega (arith, leb-true 32 x p.0)), no_feed xs p.1)

no_return : (xs : List ℕ) (i : ℕ) → is_shown xs ≡ true → (slice_index xs i == 13) ≡ false
no_return [] i h = refl
no_return (x ∷ xs) zero h = let p = and_parts (nat_le 32 x) (is_shown xs) h in ne_eqb x 13 (λ e. omega (arith, leb-true 32 x p.0))
no_return (x ∷ xs) (suc i) h = no_return xs i (and_parts (nat_le 32 x) (is_shown xs) h).1

parts_more : (x : List ℕ) (parts : List (List ℕ)) → 0 < length parts → lines_of_parts (x ∷ parts) ≡ strip_carriage_return x ∷ lines_of_parts parts
parts_more x [] l = absurd (omega arith)
parts_more x (y ∷ more) l = refl

same_line : (xs : List ℕ) → is_shown xs ≡ true → strip_carriage_return xs ≡ xs
same_line xs h = rw (no_return xs (length xs - 1) h) refl

-- the first line of a text, where no control character stands in it
line_more : (x rest : List ℕ) → is_shown x ≡ true → lines (x ++ 10 ∷ rest) ≡ x ∷ lines rest
line_more x rest h =
    let feed = λ (b : ℕ). b == 10 in
    ap lines_of_parts (slice_split_at feed x 10 rest (All-from_recursion (λ b. feed b ≡ false) x (no_feed x h)) refl)
    ∙ parts_more x (slice_split feed rest) (omega (arith, length-slice_split feed rest)) ∙ ap (λ (v : List ℕ). v ∷ lines rest) (same_line x h)

-- the value can be a line: its numbers are in decimal, and it nests no deeper than is read
abbrev pub IsLine : Json → Type 0
IsLine j = HasDecimals j × (depth j ≤ max_depth)

shown_line : (j : Json) → IsLine j → is_shown (written j) ≡ true
shown_line j h = ap is_shown (pieces j) ∙ value_shown j h.0

-- Each value that is written on a line of its own is read from that line.
pub lines_read : {X : Type 0} (value : X → Json) (xs : List X) → AllByRecursion (λ x. IsLine (value x)) xs → ReadsAs (flat_map (λ x. written (value x) ++ codes "\n") xs) (map value xs)
lines_read value [] h = refl
lines_read value (x ∷ xs) h =
    let line = written (value x) in
    let rest = flat_map (λ y. written (value y) ++ codes "\n") xs in
    ap (λ (l : List ℕ). map document (lines l)) (append_assoc line (codes "\n") rest) ∙ ap (map document) (line_more line rest (shown_line (value x) h.0))
    ∙ ap₂ (λ a b. a ∷ b) (document-print (value x) (numbers (value x) h.0.0) h.0.1) (lines_read value xs h.1)
