-- What is written piece by piece is the text of the value, as the kit writes it.
use Rattle.std.proofs.Common.{◌≡◌, ℕ, Bool, true, false, cond, List, [], ◌∷◌, ◌++◌, refl, sym, ap, ◌∙◌, append_assoc, append-nil}
use Rattle.json.specs.Token.{Token}
use Rattle.json.specs.Json.{Json, null, boolean, number, string, array, object, Items, no_items, item, Members, no_members, member}
use Rattle.json.specs.Print.{print, print_from, quoted}
use Rattle.json.specs.Tree.{json_tokens, items_tokens, members_tokens}
use Rattle.reports.specs.Json.{written}
use Rattle.reports.specs.JsonPieces.{value_text, items_behind, members_behind}

abbrev comma_if : Bool → List ℕ
comma_if later = cond later (44 ∷ []) []

in_items : (value more rest : List ℕ) → value ++ (more ++ 93 ∷ rest) ≡ (value ++ (more ++ 93 ∷ [])) ++ rest
in_items value more rest = simp append_assoc

in_members : (name value more rest : List ℕ) → (name ++ 58 ∷ []) ++ (value ++ (more ++ 125 ∷ rest)) ≡ ((name ++ 58 ∷ value) ++ (more ++ 125 ∷ [])) ++ rest
in_members name value more rest = simp append_assoc

line_end : (first more : List ℕ) → (first ++ (more ++ 125 ∷ [])) ++ 10 ∷ [] ≡ first ++ (more ++ 125 ∷ 10 ∷ [])
line_end first more = simp append_assoc

next_member : (name value more rest : List ℕ) → (name ++ 58 ∷ []) ++ (value ++ (more ++ rest)) ≡ ((name ++ 58 ∷ value) ++ more) ++ rest
next_member name value more rest = simp append_assoc

-- an array, by its first item and by those behind it
print_array : (j : Json) (js : Items) (ts : List Token) → print_from false (json_tokens j ++ (items_tokens js ++ ts)) ≡ value_text j ++ print_from true (items_tokens js ++ ts)
    → print_from true (items_tokens js ++ ts) ≡ items_behind js ++ 93 ∷ print_from true ts
    → print_from false ((json_tokens j ++ items_tokens js) ++ ts) ≡ (value_text j ++ (items_behind js ++ 93 ∷ [])) ++ print_from true ts
print_array j js ts first more =
    ap (print_from false) (append_assoc (json_tokens j) (items_tokens js) ts) ∙ first ∙ ap (λ (s : List ℕ). value_text j ++ s) more
    ∙ in_items (value_text j) (items_behind js) (print_from true ts)

-- an object, by its first member and by those behind it
print_object : (k : List ℕ) (j : Json) (ms : Members) (ts : List Token) → print_from false (json_tokens j ++ (members_tokens ms ++ ts)) ≡ value_text j ++ print_from true (members_tokens ms ++ ts)
    → print_from true (members_tokens ms ++ ts) ≡ members_behind ms ++ 125 ∷ print_from true ts
    → (quoted k ++ 58 ∷ []) ++ print_from false ((json_tokens j ++ members_tokens ms) ++ ts) ≡ ((quoted k ++ 58 ∷ value_text j) ++ (members_behind ms ++ 125 ∷ [])) ++ print_from true ts
print_object k j ms ts first more =
    ap (λ (s : List ℕ). (quoted k ++ 58 ∷ []) ++ s) (ap (print_from false) (append_assoc (json_tokens j) (members_tokens ms) ts) ∙ first ∙ ap (λ (s : List ℕ). value_text j ++ s) more)
    ∙ in_members (quoted k) (value_text j) (members_behind ms) (print_from true ts)

-- one item more
print_item : (j : Json) (js : Items) (ts : List Token) → print_from true (json_tokens j ++ (items_tokens js ++ ts)) ≡ 44 ∷ (value_text j ++ print_from true (items_tokens js ++ ts))
    → print_from true (items_tokens js ++ ts) ≡ items_behind js ++ 93 ∷ print_from true ts
    → print_from true ((json_tokens j ++ items_tokens js) ++ ts) ≡ (44 ∷ (value_text j ++ items_behind js)) ++ 93 ∷ print_from true ts
print_item j js ts first more =
    ap (print_from true) (append_assoc (json_tokens j) (items_tokens js) ts) ∙ first ∙ ap (λ (s : List ℕ). 44 ∷ (value_text j ++ s)) more
    ∙ ap (λ (s : List ℕ). 44 ∷ s) (sym (append_assoc (value_text j) (items_behind js) (93 ∷ print_from true ts)))

-- one member more, behind the comma
print_member : (k : List ℕ) (j : Json) (ms : Members) (ts : List Token) → print_from false (json_tokens j ++ (members_tokens ms ++ ts)) ≡ value_text j ++ print_from true (members_tokens ms ++ ts)
    → print_from true (members_tokens ms ++ ts) ≡ members_behind ms ++ 125 ∷ print_from true ts
    → (quoted k ++ 58 ∷ []) ++ print_from false ((json_tokens j ++ members_tokens ms) ++ ts) ≡ ((quoted k ++ 58 ∷ value_text j) ++ members_behind ms) ++ 125 ∷ print_from true ts
print_member k j ms ts first more =
    ap (λ (s : List ℕ). (quoted k ++ 58 ∷ []) ++ s) (ap (print_from false) (append_assoc (json_tokens j) (members_tokens ms) ts) ∙ first ∙ ap (λ (s : List ℕ). value_text j ++ s) more)
    ∙ next_member (quoted k) (value_text j) (members_behind ms) (125 ∷ print_from true ts)

mutual
  unfolding print_from

  print_value : (later : Bool) (j : Json) (ts : List Token) → print_from later (json_tokens j ++ ts) ≡ comma_if later ++ (value_text j ++ print_from true ts)
  print_value true null ts = refl
  print_value false null ts = refl
  print_value true (boolean true) ts = refl
  print_value true (boolean false) ts = refl
  print_value false (boolean true) ts = refl
  print_value false (boolean false) ts = refl
  print_value true (number n) ts = refl
  print_value false (number n) ts = refl
  print_value true (string s) ts = refl
  print_value false (string s) ts = refl
  print_value true (array no_items) ts = refl
  print_value false (array no_items) ts = refl
  print_value true (array (item j js)) ts = ap (λ (s : List ℕ). 44 ∷ 91 ∷ s) (print_array j js ts (print_value false j (items_tokens js ++ ts)) (print_items js ts))
  print_value false (array (item j js)) ts = ap (λ (s : List ℕ). 91 ∷ s) (print_array j js ts (print_value false j (items_tokens js ++ ts)) (print_items js ts))
  print_value true (object no_members) ts = refl
  print_value false (object no_members) ts = refl
  print_value true (object (member k j ms)) ts = ap (λ (s : List ℕ). 44 ∷ 123 ∷ s) (print_object k j ms ts (print_value false j (members_tokens ms ++ ts)) (print_members ms ts))
  print_value false (object (member k j ms)) ts = ap (λ (s : List ℕ). 123 ∷ s) (print_object k j ms ts (print_value false j (members_tokens ms ++ ts)) (print_members ms ts))

  print_items : (js : Items) (ts : List Token) → print_from true (items_tokens js ++ ts) ≡ items_behind js ++ 93 ∷ print_from true ts
  print_items no_items ts = refl
  print_items (item j js) ts = print_item j js ts (print_value true j (items_tokens js ++ ts)) (print_items js ts)

  print_members : (ms : Members) (ts : List Token) → print_from true (members_tokens ms ++ ts) ≡ members_behind ms ++ 125 ∷ print_from true ts
  print_members no_members ts = refl
  print_members (member k j ms) ts = ap (λ (s : List ℕ). 44 ∷ s) (print_member k j ms ts (print_value false j (members_tokens ms ++ ts)) (print_members ms ts))

-- The text of a value is its pieces.
pub pieces : (j : Json) → print (json_tokens j) ≡ value_text j
unfolding print_from
pieces j = ap print (sym (append-nil (json_tokens j))) ∙ print_value false j [] ∙ append-nil (value_text j)

-- a line with an object, by its first member and by those behind it
object_line : (k : List ℕ) (j : Json) (ms : Members) → written (object (member k j ms)) ++ 10 ∷ [] ≡ 123 ∷ ((quoted k ++ 58 ∷ value_text j) ++ (members_behind ms ++ 125 ∷ 10 ∷ []))
object_line k j ms = ap (λ (l : List ℕ). l ++ 10 ∷ []) (pieces (object (member k j ms))) ∙ ap (λ (l : List ℕ). 123 ∷ l) (line_end (quoted k ++ 58 ∷ value_text j) (members_behind ms))

-- What was written of an object, with the end of its line, is its line.
pub line_written : (old : List ℕ) (k : List ℕ) (j : Json) (ms : Members) {inside new : List ℕ} → inside ≡ (quoted k ++ 58 ∷ value_text j) ++ members_behind ms → new ≡ old ++ 123 ∷ (inside ++ 125 ∷ 10 ∷ [])
    → new ≡ old ++ (written (object (member k j ms)) ++ 10 ∷ [])
line_written old k j ms {inside} is grown =
    grown ∙ ap (λ (l : List ℕ). old ++ 123 ∷ l) (ap (λ (l : List ℕ). l ++ 125 ∷ 10 ∷ []) is ∙ append_assoc (quoted k ++ 58 ∷ value_text j) (members_behind ms) (125 ∷ 10 ∷ []))
    ∙ ap (λ (l : List ℕ). old ++ l) (sym (object_line k j ms))
