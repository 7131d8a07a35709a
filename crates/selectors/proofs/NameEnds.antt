-- What stands in a name before a node's value, and what is left of a name that is read from its end.
use Rattle.std.proofs.Common.{◌≡◌, ◌≢◌, ℕ, zero, suc, ◌<◌, Bool, true, false, List, [], ◌∷◌, ◌++◌, reverse, refl, sym, ap, ◌∙◌, inl, inr, subst, append_assoc, codes, Option, Some, None, arith}
use Rattle.std.proofs.lemmas.List.{append-nil, reverse-append, reverse-reverse}
use Rattle.std.proofs.lemmas.Option.{none-some}
use Rattle.std.proofs.lemmas.Slice.Eq.{bytes_eq-Decides}
use Rattle.std.specs.Prelude.{if◌then◌else◌, unwrap_or}
use Rattle.std.specs.Option.{is_some}
use Rattle.std.specs.Str.{bytes_eq}
use Rattle.unique_id.specs.declared.unique_id.Segment.{Segment}
use Rattle.descriptor.specs.Nodes.{Nodes, IsTree, IsChild, size, parent_of}
use Rattle.selectors.specs.declared.name_end.NameEnd.{NameEnd}
use Rattle.selectors.specs.ClassNames.{class_name, is_of_method, last_segment, method_below, method_name, name_below, nested_name}
use Rattle.selectors.specs.NameEnds.{and_sign, front_below, front_of, left_of, IsInName}
use Rattle.selectors.proofs.ClassName.{class_name_up, name_nested, parent_inside, up_to}
use Rattle.selectors.proofs.Truths.{never, or_cases}

some_is : {X : Type 0} (x y : X) → Some x ≡ Some y → x ≡ y
some_is x y is = ap (λ o. unwrap_or o x) is

-- what such a segment adds to a class name
abbrev Parts : Option (List ℕ) → Option Segment → List ℕ → Type 0
Parts above last name = (s : Segment) × (last ≡ Some s) × ((front : List ℕ) × (front_below above last ≡ Some front) × (name ≡ front ++ s.value))

nested_parts : (above : Option (List ℕ)) (value name : List ℕ) → nested_name above value ≡ Some name → (front : List ℕ) × (and_sign 36 above ≡ Some front) × (name ≡ front ++ value)
nested_parts None value name is = absurd (none-some name is)
nested_parts (Some outer) value name is = (outer ++ 36 ∷ [], refl, sym (some_is (outer ++ 36 ∷ value) name is) ∙ sym (append_assoc outer (36 ∷ []) value))

parts : (above : Option (List ℕ)) (last : Option Segment) (name : List ℕ) → name_below above last ≡ Some name → Parts above last name
parts above None name is = absurd (none-some name is)
parts above (Some s) name is = by (bytes_eq s.kind (codes "class")) (bytes_eq s.kind (codes "nested-class")) refl refl
  where
    by : (a b : Bool) → bytes_eq s.kind (codes "class") ≡ a → bytes_eq s.kind (codes "nested-class") ≡ b → Parts above (Some s) name
    by true b class nested =
        let value : name_below above (Some s) ≡ Some s.value = rw class refl in
        (s, refl, ([], rw class refl, sym (some_is s.value name (sym value ∙ is))))
    by false true class nested =
        let name_is : name_below above (Some s) ≡ nested_name above s.value = rw (class, nested) refl in
        let front_is : front_below above (Some s) ≡ and_sign 36 above = rw (class, nested) refl in
        let found = nested_parts above s.value name (sym name_is ∙ is) in
        (s, refl, (found.0, front_is ∙ found.1, found.2))
    by false false class nested =
        let name_is : name_below above (Some s) ≡ None = rw (class, nested) refl in
        absurd (none-some name (sym name_is ∙ is))

-- a nested class stands in a class
pub nested_front : (above : Option (List ℕ)) (s : Segment) (front : List ℕ) → s.kind ≡ codes "nested-class" → front_below above (Some s) ≡ Some front
    → (outer : List ℕ) × (above ≡ Some outer) × (front_below above (Some s) ≡ Some (outer ++ 36 ∷ []))
nested_front None s front kind is = absurd (none-some front (rw kind at is))
nested_front (Some outer) s front kind is = (outer, refl, rw kind refl)

-- so does what is no class and stands in a name
pub other_front : (above : Option (List ℕ)) (s : Segment) (front : List ℕ) → bytes_eq s.kind (codes "class") ≡ false → bytes_eq s.kind (codes "nested-class") ≡ false → front_below above (Some s) ≡ Some front
    → (outer : List ℕ) × (above ≡ Some outer) × (front_below above (Some s) ≡ Some (outer ++ 35 ∷ []))
other_front above s front class nested is = by above (is_of_method s) refl (rw (class, nested) at is)
  where
    by : (o : Option (List ℕ)) (b : Bool) → is_of_method s ≡ b → (if is_of_method s then and_sign 35 o else None) ≡ Some front
        → (outer : List ℕ) × (o ≡ Some outer) × (front_below o (Some s) ≡ Some (outer ++ 35 ∷ []))
    by o false not_method same = absurd (none-some front (rw not_method at same))
    by None true is_method same = absurd (none-some front (rw is_method at same))
    by (Some outer) true is_method same = (outer, refl, rw (class, nested, is_method) refl)

-- a method right below a node with a class name
abbrev Method : List ℕ → Segment → Type 0
Method class s = (front_below (Some class) (Some s) ≡ Some (class ++ 35 ∷ [])) × (method_below (Some class) (Some s) ≡ Some (class ++ 35 ∷ s.value))

pub method_front : (class : List ℕ) (s : Segment) → is_of_method s ≡ true → Method class s
method_front class s is = elim (or_cases (bytes_eq s.kind (codes "method")) (bytes_eq s.kind (codes "test-factory")) is) [
  | inl method ↦ let kind : s.kind ≡ codes "method" = (bytes_eq-Decides s.kind (codes "method")).0 method in (rw kind refl, rw kind refl)
  | inr factory ↦ let kind : s.kind ≡ codes "test-factory" = (bytes_eq-Decides s.kind (codes "test-factory")).0 factory in (rw kind refl, rw kind refl)
]

-- all of a name as far as to the end of a node's value
abbrev pub IsWhole : Nodes → ℕ → NameEnd → Type 0
IsWhole t n end = (end.number ≡ n) × ((s : Segment) × (last_segment t n ≡ Some s) × (end.left.now ≡ s.value))

pub whole_left : (t : Nodes) (n : ℕ) (end : NameEnd) (s : Segment) (front : List ℕ) → end.number ≡ n → end.left.now ≡ s.value → front_of t n ≡ Some front → reverse (left_of t end) ≡ front ++ s.value
whole_left t n end s front number left is =
    reverse-reverse (unwrap_or (front_of t end.number) [] ++ end.left.now)
    ∙ ap (λ m. unwrap_or (front_of t m) [] ++ end.left.now) number
    ∙ ap (λ o. unwrap_or o [] ++ end.left.now) is ∙ ap (λ v. front ++ v) left

module _ (t : Nodes) (tree : IsTree t) where
  class_parts : (n : ℕ) → n < size t → (name : List ℕ) → class_name t n ≡ Some name → (0 < n) × Parts (class_name t (parent_of t n)) (last_segment t n) name
  class_parts zero inside name is = absurd (none-some name is)
  class_parts (suc n) inside name is = (omega arith, parts (class_name t (parent_of t (suc n))) (last_segment t (suc n)) name (sym (class_name_up t tree (suc n) (omega arith) inside) ∙ is))

  -- all of a class name
  pub class_whole : (n : ℕ) → n < size t → (name : List ℕ) → class_name t n ≡ Some name → (end : NameEnd) → IsWhole t n end → IsInName t end.number × (reverse (left_of t end) ≡ name)
  class_whole n inside name is end (number, (s, last, left)) =
      let found = class_parts n inside name is in
      let value : end.left.now ≡ found.1.0.value = left ∙ ap (λ (x : Segment). x.value) (some_is s found.1.0 (sym last ∙ found.1.1)) in (
        subst (IsInName t) (sym number) (found.0, inside, (found.1.2.0, found.1.2.1)),
        whole_left t n end found.1.0 found.1.2.0 number value found.1.2.1 ∙ sym found.1.2.2,
      )

-- one byte of a node's own value
pub one_byte : (t : Nodes) (name rest : NameEnd) (byte : ℕ) → rest.number ≡ name.number → name.left.now ≡ rest.left.now ++ byte ∷ [] → left_of t name ≡ byte ∷ left_of t rest
one_byte t name rest byte number left =
    ap (λ v. reverse (unwrap_or (front_of t name.number) [] ++ v)) left
    ∙ ap reverse (sym (append_assoc (unwrap_or (front_of t name.number) []) rest.left.now (byte ∷ [])))
    ∙ reverse-append (unwrap_or (front_of t name.number) [] ++ rest.left.now) (byte ∷ [])
    ∙ ap (λ n. byte ∷ reverse (unwrap_or (front_of t n) [] ++ rest.left.now)) (sym number)

-- nothing is left of a node's own value
pub only_front : (t : Nodes) (name : NameEnd) (front : List ℕ) → name.left.now ≡ [] → front_of t name.number ≡ Some front → left_of t name ≡ reverse front
only_front t name front left is =
    ap (λ v. reverse (unwrap_or (front_of t name.number) [] ++ v)) left
    ∙ ap reverse (append-nil (unwrap_or (front_of t name.number) [])) ∙ ap (λ o. reverse (unwrap_or o [])) is

pub sign_first : (t : Nodes) (name outer : NameEnd) (sign : ℕ) → name.left.now ≡ [] → front_of t name.number ≡ Some (reverse (left_of t outer) ++ sign ∷ []) → left_of t name ≡ sign ∷ left_of t outer
sign_first t name outer sign left is =
    only_front t name (reverse (left_of t outer) ++ sign ∷ []) left is
    ∙ reverse-append (reverse (left_of t outer)) (sign ∷ []) ∙ ap (λ x. sign ∷ x) (reverse-reverse (left_of t outer))

some_of : (o : Option (List ℕ)) → true ≡ is_some o → (x : List ℕ) × (o ≡ Some x)
some_of None is = absurd (cc)
some_of (Some x) is = (x, refl)

some_nested : (above : Option (List ℕ)) (value : List ℕ) → is_some (nested_name above value) ≡ is_some above
some_nested None value = refl
some_nested (Some outer) value = refl

no_text : (text other : List ℕ) → text ≢ other → bytes_eq text other ≡ false
no_text text other differ = never (bytes_eq text other) (λ same. differ ((bytes_eq-Decides text other).0 same))

module _ (t : Nodes) (tree : IsTree t) (n p : ℕ) (s : Segment) (e : IsChild t p n) (last : last_segment t n ≡ Some s) where
  front_is : front_of t n ≡ front_below (class_name t p) (Some s)
  front_is = ap (λ m. front_below (class_name t m) (last_segment t n)) e.parent ∙ ap (front_below (class_name t p)) last

  pub nested_has : s.kind ≡ codes "nested-class" → is_some (class_name t n) ≡ is_some (class_name t p)
  nested_has kind = ap is_some (up_to t tree n p s e last ∙ name_nested (class_name t p) s kind) ∙ some_nested (class_name t p) s.value

  pub sign_nested : s.kind ≡ codes "nested-class" → IsInName t n → (end : NameEnd) → IsWhole t p end → IsInName t end.number × (front_of t n ≡ Some (reverse (left_of t end) ++ 36 ∷ []))
  sign_nested kind (above, inside, (front, named)) end whole =
      let found = nested_front (class_name t p) s front kind (sym front_is ∙ named) in
      let name = class_whole t tree p (parent_inside t tree n p s e last) found.0 found.1 end whole in
      (name.0, front_is ∙ found.2 ∙ ap (λ o. Some (o ++ 36 ∷ [])) (sym name.1))

  pub sign_other : s.kind ≢ codes "class" → s.kind ≢ codes "nested-class" → IsInName t n → (end : NameEnd) → IsWhole t p end → IsInName t end.number × (front_of t n ≡ Some (reverse (left_of t end) ++ 35 ∷ []))
  sign_other class nested (above, inside, (front, named)) end whole =
      let found = other_front (class_name t p) s front (no_text s.kind (codes "class") class) (no_text s.kind (codes "nested-class") nested) (sym front_is ∙ named) in
      let name = class_whole t tree p (parent_inside t tree n p s e last) found.0 found.1 end whole in
      (name.0, front_is ∙ found.2 ∙ ap (λ o. Some (o ++ 35 ∷ [])) (sym name.1))

  pub method_whole : is_of_method s ≡ true → true ≡ is_some (class_name t p) → (end : NameEnd) → IsWhole t n end → IsInName t end.number × (method_name t n ≡ Some (reverse (left_of t end)))
  method_whole method has end (number, (other, other_last, left)) =
      let class = some_of (class_name t p) has in
      let is = method_front class.0 s method in
      let value : end.left.now ≡ s.value = left ∙ ap (λ (x : Segment). x.value) (some_is other s (sym other_last ∙ last)) in
      let front : front_of t n ≡ Some (class.0 ++ 35 ∷ []) = front_is ∙ ap (λ o. front_below o (Some s)) class.1 ∙ is.0 in
      let name : method_name t n ≡ Some (class.0 ++ 35 ∷ s.value) = ap (λ m. method_below (class_name t m) (last_segment t n)) e.parent ∙ ap (method_below (class_name t p)) last ∙ ap (λ o. method_below o (Some s)) class.1 ∙ is.1 in (
        subst (IsInName t) (sym number) (e.above_zero, e.inside, (class.0 ++ 35 ∷ [], front)),
        name ∙ ap Some (sym (whole_left t n end s (class.0 ++ 35 ∷ []) number value front ∙ append_assoc class.0 (35 ∷ []) s.value)),
      )
