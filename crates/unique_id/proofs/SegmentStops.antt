-- Where a segment stops, and that it does so whatever follows.
use Rattle.std.proofs.Common.{◌≡◌, ◌⊎◌, inl, inr, ℕ, ◌+◌, ◌-◌, ◌<◌, List, [], ◌∷◌, ◌++◌, length, take, Option, Some, None, Result, Ok, Err, refl, ap, sym, ◌∙◌, subst, arith, append_assoc, append-nil, length-append}
use Rattle.std.proofs.lemmas.Grind.{flat_map-append}
use Rattle.std.specs.List.{AllByRecursion}
use Rattle.unique_id.specs.declared.fault.UidFault.{UidFault}
use Rattle.unique_id.specs.declared.fault.UidFault.TheVariants.{NoBracket}
use Rattle.unique_id.specs.declared.part.Part.TheVariants as parts
use Rattle.unique_id.specs.declared.unique_id.Segment.{Segment}
use Rattle.unique_id.specs.Answers.{◌>>=◌}
use Rattle.unique_id.specs.Faults.{place_of}
use Rattle.unique_id.specs.Grammar.{Item, Plain, IsItem, item_text, part_text, part_bytes, IsPart, Written, segment_text}
use Rattle.unique_id.specs.Places.{AreItems, HasItems, width}
use Rattle.unique_id.specs.Reading.{after, part_at, ended, segment_at}
use Rattle.unique_id.proofs.Again.{part_again}
use Rattle.unique_id.proofs.PartStops.{Same, same_after, asked, PartStop, part_stops}
use Rattle.unique_id.proofs.Steps.{err_ok, same_err}
use Rattle.unique_id.proofs.Takes.{IsTaken, part_read, after_found}

-- where a segment stops: what stands before can be carried on to one, and it stops there whatever follows that begins alike
pub record SegmentStop (q : ℕ) (text : List ℕ) (fault : UidFault) : Type 0 where
  pub front : List ℕ
  pub behind : List ℕ
  pub split : text ≡ front ++ behind
  pub place : place_of fault ≡ Some (q + length front)
  pub written : Written
  pub right : HasItems written
  pub rest : List ℕ
  pub begun : front ++ rest ≡ segment_text written
  pub dies : (r : List ℕ) → take (width fault behind) r ≡ take (width fault behind) behind → segment_at q (front ++ r) ≡ Err fault

-- a letter
abbrev letter : List Item
letter = Plain 97 ∷ []

one_letter : AreItems letter
one_letter = record { some_item = omega arith; each_item = ((refl, refl), tt) }

all_more : (items : List Item) → AllByRecursion IsItem items → AllByRecursion IsItem (items ++ letter)
all_more [] all = ((refl, refl), tt)
all_more (i ∷ items) (h, all) = (h, all_more items all)

-- items and a letter
and_letter : (items : List Item) → AllByRecursion IsItem items → AreItems (items ++ letter)
and_letter items all = record { some_item = omega (arith, length-append items letter); each_item = all_more items all }

part_are : (items : List Item) → IsPart items → AreItems items
part_are items is = record { some_item = is.some_item; each_item = is.each_item }

letter_text : (items : List Item) → part_text (items ++ letter) ≡ part_text items ++ 97 ∷ []
letter_text items = flat_map-append item_text items letter

none_same : {X : Type 0} (o p : Option X) → Same o p → o ≡ None → p ≡ None
none_same None None s e = refl
none_same None (Some y) s e = absurd s
none_same (Some x) None s e = refl
none_same (Some x) (Some y) s e = absurd (cc)

no_segment : (q : ℕ) (t : List ℕ) → after 91 t ≡ None → segment_at q t ≡ Err (NoBracket q)
unfolding segment_at
no_segment q t h = rw h refl

kind_fails : (q : ℕ) (t : List ℕ) (fault : UidFault) → part_at parts.Kind (q + 1) t ≡ Err fault → segment_at q (91 ∷ t) ≡ Err fault
unfolding segment_at
kind_fails q t fault h = rw h refl

value_fails : (q : ℕ) (t rest kind : List ℕ) (fault : UidFault) → part_at parts.Kind (q + 1) t ≡ Ok (kind, rest) → part_at parts.Value (q + (length (91 ∷ t) - length rest)) rest ≡ Err fault
    → segment_at q (91 ∷ t) ≡ Err fault
unfolding segment_at
value_fails q t rest kind fault k v = rw k (rw v refl)

end_fails : (q : ℕ) (t rest kind more value : List ℕ) (fault : UidFault) → part_at parts.Kind (q + 1) t ≡ Ok (kind, rest) → part_at parts.Value (q + (length (91 ∷ t) - length rest)) rest ≡ Ok (value, more)
    → ended (q + (length (91 ∷ t) - length more)) more ≡ Err fault → segment_at q (91 ∷ t) ≡ Err fault
unfolding segment_at
end_fails q t rest kind more value fault k v e = rw k (rw v (rw e refl))

-- a segment that doesn't begin with a bracket
first_stop : (q : ℕ) (t : List ℕ) (fault : UidFault) → after 91 t ≡ None → NoBracket q ≡ fault → SegmentStop q t fault
first_stop q t fault none is = subst (SegmentStop q t) is (record {
  front = [];
  behind = t;
  split = refl;
  place = ap Some (omega arith);
  written = record { kind = letter; value = letter };
  right = (one_letter, one_letter);
  rest = 91 ∷ 97 ∷ 58 ∷ 97 ∷ 93 ∷ [];
  begun = refl;
  dies = λ r alike. no_segment q r (none_same (after 91 t) (after 91 r) (same_after 91 t r alike) none);
})

kind_stop : (q : ℕ) (t inside : List ℕ) (fault : UidFault) → t ≡ 91 ∷ inside → PartStop parts.Kind (q + 1) inside fault → SegmentStop q t fault
kind_stop q t inside fault is at = record {
  front = 91 ∷ at.front;
  behind = at.behind;
  split = is ∙ ap (λ l. 91 ∷ l) at.split;
  place = at.place ∙ ap Some (omega arith);
  written = record { kind = at.items ++ letter; value = letter };
  right = (and_letter at.items at.right, one_letter);
  rest = 97 ∷ 58 ∷ 97 ∷ 93 ∷ [];
  begun =
      ap (λ l. 91 ∷ (l ++ 97 ∷ 58 ∷ 97 ∷ 93 ∷ [])) at.front_is
      ∙ ap (λ l. 91 ∷ l) (sym (append_assoc (part_text at.items) (97 ∷ []) (58 ∷ 97 ∷ 93 ∷ [])))
      ∙ ap (λ l. 91 ∷ (l ++ 58 ∷ 97 ∷ 93 ∷ [])) (sym (letter_text at.items));
  dies = λ r alike. kind_fails q (at.front ++ r) fault (at.dies r alike);
}

-- how long a segment is as far as its colon
colon_len : (kind rest : List ℕ) → length (91 ∷ (kind ++ 58 ∷ rest)) ≡ length kind + 2 + length rest
colon_len kind rest = omega (arith, length-append kind (58 ∷ rest))

value_place : (q : ℕ) (kind rest : List ℕ) → q + (length (91 ∷ (kind ++ 58 ∷ rest)) - length rest) ≡ q + (length kind + 2)
value_place q kind rest = omega (arith, colon_len kind rest)

value_stop : (q : ℕ) (t inside rest : List ℕ) (kind : List ℕ) (fault : UidFault) → t ≡ 91 ∷ inside → IsTaken parts.Kind inside kind rest → PartStop parts.Value (q + (length t - length rest)) rest fault → SegmentStop q t fault
value_stop q t inside rest kind fault is taken at =
    let text = part_text taken.items in
    let front : List ℕ = 91 ∷ (text ++ 58 ∷ at.front) in
    let whole : t ≡ 91 ∷ (text ++ 58 ∷ rest) = is ∙ ap (λ l. 91 ∷ l) taken.text_is in
    let place : q + (length t - length rest) ≡ q + (length text + 2) = ap (λ l. q + (length l - length rest)) whole ∙ value_place q text rest in
    record {
      front = front;
      behind = at.behind;
      split = whole ∙ ap (λ l. 91 ∷ (text ++ 58 ∷ l)) at.split ∙ ap (λ l. 91 ∷ l) (sym (append_assoc text (58 ∷ at.front) at.behind));
      place = at.place ∙ ap Some (omega (arith, place, colon_len text at.front));
      written = record { kind = taken.items; value = at.items ++ letter };
      right = (part_are taken.items taken.right, and_letter at.items at.right);
      rest = 97 ∷ 93 ∷ [];
      begun =
          ap (λ l. 91 ∷ l) (append_assoc text (58 ∷ at.front) (97 ∷ 93 ∷ []))
          ∙ ap (λ l. 91 ∷ (text ++ 58 ∷ (l ++ 97 ∷ 93 ∷ []))) at.front_is
          ∙ ap (λ l. 91 ∷ (text ++ 58 ∷ l)) (sym (append_assoc (part_text at.items) (97 ∷ []) (93 ∷ [])))
          ∙ ap (λ l. 91 ∷ (text ++ 58 ∷ (l ++ 93 ∷ []))) (sym (letter_text at.items));
      dies = λ r alike.
          let more : List ℕ = at.front ++ r in
          ap (λ l. segment_at q (91 ∷ l)) (append_assoc text (58 ∷ at.front) r)
          ∙ value_fails q (text ++ 58 ∷ more) more (part_bytes taken.items) fault (part_again parts.Kind (q + 1) taken.items more taken.right)
          (ap (λ n. part_at parts.Value n more) (value_place q text more ∙ sym place) ∙ at.dies r alike);
    }

-- what follows a segment
ended_fails : (place : ℕ) (more : List ℕ) (fault : UidFault) → ended place more ≡ Err fault → (NoBracket place ≡ fault) × (0 < length more)
ended_fails place [] fault h = err_ok fault tt (sym h)
ended_fails place (b ∷ more) fault h = (same_err {A = Unit {0}} (NoBracket place) fault h, omega arith)

ended_alike : (place : ℕ) (more r : List ℕ) → 0 < length more → take 1 r ≡ take 1 more → ended place r ≡ Err (NoBracket place)
ended_alike place [] r some h = absurd (omega arith)
ended_alike place (b ∷ more) [] some h = absurd (cc)
ended_alike place (b ∷ more) (c ∷ r) some h = refl

-- how long a whole segment is
whole_len : (kind value more : List ℕ) → length (91 ∷ (kind ++ 58 ∷ (value ++ 93 ∷ more))) ≡ length kind + length value + 3 + length more
whole_len kind value more = omega (arith, length-append kind (58 ∷ (value ++ 93 ∷ more)), length-append value (93 ∷ more))

end_place : (q : ℕ) (kind value more : List ℕ) → q + (length (91 ∷ (kind ++ 58 ∷ (value ++ 93 ∷ more))) - length more) ≡ q + (length kind + length value + 3)
end_place q kind value more = omega (arith, whole_len kind value more)

open_end : (kind value more : List ℕ) → 91 ∷ (kind ++ 58 ∷ (value ++ 93 ∷ more)) ≡ (91 ∷ (kind ++ 58 ∷ (value ++ 93 ∷ []))) ++ more
open_end kind value more =
    ap (λ l. 91 ∷ (kind ++ 58 ∷ l)) (sym (append_assoc value (93 ∷ []) more)) ∙ ap (λ l. 91 ∷ l) (sym (append_assoc kind (58 ∷ (value ++ 93 ∷ [])) more))

end_stop : (q : ℕ) (t inside kind rest value more : List ℕ) (fault : UidFault) → t ≡ 91 ∷ inside → IsTaken parts.Kind inside kind rest → IsTaken parts.Value rest value more
    → ended (q + (length t - length more)) more ≡ Err fault → SegmentStop q t fault
end_stop q t inside kind rest value more fault is first second h =
    let left = part_text first.items in
    let right = part_text second.items in
    let whole : t ≡ 91 ∷ (left ++ 58 ∷ (right ++ 93 ∷ more)) = is ∙ ap (λ l. 91 ∷ l) first.text_is ∙ ap (λ l. 91 ∷ (left ++ 58 ∷ l)) second.text_is in
    let place : q + (length t - length more) ≡ q + (length left + length right + 3) = ap (λ l. q + (length l - length more)) whole ∙ end_place q left right more in
    let at = ended_fails (q + (length t - length more)) more fault h in
    subst (SegmentStop q t) at.0 (record {
      front = 91 ∷ (left ++ 58 ∷ (right ++ 93 ∷ []));
      behind = more;
      split = whole ∙ open_end left right more;
      place = ap Some (omega (arith, place, whole_len left right []));
      written = record { kind = first.items; value = second.items };
      right = (part_are first.items first.right, part_are second.items second.right);
      rest = [];
      begun = append-nil (91 ∷ (left ++ 58 ∷ (right ++ 93 ∷ [])));
      dies = λ r alike.
          let after_kind : List ℕ = right ++ 93 ∷ r in
          ap (segment_at q) (sym (open_end left right r))
          ∙ end_fails q (left ++ 58 ∷ after_kind) after_kind (part_bytes first.items) r (part_bytes second.items) (NoBracket (q + (length t - length more)))
          (part_again parts.Kind (q + 1) first.items after_kind first.right)
          (part_again parts.Value (q + (length (91 ∷ (left ++ 58 ∷ after_kind)) - length after_kind)) second.items r second.right)
          (ap (λ n. ended n r) (end_place q left right r ∙ sym place) ∙ ended_alike (q + (length t - length more)) more r at.1 alike);
    })

-- the first step fails, or the second after it
pub either : {A B : Type 0} (r : Result A UidFault) (f : A → Result B UidFault) (fault : UidFault) → (r >>= f) ≡ Err fault → (r ≡ Err fault) ⊎ ((x : A) × (r ≡ Ok x) × (f x ≡ Err fault))
either (Ok x) f fault h = inr (x, refl, h)
either {A} {B} (Err e) f fault h = inl (ap Err (same_err {A = B} e fault h))

no_last : (r : Result (Unit {0}) UidFault) (s : Segment) (fault : UidFault) → ◌≡◌ {A = Result Segment UidFault} (r >>= λ _. Ok s) (Err fault) → r ≡ Err fault
no_last (Ok x) s fault h = err_ok fault s (sym h)
no_last (Err e) s fault h = ap Err (same_err {A = Segment} e fault h)

pub segment_stops : (q : ℕ) (t : List ℕ) (fault : UidFault) → segment_at q t ≡ Err fault → SegmentStop q t fault
unfolding segment_at
segment_stops q t fault h =
    let value_of : List ℕ × List ℕ → Result (List ℕ × List ℕ) UidFault = λ kind. part_at parts.Value (q + (length t - length kind.1)) kind.1 in
    let end_is : List ℕ × List ℕ → Result (Unit {0}) UidFault = λ value. ended (q + (length t - length value.1)) value.1 in
    let made : List ℕ × List ℕ → List ℕ × List ℕ → Segment = λ kind value. record { kind = kind.0; value = value.0 } in
    elim (asked (after 91 t) (NoBracket q) (λ inside. part_at parts.Kind (q + 1) inside >>= λ kind. value_of kind >>= λ value. end_is value >>= λ _. Ok (made kind value)) fault h) [
      | inl none ↦ first_stop q t fault none.0 none.1
      | inr begun ↦
          (let front = after_found 91 t begun.0 begun.1 in
          elim (either (part_at parts.Kind (q + 1) begun.0) (λ kind. value_of kind >>= λ value. end_is value >>= λ _. Ok (made kind value)) fault begun.2) [
            | inl bad ↦ kind_stop q t begun.0 fault front (part_stops parts.Kind (q + 1) begun.0 fault bad)
            | inr kind ↦
                (let first = part_read parts.Kind (q + 1) begun.0 kind.0.0 kind.0.1 kind.1 in
                elim (either (value_of kind.0) (λ value. end_is value >>= λ _. Ok (made kind.0 value)) fault kind.2) [
                  | inl bad ↦ value_stop q t begun.0 kind.0.1 kind.0.0 fault front first (part_stops parts.Value (q + (length t - length kind.0.1)) kind.0.1 fault bad)
                  | inr value ↦
                      (let second = part_read parts.Value (q + (length t - length kind.0.1)) kind.0.1 value.0.0 value.0.1 value.1 in
                      end_stop q t begun.0 kind.0.0 kind.0.1 value.0.0 value.0.1 fault front first second (no_last (end_is value.0) (made kind.0 value.0) fault value.2))
                ])
          ])
    ]
