-- Where a part stops, and that it does so whatever follows.
use Rattle.std.proofs.Common.{◌≡◌, ◌⊎◌, inl, inr, ℕ, zero, suc, ◌+◌, ◌==◌, not, Bool, true, false, cond, get_or, List, [], ◌∷◌, ◌++◌, length, take, drop, Option, Some, None, Result, Ok, Err, refl, ap, sym, ◌∙◌, subst, arith, append_assoc, append-nil}
use Rattle.std.proofs.lemmas.Bool.{eqb-true}
use Rattle.std.proofs.lemmas.List.{take_at, drop_at, take-append-drop}
use Rattle.std.specs.List.{AllByRecursion, prefix_len}
use Rattle.std.specs.Option.{ok_or}
use Rattle.std.specs.Str.{is_utf8}
use Rattle.unique_id.specs.declared.fault.UidFault.{UidFault}
use Rattle.unique_id.specs.declared.fault.UidFault.TheVariants.{BadEscape, EmptyPart}
use Rattle.unique_id.specs.declared.part.Part.{Part}
use Rattle.unique_id.specs.declared.part.Part.TheVariants as parts
use Rattle.unique_id.specs.Answers.{◌>>=◌}
use Rattle.unique_id.specs.Escapes.{byte_of}
use Rattle.unique_id.specs.Faults.{place_of}
use Rattle.unique_id.specs.Grammar.{Item, Plain, Escape, IsItem, part_text, is_delimiter}
use Rattle.unique_id.specs.Places.{width}
use Rattle.unique_id.specs.Reading.{unescaped, part_len, end_of, unended, after, checked, part_before, part_at}
use Rattle.unique_id.proofs.Again.{IsInside}
use Rattle.unique_id.proofs.Steps.{went, err_ok, same_err}
use Rattle.unique_id.proofs.Takes.{items_read, front_inside}

-- both are there, or neither is
abbrev pub Same : {X : Type 0} → Option X → Option X → Type 0
Same None None = Unit {0}
Same (Some x) (Some y) = Unit {0}
Same None (Some y) = ⊥
Same (Some x) None = ⊥

same_cond : (t : Bool) (x y : List ℕ) → Same (cond t (Some x) None) (cond t (Some y) None)
same_cond true x y = tt
same_cond false x y = tt

no_first : (b : ℕ) (r : List ℕ) → take 1 (b ∷ r) ≡ take 1 [] → ⊥
no_first b r h = cc

-- what begins alike follows alike
pub same_after : (e : ℕ) (behind r : List ℕ) → take 1 r ≡ take 1 behind → Same (after e behind) (after e r)
same_after e [] [] h = tt
same_after e [] (b ∷ r) h = absurd (no_first b r h)
same_after e (b ∷ x) [] h = absurd (no_first b x (sym h))
same_after e (b ∷ x) (c ∷ r) h =
    let same : c ≡ b = ap (λ l. get_or l 0 0) h in
    subst (λ (n : ℕ). Same (after e (b ∷ x)) (after e (n ∷ r))) (sym same) (same_cond (b == e) x r)

last_alike : (r : Result (List ℕ) UidFault) (x y : List ℕ) (fault : UidFault)
    → ◌≡◌ {A = Result (List ℕ × List ℕ) UidFault} (r >>= λ named. Ok (named, x)) (Err fault) → ◌≡◌ {A = Result (List ℕ × List ℕ) UidFault} (r >>= λ named. Ok (named, y)) (Err fault)
last_alike (Ok n) x y fault h = err_ok fault (n, x) (sym h)
last_alike (Err e) x y fault h = h

all_alike : (r : Result (List ℕ) UidFault) (o p : Option (List ℕ)) (u : UidFault) (ch : List ℕ → Result (List ℕ) UidFault) (fault : UidFault) → Same o p
    → ◌≡◌ {A = Result (List ℕ × List ℕ) UidFault} (r >>= λ bytes. ok_or o u >>= λ rest. ch bytes >>= λ named. Ok (named, rest)) (Err fault)
    → ◌≡◌ {A = Result (List ℕ × List ℕ) UidFault} (r >>= λ bytes. ok_or p u >>= λ rest. ch bytes >>= λ named. Ok (named, rest)) (Err fault)
all_alike (Err e) o p u ch fault s h = h
all_alike (Ok b) None None u ch fault s h = h
all_alike (Ok b) None (Some y) u ch fault s h = absurd s
all_alike (Ok b) (Some x) None u ch fault s h = absurd s
all_alike (Ok b) (Some x) (Some y) u ch fault s h = last_alike (ch b) x y fault h

before_alike : (part : Part) (q : ℕ) (written behind r : List ℕ) (fault : UidFault) → take 1 r ≡ take 1 behind → part_before part q written behind ≡ Err fault → part_before part q written r ≡ Err fault
unfolding part_before
before_alike part q written behind r fault same h =
    all_alike (unescaped [] q written) (after (end_of part) behind) (after (end_of part) r) (unended part (q + length written)) (checked q written) fault (same_after (end_of part) behind r same) h

-- nothing, or what ends a part
abbrev pub Ends : List ℕ → Type 0
Ends [] = Unit {0}
Ends (d ∷ rest) = is_delimiter d ≡ true

ends_alike : (behind r : List ℕ) → take 1 r ≡ take 1 behind → Ends behind → Ends r
ends_alike [] [] h e = tt
ends_alike [] (b ∷ r) h e = absurd (no_first b r h)
ends_alike (d ∷ x) [] h e = absurd (no_first d x (sym h))
ends_alike (d ∷ x) (c ∷ r) h e = ap is_delimiter (ap (λ l. get_or l 0 0) h) ∙ e

pub part_len_is : (written behind : List ℕ) → AllByRecursion IsInside written → Ends behind → part_len (written ++ behind) ≡ length written
part_len_is [] [] all e = refl
part_len_is [] (d ∷ rest) all e = rw e refl
part_len_is (b ∷ written) behind (inside, all) e = rw inside (omega (arith, part_len_is written behind all e))

part_cut : (part : Part) (q : ℕ) (written behind : List ℕ) → AllByRecursion IsInside written → Ends behind → part_at part q (written ++ behind) ≡ part_before part q written behind
part_cut part q written behind all e =
    let len = part_len_is written behind all e in
    let taken : take (part_len (written ++ behind)) (written ++ behind) ≡ written = ap (λ n. take n (written ++ behind)) len ∙ take_at written behind (length written) refl in
    let dropped : drop (part_len (written ++ behind)) (written ++ behind) ≡ behind = ap (λ n. drop n (written ++ behind)) len ∙ drop_at written behind (length written) refl in
    ap (λ w. part_before part q w (drop (part_len (written ++ behind)) (written ++ behind))) taken ∙ ap (part_before part q written) dropped

back_step : (b : ℕ) (text : List ℕ) (t : Bool) → is_delimiter b ≡ t → Ends (drop (part_len text) text) → Ends (drop (part_len (b ∷ text)) (b ∷ text))
back_step b text true e h = rw e e
back_step b text false e h =
    let len : part_len (b ∷ text) ≡ suc (part_len text) = rw e (omega arith) in
    subst (λ (n : ℕ). Ends (drop n (b ∷ text))) (sym len) h

back_ends : (text : List ℕ) → Ends (drop (part_len text) text)
back_ends [] = tt
back_ends (b ∷ text) = back_step b text (is_delimiter b) refl (back_ends text)

all_back : (P : ℕ → Type 0) (xs ys : List ℕ) → AllByRecursion P (xs ++ ys) → AllByRecursion P ys
all_back P [] ys all = all
all_back P (x ∷ xs) ys (h, all) = all_back P xs ys all

-- what begins as a list and one more element do
record Cut (dk behind r : List ℕ) : Type 0 where
  more : List ℕ
  is : r ≡ dk ++ more
  alike : take 1 more ≡ take 1 behind

no_more : (n d : ℕ) (l : List ℕ) → take (suc n) [] ≡ d ∷ l → ⊥
no_more n d l h = cc

cut_front : (dk behind r : List ℕ) (n : ℕ) → n ≡ length dk → take (suc n) r ≡ take (suc n) (dk ++ behind) → Cut dk behind r
cut_front [] behind r n e h = record { more = r; is = refl; alike = subst (λ (m : ℕ). take (suc m) r ≡ take (suc m) behind) e h }
cut_front (d ∷ dk) behind r zero e h = absurd (omega (arith, e))
cut_front (d ∷ dk) behind [] (suc n) e h = absurd (no_more (suc n) d (take (suc n) (dk ++ behind)) h)
cut_front (d ∷ dk) behind (c ∷ r) (suc n) e h =
    let rest = cut_front dk behind r n (omega (arith, e)) (ap (drop 1) h) in
    record { more = rest.more; is = ap (λ m. m ∷ r) (ap (λ l. get_or l 0 0) h) ∙ ap (λ l. d ∷ l) rest.is; alike = rest.alike }

part_dies : (part : Part) (q : ℕ) (front dk behind written : List ℕ) (fault : UidFault) → written ≡ front ++ dk → AllByRecursion IsInside written → Ends behind → part_before part q written behind ≡ Err fault
    → (r : List ℕ) (n : ℕ) → n ≡ suc (length dk) → take n r ≡ take n (dk ++ behind) → part_at part q (front ++ r) ≡ Err fault
part_dies part q front dk behind written fault is all e fails r n len alike =
    let cut = cut_front dk behind r (length dk) refl (subst (λ (m : ℕ). take m r ≡ take m (dk ++ behind)) len alike) in
    let whole : front ++ r ≡ written ++ cut.more = ap (λ l. front ++ l) cut.is ∙ sym (append_assoc front dk cut.more) ∙ ap (λ l. l ++ cut.more) (sym is) in
    ap (part_at part q) whole ∙ part_cut part q written cut.more all (ends_alike behind cut.more cut.alike e) ∙ before_alike part q written behind cut.more fault cut.alike fails

-- items that were read before a bad escape
record EscapeStop (written : List ℕ) (place : ℕ) (fault : UidFault) : Type 0 where
  items : List Item
  right : AllByRecursion IsItem items
  dk : List ℕ
  split : written ≡ part_text items ++ dk
  fault_is : BadEscape (place + length (part_text items)) ≡ fault

stop_here : (written : List ℕ) (place : ℕ) (fault : UidFault) → BadEscape place ≡ fault → EscapeStop written place fault
stop_here written place fault h = record { items = []; right = tt; dk = written; split = refl; fault_is = ap BadEscape (omega arith) ∙ h }

plain_stop : (b : ℕ) (text : List ℕ) (place : ℕ) (fault : UidFault) → (b == 37) ≡ false → IsInside b → EscapeStop text (place + 1) fault → EscapeStop (b ∷ text) place fault
plain_stop b text place fault plain inside more = record {
  items = Plain b ∷ more.items;
  right = ((plain, inside), more.right);
  dk = more.dk;
  split = ap (λ l. b ∷ l) more.split;
  fault_is = ap BadEscape (omega arith) ∙ more.fault_is;
}

escape_stop : (b high low byte : ℕ) (text : List ℕ) (place : ℕ) (fault : UidFault) → (b == 37) ≡ true → byte_of high low ≡ Some byte → EscapeStop text (place + 3) fault → EscapeStop (b ∷ high ∷ low ∷ text) place fault
escape_stop b high low byte text place fault percent digits more = record {
  items = Escape high low byte ∷ more.items;
  right = (digits, more.right);
  dk = more.dk;
  split = ap (λ n. n ∷ high ∷ low ∷ text) (eqb-true b 37 percent) ∙ ap (λ l. 37 ∷ high ∷ low ∷ l) more.split;
  fault_is = ap BadEscape (omega arith) ∙ more.fault_is;
}

-- an option that is asked for first fails, or what follows it does
pub asked : {A B : Type 0} (o : Option A) (e : UidFault) (f : A → Result B UidFault) (fault : UidFault) → (ok_or o e >>= f) ≡ Err fault
    → ((o ≡ None) × (e ≡ fault)) ⊎ ((x : A) × (o ≡ Some x) × (f x ≡ Err fault))
asked {A} {B} None e f fault h = inl (refl, same_err {A = B} e fault h)
asked (Some x) e f fault h = inr (x, refl, h)

escape_stops : (written done : List ℕ) (place : ℕ) (fault : UidFault) → AllByRecursion IsInside written → unescaped done place written ≡ Err fault → EscapeStop written place fault
escape_stops [] done place fault all h = err_ok fault done (sym h)
escape_stops (b ∷ []) done place fault (inside, all) h =
    elim (went (b == 37) _ _ (Err fault) h) [
      | inl bad ↦ stop_here (b ∷ []) place fault (same_err {A = List ℕ} (BadEscape place) fault bad.1)
      | inr plain ↦ plain_stop b [] place fault plain.0 inside (escape_stops [] (done ++ b ∷ []) (place + 1) fault all plain.1)
    ]
escape_stops (b ∷ c ∷ []) done place fault (inside, all) h =
    elim (went (b == 37) _ _ (Err fault) h) [
      | inl bad ↦ stop_here (b ∷ c ∷ []) place fault (same_err {A = List ℕ} (BadEscape place) fault bad.1)
      | inr plain ↦ plain_stop b (c ∷ []) place fault plain.0 inside (escape_stops (c ∷ []) (done ++ b ∷ []) (place + 1) fault all plain.1)
    ]
escape_stops (b ∷ c ∷ d ∷ text) done place fault (inside, (inside_c, (inside_d, all))) h =
    elim (went (b == 37) _ _ (Err fault) h) [
      | inl escape ↦
          elim (asked (byte_of c d) (BadEscape place) (λ byte. unescaped (done ++ byte ∷ []) (place + 3) text) fault escape.1) [
            | inl bad ↦ stop_here (b ∷ c ∷ d ∷ text) place fault bad.1
            | inr read ↦ escape_stop b c d read.0 text place fault escape.0 read.1 (escape_stops text (done ++ read.0 ∷ []) (place + 3) fault all read.2)
          ]
      | inr plain ↦ plain_stop b (c ∷ d ∷ text) place fault plain.0 inside (escape_stops (c ∷ d ∷ text) (done ++ b ∷ []) (place + 1) fault (inside_c, (inside_d, all)) plain.1)
    ]

-- what stands before the first %
record Plains (written : List ℕ) : Type 0 where
  items : List Item
  right : AllByRecursion IsItem items
  dk : List ℕ
  split : written ≡ part_text items ++ dk
  len : length (part_text items) ≡ prefix_len (λ b. not (b == 37)) written

plains_step : (b : ℕ) (text : List ℕ) (t : Bool) → (b == 37) ≡ t → IsInside b → Plains text → Plains (b ∷ text)
plains_step b text true e inside more = record { items = []; right = tt; dk = b ∷ text; split = refl; len = rw e refl }
plains_step b text false e inside more = record {
  items = Plain b ∷ more.items;
  right = ((e, inside), more.right);
  dk = more.dk;
  split = ap (λ l. b ∷ l) more.split;
  len = rw e (omega (arith, more.len));
}

plains : (written : List ℕ) → AllByRecursion IsInside written → Plains written
plains [] all = record { items = []; right = tt; dk = []; split = refl; len = refl }
plains (b ∷ text) (inside, all) = plains_step b text (b == 37) refl inside (plains text all)

-- where a part stops: what was read of it are items, and it stops there whatever follows that begins alike
pub record PartStop (part : Part) (q : ℕ) (text : List ℕ) (fault : UidFault) : Type 0 where
  pub front : List ℕ
  pub behind : List ℕ
  pub split : text ≡ front ++ behind
  pub place : place_of fault ≡ Some (q + length front)
  pub items : List Item
  pub right : AllByRecursion IsItem items
  pub front_is : front ≡ part_text items
  pub dies : (r : List ℕ) → take (width fault behind) r ≡ take (width fault behind) behind → part_at part q (front ++ r) ≡ Err fault

module _ (part : Part) (q : ℕ) (written behind : List ℕ) (all : AllByRecursion IsInside written) (ends : Ends behind) where
  -- a stop after these items
  stop : (fault : UidFault) → part_before part q written behind ≡ Err fault → (items : List Item) → AllByRecursion IsItem items → (dk : List ℕ) → written ≡ part_text items ++ dk
      → place_of fault ≡ Some (q + length (part_text items)) → width fault (dk ++ behind) ≡ suc (length dk) → PartStop part q (written ++ behind) fault
  stop fault fails items right dk split place wide = record {
    front = part_text items;
    behind = dk ++ behind;
    split = ap (λ l. l ++ behind) split ∙ append_assoc (part_text items) dk behind;
    place = place;
    items = items;
    right = right;
    front_is = refl;
    dies = λ r alike. part_dies part q (part_text items) dk behind written fault split all ends fails r (width fault (dk ++ behind)) wide alike;
  }

  -- a stop at a bad escape
  stop_escape : (fault : UidFault) → part_before part q written behind ≡ Err fault → (items : List Item) → AllByRecursion IsItem items → (dk : List ℕ) → written ≡ part_text items ++ dk
      → BadEscape (q + length (part_text items)) ≡ fault → PartStop part q (written ++ behind) fault
  stop_escape fault fails items right dk split is =
      let within = all_back IsInside (part_text items) dk (subst (AllByRecursion IsInside) split all) in
      stop fault fails items right dk split (ap place_of (sym is)) (ap (λ f. width f (dk ++ behind)) (sym is) ∙ omega (arith, part_len_is dk behind within ends))

  -- a stop at the end of the part
  stop_end : (fault : UidFault) → part_before part q written behind ≡ Err fault → (bytes : List ℕ) → unescaped [] q written ≡ Ok bytes
      → place_of fault ≡ Some (q + length written) → width fault behind ≡ 1 → PartStop part q (written ++ behind) fault
  stop_end fault fails bytes read place wide =
      let are = items_read written [] q bytes all read in
      stop fault fails are.items are.each_item [] (are.text_is ∙ sym (append-nil (part_text are.items))) (place ∙ ap (λ l. Some (q + length l)) are.text_is) (wide ∙ refl)

  failed : (bytes : List ℕ) (fault : UidFault) → checked q written bytes ≡ Err fault → (EmptyPart (q + length written) ≡ fault) ⊎ (BadEscape (q + prefix_len (λ b. not (b == 37)) written) ≡ fault)
  failed bytes fault h =
      elim (went (length bytes == 0) _ _ (Err fault) h) [
        | inl none ↦ inl (same_err {A = List ℕ} (EmptyPart (q + length written)) fault none.1)
        | inr some ↦
            elim (went (is_utf8 bytes) _ _ (Err fault) some.1) [
              | inl good ↦ err_ok fault bytes (sym good.1)
              | inr bad ↦ inr (same_err {A = List ℕ} (BadEscape (q + prefix_len (λ b. not (b == 37)) written)) fault bad.1)
            ]
      ]

  stop_checked : (fault : UidFault) → part_before part q written behind ≡ Err fault → (bytes : List ℕ) → unescaped [] q written ≡ Ok bytes → checked q written bytes ≡ Err fault → PartStop part q (written ++ behind) fault
  stop_checked fault fails bytes read h =
      elim (failed bytes fault h) [
        | inl empty ↦ stop_end fault fails bytes read (ap place_of (sym empty)) (ap (λ f. width f behind) (sym empty))
        | inr bad ↦
            (let before = plains written all in
            stop_escape fault fails before.items before.right before.dk before.split (ap (λ n. BadEscape (q + n)) before.len ∙ bad))
      ]

  unended_place : (p : Part) (n : ℕ) → place_of (unended p n) ≡ Some n
  unended_place parts.Kind n = refl
  unended_place parts.Value n = refl

  unended_width : (p : Part) (n : ℕ) → width (unended p n) behind ≡ 1
  unended_width parts.Kind n = refl
  unended_width parts.Value n = refl

-- which of the three steps of a part failed
last_failed : (r : Result (List ℕ) UidFault) (x : List ℕ) (fault : UidFault) → ◌≡◌ {A = Result (List ℕ × List ℕ) UidFault} (r >>= λ named. Ok (named, x)) (Err fault) → r ≡ Err fault
last_failed (Ok n) x fault h = err_ok fault (n, x) (sym h)
last_failed (Err e) x fault h = ap Err (same_err {A = List ℕ × List ℕ} e fault h)

step_failed : (r : Result (List ℕ) UidFault) (o : Option (List ℕ)) (u : UidFault) (ch : List ℕ → Result (List ℕ) UidFault) (fault : UidFault)
    → ◌≡◌ {A = Result (List ℕ × List ℕ) UidFault} (r >>= λ bytes. ok_or o u >>= λ rest. ch bytes >>= λ named. Ok (named, rest)) (Err fault)
    → (r ≡ Err fault) ⊎ ((bytes : List ℕ) × (r ≡ Ok bytes) × ((u ≡ fault) ⊎ (ch bytes ≡ Err fault)))
step_failed (Err e) o u ch fault h = inl (ap Err (same_err {A = List ℕ × List ℕ} e fault h))
step_failed (Ok b) None u ch fault h = inr (b, refl, inl (same_err {A = List ℕ × List ℕ} u fault h))
step_failed (Ok b) (Some x) u ch fault h = inr (b, refl, inr (last_failed (ch b) x fault h))

before_failed : (part : Part) (q : ℕ) (written behind : List ℕ) (fault : UidFault) → part_before part q written behind ≡ Err fault
    → (unescaped [] q written ≡ Err fault) ⊎ ((bytes : List ℕ) × (unescaped [] q written ≡ Ok bytes) × ((unended part (q + length written) ≡ fault) ⊎ (checked q written bytes ≡ Err fault)))
unfolding part_before
before_failed part q written behind fault h = step_failed (unescaped [] q written) (after (end_of part) behind) (unended part (q + length written)) (checked q written) fault h

before_stops : (part : Part) (q : ℕ) (written behind : List ℕ) → AllByRecursion IsInside written → Ends behind → (fault : UidFault) → part_before part q written behind ≡ Err fault → PartStop part q (written ++ behind) fault
before_stops part q written behind all ends fault h =
    elim (before_failed part q written behind fault h) [
      | inl bad ↦
          (let at = escape_stops written [] q fault all bad in
          stop_escape part q written behind all ends fault h at.items at.right at.dk at.split at.fault_is)
      | inr read ↦
          elim read.2 [
            | inl unclosed ↦
                stop_end part q written behind all ends fault h read.0 read.1
                (ap place_of (sym unclosed) ∙ unended_place part q written behind all ends part (q + length written))
                (ap (λ f. width f behind) (sym unclosed) ∙ unended_width part q written behind all ends part (q + length written))
            | inr bad ↦ stop_checked part q written behind all ends fault h read.0 read.1 bad
          ]
    ]

pub part_stops : (part : Part) (q : ℕ) (text : List ℕ) (fault : UidFault) → part_at part q text ≡ Err fault → PartStop part q text fault
part_stops part q text fault h =
    subst (λ (t : List ℕ). PartStop part q t fault) (take-append-drop (part_len text) text)
    (before_stops part q (take (part_len text) text) (drop (part_len text) text) (front_inside text) (back_ends text) fault h)
