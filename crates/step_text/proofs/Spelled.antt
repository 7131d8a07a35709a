-- A token that names a step is that step's spelling.
use Rattle.std.proofs.Common.{◌≡◌, ℕ, ◌+◌, ◌<◌, ◌≤◌, ◌^◌, ◌&&◌, ◌==◌, List, [], ◌∷◌, ◌++◌, length, map, get_or, drop, slice_index, is_none, Bool, true, false, not, cond, nat_le, if◌then◌else◌, Option, Some, None, option_map, option_and_then, codes, refl, sym, ap, ◌∙◌, inl, inr, ◌⊎◌, arith}
use Rattle.std.proofs.lemmas.Bool.{eqb-true, leb-true, cases_lt, lt-ltb}
use Rattle.std.proofs.lemmas.Option.{none-some}
use Rattle.std.proofs.lemmas.Fmt.{decimal-digits_value}
use Rattle.std.proofs.lemmas.List.Sums.{passes_at_first, split_at_first}
use Rattle.std.proofs.lemmas.Slice.Eq.{bytes_eq-Decides}
use Rattle.std.specs.Fmt.{decimal}
use Rattle.std.specs.Char.{is_ascii_digit}
use Rattle.std.specs.List.{list_all, position, position_or_len, before_first, after_first, filter_map, cons_option}
use Rattle.std.specs.Str.{bytes_eq}
use Rattle.std.specs.Str.Parse.{digits_value}
use Rattle.scheduling.specs.declared.step.Action.{Action}
use Rattle.scheduling.specs.declared.step.Action.TheVariants.{Claim, Own, Draw, Show, Admit, Done, Settle, Look, Weigh, Take, Give, GiveUp, AddChild, Notice, Raise}
use Rattle.scheduling.specs.declared.step.Step.{Step}
use Rattle.scheduling.specs.declared.step.Step.TheVariants.{Worker, Read}
use Rattle.suite_words.specs.Numbers.{is_number, number_up_to}
use Rattle.step_text.specs.StepTexts.{is_colon, is_decimal, number_within, worker_of, node_of, node_action, plain_action, has_colon, action_of, worker_step, step_of, is_bad_word}
use Rattle.step_text.specs.StepSpelling.{spelled_action, spelled_step}
use Rattle.suite_words.proofs.Numbers.{own}

-- one branch of a choice by tokens
picked : {A : Type 0} (b : Bool) (a x : A) (rest : Option A) → (if b then Some a else rest) ≡ Some x → ((b ≡ true) × (a ≡ x)) ⊎ (rest ≡ Some x)
picked true a x rest h = inl (refl, cc)
picked false a x rest h = inr h

chosen : {A : Type 0} (b : Bool) (o : Option A) (x : A) → (if b then o else None) ≡ Some x → (b ≡ true) × (o ≡ Some x)
chosen true o x h = (refl, h)
chosen false o x h = cc

same_bytes : (xs ys : List ℕ) → bytes_eq xs ys ≡ true → xs ≡ ys
same_bytes xs ys h = (bytes_eq-Decides xs ys).0 h

-- a number
decimal_parts : (ds : List ℕ) → is_decimal ds ≡ true → (0 < length ds) × (list_all is_ascii_digit ds ≡ true)
decimal_parts ds h = (grind arith, grind arith)

number_parts : (least most : ℕ) (ds : List ℕ) (n : ℕ) → number_within least most ds ≡ Some n → (is_decimal ds ≡ true) × (nat_le (digits_value 10 ds) most ≡ true) × (digits_value 10 ds ≡ n)
number_parts least most ds n h =
    let outer = chosen (is_decimal ds && nat_le least (digits_value 10 ds)) (number_up_to most ds) n h in
    let parts = chosen (is_number ds && nat_le (digits_value 10 ds) most) (Some (digits_value 10 ds)) n outer.1 in
    let first = outer.0 in
    let second = parts.0 in
    (grind (arith, first), grind (arith, second), cc)

no_zero_first : (ds : List ℕ) → is_decimal ds ≡ true → get_or ds 0 0 ≡ 48 → length ds ≡ 1
no_zero_first ds h e = grind arith

number_spelled : (least most : ℕ) (ds : List ℕ) (n : ℕ) → most < 2 ^ 16 → number_within least most ds ≡ Some n → decimal n ≡ ds
number_spelled least most ds n small h =
    let parts = number_parts least most ds n h in
    let d = decimal_parts ds parts.0 in
    let below = leb-true (digits_value 10 ds) most parts.1 in
    ap decimal (sym parts.2) ∙ decimal-digits_value own ds d.1 d.0 (no_zero_first ds parts.0) (omega (arith, below, small))

-- the two sides of a colon
colon_parts : (text : List ℕ) → has_colon text ≡ true → text ≡ before_first is_colon text ++ 58 ∷ after_first is_colon text
colon_parts text h =
    let inside : position_or_len is_colon text < length text = grind arith in
    let here : get_or text (position_or_len is_colon text) 0 ≡ 58 = eqb-true _ 58 (passes_at_first is_colon text 0 inside) in
    split_at_first is_colon text 0 inside ∙ ap (λ c. before_first is_colon text ++ c ∷ after_first is_colon text) here

-- what a worker does
mapped : {A B : Type 0} (f : A → B) (o : Option A) (y : B) → option_map f o ≡ Some y → (x : A) × (o ≡ Some x) × (f x ≡ y)
mapped f None y h = cc
mapped f (Some x) y h = (x, refl, cc)

node_spelled : (ds : List ℕ) (n : ℕ) → node_of ds ≡ Some n → decimal n ≡ ds
node_spelled ds n h = number_spelled 0 65535 ds n (omega arith) h

claim_spelled : (name ds : List ℕ) (a : Action) → bytes_eq name (codes "claim") ≡ true → option_map Claim (node_of ds) ≡ Some a → spelled_action a ≡ name ++ 58 ∷ ds
claim_spelled name ds a b h =
    let m = mapped Claim (node_of ds) a h in
    ap spelled_action (sym m.2) ∙ ap (λ l. codes "claim:" ++ l) (node_spelled ds m.0 m.1) ∙ ap (λ l. l ++ 58 ∷ ds) (sym (same_bytes name (codes "claim") b))

own_spelled : (name ds : List ℕ) (a : Action) → bytes_eq name (codes "own") ≡ true → option_map Own (node_of ds) ≡ Some a → spelled_action a ≡ name ++ 58 ∷ ds
own_spelled name ds a b h =
    let m = mapped Own (node_of ds) a h in
    ap spelled_action (sym m.2) ∙ ap (λ l. codes "own:" ++ l) (node_spelled ds m.0 m.1) ∙ ap (λ l. l ++ 58 ∷ ds) (sym (same_bytes name (codes "own") b))

node_action_by : (name ds : List ℕ) (a : Action) (claims owns : Bool) → bytes_eq name (codes "claim") ≡ claims → bytes_eq name (codes "own") ≡ owns
    → (if claims then option_map Claim (node_of ds) else (if owns then option_map Own (node_of ds) else None)) ≡ Some a → spelled_action a ≡ name ++ 58 ∷ ds
node_action_by name ds a true owns p q h = claim_spelled name ds a p h
node_action_by name ds a false true p q h = own_spelled name ds a q h
node_action_by name ds a false false p q h = cc

node_action_spelled : (name ds : List ℕ) (a : Action) → node_action name ds ≡ Some a → spelled_action a ≡ name ++ 58 ∷ ds
node_action_spelled name ds a h = node_action_by name ds a _ _ refl refl h

-- one token of a choice: its step is so spelled, or a later one is chosen
word_or : (name word : List ℕ) (a x : Action) (rest : Option Action) → spelled_action a ≡ word → (rest ≡ Some x → spelled_action x ≡ name)
    → (if bytes_eq name word then Some a else rest) ≡ Some x → spelled_action x ≡ name
word_or name word a x rest s later h = elim (picked (bytes_eq name word) a x rest h) [
  | inl p ↦ ap spelled_action (sym p.1) ∙ s ∙ sym (same_bytes name word p.0)
  | inr r ↦ later r
]

plain_spelled : (name : List ℕ) (a : Action) → plain_action name ≡ Some a → spelled_action a ≡ name
plain_spelled name x h =
    word_or name _ Draw x _ refl (word_or name _ Show x _ refl (word_or name _ Admit x _ refl (word_or name _ Done x _ refl (word_or name _ Settle x _ refl (word_or name _ Look x _ refl
    (word_or name _ Weigh x _ refl (word_or name _ Take x _ refl (word_or name _ Give x _ refl (word_or name _ GiveUp x _ refl (word_or name _ AddChild x _ refl
    (word_or name _ Notice x _ refl (word_or name _ Raise x None refl (λ r. cc))))))))))))) h

action_by : (text : List ℕ) (a : Action) (colon : Bool) → has_colon text ≡ colon → (if colon then node_action (before_first is_colon text) (after_first is_colon text) else plain_action text) ≡ Some a → spelled_action a ≡ text
action_by text a true c h = node_action_spelled (before_first is_colon text) (after_first is_colon text) a h ∙ sym (colon_parts text c)
action_by text a false c h = plain_spelled text a h

action_spelled : (text : List ℕ) (a : Action) → action_of text ≡ Some a → spelled_action a ≡ text
action_spelled text a h = action_by text a _ refl h

-- a worker's step
worker_parts : (worker : Option ℕ) (action : Option Action) (s : Step) → option_and_then (λ k. option_map (Worker k) action) worker ≡ Some s → (k : ℕ) × (a : Action) × (worker ≡ Some k) × (action ≡ Some a) × (Worker k a ≡ s)
worker_parts None action s h = cc
worker_parts (Some k) action s h = (let m = mapped (Worker k) action s h in (k, m.0, refl, m.1, m.2))

worker_spelled : (text : List ℕ) (s : Step) → worker_step text ≡ Some s → spelled_step s ≡ 119 ∷ text
worker_spelled text s h =
    let c = chosen (has_colon text) (option_and_then (λ worker. option_map (Worker worker) (action_of (after_first is_colon text))) (worker_of (before_first is_colon text))) s h in
    let w = worker_parts (worker_of (before_first is_colon text)) (action_of (after_first is_colon text)) s c.1 in
    let number = number_spelled 1 64 (before_first is_colon text) w.0 (omega arith) w.2 in
    let action = action_spelled (after_first is_colon text) w.1 w.3 in
    ap spelled_step (sym w.4) ∙ ap (λ l. 119 ∷ (l ++ 58 ∷ spelled_action w.1)) number ∙ ap (λ l. 119 ∷ (before_first is_colon text ++ 58 ∷ l)) action ∙ ap (λ l. 119 ∷ l) (sym (colon_parts text c.0))

front_kept : (word : List ℕ) → (slice_index word 0 == 119) ≡ true → word ≡ 119 ∷ drop 1 word
front_kept [] h = cc
front_kept (c ∷ more) h = ap (λ b. b ∷ more) (eqb-true c 119 h)

pub step_spelled : (word : List ℕ) (s : Step) → step_of word ≡ Some s → spelled_step s ≡ word
unfolding step_of
step_spelled word s h = elim (picked (bytes_eq word (codes "d:read")) Read s (if slice_index word 0 == 119 then worker_step (drop 1 word) else None) h) [
  | inl p ↦ ap spelled_step (sym p.1) ∙ sym (same_bytes word (codes "d:read") p.0)
  | inr r ↦ (let c = chosen (slice_index word 0 == 119) (worker_step (drop 1 word)) s r in worker_spelled (drop 1 word) s c.1 ∙ sym (front_kept word c.0))
]

-- the tokens of a text, of which none is bad
words_by : (word : List ℕ) (more : List (List ℕ)) (o : Option Step) → step_of word ≡ o → (length more ≤ position_or_len is_bad_word more → map spelled_step (filter_map step_of more) ≡ more)
    → length (word ∷ more) ≤ position_or_len is_bad_word (word ∷ more) → map spelled_step (filter_map step_of (word ∷ more)) ≡ word ∷ more
words_by word more None is ih h =
    let at : position_or_len is_bad_word (word ∷ more) ≡ 0 = ap (λ q. cond (not (is_none q)) (1 + position_or_len is_bad_word more) 0) is in
    absurd (omega (arith, h, at))
words_by word more (Some s) is ih h =
    let at : position_or_len is_bad_word (word ∷ more) ≡ 1 + position_or_len is_bad_word more = ap (λ q. cond (not (is_none q)) (1 + position_or_len is_bad_word more) 0) is in
    ap (λ q. map spelled_step (cons_option q (filter_map step_of more))) is ∙ ap (λ w. w ∷ map spelled_step (filter_map step_of more)) (step_spelled word s is) ∙ ap (λ l. word ∷ l) (ih (omega (arith, h, at)))

words_spelled : (words : List (List ℕ)) → length words ≤ position_or_len is_bad_word words → map spelled_step (filter_map step_of words) ≡ words
words_spelled [] h = refl
words_spelled (word ∷ more) h = words_by word more (step_of word) refl (words_spelled more) h

pub text_spelled : (words : List (List ℕ)) → position is_bad_word words ≡ None → map spelled_step (filter_map step_of words) ≡ words
text_spelled words h = words_spelled words (elim (cases_lt (position_or_len is_bad_word words) (length words)) [
  | inl lt ↦ absurd (none-some (position_or_len is_bad_word words) (sym h ∙ ap (λ b. cond b (Some (position_or_len is_bad_word words)) None) (lt-ltb _ _ lt)))
  | inr ge ↦ ge
])
