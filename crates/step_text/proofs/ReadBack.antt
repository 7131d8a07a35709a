-- The spelling of a step is read as that step.
use Rattle.std.proofs.Common.{◌≡◌, ◌≢◌, ℕ, ◌+◌, ◌<◌, ◌≤◌, ◌^◌, ◌&&◌, ◌==◌, List, [], ◌∷◌, ◌++◌, length, map, drop, take, slice_index, is_none, true, false, not, cond, nat_lt, nat_le, if◌then◌else◌, Some, None, option_map, option_and_then, codes, refl, sym, ap, ◌∙◌, subst, inl, inr, arith}
use Rattle.std.proofs.lemmas.Grind.{common_steps}
use Rattle.std.proofs.lemmas.Bool.{le-leb, lt-ltb, cases_lt, and_parts, and_from, ne_eqb}
use Rattle.std.proofs.lemmas.Option.{none-some}
use Rattle.std.proofs.lemmas.Fmt.{decimal_digit, first_decimal, decimal_nonempty, digits_decimal, digits_value-decimal}
use Rattle.std.proofs.lemmas.List.{take_at, drop_at, drop-drop}
use Rattle.std.specs.Char.{is_ascii_digit}
use Rattle.std.specs.Fmt.{decimal}
use Rattle.std.specs.List.{list_all, position, position_or_len, before_first, after_first}
use Rattle.std.specs.Str.Parse.{digits_value}
use Rattle.scheduling.specs.declared.step.Action.{Action}
use Rattle.scheduling.specs.declared.step.Action.TheVariants.{Claim, Own, Draw, Show, Admit, Done, Settle, Look, Weigh, Take, Give, GiveUp, AddChild, Notice, Raise}
use Rattle.scheduling.specs.declared.step.Step.{Step}
use Rattle.scheduling.specs.declared.step.Step.TheVariants.{Worker, Read}
use Rattle.suite_words.specs.Numbers.{is_number, number_up_to}
use Rattle.step_text.specs.StepTexts.{is_colon, is_decimal, number_within, worker_of, node_of, plain_action, has_colon, action_of, step_of, is_bad_word}
use Rattle.step_text.specs.StepSpelling.{spelled_action, spelled_step, NamesNode, IsNamable, AreNamable}
use Rattle.suite_words.proofs.Numbers.{own}

-- a number
front_zero : (n : ℕ) → n < 2 ^ 64 → not (nat_lt 1 (length (decimal n)) && (slice_index (decimal n) 0 == 48)) ≡ true
front_zero n small = elim (cases_lt 0 n) [
  | inl some ↦ (let front : (slice_index (decimal n) 0 == 48) ≡ false = ne_eqb _ _ (λ e. (let f = first_decimal n some small in omega (arith, f, e))) in grind (arith, front))
  | inr none ↦ (let zero : n ≡ 0 = omega (arith, none) in let one : decimal n ≡ 48 ∷ [] = ap decimal zero ∙ decimal_digit 0 (omega arith) in rw one refl)
]

number_is : (n : ℕ) → n < 2 ^ 64 → is_number (decimal n) ≡ true
number_is n small = and_from _ _ (lt-ltb _ _ (decimal_nonempty n small)) (digits_decimal own n small)

decimal_is : (n : ℕ) → n < 2 ^ 64 → is_decimal (decimal n) ≡ true
decimal_is n small = and_from _ _ (number_is n small) (front_zero n small)

number_back : (least most n : ℕ) → n < 2 ^ 64 → least ≤ n → n ≤ most → number_within least most (decimal n) ≡ Some n
number_back least most n small low high =
    let value : digits_value 10 (decimal n) ≡ n = digits_value-decimal own n small in
    let from_least : (is_decimal (decimal n) && nat_le least (digits_value 10 (decimal n))) ≡ true = and_from _ _ (decimal_is n small) (rw value (le-leb least n low)) in
    let to_most : (is_number (decimal n) && nat_le (digits_value 10 (decimal n)) most) ≡ true = and_from _ _ (number_is n small) (rw value (le-leb n most high)) in
    ap (λ b. if b then number_up_to most (decimal n) else None) from_least ∙ ap (λ b. if b then Some (digits_value 10 (decimal n)) else None) to_most ∙ ap Some value

-- digits, a colon and a rest
no_colon : (d : ℕ) → is_ascii_digit d ≡ true → (d == 58) ≡ false
no_colon d h = ne_eqb d 58 (λ e. grind arith)

colon_at : (ds rest : List ℕ) → list_all is_ascii_digit ds ≡ true → position_or_len is_colon (ds ++ 58 ∷ rest) ≡ length ds
colon_at [] rest h = refl
colon_at (d ∷ ds) rest h =
    let parts = and_parts (is_ascii_digit d) (list_all is_ascii_digit ds) h in
    let next = ap (λ b. cond (not b) (1 + position_or_len is_colon (ds ++ 58 ∷ rest)) 0) (no_colon d parts.0) in
    let more = colon_at ds rest parts.1 in
    omega (arith, next, more)

module _ (n : ℕ) (small : n < 2 ^ 64) (rest : List ℕ) where
  place : position_or_len is_colon (decimal n ++ 58 ∷ rest) ≡ length (decimal n)
  place = colon_at (decimal n) rest (digits_decimal own n small)

  pub number_before : before_first is_colon (decimal n ++ 58 ∷ rest) ≡ decimal n
  number_before = ap (λ k. take k (decimal n ++ 58 ∷ rest)) place ∙ take_at (decimal n) (58 ∷ rest) _ refl

  pub number_after : after_first is_colon (decimal n ++ 58 ∷ rest) ≡ rest
  number_after = ap (λ k. drop (k + 1) (decimal n ++ 58 ∷ rest)) place ∙ sym (drop-drop 1 (length (decimal n)) (decimal n ++ 58 ∷ rest)) ∙ ap (drop 1) (drop_at (decimal n) (58 ∷ rest) _ refl)

  pub number_colon : has_colon (decimal n ++ 58 ∷ rest) ≡ true
  number_colon = lt-ltb _ _ (subst (λ k. k < length (decimal n ++ 58 ∷ rest)) (sym place) (grind (arith, common_steps)))

-- what a worker does
node_back : (n : ℕ) → n ≤ 65535 → node_of (decimal n) ≡ Some n
node_back n small = number_back 0 65535 n (omega (arith, small)) (omega arith) small

action_back : (a : Action) → NamesNode a → action_of (spelled_action a) ≡ Some a
action_back (Claim n) small =
    let colon : has_colon (codes "claim:" ++ decimal n) ≡ true = lt-ltb _ _ (omega arith) in
    ap (λ b. if b then option_map Claim (node_of (decimal n)) else plain_action (codes "claim:" ++ decimal n)) colon ∙ ap (option_map Claim) (node_back n small)
action_back (Own n) small =
    let colon : has_colon (codes "own:" ++ decimal n) ≡ true = lt-ltb _ _ (omega arith) in
    ap (λ b. if b then option_map Own (node_of (decimal n)) else plain_action (codes "own:" ++ decimal n)) colon ∙ ap (option_map Own) (node_back n small)
action_back Draw h = refl
action_back Show h = refl
action_back Admit h = refl
action_back Done h = refl
action_back Settle h = refl
action_back Look h = refl
action_back Weigh h = refl
action_back Take h = refl
action_back Give h = refl
action_back GiveUp h = refl
action_back AddChild h = refl
action_back Notice h = refl
action_back Raise h = refl

-- a token
pub step_back : (s : Step) → IsNamable s → step_of (spelled_step s) ≡ Some s
unfolding step_of
step_back Read h = refl
step_back (Worker k a) h =
    let text : List ℕ = decimal k ++ 58 ∷ spelled_action a in
    let small : k < 2 ^ 64 = omega (arith, h.1) in
    let worker : worker_of (before_first is_colon text) ≡ Some k = ap worker_of (number_before k small (spelled_action a)) ∙ number_back 1 64 k small h.0 h.1 in
    let action : action_of (after_first is_colon text) ≡ Some a = ap action_of (number_after k small (spelled_action a)) ∙ action_back a h.2 in
    ap (λ b. if b then option_and_then (λ w. option_map (Worker w) (action_of (after_first is_colon text))) (worker_of (before_first is_colon text)) else None) (number_colon k small (spelled_action a))
    ∙ ap (option_and_then (λ w. option_map (Worker w) (action_of (after_first is_colon text)))) worker ∙ ap (option_map (Worker k)) action

-- the tokens of steps
pub none_bad : (steps : List Step) → AreNamable steps → length (map spelled_step steps) ≤ position_or_len is_bad_word (map spelled_step steps)
none_bad [] h = omega arith
none_bad (s ∷ more) h =
    let at : position_or_len is_bad_word (map spelled_step (s ∷ more)) ≡ 1 + position_or_len is_bad_word (map spelled_step more) =
    ap (λ q. cond (not (is_none q)) (1 + position_or_len is_bad_word (map spelled_step more)) 0) (step_back s h.0) in
    let rest = none_bad more h.1 in
    omega (arith, at, rest)

pub not_spelled : (words : List (List ℕ)) (place : ℕ) (steps : List Step) → position is_bad_word words ≡ Some place → AreNamable steps → map spelled_step steps ≢ words
not_spelled words place steps found h e =
    let all : length words ≤ position_or_len is_bad_word words = subst (λ l. length l ≤ position_or_len is_bad_word l) e (none_bad steps h) in
    let none : nat_lt (position_or_len is_bad_word words) (length words) ≡ false = grind (arith, all) in
    none-some place (sym (ap (λ b. cond b (Some (position_or_len is_bad_word words)) None) none) ∙ found)
