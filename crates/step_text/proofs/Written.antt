-- The text of steps is read as these steps.
use Rattle.std.proofs.Common.{◌≡◌, ℕ, ◌<◌, ◌^◌, ◌==◌, List, [], ◌∷◌, ◌++◌, length, map, filter, Bool, true, false, not, cond, nat_lt, Some, None, Ok, codes, refl, ap, ◌∙◌, arith}
use Rattle.std.proofs.lemmas.Bool.{and_parts, and_from, ne_eqb, not-true}
use Rattle.std.proofs.lemmas.List.{append-nil}
use Rattle.std.proofs.lemmas.List.Elements.{All-nil, All-cons, All-head, All-tail}
use Rattle.std.proofs.lemmas.List.Splits.{slice_split_none, slice_split_at}
use Rattle.std.proofs.lemmas.Fmt.{digits_decimal}
use Rattle.std.specs.Char.{is_ascii_digit}
use Rattle.std.specs.Fmt.{decimal}
use Rattle.std.specs.List.{list_all, position, position_or_len, filter_map, cons_option, All, slice_split}
use Rattle.scheduling.specs.declared.step.Action.{Action}
use Rattle.scheduling.specs.declared.step.Action.TheVariants.{Claim, Own, Draw, Show, Admit, Done, Settle, Look, Weigh, Take, Give, GiveUp, AddChild, Notice, Raise}
use Rattle.scheduling.specs.declared.step.Step.{Step}
use Rattle.scheduling.specs.declared.step.Step.TheVariants.{Worker, Read}
use Rattle.suite_words.specs.Words.{is_space, words_in}
use Rattle.step_text.specs.StepTexts.{step_of, is_bad_word, steps_of, steps_unless}
use Rattle.step_text.specs.StepSpelling.{spelled_action, spelled_step, steps_text, NamesNode, IsNamable, AreNamable}
use Rattle.step_text.proofs.ReadBack.{step_back, none_bad}
use Rattle.suite_words.proofs.Numbers.{own}

-- no blank stands in a text
abbrev is_unspaced : List ℕ → Bool
is_unspaced text = list_all (λ b. not (is_space b)) text

digit_no_space : (d : ℕ) → is_ascii_digit d ≡ true → not (is_space d) ≡ true
digit_no_space d h = grind arith

unspaced_digits : (ds : List ℕ) → list_all is_ascii_digit ds ≡ true → is_unspaced ds ≡ true
unspaced_digits [] h = refl
unspaced_digits (d ∷ ds) h =
    let parts = and_parts (is_ascii_digit d) (list_all is_ascii_digit ds) h in
    and_from _ _ (digit_no_space d parts.0) (unspaced_digits ds parts.1)

unspaced_number : (n : ℕ) → n < 2 ^ 64 → is_unspaced (decimal n) ≡ true
unspaced_number n small = unspaced_digits (decimal n) (digits_decimal own n small)

unspaced_both : (xs ys : List ℕ) → is_unspaced xs ≡ true → is_unspaced ys ≡ true → is_unspaced (xs ++ ys) ≡ true
unspaced_both [] ys h k = k
unspaced_both (x ∷ xs) ys h k = (let parts = and_parts (not (is_space x)) (is_unspaced xs) h in and_from _ _ parts.0 (unspaced_both xs ys parts.1 k))

unspaced_action : (a : Action) → NamesNode a → is_unspaced (spelled_action a) ≡ true
unspaced_action (Claim n) small = unspaced_both (codes "claim:") (decimal n) refl (unspaced_number n (omega (arith, small)))
unspaced_action (Own n) small = unspaced_both (codes "own:") (decimal n) refl (unspaced_number n (omega (arith, small)))
unspaced_action Draw h = refl
unspaced_action Show h = refl
unspaced_action Admit h = refl
unspaced_action Done h = refl
unspaced_action Settle h = refl
unspaced_action Look h = refl
unspaced_action Weigh h = refl
unspaced_action Take h = refl
unspaced_action Give h = refl
unspaced_action GiveUp h = refl
unspaced_action AddChild h = refl
unspaced_action Notice h = refl
unspaced_action Raise h = refl

unspaced_step : (s : Step) → IsNamable s → is_unspaced (spelled_step s) ≡ true
unspaced_step Read h = refl
unspaced_step (Worker k a) h =
    unspaced_both (codes "w") (decimal k ++ (codes ":" ++ spelled_action a)) refl
    (unspaced_both (decimal k) (codes ":" ++ spelled_action a) (unspaced_number k (omega (arith, h.1))) (unspaced_both (codes ":") (spelled_action a) refl (unspaced_action a h.2)))

no_space : (text : List ℕ) → is_unspaced text ≡ true → All (λ b. is_space b ≡ false) text
no_space [] h = All-nil (λ b. is_space b ≡ false)
no_space (b ∷ text) h = (let parts = and_parts (not (is_space b)) (is_unspaced text) h in All-cons (λ b. is_space b ≡ false) b text (not-true (is_space b) parts.0) (no_space text parts.1))

-- the tokens of the text are those of the steps
is_word : (s : Step) → not (length (spelled_step s) == 0) ≡ true
is_word Read = refl
is_word (Worker k a) = ap not (ne_eqb (length (spelled_step (Worker k a))) 0 (λ none. omega (arith, none)))

words_kept : (steps : List Step) → filter (λ word. not (length word == 0)) (map spelled_step steps) ≡ map spelled_step steps
words_kept [] = refl
words_kept (s ∷ more) =
    ap (λ b. cond b (spelled_step s ∷ filter (λ word. not (length word == 0)) (map spelled_step more)) (filter (λ word. not (length word == 0)) (map spelled_step more))) (is_word s)
    ∙ ap (λ words. spelled_step s ∷ words) (words_kept more)

split_back : (s : Step) (more : List Step) → AreNamable (s ∷ more) → slice_split is_space (steps_text (s ∷ more)) ≡ map spelled_step (s ∷ more)
split_back s [] h = ap (slice_split is_space) (append-nil (spelled_step s)) ∙ slice_split_none is_space (spelled_step s) (no_space (spelled_step s) (unspaced_step s h.0))
split_back s (next ∷ more) h =
    slice_split_at is_space (spelled_step s) 32 (steps_text (next ∷ more)) (no_space (spelled_step s) (unspaced_step s h.0)) refl
    ∙ ap (λ words. spelled_step s ∷ words) (split_back next more h.1)

pub words_back : (steps : List Step) → AreNamable steps → words_in (steps_text steps) ≡ map spelled_step steps
words_back [] h = refl
words_back (s ∷ more) h = ap (filter (λ word. not (length word == 0))) (split_back s more h) ∙ words_kept (s ∷ more)

-- each step of a list that a text can name
pub namable_by_each : (steps : List Step) → All IsNamable steps → AreNamable steps
namable_by_each [] each = tt
namable_by_each (s ∷ more) each = (All-head IsNamable s more each, namable_by_each more (All-tail IsNamable s more each))

pub each_namable : (steps : List Step) → AreNamable steps → All IsNamable steps
each_namable [] h = All-nil IsNamable
each_namable (s ∷ more) h = All-cons IsNamable s more h.0 (each_namable more h.1)

-- and each of them is read as its step
steps_back : (steps : List Step) → AreNamable steps → filter_map step_of (map spelled_step steps) ≡ steps
steps_back [] h = refl
steps_back (s ∷ more) h = ap (λ o. cons_option o (filter_map step_of (map spelled_step more))) (step_back s h.0) ∙ ap (λ steps. s ∷ steps) (steps_back more h.1)

none_bad_at : (steps : List Step) → AreNamable steps → position is_bad_word (map spelled_step steps) ≡ None
none_bad_at steps h =
    let all = none_bad steps h in
    let none : nat_lt (position_or_len is_bad_word (map spelled_step steps)) (length (map spelled_step steps)) ≡ false = grind (arith, all) in
    ap (λ b. cond b (Some (position_or_len is_bad_word (map spelled_step steps))) None) none

pub text_back : (steps : List Step) → AreNamable steps → steps_of (steps_text steps) ≡ Ok steps
text_back steps h =
    let words : List (List ℕ) = map spelled_step steps in
    ap (λ words. steps_unless (position is_bad_word words) words) (words_back steps h) ∙ ap (λ o. steps_unless o (map spelled_step steps)) (none_bad_at steps h) ∙ ap Ok (steps_back steps h)
