-- Bodies say what their replies let them say, and may answer.
use Rattle.std.proofs.Common.{◌≡◌, ◌∙◌, ℕ, zero, suc, ◌-◌, ◌<◌, ◌≤◌, cond, Bool, true, false, not, ◌&&◌, List, [], ◌∷◌, ◌++◌, length, map, refl, sym, ap, ap₂, subst, arith, inl, inr, length-append}
use Rattle.std.specs.List.{filter}
use Rattle.std.specs.Char.{encode_utf8}
use Rattle.std.specs.Str.{encode_utf8_all, all_scalars}
use Rattle.std.proofs.lemmas.Bool.{false≢true}
use Rattle.std.proofs.lemmas.Bool.Decides.{nat_tests}
use Rattle.std.proofs.lemmas.List.Elements.{filter-append}
use Rattle.std.proofs.lemmas.Str.{IsUtf8-nil, length-encode, len_utf8_bounds}
use lib.Utf8.{scalar, scalar_cases}
use Rattle.plan_events.specs.Jobs.{one_pull_more, without_pulls, has_pulls, one_pull_less, pulled, unpulled, IsPull, IsRun}
use Rattle.plan_events.specs.declared.job.Pull.TheVariants.{More, End}
use Rattle.plan_events.specs.declared.outcome.Outcome.{Outcome}
use Rattle.plan_events.specs.declared.outcome.Reply.{Reply}
use Rattle.plan_events.specs.declared.status.Status.{Status}
use Rattle.plan_events.specs.declared.status.Status.TheVariants.{Successful, Aborted, Failed}
use Rattle.test_bodies.specs.Replies.{numbers_below, texts_up_to, statuses, ended, outcomes, SaysUpTo, ends, replies_up_to, replies_within}
use Rattle.test_bodies.proofs.Standing.{Has, later, in_front, mapped, joined, some_there, number_there}

first_true : (a b : Bool) → (a && b) ≡ true → a ≡ true
first_true true b q = refl
first_true false b q = q

second_true : (a b : Bool) → (a && b) ≡ true → b ≡ true
second_true true b q = q
second_true false b q = absurd (false≢true q)

not_true : (a : Bool) → not a ≡ true → a ≡ false
not_true true q = absurd (false≢true q)
not_true false q = refl

-- a character is one of the numbers
char_low : (c : ℕ) (others : Bool) → (scalar c && others) ≡ true → c < 1114112
char_low c others is = elim (scalar_cases c (first_true (scalar c) others is)) [ inl low ↦ omega (arith, low) | inr high ↦ high.1 ]

-- each text of so many bytes is one of the texts
text_there : (n : ℕ) (cs : List ℕ) → length (encode_utf8_all cs) ≤ n → all_scalars cs ≡ true → Has (texts_up_to n) (encode_utf8_all cs)
unfolding texts_up_to
text_there zero [] few right = (0, refl)
text_there (suc n) [] few right = (0, refl)
text_there zero (c ∷ cs) few right = absurd (omega (arith, few, length-append (encode_utf8 c) (encode_utf8_all cs), length-encode c, len_utf8_bounds c))
text_there (suc n) (c ∷ cs) few right =
    let rest : all_scalars cs ≡ true = second_true (scalar c) (all_scalars cs) right in
    let low : c < 1114112 = char_low c (all_scalars cs) right in
    later [] _ _ (joined (λ d. map (λ text. encode_utf8 d ++ text) (texts_up_to n)) (numbers_below 1114112) c (encode_utf8 c ++ encode_utf8_all cs) (number_there 1114112 c low)
    (mapped (λ text. encode_utf8 c ++ text) (texts_up_to n) (encode_utf8_all cs) (text_there n cs (omega (arith, few, length-append (encode_utf8 c) (encode_utf8_all cs), length-encode c, len_utf8_bounds c)) rest)))

status_there : (status : Status) → Has statuses status
status_there Successful = (0, refl)
status_there Aborted = (1, refl)
status_there Failed = (2, refl)

pub outcome_there : (longest : ℕ) (o : Outcome) → SaysUpTo longest o → Has (outcomes longest) o
unfolding outcomes
outcome_there longest o is =
    let text : Has (texts_up_to longest) o.text = subst (λ (t : List ℕ). Has (texts_up_to longest) t) is.0.1.1 (text_there longest is.0.0 (subst (λ (t : List ℕ). length t ≤ longest) (sym is.0.1.1) is.1) is.0.1.0) in
    joined (λ status. map (ended status) (texts_up_to longest)) statuses o.status o (status_there o.status) (mapped (ended o.status) (texts_up_to longest) o.text text)

end_there : (longest : ℕ) (o : Outcome) → SaysUpTo longest o → Has (ends longest) (without_pulls o)
unfolding ends
end_there longest o is = mapped without_pulls (outcomes longest) o (outcome_there longest o is)

-- whatever is left, each outcome is that of a reply without pulls
reply_there : (longest left : ℕ) (o : Outcome) → SaysUpTo longest o → Has (replies_up_to longest left) (without_pulls o)
unfolding replies_up_to
reply_there longest zero o is = end_there longest o is
reply_there longest (suc n) o is = in_front (ends longest) (map one_pull_more (replies_up_to longest n)) (without_pulls o) (end_there longest o is)

-- which replies have no pulls
has_more : (reply : Reply) → has_pulls (one_pull_more reply) ≡ true
has_more reply = grind (arith, nat_tests)

stay : (os : List Outcome) → filter (λ reply. not (has_pulls reply)) (map without_pulls os) ≡ map without_pulls os
stay [] = refl
stay (o ∷ os) = ap (λ (rs : List Reply). without_pulls o ∷ rs) (stay os)

go_away : (os : List Outcome) → filter has_pulls (map without_pulls os) ≡ []
go_away [] = refl
go_away (o ∷ os) = go_away os

none_stays : (rs : List Reply) → filter (λ reply. not (has_pulls reply)) (map one_pull_more rs) ≡ []
none_stays [] = refl
none_stays (r ∷ rs) = ap (λ (b : Bool). cond (not b) (one_pull_more r ∷ filter (λ reply. not (has_pulls reply)) (map one_pull_more rs)) (filter (λ reply. not (has_pulls reply)) (map one_pull_more rs))) (has_more r) ∙ none_stays rs

all_stay : (rs : List Reply) → filter has_pulls (map one_pull_more rs) ≡ map one_pull_more rs
all_stay [] = refl
all_stay (r ∷ rs) = ap (λ (b : Bool). cond b (one_pull_more r ∷ filter has_pulls (map one_pull_more rs)) (filter has_pulls (map one_pull_more rs))) (has_more r) ∙ ap (λ (xs : List Reply). one_pull_more r ∷ xs) (all_stay rs)

one_off : (reply : Reply) → one_pull_less (one_pull_more reply) ≡ reply
one_off reply = ap (λ (k : ℕ). record { pulls = k; outcome = reply.outcome }) (omega arith)

all_off : (rs : List Reply) → map one_pull_less (map one_pull_more rs) ≡ rs
all_off [] = refl
all_off (r ∷ rs) = ap₂ (λ (x : Reply) (xs : List Reply). x ∷ xs) (one_off r) (all_off rs)

-- an outcome that says nothing
quiet : Outcome
quiet = ended Successful []

quiet_sayable : (longest : ℕ) → SaysUpTo longest quiet
unfolding quiet
quiet_sayable longest = (IsUtf8-nil, omega arith)

append_none : (xs : List Reply) → xs ++ [] ≡ xs
append_none [] = refl
append_none (x ∷ xs) = ap (λ (ys : List Reply). x ∷ ys) (append_none xs)

module _ (longest : ℕ) where
  unpulled_ends : unpulled (ends longest) ≡ ends longest
  unfolding ends
  unpulled_ends = stay (outcomes longest)

  pulled_ends : filter has_pulls (ends longest) ≡ []
  unfolding ends
  pulled_ends = go_away (outcomes longest)

  pub unpulled_left : (left : ℕ) → unpulled (replies_up_to longest left) ≡ ends longest
  unfolding replies_up_to
  unpulled_left zero = unpulled_ends
  unpulled_left (suc n) = filter-append (λ reply. not (has_pulls reply)) (ends longest) (map one_pull_more (replies_up_to longest n)) ∙ ap₂ (λ (xs ys : List Reply). xs ++ ys) unpulled_ends (none_stays (replies_up_to longest n)) ∙ append_none (ends longest)

  pub pulled_left : (n : ℕ) → pulled (replies_up_to longest (suc n)) ≡ replies_up_to longest n
  unfolding replies_up_to
  pulled_left n =
      ap (map one_pull_less) (filter-append has_pulls (ends longest) (map one_pull_more (replies_up_to longest n)) ∙ ap₂ (λ (xs ys : List Reply). xs ++ ys) pulled_ends (all_stay (replies_up_to longest n))) ∙ all_off (replies_up_to longest n)

  -- a body that was not run may give some reply, and one without pulls
  pub some_left : (left : ℕ) → 0 < length (replies_up_to longest left)
  some_left left = some_there (replies_up_to longest left) (without_pulls quiet) (reply_there longest left quiet (quiet_sayable longest))

  pub some_unpulled : (left : ℕ) → 0 < length (unpulled (replies_up_to longest left))
  some_unpulled left = subst (λ (rs : List Reply). 0 < length rs) (sym (unpulled_left left)) (some_there (ends longest) (without_pulls quiet) (end_there longest quiet (quiet_sayable longest)))

  pub pulls_more : (is_spent : Bool) (left : ℕ) → 0 < left → IsPull (replies_within longest is_spent left) More (replies_within longest is_spent (left - 1))
  pulls_more true left some = λ none. absurd (omega (arith, none))
  pulls_more false zero some = absurd (omega (arith, some))
  pulls_more false (suc n) some =
      let less : replies_up_to longest (suc n - 1) ≡ replies_up_to longest n = ap (replies_up_to longest) (omega arith) in
      λ given. record { allowed = subst (λ (rs : List Reply). 0 < length rs) (sym (pulled_left n)) (some_left n); left = less ∙ sym (pulled_left n) }

  nothing_left : unpulled (replies_up_to longest 0) ≡ replies_up_to longest 0
  unfolding replies_up_to
  nothing_left = unpulled_ends

  pub pulls_end : (is_spent : Bool) (left : ℕ) → left ≡ 0 → IsPull (replies_within longest is_spent left) End (replies_within longest is_spent left)
  pulls_end true left none = λ no_reply. absurd (omega (arith, no_reply))
  pulls_end false left none =
      let same : unpulled (replies_up_to longest left) ≡ replies_up_to longest left = subst (λ (k : ℕ). unpulled (replies_up_to longest k) ≡ replies_up_to longest k) (sym none) nothing_left in
      λ given. record { allowed = subst (λ (rs : List Reply). 0 < length rs) (sym same) (some_left left); left = sym same }

  pub runs : (is_spent : Bool) (left : ℕ) (o : Outcome) → SaysUpTo longest o → IsRun (replies_within longest is_spent left) o
  runs true left o is = λ none. absurd (omega (arith, none))
  runs false left o is = (let there = reply_there longest left o is in λ given. record { place = there.0; reply = without_pulls o; stands = there.1; no_pulls = refl; is = refl })
