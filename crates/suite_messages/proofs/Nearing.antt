-- The nearest of the words that were looked at.
use Rattle.std.proofs.Common.{◌≡◌, ℕ, ◌+◌, ◌<◌, ◌≤◌, List, [], ◌∷◌, ◌++◌, Bor, length, take, get_or, Option, Some, None, ap, refl, ◌∙◌, arith}
use Rattle.std.specs.List.{All, Contains}
use Rattle.std.proofs.lemmas.List.{map-append, take_more}
use Rattle.std.proofs.lemmas.List.Elements.{All-push, All-weaker, Contains-append_left, Contains-push}
use Rattle.unique_id.specs.Answers.{texts}
use Rattle.suite_messages.specs.Near.{IsNearest, apart, most_apart}

-- how far what was found is
abbrev pub Held : List ℕ → List (List ℕ) → ℕ → Option (List ℕ) → Type 0
Held word seen least None = least ≡ most_apart word + 1
Held word seen least (Some found) = Contains seen found × (apart word found ≡ least) × (least ≤ most_apart word)

-- nothing that was seen is nearer than this, and what was found is so near
pub record Best (word : List ℕ) (seen : List (List ℕ)) (least : ℕ) (found : Option (List ℕ)) : Type 0 where
  pub none_nearer : All (λ name. least ≤ apart word name) seen
  pub held : Held word seen least found

within : (word : List ℕ) (seen : List (List ℕ)) (least : ℕ) (found : Option (List ℕ)) → Held word seen least found → least ≤ most_apart word + 1
within word seen least None h = omega arith
within word seen least (Some found) h = let small = h.2 in omega arith

held_on : (word : List ℕ) (seen : List (List ℕ)) (name : List ℕ) (least : ℕ) (found : Option (List ℕ)) → Held word seen least found → Held word (seen ++ name ∷ []) least found
held_on word seen name least None h = h
held_on word seen name least (Some found) h = (Contains-append_left seen (name ∷ []) found h.0, h.1, h.2)

module _ (word : List ℕ) (seen : List (List ℕ)) (name : List ℕ) (least : ℕ) (found : Option (List ℕ)) (best : Best word seen least found) where
  -- a word that is no nearer changes nothing
  pub farther : least ≤ apart word name → Best word (seen ++ name ∷ []) least found
  farther far = record {
    none_nearer = All-push (λ name. least ≤ apart word name) seen name best.none_nearer far;
    held = held_on word seen name least found best.held;
  }

  -- one that is nearer is found
  pub nearer : apart word name < least → Best word (seen ++ name ∷ []) (apart word name) (Some name)
  nearer near = let most = within word seen least found best.held in record {
    none_nearer = All-push (λ other. apart word name ≤ apart word other) seen name
        (All-weaker (λ other. least ≤ apart word other) (λ other. apart word name ≤ apart word other) (λ other far. omega arith) seen best.none_nearer)
        (omega arith);
    held = (Contains-push seen name, refl, omega arith);
  }

pub nearest_of : (word : List ℕ) (known : List (List ℕ)) (least : ℕ) (found : Option (List ℕ)) → Best word known least found → IsNearest known word found
nearest_of word known least None best =
    let most = best.held in
    All-weaker (λ name. least ≤ apart word name) (λ name. most_apart word < apart word name) (λ name far. omega arith) known best.none_nearer
nearest_of word known least (Some found) best =
    let is = best.held.1 in let most = best.held.2 in
    (best.held.0, omega arith, All-weaker (λ name. least ≤ apart word name) (λ name. apart word found ≤ apart word name) (λ name far. omega arith) known best.none_nearer)

-- one word more was seen
pub seen_more : (known : List (Bor (List ℕ))) (i : ℕ) (d : Bor (List ℕ)) → i < length known → texts (take (i + 1) known) ≡ texts (take i known) ++ (get_or known i d).now ∷ []
seen_more known i d inside = ap texts (take_more known i d inside) ∙ map-append (λ x. x.now) (take i known) (get_or known i d ∷ [])

module _ (word : List ℕ) (known : List (Bor (List ℕ))) (i : ℕ) (d : Bor (List ℕ)) (inside : i < length known) (least later : ℕ) (found : Option (List ℕ)) (then_found : Option (List ℕ)) (best : Best word (texts (take i known)) least found) where
  -- after a word that is no nearer
  pub after_farther : then_found ≡ found → later ≡ least → least ≤ apart word (get_or known i d).now → Best word (texts (take (i + 1) known)) later then_found
  after_farther same stays far = rw (seen_more known i d inside, same, stays) (farther word (texts (take i known)) (get_or known i d).now least found best far)

  -- and after one that is
  pub after_nearer : then_found ≡ Some (get_or known i d).now → later ≡ apart word (get_or known i d).now → apart word (get_or known i d).now < least → Best word (texts (take (i + 1) known)) later then_found
  after_nearer new falls near = rw (seen_more known i d inside, new, falls) (nearer word (texts (take i known)) (get_or known i d).now least found best near)
