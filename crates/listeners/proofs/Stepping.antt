-- How listeners change one after the other, where a relation is all that is known of each.
use Rattle.std.proofs.Common.{◌≡◌, ℕ, ◌+◌, ◌<◌, ◌≤◌, ◌++◌, ◌∷◌, [], List, Option, length, take, get_or, set, inl, inr, refl, sym, ap, subst, ◌∙◌, arith, append_assoc, append-nil, length-set, get_or-set_other}
use Rattle.std.proofs.lemmas.Bool.{cases_eq, cases_lt}
use Rattle.std.proofs.lemmas.Grind.{get_or-set_at}
use Rattle.std.proofs.lemmas.List.{get_or_default, map-append, take_more, take_all}
use Rattle.plan_events.specs.declared.event.Event.{Event}
use Rattle.plan_events.specs.Texts.{TextParts}
use Rattle.listeners.specs.Listeners.{Telling, text_told, telling, tellings_of, HasHeardMore, EachPlace}

-- of the first i each is in relation to what stood there, and the others are as they were
pub record AreStepped {L : Type 0} (relation : L → L → Type 0) (i : ℕ) (old items : List L) : Type 0 where
  pub same : length items ≡ length old
  pub done : (k : ℕ) (d : L) → k < i → k < length old → relation (get_or old k d) (get_or items k d)
  pub others : (k : ℕ) (d : L) → i ≤ k → get_or items k d ≡ get_or old k d

module _ {L : Type 0} (relation : L → L → Type 0) (old : List L) where
  pub stepped_none : AreStepped relation 0 old old
  stepped_none = record { same = refl; done = λ k d lt inside. absurd (omega (arith, lt)); others = λ k d le. refl }

  pub stepped_more : (i : ℕ) (items : List L) (a b : L) → AreStepped relation i old items → i < length items → a ≡ get_or items i a → relation a b → AreStepped relation (i + 1) old (set items i b)
  stepped_more i items a b are inside here step = record {
    same = length-set items i b ∙ are.same;
    done = λ k d lt within. elim (cases_eq k i) [
      | inl q ↦
          let was : a ≡ get_or old k d = here ∙ get_or_default items i a d inside ∙ are.others i d (omega arith) ∙ ap (λ (n : ℕ). get_or old n d) (sym q) in
          let now : get_or (set items i b) k d ≡ b = get_or-set_at items i k b d q inside in
          subst (λ (x : L). relation (get_or old k d) x) (sym now) (subst (λ (x : L). relation x b) was step)
      | inr ne ↦ subst (λ (x : L). relation (get_or old k d) x) (sym (get_or-set_other items i k b d ne)) (are.done k d (omega (arith, lt, ne)) within)
    ];
    others = λ k d le. get_or-set_other items i k b d (λ q. omega (arith, q, le)) ∙ are.others k d (omega (arith, le));
  }

  -- in the end all are
  pub stepped_all : (i : ℕ) (items : List L) → length items ≤ i → AreStepped relation i old items → EachPlace relation old items
  stepped_all i items past are k d lt = are.done k d (omega (arith, lt, past, are.same)) lt

  -- and so they are before, where each is in relation to itself
  pub stepped_so_far : (i : ℕ) (items : List L) → ((l : L) → relation l l) → AreStepped relation i old items → EachPlace relation old items
  stepped_so_far i items itself are k d lt = elim (cases_lt k i) [
    | inl before ↦ are.done k d before lt
    | inr later ↦ subst (λ (x : L). relation (get_or old k d) x) (sym (are.others k d (omega (arith, later)))) (itself (get_or old k d))
  ]

-- who is as before has heard nothing more
pub nothing_more : {L : Type 0} (heard : L → List Telling → Type 0) (l : L) → HasHeardMore heard [] l l
nothing_more heard l before h = subst (heard l) (sym (append-nil before)) h

module _ {L : Type 0} (heard : L → List Telling → Type 0) (texts : TextParts) (events : List Event) where
  -- each has heard the first i events with their texts
  abbrev pub HaveHeard : ℕ → List L → List L → Type 0
  HaveHeard i old items = EachPlace (λ a b. HasHeardMore heard (tellings_of texts (take i events)) a b) old items

  pub heard_none : (items : List L) → HaveHeard 0 items items
  heard_none items k d lt = nothing_more heard (get_or items k d)

  pub heard_more : (i : ℕ) (e : Event) (text : Option (List ℕ)) (old items next : List L) → length items ≡ length old → i < length events → e ≡ get_or events i e → text ≡ text_told texts e
      → HaveHeard i old items → EachPlace (λ a b. HasHeardMore heard (record { event = e; text = text } ∷ []) a b) items next → HaveHeard (i + 1) old next
  heard_more i e text old items next len inside here said first then' k d lt before h =
      let front : List Telling = tellings_of texts (take i events) in
      let one : record { event = e; text = text } ∷ [] ≡ tellings_of texts (e ∷ []) = ap (λ (t : Option (List ℕ)). record { event = e; text = t } ∷ []) said in
      let joined : front ++ tellings_of texts (e ∷ []) ≡ tellings_of texts (take (i + 1) events) =
      sym (map-append (telling texts) (take i events) (e ∷ [])) ∙ ap (tellings_of texts) (ap (λ (x : Event). take i events ++ x ∷ []) here ∙ sym (take_more events i e inside)) in
      subst (heard (get_or next k d)) (append_assoc before front (record { event = e; text = text } ∷ []) ∙ ap (λ (ts : List Telling). before ++ (front ++ ts)) one ∙ ap (λ (ts : List Telling). before ++ ts) joined)
      (then' k d (omega (arith, lt, len)) (before ++ front) (first k d lt before h))

  pub heard_all : (i : ℕ) (old items : List L) → length events ≤ i → HaveHeard i old items → EachPlace (λ a b. HasHeardMore heard (tellings_of texts events) a b) old items
  heard_all i old items past = subst (λ (es : List Event). EachPlace (λ a b. HasHeardMore heard (tellings_of texts es) a b) old items) (take_all i events past)
