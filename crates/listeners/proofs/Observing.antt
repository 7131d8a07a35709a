-- What an audience has seen, one event after the other, and what follows for a run from its start.
use Rattle.std.proofs.Common.{◌≡◌, ℕ, ◌-◌, ◌<◌, ◌≤◌, List, [], ◌∷◌, ◌++◌, length, map, get_or, refl, sym, ap, subst, ◌∙◌, arith, append_assoc, length-append}
use Rattle.std.specs.List.{All}
use Rattle.std.proofs.lemmas.List.{get_or-map, length-map, map-append}
use Rattle.plan_events.specs.declared.event.Event.{Event}
use Rattle.listeners.specs.Listeners.{Telling, HasHeardMore, EachPlace}
use Rattle.listeners.specs.Observing.{HaveGot, HaveSeen, events_of}
use Rattle.listeners.proofs.Retelling.{less_more, less_none, longer_twice, longer_none}
use Rattle.listeners.proofs.Stepping.{nothing_more}

module _ {L : Type 0} (got : L → List Event) (room : L → ℕ) (heard : L → List Telling → Type 0) where
  -- who are as at first have seen nothing
  pub seen_nothing : (items : List L) → HaveSeen got room heard items items []
  seen_nothing items _ = record {
    many = refl;
    lists = longer_none (map got items);
    rooms = less_none (map room items);
    listened = λ k d lt. nothing_more heard (get_or items k d);
  }

  -- so many had room for one less
  fewer : (items : List L) (ts : List Telling) (t : Telling) → All (λ l. length (ts ++ t ∷ []) ≤ room l) items → All (λ l. length ts ≤ room l) items
  fewer items ts t wide k d lt = let fits = wide k d lt in omega (arith, fits, length-append ts (t ∷ []))

  -- what is left of the room where one event more is to be seen
  pub room_left : (first now : List L) (ts : List Telling) (t : Telling) → HaveSeen got room heard first now ts → All (λ l. length (ts ++ t ∷ []) ≤ room l) first → All (λ l. 1 ≤ room l) now
  room_left first now ts t seen wide k d lt =
      let is = seen (fewer first ts t wide) in
      let inside : k < length first = rw (← is.many) lt in
      let fits = wide k d inside in
      let left : room (get_or now k d) ≡ room (get_or first k d) - length ts =
      sym (get_or-map room now k d (room d) lt) ∙ ap (λ (ns : List ℕ). get_or ns k (room d)) is.rooms
      ∙ get_or-map (λ n. n - length ts) (map room first) k (room d) (room d) (rw (length-map first room) inside)
      ∙ ap (λ n. n - length ts) (get_or-map room first k d (room d) inside) in
      omega (arith, fits, left, length-append ts (t ∷ []))

  -- one event more
  pub seen_one : (first now next : List L) (ts : List Telling) (t : Telling) → HaveSeen got room heard first now ts → length next ≡ length now
      → map got next ≡ map (λ (before : List Event). before ++ t.event ∷ []) (map got now) → map room next ≡ map (λ n. n - 1) (map room now)
      → EachPlace (λ a b. HasHeardMore heard (t ∷ []) a b) now next → HaveSeen got room heard first next (ts ++ t ∷ [])
  seen_one first now next ts t seen many lists rooms listened wide =
      let is = seen (fewer first ts t wide) in
      record {
        many = many ∙ is.many;
        lists = lists ∙ ap (map (λ (before : List Event). before ++ t.event ∷ [])) is.lists ∙ longer_twice (map got first) (events_of ts) t.event
            ∙ ap (λ (es : List Event). map (λ (before : List Event). before ++ es) (map got first)) (sym (map-append (λ (u : Telling). u.event) ts (t ∷ [])));
        rooms = rooms ∙ ap (map (λ n. n - 1)) is.rooms ∙ less_more (map room first) (length ts)
            ∙ ap (λ (m : ℕ). map (λ n. n - m) (map room first)) (sym (length-append ts (t ∷ [])));
        listened = λ k d lt before h. subst (heard (get_or next k d)) (append_assoc before ts (t ∷ []))
            (listened k d (rw (is.many) lt) (before ++ ts) (is.listened k d lt before h));
      }

  -- of listeners that had got nothing, each has got just these events
  pub got_just : (first now : List L) (ts : List Telling) → HaveGot got room heard first now ts → All (λ l. got l ≡ []) first → All (λ l. got l ≡ events_of ts) now
  got_just first now ts is fresh k d lt =
      let inside : k < length first = rw (← is.many) lt in
      sym (get_or-map got now k d (got d) lt) ∙ ap (λ (ls : List (List Event)). get_or ls k (got d)) is.lists
      ∙ get_or-map (λ (before : List Event). before ++ events_of ts) (map got first) k (got d) (got d) (rw (length-map first got) inside)
      ∙ ap (λ (before : List Event). before ++ events_of ts) (get_or-map got first k d (got d) inside ∙ fresh k d inside)
