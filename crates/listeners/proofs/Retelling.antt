-- Telling listeners one event after the other.
use Rattle.std.proofs.Common.{◌≡◌, ℕ, ◌+◌, ◌-◌, ◌<◌, ◌≤◌, List, [], ◌∷◌, ◌++◌, length, map, take, get_or, refl, sym, ap, ◌∙◌, arith, append_assoc, append-nil}
use Rattle.std.specs.List.{All}
use Rattle.std.proofs.lemmas.List.{get_or-map, length-map, take_more}

-- each list is longer by the first i of these events
abbrev pub AreTold : {L E : Type 0} → (L → List E) → List E → ℕ → List L → List L → Type 0
AreTold got events i old items = map got items ≡ map (λ heard. heard ++ take i events) (map got old)

pub longer_twice : {E : Type 0} (lists : List (List E)) (front : List E) (e : E) → map (λ (heard : List E). heard ++ e ∷ []) (map (λ (heard : List E). heard ++ front) lists) ≡ map (λ (heard : List E). heard ++ (front ++ e ∷ [])) lists
longer_twice [] front e = refl
longer_twice (x ∷ lists) front e = ap (λ y. y ∷ map (λ heard. heard ++ e ∷ []) (map (λ heard. heard ++ front) lists)) (append_assoc x front (e ∷ [])) ∙ ap (λ ys. (x ++ (front ++ e ∷ [])) ∷ ys) (longer_twice lists front e)

pub longer_none : {E : Type 0} (lists : List (List E)) → lists ≡ map (λ (heard : List E). heard ++ []) lists
longer_none [] = refl
longer_none (x ∷ lists) = ap (λ y. y ∷ lists) (sym (append-nil x)) ∙ ap (λ ys. (x ++ []) ∷ ys) (longer_none lists)

module _ {L E : Type 0} (got : L → List E) (events : List E) where
  -- before the first
  pub told_none : (items : List L) → AreTold got events 0 items items
  told_none items = longer_none (map got items)

  -- one more
  pub told_more : (i : ℕ) (e : E) (old items next : List L) → AreTold got events i old items → i < length events → e ≡ get_or events i e
      → map got next ≡ map (λ (heard : List E). heard ++ e ∷ []) (map got items) → AreTold got events (i + 1) old next
  told_more i e old items next told inside here is =
      let front : take i events ++ e ∷ [] ≡ take (i + 1) events = ap (λ x. take i events ++ x ∷ []) here ∙ sym (take_more events i e inside) in
      is ∙ ap (map (λ heard. heard ++ e ∷ [])) told ∙ longer_twice (map got old) (take i events) e ∙ ap (λ xs. map (λ heard. heard ++ xs) (map got old)) front

module _ {L : Type 0} (room : L → ℕ) (n : ℕ) where
  -- each has room for what is left
  pub room_left : (i : ℕ) (items : List L) → i < n → All (λ l. n ≤ room l + i) items → All (λ l. 1 ≤ room l) items
  room_left i items inside all k d within = let fits = all k d within in omega (arith, fits, inside)

  -- and one place less after one more
  pub room_less : (i : ℕ) (items next : List L) → i < n → map room next ≡ map (λ m. m - 1) (map room items) → All (λ l. n ≤ room l + i) items → All (λ l. n ≤ room l + (i + 1)) next
  room_less i items next inside is all k d within =
      let same_length : length next ≡ length items = sym (length-map next room) ∙ ap length is ∙ length-map (map room items) (λ m. m - 1) ∙ length-map items room in
      let within_items : k < length items = rw (← same_length) within in
      let now : get_or (map room next) k 0 ≡ room (get_or next k d) = get_or-map room next k d 0 within in
      let was : get_or (map (λ m. m - 1) (map room items)) k 0 ≡ get_or (map room items) k 0 - 1 = get_or-map (λ m. m - 1) (map room items) k 0 0 (rw (length-map items room) within_items) in
      let before : get_or (map room items) k 0 ≡ room (get_or items k d) = get_or-map room items k d 0 within_items in
      let whole : room (get_or next k d) ≡ room (get_or items k d) - 1 = sym now ∙ ap (λ xs. get_or xs k 0) is ∙ was ∙ ap (λ m. m - 1) before in
      let fits = all k d within_items in
      omega (arith, whole, fits, inside)

-- each room is smaller by i
abbrev pub AreSmaller : {L : Type 0} → (L → ℕ) → ℕ → List L → List L → Type 0
AreSmaller room i old items = map room items ≡ map (λ n. n - i) (map room old)

pub less_none : (rooms : List ℕ) → rooms ≡ map (λ n. n - 0) rooms
less_none [] = refl
less_none (r ∷ rooms) = rw (← less_none rooms) (ap (λ n. n ∷ rooms) (omega arith))

pub less_more : (rooms : List ℕ) (i : ℕ) → map (λ n. n - 1) (map (λ n. n - i) rooms) ≡ map (λ n. n - (i + 1)) rooms
less_more [] i = refl
less_more (r ∷ rooms) i = ap (λ n. n ∷ map (λ n. n - 1) (map (λ n. n - i) rooms)) (omega arith) ∙ ap (λ ns. (r - (i + 1)) ∷ ns) (less_more rooms i)

module _ {L : Type 0} (room : L → ℕ) where
  pub smaller_none : (items : List L) → AreSmaller room 0 items items
  smaller_none items = less_none (map room items)

  pub smaller_more : (i : ℕ) (old items next : List L) → AreSmaller room i old items → map room next ≡ map (λ n. n - 1) (map room items) → AreSmaller room (i + 1) old next
  smaller_more i old items next before is = is ∙ ap (map (λ n. n - 1)) before ∙ less_more (map room old) i
