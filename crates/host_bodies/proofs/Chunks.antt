-- A room into which bytes are read one chunk after the other.
use Rattle.std.proofs.Common.{◌≡◌, ◌∙◌, ℕ, ◌+◌, ◌-◌, ◌<◌, ◌≤◌, Bool, true, false, ◌||◌, List, [], ◌∷◌, ◌++◌, length, take, drop, slice_range, refl, sym, ap, subst, arith, length-drop, length-take-le, append_assoc}
use lib.Seq.{take-add, take-take}
use Rattle.std.proofs.KnownBytes.{Consumes-trans}
use Rattle.std.proofs.lemmas.List.Folds.{list_any-append}
use Rattle.std.specs.Io.KnownBytes.{Consumes}
use Rattle.std.specs.Prelude.{Option}
use Rattle.host_bodies.specs.Lines.{is_feed, has_feed, IsLine, IsCutOff}
use Rattle.host_bodies.specs.declared.silence.Silence.TheVariants.{Unasked}

-- the chunk of so many bytes that stands at this place
abbrev pub chunk : List ℕ → (at count : ℕ) → List ℕ
chunk room at count = take count (drop at room)

pub range_is : (room : List ℕ) (at count : ℕ) → slice_range room at (at + count) ≡ chunk room at count
range_is room at count = ap (λ n. take n (drop at room)) (omega arith)

neither : (a b : Bool) → a ≡ false → b ≡ false → (a || b) ≡ false
neither false false p q = refl
neither false true p q = q
neither true b p q = p

second : (a b : Bool) → b ≡ true → (a || b) ≡ true
second false b q = q
second true b q = refl

feeds : (xs ys : List ℕ) → has_feed (xs ++ ys) ≡ (has_feed xs || has_feed ys)
feeds xs ys = list_any-append is_feed xs ys

module _ (a b c : Option (List ℕ)) (old room : List ℕ) (at count : ℕ) (front : take at room ≡ take at old) (before : Consumes a b (take at old)) (more : Consumes b c (chunk room at count)) where
  pub read_more : Consumes a c (take (at + count) room)
  read_more = subst (Consumes a c) (ap (λ l. l ++ chunk room at count) (sym front) ∙ sym (take-add at count room)) (Consumes-trans a b c _ _ before more)

  module _ (flat : has_feed (take at old) ≡ false) where
    flat_front : has_feed (take at room) ≡ false
    flat_front = ap has_feed front ∙ flat

    pub flat_more : has_feed (chunk room at count) ≡ false → has_feed (take (at + count) room) ≡ false
    flat_more goes_on = ap has_feed (take-add at count room) ∙ (feeds (take at room) (chunk room at count) ∙ neither _ _ flat_front goes_on)

    module _ (fits : at + count ≤ length room) (some : 0 < count) where
      long : length (chunk room at count) ≡ count
      long = length-take-le count (drop at room) (omega (arith, fits, length-drop at room))

      shorter : take (length (chunk room at count) - 1) (chunk room at count) ≡ chunk room at (count - 1)
      shorter = ap (λ n. take (n - 1) (chunk room at count)) long ∙ take-take (count - 1) count (drop at room) (omega arith)

      less : (at + count) - 1 ≡ at + (count - 1)
      less = omega (arith, some)

      all_but : take ((at + count) - 1) room ≡ take at room ++ chunk room at (count - 1)
      all_but = ap (λ n. take n room) less ∙ take-add at (count - 1) room

      module _ (flat_chunk : has_feed (take (length (chunk room at count) - 1) (chunk room at count)) ≡ false) (ends : chunk room at count ≡ take (length (chunk room at count) - 1) (chunk room at count) ++ 10 ∷ []) where
        pub is_line : IsLine ((at + count) - 1) room a c
        is_line =
            let end : chunk room at count ≡ chunk room at (count - 1) ++ 10 ∷ [] = ends ∙ ap (λ l. l ++ 10 ∷ []) shorter in
            let whole : take (at + count) room ≡ take ((at + count) - 1) room ++ 10 ∷ [] = take-add at count room ∙ ap (λ l. take at room ++ l) end ∙ sym (append_assoc (take at room) (chunk room at (count - 1)) (10 ∷ [])) ∙ ap (λ l. l ++ 10 ∷ []) (sym all_but) in
            record {
              inside = omega (arith, some, fits);
              flat = ap has_feed all_but ∙ (feeds (take at room) (chunk room at (count - 1)) ∙ neither _ _ flat_front (ap has_feed (sym shorter) ∙ flat_chunk));
              read = subst (Consumes a c) whole read_more;
            }

      pub is_early : (most : ℕ) → has_feed (take (length (chunk room at count) - 1) (chunk room at count)) ≡ true → IsCutOff Unasked most a c
      is_early most early =
          let bytes = take (at + count) room in
          let many : length bytes ≡ at + count = length-take-le (at + count) room fits in
          let front_of : take (length bytes - 1) bytes ≡ take at room ++ chunk room at (count - 1) = ap (λ n. take (n - 1) bytes) many ∙ (take-take ((at + count) - 1) (at + count) room (omega arith) ∙ all_but) in
          record {
            bytes = bytes;
            read = read_more;
            because = ap has_feed front_of ∙ (feeds (take at room) (chunk room at (count - 1)) ∙ second _ _ (ap has_feed (sym shorter) ∙ early));
          }
