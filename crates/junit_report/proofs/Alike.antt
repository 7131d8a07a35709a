-- Lists, counts and trees that are made of the same facts about each node are the same.
use Rattle.std.proofs.Common.{◌≡◌, ℕ, zero, suc, ◌+◌, ◌<◌, ◌≤◌, Bool, List, [], ◌∷◌, ◌++◌, get_or, map, refl, ◌∙◌, arith}
use Rattle.std.specs.List.{All, AllByRecursion, filter, list_any, range_with_len}
use Rattle.std.proofs.lemmas.List.Elements.{All-filter, recursion_from_All}
use Rattle.std.proofs.lemmas.Option.{slice_get-get_or}
use Rattle.descriptor.specs.Nodes.{Nodes, size, children_of, count_below}
use Rattle.descriptor.proofs.Children.{children_listed}
use Rattle.plan_events.specs.Texts.{TextParts, text_at}
use Rattle.run_results.specs.declared.theme.Theme.{Theme}
use Rattle.run_results.specs.declared.told.NodeEvents.{NodeEvents}
use Rattle.run_results.specs.Told.{has_line}
use Rattle.run_results.specs.TreeSigns.{item}
use Rattle.run_results.specs.TreeTexts.{Drawn, each_sibling, lines_below}
use Rattle.run_results.proofs.SameTold.{same_below}
use Rattle.run_results.proofs.Siblings.{sibling}

pub same_map : {X : Type 0} (f g : ℕ → X) (a n : ℕ) → ((k : ℕ) → a ≤ k → k < a + n → f k ≡ g k) → map f (range_with_len a n) ≡ map g (range_with_len a n)
same_map f g a zero same = refl
same_map f g a (suc n) same = rw (same a (omega arith) (omega arith), same_map f g (a + 1) n (λ k low high. same k (omega (arith, low)) (omega (arith, high)))) refl

pub same_any : (f g : ℕ → Bool) (a n : ℕ) → ((k : ℕ) → a ≤ k → k < a + n → f k ≡ g k) → list_any f (range_with_len a n) ≡ list_any g (range_with_len a n)
same_any f g a zero same = refl
same_any f g a (suc n) same = rw (same a (omega arith) (omega arith), same_any f g (a + 1) n (λ k low high. same k (omega (arith, low)) (omega (arith, high)))) refl

pub same_count : (f g : ℕ → Bool) (k : ℕ) → ((n : ℕ) → n < k → f n ≡ g n) → count_below f k ≡ count_below g k
same_count f g zero same = refl
same_count f g (suc k) same = rw (same k (omega arith), same_count f g k (λ n lt. same n (omega (arith, lt)))) refl

same_siblings : (f g : ℕ → Bool → List ℕ) (nodes : ℕ) → ((n : ℕ) (is_last : Bool) → n < nodes → f n is_last ≡ g n is_last) → (cs : List ℕ) → AllByRecursion (λ c. c < nodes) cs → each_sibling f cs ≡ each_sibling g cs
same_siblings f g nodes same [] within = refl
same_siblings f g nodes same (c ∷ cs) within = rw (same c _ within.0, same_siblings f g nodes same cs within.1) refl

children_inside : (t : Nodes) (a : ℕ) → All (λ c. c < size t) (children_of t a)
children_inside t a k default lt = (children_listed t a k (get_or (children_of t a) k default) (slice_get-get_or (children_of t a) k default lt)).inside

module _ (theme : Theme) (t : Nodes) (told : ℕ → NodeEvents) (a b : TextParts) (same : (n : ℕ) → n < size t → text_at a n ≡ text_at b n) where
  abbrev drawn : TextParts → Drawn
  drawn texts = record { theme = theme; tree = t; texts = texts; told = told }

  -- the same texts give the same lines
  pub same_texts : (levels : ℕ) (items : List ℕ) (n : ℕ) → lines_below (drawn a) levels items n ≡ lines_below (drawn b) levels items n
  same_texts zero items n = refl
  same_texts (suc levels) items n =
      let inside = recursion_from_All (λ c. c < size t) (filter (λ c. has_line (told c)) (children_of t n)) (All-filter (λ c. has_line (told c)) (λ c. c < size t) (children_of t n) (children_inside t n)) in
      same_siblings (sibling (drawn a) levels items) (sibling (drawn b) levels items) (size t) (λ c is_last lt. rw (same c lt, same_texts levels (items ++ item theme is_last) c) refl) (filter (λ c. has_line (told c)) (children_of t n)) inside

-- where the same is known of each node, and each has the same text, the trees are the same
pub same_lines : (theme : Theme) (t : Nodes) (a b : TextParts) (f g : ℕ → NodeEvents) → ((n : ℕ) → n < size t → f n ≡ g n) → ((n : ℕ) → n < size t → text_at a n ≡ text_at b n) → (levels : ℕ) (items : List ℕ) (n : ℕ)
    → lines_below (record { theme = theme; tree = t; texts = a; told = f }) levels items n ≡ lines_below (record { theme = theme; tree = t; texts = b; told = g }) levels items n
same_lines theme t a b f g told texts levels items n = same_below theme t a f g told levels items n ∙ same_texts theme t g a b texts levels items n
