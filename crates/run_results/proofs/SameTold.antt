-- Two drawings that know the same of each node of the tree are one text.
use Rattle.std.proofs.Common.{◌≡◌, ℕ, zero, suc, ◌<◌, ◌≤◌, Bool, List, [], ◌∷◌, ◌++◌, get_or, refl, ap, sym, ◌∙◌, subst}
use Rattle.std.specs.List.{All, AllByRecursion, filter}
use Rattle.std.proofs.lemmas.List.Elements.{All-filter, recursion_from_All}
use Rattle.std.proofs.lemmas.Option.{slice_get-get_or}
use Rattle.descriptor.specs.Nodes.{Nodes, size, children_of}
use Rattle.descriptor.proofs.Children.{children_listed}
use Rattle.resource_locks.specs.Plans.{PlanParts}
use Rattle.plan_events.specs.Texts.{TextParts}
use Rattle.plan_events.specs.declared.event.Event.{Event}
use Rattle.run_results.specs.declared.theme.Theme.{Theme}
use Rattle.run_results.specs.declared.told.NodeEvents.{NodeEvents}
use Rattle.run_results.specs.Inside.Drawings.{drawn_from}
use Rattle.run_results.specs.Told.{told_of, told_at, all_told, has_line}
use Rattle.run_results.specs.TreeTexts.{Drawn, each_sibling, drawn_of, lines_below}
use Rattle.run_results.specs.TreeSigns.{item}
use Rattle.run_results.proofs.Siblings.{sibling}
use Rattle.run_results.proofs.ToldMore.{told_get}

children_inside : (t : Nodes) (a : ℕ) → All (λ c. c < size t) (children_of t a)
children_inside t a k default lt = (children_listed t a k (get_or (children_of t a) k default) (slice_get-get_or (children_of t a) k default lt)).inside

same_filter : (p q : ℕ → Bool) (nodes : ℕ) → ((n : ℕ) → n < nodes → p n ≡ q n) → (cs : List ℕ) → AllByRecursion (λ c. c < nodes) cs → filter p cs ≡ filter q cs
same_filter p q nodes same [] within = refl
same_filter p q nodes same (c ∷ cs) within = rw (same c within.0, same_filter p q nodes same cs within.1) refl

same_siblings : (f g : ℕ → Bool → List ℕ) (nodes : ℕ) → ((n : ℕ) (is_last : Bool) → n < nodes → f n is_last ≡ g n is_last) → (cs : List ℕ) → AllByRecursion (λ c. c < nodes) cs → each_sibling f cs ≡ each_sibling g cs
same_siblings f g nodes same [] within = refl
same_siblings f g nodes same (c ∷ cs) within = rw (same c _ within.0, same_siblings f g nodes same cs within.1) refl

module _ (theme : Theme) (t : Nodes) (texts : TextParts) (f g : ℕ → NodeEvents) (same : (n : ℕ) → n < size t → f n ≡ g n) where
  abbrev drawn : (ℕ → NodeEvents) → Drawn
  drawn told = record { theme = theme; tree = t; texts = texts; told = told }

  pub same_below : (levels : ℕ) (items : List ℕ) (a : ℕ) → lines_below (drawn f) levels items a ≡ lines_below (drawn g) levels items a
  same_below zero items a = refl
  same_below (suc levels) items a =
      let kept = same_filter (λ c. has_line (f c)) (λ c. has_line (g c)) (size t) (λ n lt. ap has_line (same n lt)) (children_of t a) (recursion_from_All (λ c. c < size t) (children_of t a) (children_inside t a)) in
      let inside = recursion_from_All (λ c. c < size t) (filter (λ c. has_line (g c)) (children_of t a)) (All-filter (λ c. has_line (g c)) (λ c. c < size t) (children_of t a) (children_inside t a)) in
      rw kept (same_siblings (sibling (drawn f) levels items) (sibling (drawn g) levels items) (size t) (λ n is_last lt. rw (same n lt, same_below levels (items ++ item theme is_last) n) refl) (filter (λ c. has_line (g c)) (children_of t a)) inside)

-- the tree that is drawn from a list of what is told is the tree of the events, however many levels are allowed
pub tree_is : (theme : Theme) (plan : PlanParts) (texts : TextParts) (events : List Event) (told : List NodeEvents) (t : Nodes) (shown : List NodeEvents) (text : List ℕ)
    → t ≡ plan.tree
    → shown ≡ told
    → told ≡ all_told (size plan.tree) events
    → ((levels : ℕ) → size t ≤ levels → text ≡ lines_below (drawn_from theme t texts shown) levels [] 0)
    → (levels : ℕ) → size plan.tree ≤ levels → text ≡ lines_below (drawn_of theme plan texts events) levels [] 0
tree_is theme plan texts events told t shown text is_tree is_shown is_told drawn levels enough =
    let few : size t ≤ levels = subst (λ (u : Nodes). size u ≤ levels) (sym is_tree) enough in
    let of_tree = subst (λ (u : Nodes). text ≡ lines_below (drawn_from theme u texts shown) levels [] 0) is_tree (drawn levels few) in
    let of_told = subst (λ (l : List NodeEvents). text ≡ lines_below (drawn_from theme plan.tree texts l) levels [] 0) (is_shown ∙ is_told) of_tree in
    of_told ∙ same_below theme plan.tree texts (told_at (all_told (size plan.tree) events)) (told_of events) (λ n lt. told_get (size plan.tree) events n _ lt) levels [] 0
