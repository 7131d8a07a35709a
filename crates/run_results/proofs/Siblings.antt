-- The children that have lines, and how the text grows by each of them.
use Rattle.std.proofs.Common.{◌≡◌, ℕ, zero, suc, ◌+◌, ◌<◌, ◌≤◌, ◌-◌, ◌==◌, Bool, cond, List, [], ◌∷◌, ◌++◌, length, take, get_or, refl, ap, sym, ◌∙◌, subst, arith, append_assoc, append-nil}
use Rattle.std.specs.List.{AllByRecursion, filter}
use Rattle.std.proofs.lemmas.List.Elements.{All-filter, recursion_from_All, filter_more}
use Rattle.std.proofs.lemmas.Option.{slice_get-get_or}
use Rattle.descriptor.specs.Nodes.{Nodes, IsTree, IsChild, size, children_of}
use Rattle.descriptor.proofs.Children.{children_listed}
use Rattle.run_results.specs.Told.{has_line}
use Rattle.run_results.specs.TreeTexts.{Drawn, line, children_drawn, each_sibling, lines_below}
use Rattle.run_results.specs.TreeSigns.{item}

-- a number above a node's and below the number of nodes
pub record IsBetween (a nodes c : ℕ) : Type 0 where
  pub above : a < c
  pub inside : c < nodes

child_between : (t : Nodes) → IsTree t → (a c : ℕ) → IsChild t a c → IsBetween a (size t) c
child_between t is a c child = record { above = subst (λ (p : ℕ). p < c) child.parent (is.up c child.above_zero child.inside); inside = child.inside }

pub drawn_between : (d : Drawn) → IsTree d.tree → (a : ℕ) → AllByRecursion (IsBetween a (size d.tree)) (children_drawn d a)
drawn_between d is a =
    recursion_from_All (IsBetween a (size d.tree)) (children_drawn d a)
    (All-filter (λ c. has_line (d.told c)) (IsBetween a (size d.tree)) (children_of d.tree a)
    (λ k default lt. child_between d.tree is a (get_or (children_of d.tree a) k default) (children_listed d.tree a k (get_or (children_of d.tree a) k default) (slice_get-get_or (children_of d.tree a) k default lt))))

-- what a sibling gives: its line, and the lines below it
abbrev pub sibling : Drawn → ℕ → List ℕ → ℕ → Bool → List ℕ
sibling d levels items c is_last = line d items c is_last ++ lines_below d levels (items ++ item d.theme is_last) c

-- the text so far, and of node a's children those that are left: with what they give the text is that of all
pub record Grows (d : Drawn) (items : List ℕ) (a : ℕ) (old text left : List ℕ) : Type 0 where
  pub between : AllByRecursion (IsBetween a (size d.tree)) left
  pub whole : (levels : ℕ) → size d.tree - a ≤ suc levels → text ++ each_sibling (sibling d levels items) left ≡ old ++ each_sibling (sibling d levels items) (children_drawn d a)

pub grows_first : (d : Drawn) (items : List ℕ) (a : ℕ) (text left : List ℕ) → IsTree d.tree → left ≡ children_drawn d a → Grows d items a text text left
grows_first d items a text left is all =
    subst (λ (xs : List ℕ). Grows d items a text text xs) (sym all) (record { between = drawn_between d is a; whole = λ levels enough. refl })

joined : (text a b rest whole : List ℕ) → text ++ ((a ++ b) ++ rest) ≡ whole → ((text ++ a) ++ b) ++ rest ≡ whole
joined text a b rest whole e = ap (λ l. l ++ rest) (append_assoc text a b) ∙ append_assoc text (a ++ b) rest ∙ e

sibling_more : (d : Drawn) (levels : ℕ) (items : List ℕ) (c : ℕ) (more : List ℕ) (is_last : Bool) (text lined below grown whole : List ℕ)
    → is_last ≡ (length more == 0)
    → lined ≡ text ++ line d items c is_last
    → below ≡ items ++ item d.theme is_last
    → grown ≡ lined ++ lines_below d levels below c
    → text ++ each_sibling (sibling d levels items) (c ∷ more) ≡ whole
    → grown ++ each_sibling (sibling d levels items) more ≡ whole
sibling_more d levels items c more is_last text lined below grown whole last a b e h =
    let now = joined text (line d items c is_last) (lines_below d levels (items ++ item d.theme is_last) c) (each_sibling (sibling d levels items) more) whole
    (subst (λ (x : Bool). text ++ (sibling d levels items c x ++ each_sibling (sibling d levels items) more) ≡ whole) (sym last) h) in
    let is : grown ≡ (text ++ line d items c is_last) ++ lines_below d levels (items ++ item d.theme is_last) c =
    e ∙ ap (λ l. l ++ lines_below d levels below c) a ∙ ap (λ (l : List ℕ). (text ++ line d items c is_last) ++ lines_below d levels l c) b in
    ap (λ l. l ++ each_sibling (sibling d levels items) more) is ∙ now

pub grows_more : (d : Drawn) (items : List ℕ) (a : ℕ) (old text left : List ℕ) (c : ℕ) (more : List ℕ) (is_last : Bool) (lined below grown : List ℕ)
    → Grows d items a old text left
    → left ≡ c ∷ more
    → is_last ≡ (length more == 0)
    → lined ≡ text ++ line d items c is_last
    → below ≡ items ++ item d.theme is_last
    → ((levels : ℕ) → size d.tree - c ≤ levels → grown ≡ lined ++ lines_below d levels below c)
    → Grows d items a old grown more
grows_more d items a old text left c more is_last lined below grown grows first last line_is below_is below_grown =
    let now = subst (λ (xs : List ℕ). Grows d items a old text xs) first grows in
    let head : IsBetween a (size d.tree) c = now.between.0 in
    record {
      between = now.between.1;
      whole = λ levels enough. sibling_more d levels items c more is_last text lined below grown _ last line_is below_is (below_grown levels (omega (arith, head.above, head.inside))) (now.whole levels enough);
    }

-- the next of them
pub next_between : (d : Drawn) (items : List ℕ) (a : ℕ) (old text left : List ℕ) (c : ℕ) (more : List ℕ) → Grows d items a old text left → left ≡ c ∷ more → IsBetween a (size d.tree) c
next_between d items a old text left c more grows first = let now = subst (λ (xs : List ℕ). Grows d items a old text xs) first grows in now.between.0

-- the text with all siblings is the text with the lines below their parent
pub grows_all : (d : Drawn) (items : List ℕ) (a : ℕ) (old text left : List ℕ) → Grows d items a old text left → left ≡ [] → a < size d.tree
    → (levels : ℕ) → size d.tree - a ≤ levels → text ≡ old ++ lines_below d levels items a
grows_all d items a old text left grows none inside zero enough = absurd (omega arith)
grows_all d items a old text left grows none inside (suc levels) enough =
    let now = subst (λ (xs : List ℕ). Grows d items a old text xs) none grows in
    sym (append-nil text) ∙ now.whole levels enough

-- where no child has a line nothing is drawn
pub nothing_below : (d : Drawn) (items : List ℕ) (a : ℕ) (text : List ℕ) → children_drawn d a ≡ [] → (levels : ℕ) → text ≡ text ++ lines_below d levels items a
nothing_below d items a text none zero = sym (append-nil text)
nothing_below d items a text none (suc levels) = sym (ap (λ l. text ++ each_sibling (sibling d levels items) l) none ∙ append-nil text)

-- one more number, if it passes
pub passed_more : (p : ℕ → Bool) (xs : List ℕ) (i x : ℕ) (old new : List ℕ) → i < length xs → x ≡ get_or xs i x → old ≡ filter p (take i xs) → new ≡ old ++ cond (p x) (x ∷ []) [] → new ≡ filter p (take (i + 1) xs)
passed_more p xs i x old new inside is before grown =
    grown
    ∙ ap (λ (l : List ℕ). l ++ cond (p x) (x ∷ []) []) before
    ∙ sym (filter_more p xs i x inside ∙ ap (λ (y : ℕ). filter p (take i xs) ++ cond (p y) (y ∷ []) []) (sym is))
