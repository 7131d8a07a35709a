-- The objects of a plan's nodes: an array of locks by its pieces, and each line is read as the object of its node.
use Rattle.std.proofs.Common.{◌≡◌, ℕ, zero, suc, ◌+◌, ◌-◌, ◌<◌, ◌≤◌, ◌==◌, Bool, cond, List, [], ◌∷◌, ◌++◌, length, get_or, map, codes, Option, Some, None, inl, inr, refl, sym, ap, ap₂, ◌∙◌, subst, arith, append_assoc}
use Rattle.std.specs.List.{AllByRecursion, flat_map, join_by, range_with_len}
use Rattle.std.proofs.lemmas.Bool.{cases_eq, ne_eqb}
use Rattle.std.proofs.lemmas.List.{get_or-map}
use Rattle.descriptor.specs.Nodes.{reason_of, size}
use Rattle.descriptor.specs.declared.lock.Lock.{Lock}
use Rattle.json.specs.Json.{array, no_members}
use Rattle.json.specs.Print.{quoted}
use Rattle.json.specs.Tree.{items_depth, members_depth}
use Rattle.resource_locks.specs.Plans.{PlanParts, held_of, key_number, limit_for, limit_of, number_of}
use Rattle.reports.specs.Json.{ReadsAs, text_member, written}
use Rattle.reports.specs.JsonPieces.{items_behind, members_behind, value_text}
use Rattle.reports.specs.PlanNodes.{HaveByteLimits, limit_members, lock_items, lock_json, lock_with, lock_word, node_json, node_line, nodes_told, reason_members}
use Rattle.reports.proofs.JsonEvents.{AreFlat, of_either, of_none, text_more}
use Rattle.reports.proofs.JsonLines.{ItemsHaveDecimals, MembersHaveDecimals, IsLine, lines_read}

-- the object of a lock, as its members are written
pub lock_text : (limit : ℕ) (lock : Lock) → value_text (lock_with limit lock)
    ≡ codes "{" ++ (((quoted (codes "key") ++ (codes ":" ++ quoted lock.key)) ++ ((codes "," ++ (quoted (codes "mode") ++ (codes ":" ++ quoted (lock_word lock.mode)))) ++ members_behind (limit_members limit))) ++ codes "}")
lock_text limit lock =
    let key = quoted (codes "key") ++ (codes ":" ++ quoted lock.key) in
    let more = (codes "," ++ (quoted (codes "mode") ++ (codes ":" ++ quoted (lock_word lock.mode)))) ++ members_behind (limit_members limit) in
    ap (λ (l : List ℕ). codes "{" ++ l) (sym (append_assoc key more (codes "}")))

-- the limit of the key at a place is that of the lock there
pub limit_is : (p : PlanParts) (n place : ℕ) (d : Lock) → place < length (held_of p n) → limit_of p (key_number p n place) ≡ limit_for p (get_or (held_of p n) place d).key
limit_is p n place d inside = ap (limit_of p) (get_or-map (λ lock. number_of p.keys lock.key) (held_of p n) place d 0 inside)

module _ (p : PlanParts) where
  -- items behind another one, as a text is made of them
  items_are : (locks : List Lock) → items_behind (lock_items p locks) ≡ flat_map (λ lock. codes "," ++ value_text (lock_json p lock)) locks
  items_are [] = refl
  items_are (lock ∷ more) = ap (λ (l : List ℕ). codes "," ++ (value_text (lock_json p lock) ++ l)) (items_are more)

  -- an array of locks
  pub array_text : (locks : List Lock) → value_text (array (lock_items p locks)) ≡ codes "[" ++ (join_by (λ lock. value_text (lock_json p lock)) (codes ",") locks ++ codes "]")
  array_text [] = refl
  array_text (lock ∷ more) =
      ap (λ (l : List ℕ). codes "[" ++ (value_text (lock_json p lock) ++ (l ++ codes "]"))) (items_are more)
      ∙ ap (λ (l : List ℕ). codes "[" ++ l) (sym (append_assoc (value_text (lock_json p lock)) (flat_map (λ lock. codes "," ++ value_text (lock_json p lock)) more) (codes "]")))

limit_flat : (limit : ℕ) → limit < 256 → AreFlat (limit_members limit)
limit_flat limit small = of_either (limit == 0) no_members _ of_none (record { decimals = ((limit, omega arith, refl), tt); flat = refl })

-- the members of a lock whose key has a limit that is a byte
lock_is_flat : (limit : ℕ) (lock : Lock) → limit < 256 → AreFlat (text_member (codes "key") lock.key (text_member (codes "mode") (lock_word lock.mode) (limit_members limit)))
lock_is_flat limit lock small = text_more _ _ _ (text_more _ _ _ (limit_flat limit small))

lock_flat : (p : PlanParts) (locks : List Lock) → HaveByteLimits p locks → ItemsHaveDecimals (lock_items p locks)
lock_flat p [] small = tt
lock_flat p (lock ∷ more) small = ((lock_is_flat (limit_for p lock.key) lock small.0).decimals, lock_flat p more small.1)

lock_depth : (p : PlanParts) (locks : List Lock) → HaveByteLimits p locks → items_depth (lock_items p locks) ≤ 1
lock_depth p [] small = omega arith
lock_depth p (lock ∷ more) small = omega (arith, (lock_is_flat (limit_for p lock.key) lock small.0).flat, lock_depth p more small.1)

reason_flat : (reason : Option (List ℕ)) → MembersHaveDecimals (reason_members reason)
reason_flat None = tt
reason_flat (Some reason) = (tt, tt)

reason_depth : (reason : Option (List ℕ)) → members_depth (reason_members reason) ≡ 0
reason_depth None = refl
reason_depth (Some reason) = refl

module _ (p : PlanParts) where
  -- the object of a node can be a line
  node_is_line : (n : ℕ) → HaveByteLimits p (held_of p n) → IsLine (node_json p n)
  node_is_line n small =
      let held = held_of p n in
      let reason = reason_of p.tree n in
      ((tt, (tt, (tt, (tt, (tt, (lock_flat p held small, reason_flat reason)))))), omega (arith, lock_depth p held small, reason_depth reason))

  all_lines : (a k : ℕ) → ((n : ℕ) → a ≤ n → n < a + k → HaveByteLimits p (held_of p n)) → AllByRecursion (λ n. IsLine (node_json p n)) (range_with_len a k)
  all_lines a zero small = tt
  all_lines a (suc k) small = (node_is_line a (small a (omega arith) (omega arith)), all_lines (a + 1) k (λ n low high. small n (omega (arith, low)) (omega (arith, high))))

  -- each node but the plan has its line
  line_is : (n : ℕ) → 0 < n → node_line p n ≡ written (node_json p n) ++ codes "\n"
  line_is n above = ap (λ (b : Bool). cond b [] (written (node_json p n) ++ codes "\n")) (ne_eqb n 0 (λ e. omega (arith, above, e)))

  told_lines : (a k : ℕ) → 0 < a → flat_map (node_line p) (range_with_len a k) ≡ flat_map (λ n. written (node_json p n) ++ codes "\n") (range_with_len a k)
  told_lines a zero above = refl
  told_lines a (suc k) above = ap₂ (λ (line rest : List ℕ). line ++ rest) (line_is a above) (told_lines (a + 1) k (omega (arith, above)))

  one_less : (s : ℕ) → s ≡ suc s - 1
  one_less s = omega arith

  lines_told : (s : ℕ) → flat_map (node_line p) (range_with_len 0 s) ≡ flat_map (λ n. written (node_json p n) ++ codes "\n") (range_with_len 1 (s - 1))
  lines_told zero = refl
  lines_told (suc s) = told_lines 1 s (omega arith) ∙ ap (λ (k : ℕ). flat_map (λ n. written (node_json p n) ++ codes "\n") (range_with_len 1 k)) (one_less s)

  -- the limits of what the nodes below i hold, but the plan, are bytes
  abbrev pub SmallBelow : ℕ → Type 0
  SmallBelow i = (n : ℕ) → 0 < n → n < i → HaveByteLimits p (held_of p n)

  -- and those of one node more
  pub small_more : (i : ℕ) → SmallBelow i → (0 < i → HaveByteLimits p (held_of p i)) → SmallBelow (i + 1)
  small_more i before this n above inside = elim (cases_eq n i) [
    | inl same ↦ subst (λ (m : ℕ). HaveByteLimits p (held_of p m)) (sym same) (this (omega (arith, same, above)))
    | inr other ↦ before n above (omega (arith, inside, other))
  ]

  -- Each line is read as the object of its node.
  pub plan_reads : (i : ℕ) {text : List ℕ} → i ≡ size p.tree → text ≡ flat_map (node_line p) (range_with_len 0 i) → SmallBelow i → ReadsAs text (map (node_json p) (nodes_told p))
  plan_reads i all is small =
      subst (λ (l : List ℕ). ReadsAs l (map (node_json p) (nodes_told p))) (sym (is ∙ ap (λ (k : ℕ). flat_map (node_line p) (range_with_len 0 k)) all ∙ lines_told (size p.tree)))
      (lines_read (node_json p) (nodes_told p) (all_lines 1 (size p.tree - 1) (λ n low high. small n (omega (arith, low)) (omega (arith, low, high, all)))))
