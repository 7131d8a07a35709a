-- The nodes of a shard are expected to end as those of the whole, and each node is in some shard.
use Rattle.std.proofs.Common.{◌≡◌, ℕ, ◌<◌, true, false, Some, Result, Ok, Err, IfOk, refl, sym, ap, ◌∙◌, inl, inr, arith, subst}
use Rattle.std.proofs.lemmas.Bool.{true≢false}
use Rattle.std.proofs.lemmas.Option.{none-some}
use Rattle.descriptor.specs.Nodes.{Nodes, IsTree, IsChild, Below, child, under, size, parent_of, after_of, is_spare_at, is_factory_at, kind_of, role_of}
use Rattle.descriptor.specs.Pruned.{is_kept}
use Rattle.selectors.specs.Keeping.{stays, Stays}
use Rattle.selectors.specs.Shards.{Part, is_unit_of, shard, AreDealtOut}
use Rattle.selectors.specs.Units.{is_unit}
use Rattle.selectors.specs.declared.dealing.Dealing.{Dealing}
use Rattle.selectors.proofs.AtOrBelows.{first_step}
use Rattle.selectors.proofs.Marks.{and_parts}
use Rattle.selectors.proofs.ShardUnits.{shard_keeps, shard_kept}
use Rattle.selectors.proofs.SparesTaken.{spare_unselectable}
use Rattle.selectors.proofs.Staying.{stays_is}
use Rattle.selectors.proofs.Truths.{read_truth}
use Rattle.uses.proofs.PrunedResults.{same_result}
use Rattle.uses.specs.ShardResults.{kept_by, EachIsRun, EndsAlike, NoUnitHasAfter}

module _ (t : Nodes) (tree : IsTree t) where
  no_unit : (n : ℕ) → is_spare_at t n ≡ true → is_unit t n ≡ true → ⊥
  no_unit n spare unit = true≢false (sym unit ∙ spare_unselectable (kind_of t n) (role_of t n) spare)

  -- a spare holds no node
  no_child : (f c : ℕ) → is_spare_at t f ≡ true → IsChild t f c → ⊥
  no_child f c spare e = true≢false (sym (tree.spare_tests f spare) ∙ tree.leaf f c e)

  -- what is below a factory is a spare
  below_factory : (f m : ℕ) → is_factory_at t f ≡ true → Below t f m → is_spare_at t m ≡ true
  below_factory f m factory (child e) = tree.spares f m e ∙ factory
  below_factory f m factory (under b e) = absurd (no_child _ m (below_factory f _ factory b) e)

  module _ (part : Part) where
    is_as : (n : ℕ) → n < size t → is_kept (kept_by t part) n ≡ stays t (is_unit_of t part) n
    is_as n inside = read_truth (kept_by t part) (stays t (is_unit_of t part)) (size t) n false refl inside

    told : (n : ℕ) → n < size t → is_kept (kept_by t part) n ≡ true → Stays t (is_unit_of t part) n
    told n inside is = (stays_is t tree (is_unit_of t part) n inside).0 (sym (is_as n inside) ∙ is)

    pub shown : (n : ℕ) → n < size t → Stays t (is_unit_of t part) n → is_kept (kept_by t part) n ≡ true
    shown n inside stay = is_as n inside ∙ (stays_is t tree (is_unit_of t part) n inside).1 stay

    parent_within : (f m : ℕ) → IsChild t f m → f < size t
    parent_within f m e = let less : parent_of t m < m = tree.up m e.above_zero e.inside in omega (arith, e.parent, e.inside)

    -- the spares of a factory that stays
    spares : (f m : ℕ) → is_kept (kept_by t part) f ≡ true → IsChild t f m → is_spare_at t m ≡ true → is_kept (kept_by t part) m ≡ true
    spares f m is e spare = by (told f (parent_within f m e) is)
      where
        factory : is_factory_at t f ≡ true
        factory = sym (tree.spares f m e) ∙ spare

        by : Stays t (is_unit_of t part) f → is_kept (kept_by t part) m ≡ true
        by (inl root) = absurd (true≢false (sym (ap (is_factory_at t) (sym root) ∙ factory)))
        by (inr (inl (n, within, mine, inl same))) = shown m e.inside (inr (inr (f, e, spare, ap (is_unit_of t part) (sym same) ∙ mine)))
        by (inr (inl (n, within, mine, inr below))) = absurd (no_unit n (below_factory f n factory below) (and_parts (is_unit t n) _ mine).0)
        by (inr (inr (g, of, is_spare, mine))) = absurd (no_child f m is_spare e)

    -- a container with an after-body that stays has a child that stays
    some : NoUnitHasAfter t → (n b c : ℕ) → n < size t → is_kept (kept_by t part) n ≡ true → after_of t n ≡ Some b → IsChild t n c → (d : ℕ) × IsChild t n d × (is_kept (kept_by t part) d ≡ true)
    some none n b c inside is after e = by (told n inside is)
      where
        by : Stays t (is_unit_of t part) n → (d : ℕ) × IsChild t n d × (is_kept (kept_by t part) d ≡ true)
        by (inl root) = absurd (none-some b (ap (after_of t) (sym root) ∙ after))
        by (inr (inl (m, within, mine, inl same))) = absurd (none n b (and_parts (is_unit t n) _ (ap (is_unit_of t part) (sym same) ∙ mine)).0 after)
        by (inr (inl (m, within, mine, inr below))) = let step = first_step t n m below in (step.0, step.1, shown step.0 step.1.inside (inr (inl (m, within, mine, step.2))))
        by (inr (inr (g, of, is_spare, mine))) = absurd (no_child n c is_spare e)

    alike : NoUnitHasAfter t → EndsAlike t part (shard t part)
    alike none reply n inside is = same_result t (shard t part) tree (kept_by t part) (shard_keeps t tree part) (shard_kept t tree part) spares (some none) reply n inside is

    pub shares_alike : {E : Type 0} (result : Result Nodes E) → IfOk result (λ found. found ≡ shard t part) → IfOk result (λ found. NoUnitHasAfter t → EndsAlike t part found)
    shares_alike (Ok found) same = λ none. subst (EndsAlike t part) (sym same) (alike none)
    shares_alike (Err e) same = same

  -- each node is run in some shard
  pub each_is_run : (count : ℕ) (dealing : Dealing) → AreDealtOut t count dealing → EachIsRun t count dealing
  each_is_run count dealing dealt n above inside (inl root) = absurd (omega (arith, root, above))
  each_is_run count dealing dealt n above inside (inr (inl (m, within, unit, at))) =
      let one = dealt.each m unit in
      (one.0, one.1, one.2, shown (record { number = one.0; count = count; dealing = dealing }) n inside (inr (inl (m, within, one.3, at))))
  each_is_run count dealing dealt n above inside (inr (inr (f, e, spare, unit))) =
      let one = dealt.each f unit in
      (one.0, one.1, one.2, shown (record { number = one.0; count = count; dealing = dealing }) n inside (inr (inr (f, e, spare, one.3))))
