-- The mode that a node is given: the function gives what the rules say, and what users of the modes rely on.
use Rattle.std.proofs.Common.{◌≡◌, ◌≢◌, ℕ, zero, suc, ◌<◌, Bool, true, false, List, length, get_or, Option, Some, None, refl, sym, ap, ◌∙◌, subst, arith, inl, inr, eqb, replicate}
use Rattle.std.specs.Prelude.{not, ◌||◌, slice_get, unwrap_or, if◌then◌else◌}
use Rattle.std.proofs.lemmas.Bool.{or_from, or_left, or_right, ne_eqb, cases_Bool, cases_eq}
use Rattle.std.proofs.lemmas.Bool.Decides.{Decides-eqb}
use Rattle.std.proofs.lemmas.List.{ext_get_or, get_or-replicate, length-replicate}
use Rattle.std.proofs.lemmas.List.FromFn.{length-map-range_with_len, get_or-map-range_with_len}
use Rattle.std.proofs.lemmas.Option.{slice_get-get_or, slice_get_cases, same_Some}
use Rattle.config_params.specs.declared.settings.Settings.{Settings}
use Rattle.descriptor.specs.declared.mode.Mode.{Mode}
use Rattle.descriptor.specs.declared.mode.Mode.TheVariants.{SameThread}
use Rattle.descriptor.specs.Nodes.{Nodes, IsTree, IsChild, size, parent_of, is_high, mode_of, mode_or}
use Rattle.config_params.specs.Nearest.{IsNearest, own, above, nearest_mode}
use Rattle.config_params.specs.GivenModes.{IsGiven, off, plan, engine, declared, of_classes, of_default, AreGiven, default_mode, given_mode, given_modes}
use Rattle.config_params.proofs.Belows.{own_child, above_parent, child_less, below_less}
use Rattle.config_params.proofs.NearestModes.{finds, nearest_found, nearest_none}

-- a choice by two tests
first_of : {A : Type 0} (a b : Bool) (x y : A) → a ≡ false → (if not a || b then x else y) ≡ x
first_of true b x y e = absurd (cc)
first_of false b x y e = refl

second_of : {A : Type 0} (a b : Bool) (x y : A) → b ≡ true → (if not a || b then x else y) ≡ x
second_of true b x y e = ap (λ (c : Bool). if c then x else y) e
second_of false b x y e = refl

neither : {A : Type 0} (a b : Bool) (x y : A) → a ≡ true → b ≡ false → (if not a || b then x else y) ≡ y
neither true b x y e none = ap (λ (c : Bool). if c then x else y) none
neither false b x y e none = absurd (cc)

module _ (t : Nodes) (s : Settings) where
  where_off : (n : ℕ) → s.parallel ≡ false → given_mode t s n ≡ SameThread
  where_off n e = first_of s.parallel (is_high t n) SameThread (unwrap_or (nearest_mode t n) (default_mode t s n)) e

  high : (n : ℕ) → is_high t n ≡ true → given_mode t s n ≡ SameThread
  high n e = second_of s.parallel (is_high t n) SameThread (unwrap_or (nearest_mode t n) (default_mode t s n)) e

  low : (n : ℕ) → s.parallel ≡ true → is_high t n ≡ false → given_mode t s n ≡ unwrap_or (nearest_mode t n) (default_mode t s n)
  low n e none = neither s.parallel (is_high t n) SameThread (unwrap_or (nearest_mode t n) (default_mode t s n)) e none

  plan_high : (n : ℕ) → n ≡ 0 → is_high t n ≡ true
  plan_high n e = or_left (eqb n 0) (eqb (parent_of t n) 0) ((Decides-eqb n 0).1 e)

  engine_high : (n : ℕ) → parent_of t n ≡ 0 → is_high t n ≡ true
  engine_high n e = or_right (eqb n 0) (eqb (parent_of t n) 0) ((Decides-eqb (parent_of t n) 0).1 e)

  deep_low : (n : ℕ) → n ≢ 0 → parent_of t n ≢ 0 → is_high t n ≡ false
  deep_low n a b = or_from (eqb n 0) (eqb (parent_of t n) 0) (ne_eqb n 0 a) (ne_eqb (parent_of t n) 0 b)

  -- what a node below an engine has
  by_nearest : (n : ℕ) (m : Mode) → s.parallel ≡ true → is_high t n ≡ false → nearest_mode t n ≡ Some m → given_mode t s n ≡ m
  by_nearest n m e none near = low n e none ∙ ap (λ (o : Option Mode). unwrap_or o (default_mode t s n)) near

  by_default : (n : ℕ) → s.parallel ≡ true → is_high t n ≡ false → nearest_mode t n ≡ None → given_mode t s n ≡ default_mode t s n
  by_default n e none near = low n e none ∙ ap (λ (o : Option Mode). unwrap_or o (default_mode t s n)) near

  for_classes : (n : ℕ) → parent_of t (parent_of t n) ≡ 0 → default_mode t s n ≡ s.classes_mode
  for_classes n e = ap (λ (b : Bool). if b then s.classes_mode else s.default_mode) ((Decides-eqb (parent_of t (parent_of t n)) 0).1 e)

  for_others : (n : ℕ) → parent_of t (parent_of t n) ≢ 0 → default_mode t s n ≡ s.default_mode
  for_others n ne = ap (λ (b : Bool). if b then s.classes_mode else s.default_mode) (ne_eqb (parent_of t (parent_of t n)) 0 ne)

  -- the list at a node
  given_at : (n : ℕ) → n < size t → slice_get (given_modes t s) n ≡ Some (given_mode t s n)
  given_at n inside =
      slice_get-get_or (given_modes t s) n SameThread (omega (arith, inside, length-map-range_with_len (given_mode t s) 0 (size t)))
      ∙ ap Some (get_or-map-range_with_len (given_mode t s) 0 (size t) n n SameThread inside (omega arith))

  module _ (tree : IsTree t) where
    not_none : {o : Option Mode} (m : Mode) → o ≡ None → o ≡ Some m → ⊥
    not_none m a b = absurd (cc)

    -- a mode is declared below an engine alone
    declared_deep : (n : ℕ) (m : Mode) → n < size t → mode_of t n ≡ Some m → (n ≢ 0) × (parent_of t n ≢ 0)
    declared_deep zero m inside e = absurd (not_none m refl e)
    declared_deep (suc n) m inside e = (
      λ same. absurd (omega arith),
      λ root. absurd (not_none m ((tree.engines (suc n) (record { above_zero = omega arith; inside = inside; parent = root })).no_mode) e),
    )

    nearest_deep : (n : ℕ) (m : Mode) → n < size t → IsNearest t n m → is_high t n ≡ false
    nearest_deep n m inside (own here) = let deep = declared_deep n m inside here in deep_low n deep.0 deep.1
    nearest_deep n m inside (above a over here none between) =
        let less : a < n = below_less t tree a n over in
        let deep = declared_deep a m (omega arith) here in
        let e : IsChild t (parent_of t n) n = own_child t n (omega arith) inside in
        deep_low n (λ same. absurd (omega arith)) (λ root. elim (above_parent t a (parent_of t n) n e over) [
          | inl same ↦ absurd (deep.0 (same ∙ root))
          | inr up ↦ absurd (let up_less : a < parent_of t n = below_less t tree a (parent_of t n) up in omega arith)
        ])

    -- what the rules say is what the function gives
    given_is : (n : ℕ) (m : Mode) → n < size t → IsGiven t s n m → given_mode t s n ≡ m
    given_is n m inside (off e is) = where_off n e ∙ sym is
    given_is n m inside (plan e is) = high n (plan_high n e) ∙ sym is
    given_is n m inside (engine e is) = high n (engine_high n e.parent) ∙ sym is
    given_is n m inside (declared e near) = by_nearest n m e (nearest_deep n m inside near) (nearest_found t tree n m inside near)
    given_is n m inside (of_classes e none eng f g is) =
        let up : parent_of t n ≡ eng = g.parent in
        by_default n e (deep_low n (λ same. absurd (omega (arith, g.above_zero))) (λ root. absurd (omega (arith, f.above_zero)))) (nearest_none t tree n inside none)
        ∙ for_classes n (ap (parent_of t) up ∙ f.parent) ∙ sym is
    given_is n m inside (of_default e none a p above_zero f g is) =
        let up : parent_of t n ≡ p = g.parent in
        by_default n e (deep_low n (λ same. absurd (omega (arith, g.above_zero))) (λ root. absurd (omega (arith, f.above_zero)))) (nearest_none t tree n inside none)
        ∙ for_others n (λ root. absurd (let top : a ≡ 0 = sym f.parent ∙ ap (parent_of t) (sym up) ∙ root in omega arith)) ∙ sym is

    -- and the other way round
    is_given_low : (n : ℕ) → n < size t → s.parallel ≡ true → n ≢ 0 → parent_of t n ≢ 0 → IsGiven t s n (given_mode t s n)
    is_given_low n inside e deep below_engine =
        let low_is : is_high t n ≡ false = deep_low n deep below_engine in
        let f : IsChild t (parent_of t n) n = own_child t n (grind arith) inside in
        let less : parent_of t n < n = child_less t tree (parent_of t n) n f in
        let g : IsChild t (parent_of t (parent_of t n)) (parent_of t n) = own_child t (parent_of t n) (grind arith) (omega arith) in
        elim (finds t tree n inside) [
          | inl found ↦ declared e (subst (IsNearest t n) (sym (by_nearest n found.0 e low_is found.1)) found.2)
          | inr nothing ↦ elim (cases_eq (parent_of t (parent_of t n)) 0) [
            | inl root ↦ of_classes e nothing.1 (parent_of t n) (subst (λ (a : ℕ). IsChild t a (parent_of t n)) root g) f (by_default n e low_is nothing.0 ∙ for_classes n root)
            | inr other ↦ of_default e nothing.1 (parent_of t (parent_of t n)) (parent_of t n) (grind arith) g f (by_default n e low_is nothing.0 ∙ for_others n other)
          ]
        ]

    is_given : (n : ℕ) → n < size t → IsGiven t s n (given_mode t s n)
    is_given n inside = elim (cases_Bool s.parallel) [
      | inr e ↦ off e (where_off n e)
      | inl e ↦ elim (cases_eq n 0) [
        | inl root ↦ plan root (high n (plan_high n root))
        | inr deep ↦ elim (cases_eq (parent_of t n) 0) [
          | inl root ↦ engine (subst (λ (a : ℕ). IsChild t a n) root (own_child t n (grind arith) inside)) (high n (engine_high n root))
          | inr below_engine ↦ is_given_low n inside e deep below_engine
        ]
      ]
    ]

    are_given : AreGiven t s (given_modes t s)
    are_given n m inside = (
      λ stands. subst (IsGiven t s n) (same_Some (given_mode t s n) m (sym (given_at n inside) ∙ stands)) (is_given n inside),
      λ given. given_at n inside ∙ ap Some (given_is n m inside given),
    )

    -- what holds of the list of the modes
    pub right : (modes : List Mode) → modes ≡ given_modes t s → AreGiven t s modes
    right modes is = subst (AreGiven t s) (sym is) are_given

    pub own_mode : (modes : List Mode) → modes ≡ given_modes t s → s.parallel ≡ true → (n : ℕ) (m : Mode) → mode_of t n ≡ Some m → slice_get modes n ≡ Some m
    own_mode modes is e n m here =
        let inside : n < size t = mode_inside n m here in
        ap (λ (ms : List Mode). slice_get ms n) is ∙ given_at n inside ∙ ap Some (given_is n m inside (declared e (own here)))
      where
        mode_inside : (n : ℕ) (m : Mode) → mode_of t n ≡ Some m → n < size t
        mode_inside zero m e = absurd (not_none m refl e)
        mode_inside (suc n) m e = elim (slice_get_cases t.nodes n).1 [
          | inl at ↦ omega (arith, at.1, tree.nodes_len)
          | inr past ↦ absurd (not_none m (ap mode_or past.1) e)
        ]

    pub engines_same : (modes : List Mode) → modes ≡ given_modes t s → (e : ℕ) → IsChild t 0 e → slice_get modes e ≡ Some SameThread
    engines_same modes is e of_plan = ap (λ (ms : List Mode). slice_get ms e) is ∙ given_at e of_plan.inside ∙ ap Some (given_is e SameThread of_plan.inside (engine of_plan refl))

  pub one_each : (modes : List Mode) → modes ≡ given_modes t s → length modes ≡ size t
  one_each modes is = ap length is ∙ length-map-range_with_len (given_mode t s) 0 (size t)

  pub all_same_thread : (modes : List Mode) → modes ≡ given_modes t s → s.parallel ≡ false → modes ≡ replicate (size t) SameThread
  all_same_thread modes is e = ext_get_or SameThread modes (replicate (size t) SameThread) (one_each modes is ∙ sym (length-replicate (size t) SameThread))
      (λ n lt. let inside : n < size t = omega (arith, lt, one_each modes is) in
      ap (λ (ms : List Mode). get_or ms n SameThread) is ∙ get_or-map-range_with_len (given_mode t s) 0 (size t) n n SameThread inside (omega arith) ∙ where_off n e
      ∙ sym (get_or-replicate (size t) n SameThread SameThread inside))
