-- What parameters answer below which stands what nobody has to say.
use Rattle.std.proofs.Common.{◌≡◌, ◌≢◌, ℕ, List, [], Bool, true, false, Option, None, Some, refl, sym, ap, ◌∙◌, true≢false}
use Rattle.std.specs.Prelude.{codes, if◌then◌else◌}
use Rattle.std.specs.Option.{option_or}
use Rattle.std.specs.Str.{bytes_eq}
use Rattle.std.proofs.lemmas.Option.{none-some}
use Rattle.std.proofs.lemmas.Slice.Eq.{bytes_eq-Decides}
use Rattle.config_params.specs.Parameters.{Parameters, answer, answer_before, answer_over}
use Rattle.config_params.specs.Settings.{mode_key}
use Rattle.config_params.specs.Tables.{value_in}
use Rattle.config_params.specs.declared.source.Source.TheVariants.{File}
use Rattle.launch_options.specs.Workers.{IsSpread, answer_with, usual_answer}

or_none : {T : Type 0} (a : Option T) → option_or a None ≡ a
or_none None = refl
or_none (Some x) = refl

-- what stands below a value is not asked
or_some : {T : Type 0} (a : Option T) (v : T) (o : Option T) → option_or (option_or a (Some v)) o ≡ option_or a (Some v)
or_some None v o = refl
or_some (Some x) v o = refl

-- where nothing stands between two that are asked one after the other
none_between : {T : Type 0} (a o : Option T) → option_or (option_or a None) o ≡ option_or a o
none_between None o = refl
none_between (Some x) o = refl

over_is : (over under : Parameters) (key : List ℕ) → answer_over over under key ≡ option_or (answer over key) (answer under key)
unfolding answer_over
over_is over under key = refl

usual_by : (number : ℕ) (key : List ℕ) (b : Bool) → bytes_eq key mode_key ≡ b → usual_answer (Some number) key ≡ (if b then Some (codes "concurrent") else None)
usual_by number key b is = ap (λ (c : Bool). if c then Some (codes "concurrent") else None) is

is_mode : (key : List ℕ) → bytes_eq key mode_key ≡ true → key ≡ mode_key
is_mode key is = (bytes_eq-Decides key mode_key).0 is

is_other : (key : List ℕ) → bytes_eq key mode_key ≡ false → key ≢ mode_key
is_other key is same = true≢false (sym ((bytes_eq-Decides key mode_key).1 same) ∙ is)

-- parameters to which the mode was added where nothing stood
pub spread_answers : (said old new : Parameters) (number : ℕ) → old ≡ said → said.file ≡ [] → answer new mode_key ≡ option_or (answer_before old File mode_key) (Some (codes "concurrent"))
    → ((other : List ℕ) → other ≢ mode_key → answer new other ≡ answer old other) → (key : List ℕ) → answer new key ≡ option_or (answer said key) (usual_answer (Some number) key)
spread_answers said old new number same none seen others key = by (bytes_eq key mode_key) refl
  where
    by : (b : Bool) → bytes_eq key mode_key ≡ b → answer new key ≡ option_or (answer said key) (usual_answer (Some number) key)
    by true is =
        ap (answer new) (is_mode key is) ∙ seen
        ∙ ap (λ (p : Parameters). option_or (answer_before p File mode_key) (Some (codes "concurrent"))) same
        ∙ sym (none_between (answer_before said File mode_key) (Some (codes "concurrent")))
        ∙ ap (λ table. option_or (option_or (answer_before said File mode_key) (value_in table mode_key)) (Some (codes "concurrent"))) (sym none)
        ∙ ap (λ k. option_or (answer said k) (Some (codes "concurrent"))) (sym (is_mode key is))
        ∙ ap (option_or (answer said key)) (sym (usual_by number key true is))
    by false is =
        others key (is_other key is) ∙ ap (λ (p : Parameters). answer p key) same ∙ sym (or_none (answer said key))
        ∙ ap (option_or (answer said key)) (sym (usual_by number key false is))

module _ (params properties : Parameters) where
  -- what stands below these parameters says nothing else
  pub nobody_asks : (workers : Option ℕ) → IsSpread params workers None → (key : List ℕ) → answer_over params properties key ≡ answer_with workers params properties key
  nobody_asks workers is key =
      over_is params properties key ∙ left (answer params key) (answer properties key) (usual_answer workers key) (is key)
      ∙ ap (λ o. option_or o (usual_answer workers key)) (sym (over_is params properties key))
    where
      left : (a p u : Option (List ℕ)) → a ≡ option_or a u → option_or a p ≡ option_or (option_or a p) u
      left None p u same = sym (or_none p) ∙ ap (option_or p) same
      left (Some v) p u same = refl

  -- the properties say a mode
  pub mode_said : (workers : Option ℕ) (value : List ℕ) → answer properties mode_key ≡ Some value → (key : List ℕ) → answer_over params properties key ≡ answer_with workers params properties key
  mode_said None value said key = sym (or_none (answer_over params properties key))
  mode_said (Some number) value said key = by (bytes_eq key mode_key) refl
    where
      by : (b : Bool) → bytes_eq key mode_key ≡ b → answer_over params properties key ≡ answer_with (Some number) params properties key
      by true is =
          let has : answer properties key ≡ Some value = ap (answer properties) (is_mode key is) ∙ said in
          let whole : answer_over params properties key ≡ option_or (answer params key) (Some value) = over_is params properties key ∙ ap (option_or (answer params key)) has in
          whole ∙ sym (or_some (answer params key) value (usual_answer (Some number) key))
          ∙ ap (λ o. option_or o (usual_answer (Some number) key)) (sym whole)
      by false is = sym (or_none (answer_over params properties key)) ∙ ap (option_or (answer_over params properties key)) (sym (usual_by number key false is))

  -- they say none
  pub mode_unsaid : (workers : Option ℕ) (spread : Parameters) → IsSpread params workers (Some spread) → answer properties mode_key ≡ None → (key : List ℕ) → answer_over spread properties key ≡ answer_with workers params properties key
  mode_unsaid workers spread is none key =
      over_is spread properties key ∙ ap (λ o. option_or o (answer properties key)) (is key) ∙ swapped (answer params key) (answer properties key) workers (usual_key workers)
      ∙ ap (λ o. option_or o (usual_answer workers key)) (sym (over_is params properties key))
    where
      -- where something is usual, the properties have nothing
      usual_key : (workers : Option ℕ) (v : List ℕ) → usual_answer workers key ≡ Some v → answer properties key ≡ None
      usual_key None v same = absurd (none-some v same)
      usual_key (Some number) v same = by (bytes_eq key mode_key) refl
        where
          by : (b : Bool) → bytes_eq key mode_key ≡ b → answer properties key ≡ None
          by true is = ap (answer properties) (is_mode key is) ∙ none
          by false is = absurd (none-some v (sym (usual_by number key false is) ∙ same))

      swapped_by : (a p u : Option (List ℕ)) → ((v : List ℕ) → u ≡ Some v → p ≡ None) → option_or (option_or a u) p ≡ option_or (option_or a p) u
      swapped_by (Some x) p u free = refl
      swapped_by None p None free = sym (or_none p)
      swapped_by None p (Some v) free = sym (ap (λ o. option_or o (Some v)) (free v refl))

      swapped : (a p : Option (List ℕ)) (workers : Option ℕ) → ((v : List ℕ) → usual_answer workers key ≡ Some v → p ≡ None) → option_or (option_or a (usual_answer workers key)) p ≡ option_or (option_or a p) (usual_answer workers key)
      swapped a p workers free = swapped_by a p (usual_answer workers key) free
