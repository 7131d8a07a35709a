-- The pairs have another value there, if there is a pair, and the places stay.
use Rattle.std.proofs.Common.{◌≡◌, map, ap, ◌∙◌, sym, refl, string_bytes}
use Rattle.std.specs.HashMap.{get_by_text}
use Rattle.std.proofs.lemmas.Option.{slice_get_read, slice_get_past}
use Rattle.config_params.specs.Places.{bytes_of, place_in, with_value_at}
use Rattle.config_params.proofs.Places.{set_bytes, set_past, kept}
use Rattle.config_params.proofs.table.Table.set.Goals.{in-Some, in_default}
use Rattle.config_params.proofs.table.Table.set.Goals as goal

-- the bytes of the pairs then
now : (c : goal.Joined-get_mut) → map bytes_of c.match-get_mut.self-inside.pairs.items ≡ with_value_at (map bytes_of c.self.inside.pairs.items) c.args.place (string_bytes c.args.value)
now c = elim c.match-get_mut.branch [
  | in-Some w ↦
      ap (λ t. map bytes_of t.pairs.items) w.self-inside-is
      ∙ set_bytes c.self.inside.pairs.items c.args.place w.in-Some.pair.now c.args.value (slice_get_read c.self.inside.pairs.items _ c.args.place w.in-Some.pair.now c.self.inside.pairs.ok.0 (w.in-Some.ensures.variant.0 refl) w.in-Some.ensures.value)
  | in_default w ↦
      ap (λ t. map bytes_of t.pairs.items) w.self-inside-is
      ∙ set_past c.self.inside.pairs.items c.args.place (string_bytes c.args.value) (slice_get_past c.self.inside.pairs.items c.args.place w.in_default.ensures.item.3)
]

pub invariant_of-self : goal.invariant_of-self
invariant_of-self c key =
    stay ∙ c.self.invariant key ∙ sym (kept (map bytes_of c.self.inside.pairs.items) c.args.place (string_bytes c.args.value) key) ∙ ap (λ l. place_in l key) (sym (now c))
  where
    stay : get_by_text c.match-get_mut.self-inside.places key ≡ get_by_text c.self.inside.places key
    stay = elim c.match-get_mut.branch [
      | in-Some w ↦ ap (λ t. get_by_text t.places key) w.self-inside-is
      | in_default w ↦ ap (λ t. get_by_text t.places key) w.self-inside-is
    ]

pub returns : goal.returns
returns c = now c ∙ ap (λ l. with_value_at l c.args.place (string_bytes c.args.value)) c.self.view_is
