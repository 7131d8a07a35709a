-- Which nodes are taken: a spare where its factory is, any other where it is selected.
use Rattle.std.proofs.Common.{◌≡◌, ℕ, Bool, true, false, refl, sym, ap, ◌∙◌, Result, Ok, Err, IfOk}
use Rattle.std.specs.Prelude.{◌||◌, ◌&&◌}
use Rattle.descriptor.specs.declared.kind.Kind.{Kind}
use Rattle.descriptor.specs.declared.role.Role.{Role}
use Rattle.descriptor.specs.declared.role.Role.TheVariants.{Plain, Factory, Spare}
use Rattle.descriptor.specs.Kinds.{is_test}
use Rattle.descriptor.specs.Nodes.{Nodes, IsTree, IsChild, parent_of, node_at, kind_of, role_of, is_spare_at}
use Rattle.descriptor.specs.Roles.{is_factory, is_spare}
use Rattle.selectors.specs.declared.request.Request.{Request}
use Rattle.selectors.specs.Filters.{keeps, tags_together}
use Rattle.selectors.specs.Keeping.{is_taken}
use Rattle.selectors.specs.Selections.{is_asked_for, is_selected}
use Rattle.selectors.specs.Shards.{Part, gets_told, is_unit_of, place_of}
use Rattle.selectors.specs.Units.{is_selectable}

or_none : (a : Bool) → (a || false) ≡ a
or_none true = refl
or_none false = refl

and_none : (a : Bool) → (a && false) ≡ false
and_none true = refl
and_none false = refl

pub spare_unselectable : (kind : Kind) (role : Role) → is_spare role ≡ true → is_selectable kind role ≡ false
spare_unselectable kind Plain h = absurd (cc)
spare_unselectable kind Factory h = absurd (cc)
spare_unselectable kind Spare h = and_none (is_test kind)

factory_no_spare : (role : Role) → is_factory role ≡ true → is_spare role ≡ false
factory_no_spare Plain h = absurd (cc)
factory_no_spare Factory h = refl
factory_no_spare Spare h = absurd (cc)

pub plain_taken : (t : Nodes) (q : ℕ → Bool) (n : ℕ) → is_spare_at t n ≡ false → q n ≡ is_taken t q n
plain_taken t q n plain = sym (ap (λ b. q n || (b && q (parent_of t n))) plain ∙ or_none (q n))

pub plain_taken_ok : {E : Type 0} (t : Nodes) (q : ℕ → Bool) (n : ℕ) (r : Result Bool E) → is_spare_at t n ≡ false → IfOk r (λ b. b ≡ q n) → IfOk r (λ b. b ≡ is_taken t q n)
plain_taken_ok t q n (Ok b) plain is = is ∙ plain_taken t q n plain
plain_taken_ok t q n (Err e) plain is = is

-- a spare that does not pass by itself is taken where its factory is
pub spare_as_factory : (t : Nodes) → IsTree t → (q : ℕ → Bool) (f n : ℕ) → IsChild t f n → is_spare_at t n ≡ true → q n ≡ false → is_taken t q f ≡ is_taken t q n
spare_as_factory t tree q f n e spare own =
    let factory : is_spare_at t f ≡ false = factory_no_spare (role_of t f) (sym (tree.spares f n e) ∙ spare) in
    sym (plain_taken t q f factory) ∙ ap q (sym e.parent) ∙ sym (ap (λ b. b || (is_spare_at t n && q (parent_of t n))) own ∙ ap (λ b. b && q (parent_of t n)) spare)

pub spare_taken : (t : Nodes) → IsTree t → (request : Request) (f n : ℕ) → IsChild t f n → is_spare_at t n ≡ true → is_taken t (is_selected t request) f ≡ is_taken t (is_selected t request) n
spare_taken t tree request f n e spare =
    let rest = is_asked_for t request n && keeps request.include.items request.exclude.items (tags_together t n) in
    spare_as_factory t tree (is_selected t request) f n e spare (ap (λ b. b && rest) (spare_unselectable (kind_of t n) (role_of t n) spare))

-- and so is the spare of a shard's factory
pub spare_in_shard : (t : Nodes) → IsTree t → (part : Part) (f n : ℕ) → IsChild t f n → is_spare_at t n ≡ true → is_taken t (is_unit_of t part) f ≡ is_taken t (is_unit_of t part) n
spare_in_shard t tree part f n e spare =
    spare_as_factory t tree (is_unit_of t part) f n e spare (ap (λ b. b && gets_told part (place_of t n) (node_at t n)) (spare_unselectable (kind_of t n) (role_of t n) spare))
