-- What holds after each line holds where a class was given its after-body.
use Rattle.std.proofs.Common.{◌≡◌, ℕ, zero, suc, ◌+◌, ◌≤◌, ◌&&◌, Bool, true, List, [], ◌∷◌, ◌++◌, Option, Some, None, option_to_list, if◌then◌else◌, refl, ap, sym, ◌∙◌, subst}
use Rattle.std.specs.Prelude.{slice_get}
use Rattle.std.specs.Option.{is_none}
use Rattle.std.specs.List.Sorted.{IsPermutation}
use Rattle.std.proofs.lemmas.List.{map-append}
use Rattle.std.proofs.lemmas.List.Sorted.{IsPermutation-refl, IsPermutation-sym, IsPermutation-trans, IsPermutation-cons, IsPermutation-middle, IsPermutation-append_right, IsPermutation-to_front}
use Rattle.descriptor.specs.declared.node.Node.{Node}
use Rattle.descriptor.specs.declared.role.Role.{Role}
use Rattle.descriptor.specs.Bodies.{takes_after, may_get_after_or, may_get_after_at, given_after_at, with_after}
use Rattle.descriptor.specs.Nodes.{Nodes, size, node_at, parent_of}
use Rattle.descriptor.specs.Refusals.{after_refusal}
use Rattle.descriptor.specs.Roles.{is_spare}
use Rattle.descriptor.proofs.AfterBodies.{taken_after, told_as_before}
use Rattle.plan_events.specs.declared.status.Status.{Status}
use Rattle.unique_id.specs.declared.unique_id.Segment.{Segment}
use Rattle.suite_words.specs.declared.script.Script.{Script}
use Rattle.suite_text.specs.declared.suite.builder.Opened.{Opened}
use Rattle.suite_words.specs.Reading.After.{after_body}
use Rattle.suite_text.specs.Reading.After.{with_after_body}
use Rattle.suite_text.specs.Reading.Ids.{IsNamed, IdsFollow, place_among, value_at}
use Rattle.suite_words.specs.Reading.Nodes.{id_at, id_or_none, value_of_dyn}
use Rattle.suite_text.specs.Reading.Parts.{LinesRead, bodies_of, afters_of, bodies_answered}
use Rattle.suite_text.specs.Inside.Paths.{IsPath, IsSound}
use Rattle.suite_words.specs.Reading.Scripts.{ending}

bodies_same : (b i : ℕ) (xs : List Node) → bodies_of (given_after_at b i xs) ≡ bodies_of xs
bodies_same b i [] = refl
bodies_same b zero (x ∷ xs) = refl
bodies_same b (suc i) (x ∷ xs) = ap (λ l. option_to_list x.body ++ l) (bodies_same b i xs)

none_if : (o : Option ℕ) (c : Bool) → (is_none o && c) ≡ true → o ≡ None
none_if None c e = refl
none_if (Some x) c e = absurd (cc)

-- the after-bodies are those of before and the new one
one_more : (b i : ℕ) (xs : List Node) → may_get_after_or (slice_get xs i) ≡ true → IsPermutation (b ∷ afters_of xs) (afters_of (given_after_at b i xs))
one_more b i [] e = absurd (cc)
one_more b zero (x ∷ xs) e =
    subst (λ (o : Option ℕ). IsPermutation (b ∷ (option_to_list o ++ afters_of xs)) (b ∷ afters_of xs)) (sym (none_if x.after (takes_after x.kind x.role) e)) (IsPermutation-refl (b ∷ afters_of xs))
one_more b (suc i) (x ∷ xs) e =
    let o = option_to_list x.after in
    IsPermutation-trans (b ∷ (o ++ afters_of xs)) (o ++ b ∷ afters_of xs) (o ++ afters_of (given_after_at b i xs))
    (IsPermutation-sym (o ++ b ∷ afters_of xs) (b ∷ (o ++ afters_of xs)) (IsPermutation-middle o b (afters_of xs)))
    (IsPermutation-append_right o (b ∷ afters_of xs) (afters_of (given_after_at b i xs)) (one_more b i xs e))

module _ (t : Nodes) (b : ℕ) where
  bodies_kept : (m : ℕ) → bodies_of (with_after t m b).nodes ≡ bodies_of t.nodes
  bodies_kept zero = refl
  bodies_kept (suc i) = bodies_same b i t.nodes

  few_kept : (m limit : ℕ) → size t ≤ limit + 1 → size (with_after t m b) ≤ limit + 1
  few_kept zero limit h = h
  few_kept (suc i) limit h = h

  afters_next : (m : ℕ) (afters : List ℕ) → may_get_after_at t m ≡ true → IsPermutation (afters_of t.nodes) afters → IsPermutation (afters_of (with_after t m b).nodes) (afters ++ b ∷ [])
  afters_next zero afters may h = absurd (cc)
  afters_next (suc i) afters may h =
      let new = afters_of (given_after_at b i t.nodes) in
      IsPermutation-trans new (b ∷ afters_of t.nodes) (afters ++ b ∷ [])
      (IsPermutation-sym (b ∷ afters_of t.nodes) new (one_more b i t.nodes may))
      (IsPermutation-trans (b ∷ afters_of t.nodes) (b ∷ afters) (afters ++ b ∷ []) (IsPermutation-cons b (afters_of t.nodes) afters h)
      (IsPermutation-sym (afters ++ b ∷ []) (b ∷ afters) (IsPermutation-to_front afters b)))

  path_kept : (m a : ℕ) (path : List Opened) → IsPath t a path → IsPath (with_after t m b) a path
  path_kept zero a path h = h
  path_kept (suc i) a [] h = h
  path_kept (suc i) a (x ∷ rest) h = (record { above_zero = h.0.above_zero; inside = h.0.inside; parent = h.0.parent }, path_kept (suc i) x.node rest h.1)

-- what an id follows from
record Called : Type 0 where
  pub id : List Segment
  pub name : List ℕ
  pub role : Role

abbrev called : Node → Called
called node = record { id = node.id; name = node.name; role = node.role }

abbrev called_or : Option Node → Option Called
called_or None = None
called_or (Some node) = Some (called node)

record WasCalled (o : Option Node) (c : Called) : Type 0 where
  pub node : Node
  pub is : o ≡ Some node
  pub same : called node ≡ c

was_called : (o : Option Node) (c : Called) → called_or o ≡ Some c → WasCalled o c
was_called None c e = absurd (cc)
was_called (Some node) c e = record { node = node; is = refl; same = cc }

module _ (t : Nodes) (i b : ℕ) (ids : IdsFollow t) where
  abbrev given : Nodes
  given = with_after t (suc i) b

  abbrev value_called : ℕ → Called → List ℕ
  value_called m c = if is_spare c.role then value_of_dyn (place_among t m) else c.name

  still_named : (m : ℕ) (node : Node) → node_at given m ≡ Some node → IsNamed given m node
  still_named m node e =
      let was = was_called (node_at t m) (called node) (sym (told_as_before called_or t (suc i) b (λ x. refl) m) ∙ ap called_or e) in
      let named = ids m was.node was.is in
      record {
        kind = named.kind;
        id = sym (ap (λ (c : Called). c.id) was.same) ∙ named.id
            ∙ ap (λ l. l ++ record { kind = named.kind; value = value_at t m was.node } ∷ []) (sym (told_as_before id_or_none t (suc i) b (λ x. refl) (parent_of t m)))
            ∙ ap (λ v. id_at given (parent_of t m) ++ record { kind = named.kind; value = v } ∷ []) (ap (value_called m) was.same);
      }

ids_kept : (t : Nodes) (n b : ℕ) → IdsFollow t → IdsFollow (with_after t n b)
ids_kept t zero b ids = ids
ids_kept t (suc i) b ids = still_named t i b ids

pub after_sound : (read : LinesRead) (n : ℕ) (status : Status) (text : List ℕ) → IsSound read → after_refusal read.tree n (after_body n) ≡ None → IsSound (with_after_body read n (status, text))
after_sound read n status text sound taken =
    let b = after_body n in
    record {
      few = few_kept read.tree b n read.limit sound.few;
      has_path = path_kept read.tree b n 0 read.path sound.has_path;
      answered = sound.answered ∙ sym (bodies_kept read.tree b n);
      afters = subst (λ (l : List ℕ). IsPermutation (afters_of (with_after read.tree n b).nodes) l) (sym (map-append (λ (s : Script). s.body) read.afters (ending b 0 None 0 status text ∷ [])))
          (afters_next read.tree b n (bodies_answered read.afters) (taken_after read.tree n b taken).1 sound.afters);
      ids = ids_kept read.tree n b sound.ids;
    }

-- what has been made then, part by part
pub after_is : (read old made : LinesRead) (n : ℕ) (status : Status) (text : List ℕ) → old ≡ read → made.limit ≡ old.limit → made.tree ≡ with_after old.tree n (after_body n) → made.path ≡ old.path → made.scripts ≡ old.scripts
    → made.afters ≡ old.afters ++ ending (after_body n) 0 None 0 status text ∷ [] → made.properties ≡ old.properties → made ≡ with_after_body read n (status, text)
after_is read old made n status text same limit tree path scripts afters properties =
    let there : made ≡ with_after_body old n (status, text) = λ i. record { limit = limit i; tree = tree i; path = path i; scripts = scripts i; afters = afters i; properties = properties i } in
    there ∙ ap (λ (r : LinesRead). with_after_body r n (status, text)) same
