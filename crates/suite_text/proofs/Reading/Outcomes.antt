-- What holds after each line holds after one more node.
use Rattle.std.proofs.Common.{◌≡◌, ◌≤◌, ◌+◌, Bool, true, false, cond, ltb, arith, length-append, length, ℕ, List, [], ◌∷◌, ◌++◌, option_map, Option, Some, None, option_to_list, refl, ap, sym, subst, ◌∙◌, append-nil}
use Rattle.std.proofs.lemmas.Bool.{ltb-false}
use Rattle.std.proofs.lemmas.List.{map-append}
use Rattle.std.proofs.lemmas.Grind.{flat_map-append}
use Rattle.config_params.specs.Parameters.{Parameters}
use Rattle.descriptor.specs.declared.fault.TreeFault.{TreeFault}
use Rattle.descriptor.specs.declared.fault.TreeFault.TheVariants.{TooMany, OverLimit}
use Rattle.descriptor.specs.declared.node.Node.{Node}
use Rattle.plan_events.specs.declared.status.Status.{Status}
use Rattle.suite_words.specs.declared.suite.pulls.Pending.{Pending}
use Rattle.std.specs.List.Sorted.{IsPermutation}
use Rattle.descriptor.specs.Nodes.{size, IsTree}
use Rattle.suite_words.specs.Reading.Attributes.{spin_said, pulls_said}
use Rattle.suite_words.specs.Reading.Nodes.{body_declared, counts_lines, script_declared, segment_kind}
use Rattle.suite_text.specs.Reading.Nodes.{parent_on, word_on, node_on, is_over_limit_on, refusal_on, grown}
use Rattle.suite_text.specs.Reading.Parts.{LinesRead, bodies_of, afters_of, bodies_answered}
use Rattle.suite_text.specs.Inside.Paths.{IsSound, bodies_pending}
use Rattle.suite_words.specs.Reading.Scripts.{ending}
use Rattle.suite_text.specs.Suites.{with_properties}
use Rattle.suite_words.specs.Reading.Verdicts.{status_declared}
use Rattle.suite_words.specs.Reading.Words.{Declaration}
use Rattle.suite_text.proofs.Reading.Paths.{path_next, parent_inside}
use Rattle.suite_text.proofs.Reading.Ids.{ids_next}

-- a node and its script
abbrev pending : Declaration → ℕ → Status → Pending
pending d n status = record { script = ending n (spin_said d.attributes) d.attributes.slow (pulls_said d.attributes) status d.text; counts = counts_lines d }

one_status : (d : Declaration) (status : Option Status) (n : ℕ) → bodies_pending (option_to_list (option_map (pending d n) status)) ≡ option_to_list (option_map (λ (s : Status). n) status)
one_status d None n = refl
one_status d (Some s) n = refl

one : (d : Declaration) (n : ℕ) → bodies_pending (option_to_list (script_declared d n)) ≡ option_to_list (body_declared d.verdict n)
one d n = one_status d (status_declared d.verdict) n

one_body : (node : Node) → bodies_of (node ∷ []) ≡ option_to_list node.body
one_body node = append-nil (option_to_list node.body)

answers_next : (nodes : List Node) (scripts : List Pending) (node : Node) (d : Declaration) (n : ℕ) → bodies_pending scripts ≡ bodies_of nodes → node.body ≡ body_declared d.verdict n
    → bodies_pending (scripts ++ option_to_list (script_declared d n)) ≡ bodies_of (nodes ++ node ∷ [])
answers_next nodes scripts node d n same body =
    map-append (λ (p : Pending). p.script.body) scripts (option_to_list (script_declared d n))
    ∙ ap (λ l. l ++ bodies_pending (option_to_list (script_declared d n))) same
    ∙ ap (λ l. bodies_of nodes ++ l) (one d n ∙ ap option_to_list (sym body) ∙ sym (one_body node))
    ∙ sym (flat_map-append (λ (x : Node). option_to_list x.body) nodes (node ∷ []))

-- properties are no part of it
pub properties_sound : (read : LinesRead) (properties : Parameters) → IsSound read → IsSound (with_properties read properties)
properties_sound read properties sound = record { few = sound.few; has_path = sound.has_path; answered = sound.answered; afters = sound.afters; ids = sound.ids }

-- a node without an after-body adds none
afters_same : (nodes : List Node) (node : Node) → node.after ≡ None → afters_of nodes ≡ afters_of (nodes ++ node ∷ [])
afters_same nodes node none =
    sym (flat_map-append (λ (x : Node). option_to_list x.after) nodes (node ∷ []) ∙ ap (λ o. afters_of nodes ++ (option_to_list o ++ [])) none ∙ append-nil (afters_of nodes))

-- a test that refuses nothing, and what comes behind it
passed_by : (b : Bool) (fault : TreeFault) (rest : Option TreeFault) → cond b (Some fault) rest ≡ None → (b ≡ false) × (rest ≡ None)
passed_by true fault rest e = absurd (cc)
passed_by false fault rest e = (refl, e)

-- a node that is not refused is one of no more than there may be
few_next : (read : LinesRead) (level : ℕ) (d : Declaration) → refusal_on read level d ≡ None → size (grown read level d).tree ≤ read.limit + 1
few_next read level d taken =
    let below = passed_by (is_over_limit_on read level d) OverLimit _ taken in
    let few = passed_by (ltb read.limit (size read.tree)) TooMany _ below.1 in
    let one = length-append read.tree.parents (parent_on read level ∷ []) in
    omega (arith, one, ltb-false read.limit (size read.tree) few.0)

pub grown_sound : (read : LinesRead) (level : ℕ) (d : Declaration) → IsSound read → IsTree read.tree → level ≤ length read.path → refusal_on read level d ≡ None → IsSound (grown read level d)
grown_sound read level d sound tree fits taken = record {
  few = few_next read level d taken;
  has_path = path_next read.tree read.path level (node_on read level d) (record { node = size read.tree; word = d.word }) sound.has_path fits refl;
  answered = answers_next read.tree.nodes read.scripts (node_on read level d) d (size read.tree) sound.answered refl;
  afters = subst (λ (l : List ℕ). IsPermutation l (bodies_answered read.afters)) (afters_same read.tree.nodes (node_on read level d) refl) sound.afters;
  ids = ids_next read.tree (parent_on read level) (node_on read level d) tree (segment_kind (word_on read level) d.word) sound.ids (parent_inside read.tree read.path level sound.has_path fits) refl;
}
