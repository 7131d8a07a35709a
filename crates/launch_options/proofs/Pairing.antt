-- Reading the pairs of arguments one after the other.
use Rattle.std.proofs.Common.{◌≡◌, ◌≢◌, ℕ, ◌+◌, ◌<◌, List, [], ◌∷◌, ◌++◌, length, take, drop, fold, get_or, Bor, OnOk, Option, Result, Ok, Err, refl, sym, ap, ◌∙◌, arith}
use Rattle.std.proofs.lemmas.Bool.{ne_eqb}
use Rattle.std.proofs.lemmas.List.{drop_more, map-append}
use Rattle.std.proofs.lemmas.List.Sums.{fold-append}
use Rattle.config_params.specs.Pairs.{Pair, key_of, value_of, pair_of}
use Rattle.config_params.specs.Parameters.{Parameters, nothing_said, with_table, with_value}
use Rattle.config_params.specs.Tables.{with_pair, table_of}
use Rattle.config_params.specs.declared.fault.ParamsFault.{ParamsFault}
use Rattle.config_params.specs.declared.source.Source.{Source}
use Rattle.config_params.specs.declared.source.Source.TheVariants.{Request, System}
use Rattle.launch_options.specs.declared.fault.LaunchFault.{LaunchFault}
use Rattle.launch_options.specs.Given.{Text, behind}
use Rattle.launch_options.specs.Parameters.{pairs_in, unless_pair, pairs_refusal, without_plus}
use Rattle.launch_options.proofs.Requesting.{behind_take}

-- with the pairs of arguments, in this order
abbrev pub with_all : Parameters → Source → List Pair → Parameters
with_all params source pairs = fold (λ all pair. with_value all source pair) params pairs

module _ (texts : List (Bor Text)) (i : ℕ) (d : Bor Text) (inside : i < length texts) where
  -- an argument that says a pair leaves the refusal to the others
  pub pairs_next : (whole : Option LaunchFault) (before number : ℕ) (pair : Pair) → pairs_refusal (before + i + 1) (behind (drop i texts)) ≡ whole → number ≡ before + i + 1 → Ok pair ≡ pair_of number (get_or texts i d).now
      → pairs_refusal (before + (i + 1) + 1) (behind (drop (i + 1) texts)) ≡ whole
  pairs_next whole before number pair left counted is =
      let one : before + (i + 1) + 1 ≡ before + i + 1 + 1 = omega arith in
      ap (λ n. pairs_refusal n (behind (drop (i + 1) texts))) one
      ∙ ap (λ (r : Result Pair ParamsFault). unless_pair r (pairs_refusal (before + i + 1 + 1) (behind (drop (i + 1) texts)))) (is ∙ ap (λ n. pair_of n (get_or texts i d).now) counted)
      ∙ ap (λ ts. pairs_refusal (before + i + 1) (behind ts)) (sym (drop_more texts i d inside)) ∙ left

  -- the pairs of one argument more
  pub pairs_put : (first now next : Parameters) (source : Source) → now ≡ with_all first source (pairs_in (behind (take i texts))) → next ≡ with_value now source (key_of (get_or texts i d).now, value_of (get_or texts i d).now)
      → next ≡ with_all first source (pairs_in (behind (take (i + 1) texts)))
  pairs_put first now next source so_far is =
      is ∙ ap (λ (p : Parameters). with_value p source (key_of (get_or texts i d).now, value_of (get_or texts i d).now)) so_far
      ∙ sym (fold-append (λ all pair. with_value all source pair) first (pairs_in (behind (take i texts))) (pairs_in ((get_or texts i d).now ∷ [])))
      ∙ ap (λ (pairs : List Pair). with_all first source pairs) (sym (ap pairs_in (behind_take texts i d inside) ∙ map-append (λ word. (key_of word, value_of word)) (behind (take i texts)) ((get_or texts i d).now ∷ [])))

-- the pairs of one source make its table
pub with_request : (params : Parameters) (pairs : List Pair) → with_all params Request pairs ≡ with_table params Request (fold with_pair params.request pairs)
with_request params [] = refl
with_request params (pair ∷ more) = with_request (with_value params Request pair) more

pub with_system : (params : Parameters) (pairs : List Pair) → with_all params System pairs ≡ with_table params System (fold with_pair params.system pairs)
with_system params [] = refl
with_system params (pair ∷ more) = with_system (with_value params System pair) more

-- the pairs of more arguments of the request, behind those of others
pub more_added : {T E : Type 0} (result : Result T E) (none one two : Parameters) (texts texts_said words : List Text) → texts ≡ texts_said → one ≡ with_all none Request (pairs_in texts)
    → OnOk result (two ≡ with_all one Request (pairs_in words)) → OnOk result (two ≡ with_all none Request (pairs_in (texts_said ++ words)))
more_added (Ok done) none one two texts texts_said words same is_one is_two =
    is_two ∙ ap (λ p. with_all p Request (pairs_in words)) is_one
    ∙ sym (fold-append (λ all pair. with_value all Request pair) none (pairs_in texts) (pairs_in words))
    ∙ ap (λ (pairs : List Pair). with_all none Request pairs) (sym (map-append (λ word. (key_of word, value_of word)) texts words))
    ∙ ap (λ (all : List Text). with_all none Request (pairs_in (all ++ words))) same
more_added (Err error) none one two texts texts_said words same is_one is_two = tt

-- what the arguments of both options say
pub both_said : (none one two : Parameters) (config system : List Pair) → none ≡ nothing_said → one ≡ with_all none Request config → two ≡ with_all one System system
    → two ≡ record { request = table_of config; system = table_of system; file = [] }
both_said none one two config system is_none is_one is_two =
    let first : one ≡ with_table nothing_said Request (table_of config) = is_one ∙ ap (λ p. with_all p Request config) is_none ∙ with_request nothing_said config in
    is_two ∙ ap (λ p. with_all p System system) first ∙ with_system (with_table nothing_said Request (table_of config)) system

pub both_added : {T E : Type 0} (result : Result T E) (none one two : Parameters) (config config_said system system_said : List Pair) → config ≡ config_said → system ≡ system_said → none ≡ nothing_said → one ≡ with_all none Request config
    → OnOk result (two ≡ with_all one System system) → OnOk result (two ≡ record { request = table_of config_said; system = table_of system_said; file = [] })
both_added (Ok done) none one two config config_said system system_said same_config same_system is_none is_one is_two =
    both_said none one two config_said system_said is_none (is_one ∙ ap (with_all none Request) same_config) (is_two ∙ ap (with_all one System) same_system)
both_added (Err error) none one two config config_said system system_said same_config same_system is_none is_one is_two = tt

-- a text that does not begin with a plus
pub no_plus : (text : Text) → ((rest : Text) → text ≢ 43 ∷ rest) → text ≡ without_plus text
no_plus [] h = refl
no_plus (byte ∷ more) h = rw (ne_eqb byte 43 (λ same. h more (ap (λ b. b ∷ more) same))) refl
