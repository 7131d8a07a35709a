-- What parameters answer after one more pair.
use Rattle.std.proofs.Common.{◌≡◌, ◌≢◌, ℕ, List, Option, None, Some, refl, ap, ◌∙◌, Result, Ok, Err}
use Rattle.std.specs.Prelude.{OnOk}
use Rattle.std.specs.Option.{option_or}
use Rattle.config_params.specs.declared.source.Source.{Source}
use Rattle.config_params.specs.declared.source.Source.TheVariants.{Request, System, File}
use Rattle.config_params.specs.Parameters.{Parameters, with_value, answer, answer_before, answer_over}
use Rattle.config_params.specs.Tables.{value_in}
use Rattle.config_params.proofs.Tables.{has_new, has_other}

or_some : {T : Type 0} (a : Option T) (v : T) (o : Option T) → option_or (option_or a (Some v)) o ≡ option_or a (Some v)
or_some None v o = refl
or_some (Some x) v o = refl

seen_after : (params : Parameters) (source : Source) (key value : List ℕ) → answer (with_value params source (key, value)) key ≡ option_or (answer_before params source key) (Some value)
seen_after params Request key value = ap (λ o. option_or (option_or o (value_in params.system key)) (value_in params.file key)) (has_new params.request key value)
seen_after params System key value =
    ap (λ o. option_or (option_or (value_in params.request key) o) (value_in params.file key)) (has_new params.system key value) ∙ or_some (value_in params.request key) value (value_in params.file key)
seen_after params File key value = ap (option_or (answer_before params File key)) (has_new params.file key value)

others_after : (params : Parameters) (source : Source) (key value other : List ℕ) → other ≢ key → answer (with_value params source (key, value)) other ≡ answer params other
others_after params Request key value other h = ap (λ o. option_or (option_or o (value_in params.system other)) (value_in params.file other)) (has_other params.request key value other h)
others_after params System key value other h = ap (λ o. option_or (option_or (value_in params.request other) o) (value_in params.file other)) (has_other params.system key value other h)
others_after params File key value other h = ap (option_or (answer_before params File other)) (has_other params.file key value other h)

-- what is answered after a call that may have run out of memory
module _ {X E : Type 0} (old new : Parameters) (source : Source) (key value : List ℕ) where
  pub seen_if_ok : (r : Result X E) → OnOk r (new ≡ with_value old source (key, value)) → OnOk r (answer new key ≡ option_or (answer_before old source key) (Some value))
  seen_if_ok (Ok x) is = ap (λ p. answer p key) is ∙ seen_after old source key value
  seen_if_ok (Err e) is = tt

  pub others_if_ok : (r : Result X E) → OnOk r (new ≡ with_value old source (key, value)) → OnOk r ((other : List ℕ) → other ≢ key → answer new other ≡ answer old other)
  others_if_ok (Ok x) is = λ other h. ap (λ p. answer p other) is ∙ others_after old source key value other h
  others_if_ok (Err e) is = tt

or_itself : {T : Type 0} (o : Option T) → option_or o o ≡ o
or_itself None = refl
or_itself (Some x) = refl

-- parameters that stand over themselves answer what they answer
pub over_itself : (params : Parameters) (key : List ℕ) → answer_over params params key ≡ answer params key
unfolding answer_over
over_itself params key = or_itself (answer params key)

-- those above have the key, or those below are asked
pub over_some : (over under : Parameters) (key : List ℕ) (value : List ℕ) → Some value ≡ answer over key → Some value ≡ answer_over over under key
unfolding answer_over
over_some over under key value is = ap (λ o. option_or o (answer under key)) is

pub over_none : (over under : Parameters) (key : List ℕ) (value : Option (List ℕ)) → None ≡ answer over key → value ≡ answer under key → value ≡ answer_over over under key
unfolding answer_over
over_none over under key value none is = is ∙ ap (λ o. option_or o (answer under key)) none
