-- The settings of a run, and the limits of locks, are a function of what the keys that are read have for values.
use Rattle.std.proofs.Common.{◌≡◌, ◌∙◌, ℕ, Bool, true, false, List, None, cond, map, ap, refl, sym}
use Rattle.std.specs.Prelude.{is_some}
use Rattle.std.specs.Str.{bytes_eq}
use Rattle.config_params.specs.LockKeys.{holders_key}
use Rattle.config_params.specs.LockLimits.{holders_of, limit_said, limited_as_said}
use Rattle.config_params.specs.Settings.{Answers, settings_of}
use Rattle.config_params.proofs.LockKeys.{limited_of}
use Rattle.messages.specs.Hints.{is_read, ReadsNoOther}
use Rattle.resource_locks.specs.Declarations.{global}
use Rattle.resource_locks.specs.Limits.{limited_by}
use Rattle.resource_locks.specs.Plans.{PlanParts}

-- what the keys that are read have for values, and nothing for others
abbrev only_read : Answers → Answers
only_read answers key = cond (is_read key) (answers key) None

read_alone : (answers : Answers) (processors : ℕ) → settings_of answers processors ≡ settings_of (only_read answers) processors
read_alone answers processors = refl

-- the key of a lock is read
holders_read : (lock : List ℕ) → is_read (holders_key lock) ≡ true
holders_read lock = ap is_some (limited_of lock)

module _ (answers others : Answers) (same : (key : List ℕ) → is_read key ≡ true → answers key ≡ others key) where
  same_at : (key : List ℕ) (b : Bool) → is_read key ≡ b → cond b (answers key) None ≡ cond b (others key) None
  same_at key true is = same key is
  same_at key false is = refl

  same_read : Path Answers (only_read answers) (only_read others)
  same_read = λ i. λ key. same_at key (is_read key) refl i

  same_limit : (lock : List ℕ) → limit_said answers lock ≡ limit_said others lock
  same_limit lock = ap (λ value. cond (bytes_eq global lock) 0 (holders_of value)) (same (holders_key lock) (holders_read lock))

  same_settings : (processors : ℕ) → settings_of answers processors ≡ settings_of others processors
  same_settings processors = read_alone answers processors ∙ ap (λ all. settings_of all processors) same_read ∙ sym (read_alone others processors)

  same_plan : (p : PlanParts) → limited_as_said answers p ≡ limited_as_said others p
  same_plan p = λ i. limited_by p (map (λ lock. same_limit lock i) p.keys)

pub reads_no_other : ReadsNoOther
reads_no_other answers others processors same = (same_settings answers others same processors, same_plan answers others same)
