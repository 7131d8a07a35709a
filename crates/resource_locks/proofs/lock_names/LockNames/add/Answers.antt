-- A lock that is there changes nothing, another comes last.
use Rattle.std.proofs.Common.{◌≡◌, ◌∙◌, ◌∷◌, ◌++◌, [], sym, subst, OnOk}
use Rattle.std.specs.List.{list_any}
use Rattle.std.specs.Str.{bytes_eq}
use Rattle.std.proofs.lemmas.Bool.{cond-true, cond-false}
use Rattle.resource_locks.proofs.lock_names.LockNames.add.Goals as goal

pub returns-then-has : goal.returns-then-has
returns-then-has c = sym (cond-true (list_any (bytes_eq c.args.name.now) c.args.self.now) c.args.self.now (c.args.self.now ++ c.args.name.now ∷ []) (sym c.has.ensures ∙ c.if-has.true))

pub returns : goal.returns
returns c =
    subst (λ l. OnOk c.append.result (c.append.new.self ≡ l))
    (sym (cond-false (list_any (bytes_eq c.args.name.now) c.args.self.now) c.args.self.now (c.args.self.now ++ c.args.name.now ∷ []) (sym c.has.ensures ∙ c.if-has.false))) c.append.ensures
