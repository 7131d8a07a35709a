-- One line was written, or nothing.
use Rattle.std.proofs.Common.{◌∙◌, ◌∷◌, [], inl, refl}
use Rattle.live.proofs.SlowWriting.{line_written, untouched}
use Rattle.live.proofs.slow_lines.SlowLines.name_next.Goals as goal

pub returns-then-self : goal.returns-then-self
returns-then-self g c = record { said = []; written = untouched g.E.Write.contents c.args.self.now c.args.self.now refl refl; taken = inl refl }

pub returns-then-is_empty : goal.returns-then-is_empty
returns-then-is_empty g c = record { said = []; written = untouched g.E.Write.contents c.args.self.now c.args.self.now refl refl; taken = inl refl }

pub returns-in-Some : goal.returns-in-Some
returns-in-Some g c =
    let named = c.in-Some.ensures.some in
    record {
      said = named.0 ∷ [];
      written = line_written g.E.Write.contents c.args.self.now _ c.hand_on.result named.0 c.as_str.result.now refl c.if-self.false refl (c.as_str.ensures.value ∙ named.2) c.hand_on.ensures;
      taken = named.1;
    }

pub returns-in_default : goal.returns-in_default
returns-in_default g c = record { said = []; written = untouched g.E.Write.contents c.args.self.now _ refl refl; taken = c.in_default.ensures.none refl }
