-- What was asked for is told, or the refusal is said.
use Rattle.std.proofs.Common.{Option, inl, inr, map, refl, string_bytes, subst}
use Rattle.std.specs.Prelude.{option_map}
use Rattle.command_words.specs.declared.info.Info.{Info}
use Rattle.command_line.specs.Infos.{AsksAfter}
use Rattle.command_line.proofs.closing.close_unread.Goals as goal

pub returns-in-Ok-Some : goal.returns-in-Ok-Some
returns-in-Ok-Some g c = inl (
  refl,
  record {
    request = c.in-Ok-Some.info.request;
    asks = subst (λ (info : Option Info). AsksAfter c.args.fault (map string_bytes c.args.words.now) (option_map (λ i. i.request) info)) c.in-Ok-Some.field-0-is c.in-Ok-Some.ensures;
    text = string_bytes c.in-Ok-Some.info.text;
    tells = c.tell_info.ensures;
  },
)

pub returns-in-Ok-None : goal.returns-in-Ok-None
returns-in-Ok-None g c = inr (inl (record {
  unasked = subst (λ (info : Option Info). AsksAfter c.args.fault (map string_bytes c.args.words.now) (option_map (λ i. i.request) info)) c.in-Ok-None.field-0-is c.in-Ok-None.ensures;
  closes = c.close_run.ensures.closed;
}))
