-- The reading and the format agree.
use Rattle.unique_id.proofs.Parsed.{parsed, parses, spelling_parses, placed}
use Rattle.unique_id.proofs.unique_id.UniqueId.parse.Goals as goal

pub returns : goal.returns
returns c = record {
  exact = c.id_of.ensures.exact;
  no_memory = c.id_of.ensures.no_memory;
  placed = placed c.id_of.result c.args.text.now c.id_of.ensures.exact;
  parsed = parsed c.id_of.result c.args.text.now c.id_of.ensures.exact;
  parses = λ segments. parses c.id_of.result c.args.text.now segments c.id_of.ensures.exact;
  reads_back = λ segments. spelling_parses c.id_of.result c.args.text.now segments c.id_of.ensures.exact;
}
