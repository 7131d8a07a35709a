-- All of it was written, or a part; and the flush writes nothing.
use Rattle.live.proofs.Written.{sent_part, sent_whole}
use Rattle.live.proofs.handing.hand_on.Goals as goal

pub returns-in-Ok : goal.returns-in-Ok
returns-in-Ok g c = sent_whole _ _ _ c.args.text.now c.as_bytes.result.now c.is_ok.result c.as_bytes.ensures.value c.in-Ok.ensures c.flush.ensures.bytes

pub returns-in-Err : goal.returns-in-Err
returns-in-Err g c = sent_part _ _ c.args.text.now c.as_bytes.result.now c.in-Err.field-0 c.as_bytes.ensures.value c.in-Err.ensures.1
