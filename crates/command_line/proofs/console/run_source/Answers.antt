-- What is asked for is launched, and then what is said of the answer stands behind what was told meanwhile.
use Rattle.std.proofs.Common.{string_bytes}
use Rattle.std.specs.Prelude.{option_map}
use Rattle.command_line.specs.Sources.{source_remaining}
use Rattle.command_line.proofs.console.run_source.Goals as goal

pub returns : goal.returns
returns g c =
    let run = c.launch_told-answer in
    record {
      left = source_remaining (g.R.Read.remaining) run.new.reader.source;
      waiting = c.say_waiting.new.errors;
      waits = c.say_waiting.ensures;
      run = record {
        answer = run.result.answer;
        ran = run.result.ran;
        between = run.new.writer;
        slowest = option_map string_bytes run.new.slowest;
        during = run.new.errors;
        launch = run.ensures.launched;
        tells = run.ensures.tells;
        closed = c.close_with_failures-ending.ensures;
      };
    }
