-- What is asked for is launched, and then what is said of the answer stands behind what was told meanwhile.
use Rattle.std.proofs.Common.{string_bytes}
use Rattle.std.specs.Prelude.{option_map}
use Rattle.command_line.proofs.own_tests.run_launch.Goals as goal

pub returns : goal.returns
returns g c =
    let run = c.launch_told-answer in
    record {
      answer = run.result.answer;
      ran = run.result.ran;
      between = run.new.writer;
      slowest = option_map string_bytes run.new.slowest;
      during = run.new.errors;
      launch = run.ensures.launched;
      tells = run.ensures.tells;
      closed = c.close_with_failures-ending.ensures;
    }
