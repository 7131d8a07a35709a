-- What a launch refuses where a run was not begun, and whose a fault is.
use Rattle.std.specs.Prelude.{Bool, true, false}
use Rattle.worker_pool.specs.declared.report.RunCause.{RunCause}
use Rattle.worker_pool.specs.declared.report.RunCause.TheVariants as runs
use Rattle.launch_options.specs.declared.fault.LaunchFault.{LaunchFault}
use Rattle.launch_options.specs.declared.fault.LaunchFault.TheVariants.{NoMemory, NoWorker, Writing}

-- a run that was not begun: that no thread could be started is told apart from want of memory
abbrev pub unrun_fault : RunCause → LaunchFault
unrun_fault (runs.Table fault) = NoMemory
unrun_fault runs.NoWorker = NoWorker

-- the fault is the writer's
abbrev pub is_writing : LaunchFault → Bool
is_writing (Writing fault) = true
is_writing _ = false
