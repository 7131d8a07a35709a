-- What is run for a node, as the code says it.
use Rattle.event_history.specs.Results.{Jobs, NoJob, Alone, Pulled, Around}
use Rattle.scheduling.specs.declared.jobs.NodeJobs.{NodeJobs}
use Rattle.scheduling.specs.declared.jobs.NodeJobs.TheVariants as code

abbrev pub as_jobs : NodeJobs → Jobs
as_jobs code.Nothing = NoJob
as_jobs (code.Alone body) = Alone body
as_jobs (code.Pulled body spares) = Pulled body spares
as_jobs (code.Around body after) = Around body after
