-- Each of them is what is found for its option.
use Rattle.command_words.proofs.found.given_in.Goals as goal

pub returns : goal.returns
returns c = λ i. record {
  selectors = c.in_ok-selectors_found.ensures i;
  names = c.in_ok-names_found.ensures i;
  exclusions = c.in_ok-exclusions_found.ensures i;
  rerun = c.in_ok-rerun_found.ensures i;
  include_tags = c.in_ok-all_found.ensures i;
  exclude_tags = c.in_ok-all_found-2.ensures i;
  config = c.in_ok-all_found-3.ensures i;
  system = c.in_ok-all_found-4.ensures i;
  reports = c.in_ok-all_found-5.ensures i;
  suite = c.found.ensures i;
  processors = c.found-2.ensures i;
  workers = c.found-3.ensures i;
  ring = c.found-4.ensures i;
  shard = c.found-5.ensures i;
  seed = c.found-6.ensures i;
  details = c.found-7.ensures i;
  quiet = c.is_found.ensures i;
  theme = c.found-8.ensures i;
  replay = c.found-9.ensures i;
  fail_if_passed_over = c.is_found-2.ensures i;
  drive = c.found-10.ensures i;
  fail_if_no_tests = c.is_found-3.ensures i;
  fail_fast = c.is_found-4.ensures i;
  max_fail = c.found-11.ensures i;
  most_nodes = c.found-12.ensures i;
  schedule = c.is_found-5.ensures i;
  times = c.is_found-6.ensures i;
}
