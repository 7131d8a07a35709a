-- The clauses are the theorem.
use Rattle.saved_runs.proofs.ReadBack.{feed_back, json_back}
use Rattle.saved_runs.proofs.reading_back.read_back.Goals as goal

pub returns-clause-feed : goal.returns-clause-feed
returns-clause-feed c = λ p replies workers h texts uids flat legal. feed_back p replies workers h texts uids flat legal

pub returns-clause-json : goal.returns-clause-json
returns-clause-json c = λ p replies workers h texts took times uids legal. json_back p replies workers h texts took times uids legal
