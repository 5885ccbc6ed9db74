-- `decibel::fine_log` meets its contract.
use Rattle.decibel.proofs.FineTable.{fine_log_accurate}
use Rattle.decibel.proofs.fine_log.Goals as goal

pub returns-clause-accurate : goal.returns-clause-accurate
returns-clause-accurate c = fine_log_accurate _ c.scaled-s.ensures c.fine_large.ensures c.saturating_sub.ensures
