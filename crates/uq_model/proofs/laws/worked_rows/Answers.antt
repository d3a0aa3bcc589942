use Rattle.uq_model.proofs.laws.worked_rows.Goals as goal
use Rattle.uq_model.proofs.Rows.{name_rows, record_rows, batch_rows, full_rows}

pub returns-clause-names : goal.returns-clause-names
returns-clause-names c = name_rows

pub returns-clause-records : goal.returns-clause-records
returns-clause-records c = record_rows

pub returns-clause-batches : goal.returns-clause-batches
returns-clause-batches c = batch_rows

pub returns-clause-full : goal.returns-clause-full
returns-clause-full c = full_rows
