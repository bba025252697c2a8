-- `fill_transposed` meets its contract, by the width of the numbers; no search is asked.
use Rattle.model.proofs.ivector_tables.fill_transposed.Goals as goal

pub returns-in-Single : goal.returns-in-Single
returns-in-Single c = c.fill_columns.ensures

pub returns-in-Double : goal.returns-in-Double
returns-in-Double c = c.fill_columns-in-Double.ensures
