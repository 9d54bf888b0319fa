use Rattle.phase_table.proofs.Steps.{fits_means, none_where_no_row_fits, numbers_differ}
use Rattle.phase_table.proofs.laws.rows_are_told_apart.Goals as goal

pub returns-clause-fits : goal.returns-clause-fits
returns-clause-fits c = fits_means

pub returns-clause-none : goal.returns-clause-none
returns-clause-none c = none_where_no_row_fits

pub returns-clause-numbers : goal.returns-clause-numbers
returns-clause-numbers c = numbers_differ
