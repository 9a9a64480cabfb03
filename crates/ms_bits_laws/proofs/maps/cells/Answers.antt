use Rattle.ms_bits_laws.proofs.CellLemmas.{touched_cells, cells_inside, cells_outside, cell_inside, cell_outside}
use Rattle.ms_bits_laws.proofs.maps.cells.Goals as goal

pub returns-clause-touched : goal.returns-clause-touched
returns-clause-touched c = λ a n cell. touched_cells a n cell

pub returns-clause-inside : goal.returns-clause-inside
returns-clause-inside c = λ cells a n origin k l. cells_inside cells a n origin k l

pub returns-clause-outside : goal.returns-clause-outside
returns-clause-outside c = λ cells a n origin cell h. cells_outside cells a n origin cell h

pub returns-clause-one_inside : goal.returns-clause-one_inside
returns-clause-one_inside c = λ cells a origin. cell_inside cells a origin

pub returns-clause-one_outside : goal.returns-clause-one_outside
returns-clause-one_outside c = λ cells a origin cell h. cell_outside cells a origin cell h
