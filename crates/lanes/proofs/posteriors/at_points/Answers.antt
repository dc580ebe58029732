-- `lanes::posteriors::at_points` meets its contract. Assumes nothing.
use Rattle.lanes.proofs.posteriors.at_points.Goals as goal

pub returns : goal.returns
returns c = rw (c.dot-products.ensures, c.dot_each-means.ensures, c.solve-v.ensures, c.kernel_rows-k.ensures)
