use Rattle.vb_driver.proofs.Figures.{figures_written}
use Rattle.vb_driver.proofs.statistics.write_figures.Goals as goal

pub returns-clause-free : goal.returns-clause-free
returns-clause-free g c =
    (figures_written c.write.result c.buffer_of.ensures c.ranges.free.fits c.ranges.total.fits
    c.requires.covers c.requires.backed c.write.ensures.answers c.write.ensures.bytes).free_is

pub returns-clause-total : goal.returns-clause-total
returns-clause-total g c =
    (figures_written c.write.result c.buffer_of.ensures c.ranges.free.fits c.ranges.total.fits
    c.requires.covers c.requires.backed c.write.ensures.answers c.write.ensures.bytes).total_is
