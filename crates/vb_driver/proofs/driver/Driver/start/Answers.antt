use Rattle.{std.proofs.Common.arith, vb_driver.proofs.Starting.{new_ring, still_new, others_fresh}}
use Rattle.vb_driver.proofs.driver.Driver.start.Goals as goal

pub returns-clause-inflate : goal.returns-clause-inflate
returns-clause-inflate g c =
    let others = others_fresh c.args.self.now c.requires.new c.fill_first.ensures.state in
    still_new 0 others.inflate c.fill_first.ensures.driver.size
    (omega arith) c.fill_first.ensures.rest c.write_status.ensures.mem c.requires.zeros

pub returns-clause-deflate : goal.returns-clause-deflate
returns-clause-deflate g c =
    let others = others_fresh c.args.self.now c.requires.new c.fill_first.ensures.state in
    still_new 1 others.deflate c.fill_first.ensures.driver.size
    (omega arith) c.fill_first.ensures.rest c.write_status.ensures.mem c.requires.zeros

pub returns-clause-report : goal.returns-clause-report
returns-clause-report g c =
    let others = others_fresh c.args.self.now c.requires.new c.fill_first.ensures.state in
    still_new 4 others.report c.fill_first.ensures.driver.size
    (omega arith) c.fill_first.ensures.rest c.write_status.ensures.mem c.requires.zeros

pub returns-clause-statistics : goal.returns-clause-statistics
returns-clause-statistics g c = new_ring 2 c.fill_first.ensures.driver.size c.requires.zeros
