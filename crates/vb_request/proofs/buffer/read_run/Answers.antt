use Rattle.std.specs.Prelude.{length}
use Rattle.vb_ram.proofs.Outcome.{at_ok}
use Rattle.vb_request.proofs.Bytes.{run_is}
use Rattle.vb_request.proofs.buffer.read_run.Goals as goal

pub returns : goal.returns
returns g c = run_is (g.G.GuestBytes.mem c.args.ram.now) c.args.addr (length c.args.run.now)
    c.read.new.out c.read.auto.out c.requires.inside (at_ok c.read.result _ c.read.ensures.bytes
    (c.read.ensures.answers (record { page = c.requires.page; bytes = c.requires.inside })))
