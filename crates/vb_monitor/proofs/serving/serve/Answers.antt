use Rattle.vb_monitor.proofs.serving.serve.Goals as goal

pub returns : goal.returns
returns g c =
    let done = c.serve_all.ensures in
    let room = c.args.room.now in
    record {
      log = done.log;
      steps = done.steps;
      is = c.begin.ensures.step c.serve_all.new.device c.serve_all.result room done.log done.is;
    }
