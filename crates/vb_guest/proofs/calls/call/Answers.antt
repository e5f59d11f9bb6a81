use Rattle.std.proofs.Common.{◌≡◌, Bool, List, refl}
use Rattle.{vb_model.specs.declared.calls.Claim.Claim, vb_ram.specs.Pages.Pages}
use Rattle.vb_guest.{specs.Dispatch.LeavesAlone, proofs.Standing.each_quiet}
use Rattle.vb_guest.proofs.calls.call.Goals as goal

left_alone : {A : Type 0} {x : A} {keeps : Bool} {m1 m2 : Pages} {claims : List Claim}
    → LeavesAlone (x ≡ x) keeps m1 m2 claims
left_alone = record { unasked = λ e. refl; quiet = λ none kept. refl }

pub returns-in-Init : goal.returns-in-Init
returns-in-Init g c = record {
  step = λ keeps guest stands. rw (c.in-Init.is, c.ready_reply.ensures)
      (c.init.ensures.step keeps guest stands);
  exact = rw (c.in-Init.is) (c.init.result, c.ready_reply.ensures, c.init.ensures.exact);
  quiet = record { unasked = c.init.ensures.unasked; quiet = λ none kept. c.init.ensures.quiet none };
}

pub returns-in-Alloc : goal.returns-in-Alloc
returns-in-Alloc g c = record {
  step = each_quiet c.clear.ensures c.in-Alloc.is c.page_reply.ensures (c.alloc.ensures.step _ _);
  exact = rw
      (c.in-Alloc.is) (c.alloc.result, c.page_reply.ensures, c.alloc.ensures.exact, (refl, refl));
  quiet = left_alone;
}

pub returns-in-Free : goal.returns-in-Free
returns-in-Free g c = record {
  step = each_quiet c.clear.ensures c.in-Free.is c.done_reply.ensures (c.free.ensures.step _ _);
  exact = rw
      (c.in-Free.is) (c.free.result, c.done_reply.ensures, c.free.ensures.exact, (refl, refl));
  quiet = left_alone;
}

pub returns-in-Read : goal.returns-in-Read
returns-in-Read g c = record {
  step = each_quiet c.clear.ensures c.in-Read.is c.bytes_reply.ensures c.read.ensures.step;
  exact = rw (c.in-Read.is) (c.read.result, c.bytes_reply.ensures, c.read.ensures.exact, refl);
  quiet = left_alone;
}

pub returns-in-Write : goal.returns-in-Write
returns-in-Write g c = record {
  step = λ keeps guest stands. rw (c.in-Write.is, c.done_reply-in-Write.ensures)
      (c.write.ensures.step keeps guest stands);
  exact = rw (c.in-Write.is) (c.write.result, c.done_reply-in-Write.ensures, record { refused = c.write.ensures.refused; exact = c.write.ensures.exact }, refl);
  quiet = record { unasked = c.write.ensures.unasked; quiet = λ none kept. c.write.ensures.quiet none };
}

pub returns-in-Inflate : goal.returns-in-Inflate
returns-in-Inflate g c = record {
  step = each_quiet c.clear.ensures c.in-Inflate.is c.posted_reply.ensures c.inflate.ensures.step;
  exact = rw (c.in-Inflate.is) (c.inflate.result, c.posted_reply.ensures, c.inflate.ensures.exact);
  quiet = left_alone;
}

pub returns-in-Deflate : goal.returns-in-Deflate
returns-in-Deflate g c = record {
  step =
      each_quiet c.clear.ensures c.in-Deflate.is c.posted_reply-in-Deflate.ensures c.deflate.ensures.step;
  exact = rw (c.in-Deflate.is)
      (c.deflate.result, c.posted_reply-in-Deflate.ensures, c.deflate.ensures.exact);
  quiet = left_alone;
}

pub returns-in-Oom : goal.returns-in-Oom
returns-in-Oom g c = record {
  step = each_quiet c.clear.ensures c.in-Oom.is c.posted_reply-in-Oom.ensures c.oom.ensures.step;
  exact = rw (c.in-Oom.is) (c.oom.result, c.posted_reply-in-Oom.ensures, c.oom.ensures.exact);
  quiet = left_alone;
}

pub returns-in-Reap : goal.returns-in-Reap
returns-in-Reap g c = record {
  step = each_quiet c.clear.ensures c.in-Reap.is c.reaped_reply.ensures c.reap.ensures.step;
  exact = rw (c.in-Reap.is) (c.reap.result, c.reaped_reply.ensures, c.reap.ensures.exact);
  quiet = left_alone;
}

pub returns-in-Take : goal.returns-in-Take
returns-in-Take g c = record {
  step = each_quiet c.clear.ensures c.in-Take.is c.taken_reply.ensures (c.take.ensures.step _);
  exact = rw (c.in-Take.is) (c.take.result, c.taken_reply.ensures, c.take.ensures.exact, refl);
  quiet = left_alone;
}

pub returns-in-Work : goal.returns-in-Work
returns-in-Work g c = record {
  step = λ keeps guest stands. rw (c.clear.ensures, c.in-Work.is, c.worked_reply.ensures)
      (c.work.ensures.step _ keeps guest stands);
  exact = rw (c.in-Work.is) (c.work.result, c.worked_reply.ensures, c.work.ensures.exact, refl);
  quiet = record { unasked = c.work.ensures.unasked; quiet = λ none kept. c.work.ensures.quiet kept };
}

pub returns-in-Finish : goal.returns-in-Finish
returns-in-Finish g c = record {
  step = λ keeps guest stands. rw (c.clear.ensures, c.in-Finish.is, c.finished_reply.ensures)
      (c.finish.ensures.step _ keeps guest stands);
  exact = rw (c.in-Finish.is) (c.finish.result, c.finished_reply.ensures, c.finish.ensures.exact, refl);
  quiet = record { unasked = c.finish.ensures.unasked; quiet = λ none kept. c.finish.ensures.quiet kept };
}

pub returns-in-Serve : goal.returns-in-Serve
returns-in-Serve g c = record {
  step = λ keeps guest stands. rw (c.clear.ensures, c.in-Serve.is, c.served_reply.ensures)
      (c.serve.ensures.step _ keeps guest stands);
  exact = rw (c.in-Serve.is) (c.serve.result, c.served_reply.ensures, c.serve.ensures.exact, refl);
  quiet = record { unasked = c.serve.ensures.unasked; quiet = λ none kept. c.serve.ensures.quiet kept };
}

pub returns-in-Sweep : goal.returns-in-Sweep
returns-in-Sweep g c = record {
  step = λ keeps guest stands. rw (c.clear.ensures, c.in-Sweep.is, c.swept_reply.ensures)
      (c.sweep.ensures.step _ keeps guest stands);
  exact = rw (c.in-Sweep.is) (c.sweep.result, c.swept_reply.ensures, c.sweep.ensures.exact, refl);
  quiet = record { unasked = c.sweep.ensures.unasked; quiet = λ none kept. c.sweep.ensures.quiet kept };
}

pub returns-in-SetTarget : goal.returns-in-SetTarget
returns-in-SetTarget g c = record {
  step = each_quiet c.clear.ensures c.in-SetTarget.is refl (c.set_target.ensures.step _);
  exact = rw (c.in-SetTarget.is) (refl, c.set_target.ensures.mem, c.set_target.ensures.part, refl);
  quiet = left_alone;
}

pub returns-in-Reset : goal.returns-in-Reset
returns-in-Reset g c = record {
  step = each_quiet c.clear.ensures c.in-Reset.is refl c.reset.ensures.step;
  exact = rw (c.in-Reset.is) (refl, c.reset.ensures.exact);
  quiet = left_alone;
}

pub returns-in-Report : goal.returns-in-Report
returns-in-Report g c = record {
  step =
      each_quiet c.clear.ensures c.in-Report.is c.posted_reply-in-Report.ensures c.report.ensures.step;
  exact = rw
      (c.in-Report.is) (c.report.result, c.posted_reply-in-Report.ensures, c.report.ensures.exact);
  quiet = left_alone;
}

pub returns-in-Stats : goal.returns-in-Stats
returns-in-Stats g c = record {
  step = each_quiet c.clear.ensures c.in-Stats.is c.filled_reply.ensures c.stats.ensures.step;
  exact = rw (c.in-Stats.is) (c.stats.result, c.filled_reply.ensures, c.stats.ensures.exact);
  quiet = left_alone;
}

pub returns-in-Ask : goal.returns-in-Ask
returns-in-Ask g c = record {
  step = each_quiet c.clear.ensures c.in-Ask.is c.asked_reply.ensures (c.ask.ensures.step _);
  exact = rw (c.in-Ask.is) (c.ask.result, c.asked_reply.ensures, c.ask.ensures.exact, refl);
  quiet = left_alone;
}
