use Rattle.vb_guest.proofs.calls.query.Goals as goal

pub returns-in-Places : goal.returns-in-Places
returns-in-Places g c =
    record { answer = λ keeps guest stands. rw c.in-Places.is (c.places.ensures.answer _ _ keeps guest stands) }

pub returns-in-PagesBallooned : goal.returns-in-PagesBallooned
returns-in-PagesBallooned g c = record {
  answer = λ keeps guest stands. rw (c.in-PagesBallooned.is, c.runs_reply-in-PagesBallooned.ensures)
      (c.pages_ballooned.ensures _ keeps guest stands);
}

pub returns-in-PagesAt : goal.returns-in-PagesAt
returns-in-PagesAt g c = record {
  answer = λ keeps guest stands. rw (c.in-PagesAt.is, c.runs_reply.ensures)
      (c.pages_at.ensures.answer _ _ keeps guest stands);
}

pub returns-in-Balloon : goal.returns-in-Balloon
returns-in-Balloon g c = record {
  answer = λ keeps guest stands. rw (c.in-Balloon.is, c.balloon_reply.ensures)
      (c.balloon.ensures.answer keeps guest stands);
}

pub returns-in-Memory : goal.returns-in-Memory
returns-in-Memory g c = record {
  answer = λ keeps guest stands. rw (c.in-Memory.is, c.statistics_reply.ensures)
      (c.statistics.ensures.answer _ keeps guest stands);
}
