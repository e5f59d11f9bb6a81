use Rattle.std.proofs.Common.{sym, refl}
use Rattle.vb_guest.{proofs.RogueMemory.write_unheld_rogue, proofs.WriteStep.write_not_held}
use Rattle.vb_guest.proofs.{Standing.{alone_stands, steps_quiet}, Kept.as_it_was}
use Rattle.vb_guest.proofs.memory.write.Goals as goal

pub returns-then-not-held : goal.returns-then-not-held
returns-then-not-held g c = record {
  step = λ keeps guest stands. rw c.clear.ensures (steps_quiet stands
      (alone_stands stands (as_it_was refl) (write_not_held (sym c.if-not-held.ensures))
      (write_unheld_rogue (sym c.if-not-held.ensures))));
  refused = λ _. (refl, record { mem = refl; part = refl; supply = refl; none = c.clear.ensures });
  exact = λ used. (let unused = sym c.if-not-held.ensures in cc);
  quiet = λ none. refl;
  unasked = λ e. refl;
}

pub put_bytes-requires-clause-stands : goal.put_bytes-requires-clause-stands
put_bytes-requires-clause-stands g c = (_, c.requires)

pub returns : goal.returns
returns g c = record {
  step = c.put_bytes.ensures.writes _ (sym c.if-not-held.ensures);
  refused = λ unused. (let used = sym c.if-not-held.ensures in cc);
  exact = λ _. c.put_bytes.ensures.exact;
  quiet = c.put_bytes.ensures.quiet;
  unasked = c.put_bytes.ensures.unasked;
}
