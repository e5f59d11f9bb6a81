use Rattle.std.proofs.Common.{sym, refl, ap, inl, inr, Ok}
use Rattle.vb_guest.proofs.ReadStep.{read_not_held, read_outside, read_done, read_no_memory}
use Rattle.vb_guest.proofs.{RogueMemory.read_rogue, Standing.alone_stands, Kept.as_it_was}
use Rattle.vb_guest.proofs.memory.read.Goals as goal

pub returns-then-not-held : goal.returns-then-not-held
returns-then-not-held g c = record {
  exact = record {
    unheld = λ _. refl;
    outside = λ used. (let unused = sym c.if-not-held.ensures in cc);
    bytes = λ used. (let unused = sym c.if-not-held.ensures in cc);
  };
  step = λ keeps guest stands. alone_stands stands (as_it_was refl) (read_not_held
      (sym c.if-not-held.ensures)) (read_rogue (λ e. cc) refl);
}

pub returns-then-not-covers : goal.returns-then-not-covers
returns-then-not-covers g c = record {
  exact = record {
    unheld = λ unused. (let used = sym c.if-not-held.ensures in cc);
    outside = λ _ _. refl;
    bytes = λ _ inside. absurd (c.if-not-covers.ensures.outside refl inside);
  };
  step = λ keeps guest stands. alone_stands stands (as_it_was refl)
      (λ honest. read_outside (sym c.if-not-held.ensures) honest
      (c.if-not-covers.ensures.outside refl)) (read_rogue (λ e. cc) refl);
}

pub read_bytes-requires : goal.read_bytes-requires
read_bytes-requires g c = c.if-not-covers.ensures.inside refl

pub returns-in-Ok : goal.returns-in-Ok
returns-in-Ok g c = record {
  exact = record {
    unheld = λ unused. (let used = sym c.if-not-held.ensures in cc);
    outside = λ _ past. absurd (past (c.if-not-covers.ensures.inside refl));
    bytes = λ _ _. inl (ap Ok c.in-Ok.ensures);
  };
  step = λ keeps guest stands. alone_stands stands (as_it_was refl) (λ honest. read_done
      (sym c.if-not-held.ensures) honest (c.if-not-covers.ensures.inside refl) c.in-Ok.ensures)
      (read_rogue (λ e. cc) refl);
}

pub returns-in-Err : goal.returns-in-Err
returns-in-Err g c = record {
  exact = record {
    unheld = λ unused. (let used = sym c.if-not-held.ensures in cc);
    outside = λ _ past. absurd (past (c.if-not-covers.ensures.inside refl));
    bytes = λ _ _. inr refl;
  };
  step = λ keeps guest stands. alone_stands stands (as_it_was refl)
      (λ honest. read_no_memory (sym c.if-not-held.ensures) honest
      (c.if-not-covers.ensures.inside refl)) (read_rogue (λ e. cc) refl);
}
